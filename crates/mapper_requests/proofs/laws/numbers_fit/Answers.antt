use Rattle.mapper_requests.proofs.Table as lemma
use Rattle.mapper_requests.proofs.laws.numbers_fit.Goals as goal

pub returns : goal.returns
returns c = λ words. lemma.numbers_small words
