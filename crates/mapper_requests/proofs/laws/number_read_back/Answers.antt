use Rattle.mapper_requests.proofs.Digits as lemma
use Rattle.mapper_requests.proofs.laws.number_read_back.Goals as goal

pub returns : goal.returns
returns c = λ number small. lemma.number_back number small
