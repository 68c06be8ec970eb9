use Rattle.mapper_requests.proofs.Back as lemma
use Rattle.mapper_requests.proofs.laws.words_read_back.Goals as goal

pub returns : goal.returns
returns c = λ asked good small. lemma.words_back asked good small
