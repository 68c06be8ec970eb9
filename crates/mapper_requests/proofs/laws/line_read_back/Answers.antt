use Rattle.mapper_requests.proofs.Back as lemma
use Rattle.mapper_requests.proofs.laws.line_read_back.Goals as goal

pub returns-clause-says : goal.returns-clause-says
returns-clause-says c = λ asked more good short. lemma.line_says asked more good short

pub returns-clause-reads : goal.returns-clause-reads
returns-clause-reads c = λ asked more marked words good small says. lemma.line_back asked more marked words good small says
