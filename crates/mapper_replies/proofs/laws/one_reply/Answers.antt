use Rattle.mapper_replies.proofs.Tables as lemma
use Rattle.mapper_replies.proofs.laws.one_reply.Goals as goal

pub returns : goal.returns
returns c = λ words one other first second. lemma.one_reply words one other first second
