use Rattle.connection_core.proofs.Answering.{answers-push}
use Rattle.connection_core.proofs.laws.answers_join.Goals as goal

pub returns : goal.returns
returns c = λ project answer_at blocks block places more e. answers-push project answer_at blocks block places more e
