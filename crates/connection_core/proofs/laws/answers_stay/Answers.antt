use Rattle.connection_core.proofs.Answering.{answers-stay}
use Rattle.connection_core.proofs.laws.answers_stay.Goals as goal

pub returns : goal.returns
returns c = λ project before after stay blocks places text e. answers-stay before after stay project blocks places text e
