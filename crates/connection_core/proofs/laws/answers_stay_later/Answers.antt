use Rattle.connection_core.proofs.Staying.{answers_later}
use Rattle.connection_core.proofs.laws.answers_stay_later.Goals as goal

pub returns : goal.returns
returns c = answers_later
