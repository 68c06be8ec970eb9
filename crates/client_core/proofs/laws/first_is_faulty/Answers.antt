use Rattle.client_core.proofs.Both.{first_is_faulty}
use Rattle.client_core.proofs.laws.first_is_faulty.Goals as goal

pub returns : goal.returns
returns c = first_is_faulty
