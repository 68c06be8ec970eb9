use Rattle.client_core.proofs.Both.{all_are_told}
use Rattle.client_core.proofs.laws.all_are_told.Goals as goal

pub returns : goal.returns
returns c = all_are_told
