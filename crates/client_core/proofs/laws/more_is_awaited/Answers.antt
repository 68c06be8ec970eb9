use Rattle.client_core.proofs.Both.{more_is_awaited}
use Rattle.client_core.proofs.laws.more_is_awaited.Goals as goal

pub returns : goal.returns
returns c = more_is_awaited
