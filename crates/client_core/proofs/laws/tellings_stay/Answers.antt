use Rattle.client_core.proofs.Tellings.{tellings_stay}
use Rattle.client_core.proofs.laws.tellings_stay.Goals as goal

pub returns : goal.returns
returns c = tellings_stay
