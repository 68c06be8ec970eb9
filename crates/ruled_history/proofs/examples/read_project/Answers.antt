use Rattle.ruled_history.proofs.FourUnits.{declares_four}
use Rattle.ruled_history.proofs.examples.read_project.Goals as goal

pub returns-in-Ok : goal.returns-in-Ok
returns-in-Ok c = declares_four c.in-Ok.project c.in-Ok.ensures.declared
