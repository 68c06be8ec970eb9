use Rattle.unit_registry.proofs.Outcomes.{answer_declares, answer_tells}
use Rattle.unit_registry.proofs.project.Project.read.Goals as goal

pub returns-clause-declared : goal.returns-clause-declared
returns-clause-declared c = answer_declares c.args.octets.now c.read_project.result c.read_project.ensures

pub returns-clause-fault : goal.returns-clause-fault
returns-clause-fault c = answer_tells c.args.octets.now c.read_project.result c.read_project.ensures
