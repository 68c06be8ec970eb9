-- What threads may share.
use denote.Param.Send.{IsSync, sendable}
use Rattle.std.proofs.Crossing.{crosses}
use Rattle.unit_registry.specs.contracts.project.Project as project

-- a project
pub project_sync : IsSync project.the_row
project_sync = search (sendable, crosses) depth 60 fits 5000
