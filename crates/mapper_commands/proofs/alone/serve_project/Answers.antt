use Rattle.std.proofs.Common.{refl}
use Rattle.mapper_commands.specs.Running.{served, refused}
use Rattle.mapper_commands.proofs.alone.serve_project.Goals as goal

pub returns-clause-pipes : goal.returns-clause-pipes
returns-clause-pipes g c = refused c.in-Err.ensures.kind c.in-Err.ensures.content c.in-Err.ensures.kept refl

pub returns-in-Ok-pipe-clause-pipes : goal.returns-in-Ok-pipe-clause-pipes
returns-in-Ok-pipe-clause-pipes g c = served c.in-Ok-pipe.how (record { project = c.in-Ok.project; reads = c.in-Ok.ensures.content; reads_kept = c.in-Ok.ensures.kept; serves = c.in-Ok-pipe.ensures.served; causes = c.in-Ok-pipe.ensures.causes }) refl
