use Rattle.std.proofs.Common.{subst, arith}
use Rattle.mm_outside.specs.Causes.{Rose}
use Rattle.mm_outside.specs.Told.{Told}
use Rattle.mapper_commands.specs.FileReadings.{Stay}
use Rattle.mapper_commands.specs.ListRuns.{RefusesUnit, ended_for}
use Rattle.mapper_commands.proofs.Gatherings.{stop_keeps, stops}
use Rattle.mapper_commands.proofs.Statuses.{keeps_since}
use Rattle.mapper_commands.proofs.unit_files.gather.Goals as goal

pub returns-in-Err-clause-files : goal.returns-in-Err-clause-files
returns-in-Err-clause-files g c =
    stops (Rose (g.F.Files.read_faults c.args.files.now) (g.F.Files.read_faults c.add_unit.new.files)) c.args.project.now c.loop-unit.unit c.loop-unit.gathered.sources c.loop-unit.gathered.built (ended_for c.args.project.now c.loop-unit.unit c.in-Err.fault) _ _ _ (omega arith) c.loop-unit.invariant.told
    (subst (λ before. Told (Stay (λ content. RefusesUnit (Rose before (g.F.Files.read_faults c.add_unit.new.files)) c.args.project.now c.loop-unit.unit content (ended_for c.args.project.now c.loop-unit.unit c.in-Err.fault))) (g.F.Files.content c.loop-unit.files) (g.F.Files.content c.add_unit.new.files)) c.loop-unit.invariant.read_faults c.in-Err.ensures.file)

pub returns-in-Err-clause-kept : goal.returns-in-Err-clause-kept
returns-in-Err-clause-kept g c = keeps_since (ended_for c.args.project.now c.loop-unit.unit c.in-Err.fault) _ _ _ c.loop-unit.invariant.read_faults (stop_keeps c.args.project.now c.loop-unit.unit c.in-Err.fault _ _ c.in-Err.ensures.kept)
