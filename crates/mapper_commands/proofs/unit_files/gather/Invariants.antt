use Rattle.std.proofs.Common.{◌≡◌}
use Rattle.mm_outside.specs.Told.{Told}
use Rattle.mapper_commands.specs.FileReadings.{Stay}
use Rattle.mapper_commands.specs.ListRuns.{Fit, HoldUnits}
use Rattle.mapper_commands.proofs.unit_files.gather.Given as goal

abbrev pub invariant-loop-unit : goal.invariant-loop-unit
invariant-loop-unit g l = record {
  fit : Fit l.project l.unit l.gathered.sources l.gathered.built;
  told : Told (Stay (λ content. HoldUnits l.project content l.unit l.gathered.sources l.gathered.built)) (g.F.Files.content l.initial.files) (g.F.Files.content l.files);
  read_faults : g.F.Files.read_faults l.files ≡ g.F.Files.read_faults l.initial.files;
  write_faults : g.F.Files.write_faults l.files ≡ g.F.Files.write_faults l.initial.files;
}
