use Rattle.std.proofs.Common.{◌≡◌, take}
use Rattle.mm_outside.specs.Told.{Told}
use Rattle.mapper_server.specs.Printing.{capacity_of}
use Rattle.mapper_commands.specs.Generating.{HoldTexts, source_files}
use Rattle.mapper_commands.proofs.generator.write_sources.Given as goal

abbrev pub invariant-loop-number : goal.invariant-loop-number
invariant-loop-number g l = record {
  written : Told (HoldTexts (source_files l.folder 0 (take l.number l.sources))) (g.F.Files.content l.initial.files) (g.F.Files.content l.files);
  write_faults : g.F.Files.write_faults l.files ≡ g.F.Files.write_faults l.initial.files;
  read_faults : g.F.Files.read_faults l.files ≡ g.F.Files.read_faults l.initial.files;
  room : capacity_of l.name ≡ capacity_of l.initial.name;
}
