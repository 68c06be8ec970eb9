use Rattle.std.proofs.Common.{◌≡◌, ◌≤◌, ◌+◌, length}
use Rattle.unit_registry.specs.Lines.{lines_of}
use Rattle.unit_registry.specs.Readings.{reading, read_behind}
use Rattle.unit_registry.proofs.reader.read_project.Given as goal

abbrev pub invariant-loop-rest : goal.invariant-loop-rest
invariant-loop-rest l = (reading l.octets ≡ read_behind l.draft l.number (lines_of l.rest)) × (l.number + length l.rest ≤ length l.octets + 1)

abbrev pub decreases-loop-rest : goal.decreases-loop-rest
decreases-loop-rest l = length l.rest
