use Rattle.std.proofs.Common.{◌≡◌, ◌≤◌, ◌+◌, length}
use Rattle.unit_registry.specs.Lines.{lines_of}
use Rattle.trace_text.specs.Reading.{begun, read_behind}
use Rattle.trace_text.proofs.reader.read_body.Given as goal

abbrev pub invariant-loop-rest : goal.invariant-loop-rest
invariant-loop-rest l =
    (read_behind (begun l.fn.head) 2 (lines_of l.octets) ≡ read_behind l.trace l.number (lines_of l.rest))
    × (l.number + length l.rest ≤ length l.octets + 2)
    × (l.number ≡ length l.trace.entries + 2)

abbrev pub decreases-loop-rest : goal.decreases-loop-rest
decreases-loop-rest l = length l.rest
