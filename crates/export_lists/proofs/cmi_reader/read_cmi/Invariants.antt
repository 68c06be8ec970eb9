use Rattle.std.proofs.Common.{◌≤◌, ◌+◌, length}
use Rattle.export_lists.proofs.Readings.{HasRead}
use Rattle.export_lists.proofs.cmi_reader.read_cmi.Given as goal

abbrev pub invariant-loop-line : goal.invariant-loop-line
invariant-loop-line l = HasRead l.octets l.draft l.number l.rest × (l.number + length l.rest ≤ length l.octets + 1)

abbrev pub decreases-loop-line : goal.decreases-loop-line
decreases-loop-line l = length l.rest
