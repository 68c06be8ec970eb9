use Rattle.std.proofs.Common.{length}
use Rattle.header_units.proofs.Paths.{IsWrittenTo}
use Rattle.header_units.proofs.cmi_name.write_path.Given as goal

abbrev pub invariant-loop-part : goal.invariant-loop-part
invariant-loop-part l = IsWrittenTo l.path l.rest l.fn.out l.out

abbrev pub decreases-loop-part : goal.decreases-loop-part
decreases-loop-part l = length l.rest
