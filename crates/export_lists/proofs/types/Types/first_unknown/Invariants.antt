use Rattle.std.proofs.Common.{◌≡◌, drop, slice_get}
use Rattle.export_lists.specs.Compiling.{unknown_in}
use Rattle.export_lists.proofs.types.Types.first_unknown.Given as goal

abbrev pub invariant-loop-used : goal.invariant-loop-used
invariant-loop-used l = slice_get (unknown_in l.self l.uses) 0 ≡ slice_get (unknown_in l.self (drop l.used-index l.uses)) 0
