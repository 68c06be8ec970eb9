use Rattle.std.proofs.Common.{ℕ, List, ◌++◌, take}
use Rattle.export_lists.specs.Compiling.{types_in}
use Rattle.export_lists.specs.Types.{Knows}
use Rattle.export_lists.proofs.types.Types.add_listed.Given as goal

abbrev pub invariant-loop-entry : goal.invariant-loop-entry
invariant-loop-entry l = (known : List (List ℕ)) → Knows l.fn.self known → Knows l.self (known ++ types_in (take l.entry-index l.entries))
