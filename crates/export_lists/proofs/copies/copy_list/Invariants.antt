use Rattle.std.proofs.Common.{◌≡◌, take}
use Rattle.export_lists.proofs.copies.copy_list.Given as goal

abbrev pub invariant-loop-k : goal.invariant-loop-k
invariant-loop-k l = l.copy ≡ take l.k l.entries
