use Rattle.std.proofs.Common.{◌≡◌, take}
use Rattle.std.specs.Prelude.{flat_map}
use Rattle.export_lists.specs.Entries.{with_entries}
use Rattle.export_lists.specs.Lists.{imported, brings}
use Rattle.export_lists.specs.Lent.{lent}
use Rattle.export_lists.proofs.compile.with_brought.Given as goal

abbrev pub invariant-loop-k : goal.invariant-loop-k
invariant-loop-k l = l.entries ≡ with_entries l.fn.entries (flat_map (brings l.unit) (take l.k (imported l.unit (lent l.cmis))))
