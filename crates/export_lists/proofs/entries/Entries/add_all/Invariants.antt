use Rattle.std.proofs.Common.{◌≡◌, take}
use Rattle.export_lists.specs.Entries.{with_entries}
use Rattle.export_lists.proofs.entries.Entries.add_all.Given as goal

abbrev pub invariant-loop-entry : goal.invariant-loop-entry
invariant-loop-entry l = l.entries ≡ with_entries l.fn.self (take l.entry-index l.listed)
