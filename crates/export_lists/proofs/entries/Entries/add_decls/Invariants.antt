use Rattle.std.proofs.Common.{◌≡◌, take}
use Rattle.export_lists.specs.Entries.{with_entries}
use Rattle.export_lists.specs.Lists.{own_entries}
use Rattle.export_lists.proofs.entries.Entries.add_decls.Given as goal

abbrev pub invariant-loop-decl : goal.invariant-loop-decl
invariant-loop-decl l = l.entries ≡ with_entries l.fn.self (own_entries l.own l.owner (take l.decl-index l.decls))
