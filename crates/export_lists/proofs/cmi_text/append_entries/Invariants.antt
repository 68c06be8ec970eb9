use Rattle.std.proofs.Common.{◌≡◌, ◌++◌, take}
use Rattle.export_lists.specs.Words.{entry_lines}
use Rattle.export_lists.proofs.cmi_text.append_entries.Given as goal

abbrev pub invariant-loop-entry : goal.invariant-loop-entry
invariant-loop-entry l = l.text ≡ l.fn.text ++ entry_lines l.first (take l.entry-index l.entries)
