use Rattle.std.proofs.Common.{◌≡◌, ◌++◌}
use Rattle.export_lists.specs.Generated.{module_lines}
use Rattle.export_lists.proofs.generated.append_units.Given as goal

abbrev pub invariant-loop-number : goal.invariant-loop-number
invariant-loop-number l = l.text ≡ l.fn.text ++ module_lines l.folder l.number
