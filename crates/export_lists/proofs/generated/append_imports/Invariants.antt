use Rattle.std.proofs.Common.{◌≡◌, ◌++◌, take}
use Rattle.std.specs.Prelude.{flat_map}
use Rattle.export_lists.specs.Generated.{import_line}
use Rattle.export_lists.proofs.generated.append_imports.Given as goal

abbrev pub invariant-loop-link : goal.invariant-loop-link
invariant-loop-link l = l.text ≡ l.fn.text ++ flat_map import_line (take l.link-index l.links)
