use Rattle.std.proofs.Common.{◌≡◌, ◌++◌, take}
use Rattle.export_lists.specs.Generated.{further_parameters}
use Rattle.export_lists.proofs.generated.append_further.Given as goal

abbrev pub invariant-loop-link : goal.invariant-loop-link
invariant-loop-link l = l.text ≡ l.fn.text ++ further_parameters (take l.link-index l.links)
