use Rattle.std.proofs.Common.{◌≡◌, take}
use Rattle.std.specs.Prelude.{flat_map, zip}
use Rattle.export_lists.specs.Reports.{outcome_lines}
use Rattle.export_lists.proofs.listing.Listing.write.Given as goal

abbrev pub invariant-loop-number : goal.invariant-loop-number
invariant-loop-number l = l.text ≡ flat_map (λ unit. outcome_lines unit.0.ident unit.1) (take l.number (zip l.project.units l.self))
