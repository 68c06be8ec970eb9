use Rattle.std.proofs.Common.{◌≡◌}
use Rattle.export_lists.specs.Listings.{built_before}
use Rattle.export_lists.proofs.slots.built_count.Given as goal

abbrev pub invariant-loop-number : goal.invariant-loop-number
invariant-loop-number l = l.count ≡ built_before l.project l.number
