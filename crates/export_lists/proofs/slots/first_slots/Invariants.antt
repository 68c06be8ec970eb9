use Rattle.std.proofs.Common.{◌≡◌}
use Rattle.export_lists.specs.Listings.{built_before}
use Rattle.export_lists.specs.Slots.{AreFirstSlots}
use Rattle.export_lists.proofs.slots.first_slots.Given as goal

abbrev pub invariant-loop-number : goal.invariant-loop-number
invariant-loop-number l = record { slots : AreFirstSlots l.project l.sources l.built l.number l.slots.items; place : l.place ≡ built_before l.project l.number }
