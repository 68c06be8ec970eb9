use Rattle.std.proofs.Common.{◌+◌, arith, sym, subst, ◌∙◌, ap}
use Rattle.std.specs.Int.{from_bool}
use Rattle.export_lists.specs.Slots.{AreFirstSlots}
use Rattle.export_lists.proofs.Listings.{firsts_more, built_next}
use Rattle.export_lists.proofs.slots.first_slots.Goals as goal

pub loop-number-preserved : goal.loop-number-preserved
loop-number-preserved c = record {
  slots = subst (AreFirstSlots c.args.project.now c.args.sources.now c.args.built.now (c.loop-number.number + 1)) (sym c.in_ok-push.ensures.items)
      (firsts_more c.args.project.now c.args.sources.now c.args.built.now c.loop-number.number c.loop-number.slots.items c.in_ok-slot.slot c.loop-number.invariant.slots c.in_ok-slot.ensures);
  place = built_next c.args.project.now c.loop-number.number c.loop-number.place c.from-place.result (omega arith) c.loop-number.invariant.place (c.from-place.ensures ∙ ap from_bool c.is_built.ensures);
}
