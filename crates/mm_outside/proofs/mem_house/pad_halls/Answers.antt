use Rattle.std.proofs.Common.{arith, ap, sym, subst, All}
use Rattle.std.proofs.lemmas.Grind.{common_steps}
use Rattle.std.proofs.lemmas.List.Elements.{All-take, All-push}
use Rattle.mm_outside.specs.MemHall.{IsUnused}
use Rattle.mm_outside.proofs.PadLemmas.{fills-nothing, fills-more, pads}
use Rattle.mm_outside.proofs.mem_house.pad_halls.Goals as goal

pub loop-added-init : goal.loop-added-init
loop-added-init c = record {
  fills = fills-nothing _ _;
  len = omega arith;
  unused = subst (All IsUnused) (sym c.truncate.ensures.items) (All-take IsUnused _ _ c.requires);
}

pub loop-added-preserved : goal.loop-added-preserved
loop-added-preserved c = record {
  fills = fills-more _ _ _ _ _ c.in_ok-push.ensures.items (grind (arith, common_steps)) (record {
    links = rw c.new.ensures.items at c.in_ok-new.ensures.links;
    counts = c.in_ok-new.ensures.counts;
    plan = c.in_ok-new.ensures.plan;
    faults = c.in_ok-new.ensures.faults;
  }) c.loop-added.invariant.fills;
  len = grind (arith, common_steps);
  unused = subst (All IsUnused) (sym c.in_ok-push.ensures.items) (All-push IsUnused _ _ c.loop-added.invariant.unused (ap (λ n. n.back) c.in_ok-new.ensures.counts));
}

pub returns-clause-padded : goal.returns-clause-padded
returns-clause-padded c = pads _ _ _ _ _ c.truncate.ensures.items (grind (arith, common_steps)) c.loop-added.invariant.fills
