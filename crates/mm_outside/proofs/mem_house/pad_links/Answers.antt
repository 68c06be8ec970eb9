use Rattle.std.proofs.Common.{arith, ap, sym, subst, All}
use Rattle.std.proofs.lemmas.Grind.{common_steps}
use Rattle.std.proofs.lemmas.List.Elements.{All-take, All-push}
use Rattle.mm_outside.specs.Octets.{IsFresh}
use Rattle.mm_outside.specs.MemLink.{octets_of}
use Rattle.mm_outside.proofs.PadLemmas.{fills-nothing, fills-more, pads}
use Rattle.mm_outside.proofs.mem_house.pad_links.Goals as goal

pub loop-added-init : goal.loop-added-init
loop-added-init c = record {
  fills = fills-nothing _ _;
  len = omega arith;
  fresh = subst (All (λ link. IsFresh (octets_of link))) (sym c.truncate.ensures.items) (All-take (λ link. IsFresh (octets_of link)) _ _ c.requires);
}

pub loop-added-preserved : goal.loop-added-preserved
loop-added-preserved c = record {
  fills = fills-more _ _ _ _ _ c.in_ok-push.ensures.items (grind (arith, common_steps)) (record {
    octets = c.in_ok-new.ensures.octets;
    plan = c.in_ok-new.ensures.plan;
    faults = c.in_ok-new.ensures.faults;
  }) c.loop-added.invariant.fills;
  len = grind (arith, common_steps);
  fresh = subst (All (λ link. IsFresh (octets_of link))) (sym c.in_ok-push.ensures.items) (All-push (λ link. IsFresh (octets_of link)) _ _ c.loop-added.invariant.fresh (record { read = ap (λ o. o.read) c.in_ok-new.ensures.octets; written = ap (λ o. o.written) c.in_ok-new.ensures.octets }));
}

pub returns-clause-padded : goal.returns-clause-padded
returns-clause-padded c = pads _ _ _ _ _ c.truncate.ensures.items (grind (arith, common_steps)) c.loop-added.invariant.fills
