use Rattle.std.proofs.Common.{take, drop, length, ◌++◌, refl, sym}
use Rattle.export_lists.proofs.Listings.{list_end}
use Rattle.export_lists.proofs.listing.list_project.Goals as goal

pub returns : goal.returns
returns c =
    list_end c.args.project.now c.args.sources.now c.args.built.now c.in_ok-slots.slots.items c.deref_mut.result.now c.settle_all.new.slots
    (take c.in_ok-slots.slots.len (c.settle_all.new.slots ++ drop (length c.settle_all.new.slots) c.in_ok-slots.slots.items)) c.in_ok-outcomes.outcomes c.in_ok-slots.slots.len
    (sym c.in_ok-slots.slots.ok.0) c.deref_mut.ensures.value c.in_ok-slots.ensures c.in_ok-settle_all.ensures.leads c.in_ok-settle_all.ensures.over refl c.in_ok-outcomes.ensures
