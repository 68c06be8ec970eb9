use Rattle.ruled_history.proofs.Serving.{in_slot}
use Rattle.ruled_history.proofs.served.fetch_served.Goals as goal

pub slot_mut-requires : goal.slot_mut-requires
slot_mut-requires g c = (c.requires.seat, in_slot g.S.Shelf.kept g.S.Shelf.held _ c.args.place.now.me c.requires.served)
