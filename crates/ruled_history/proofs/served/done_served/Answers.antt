use Rattle.std.proofs.Common.{◌≡◌, Some, refl}
use Rattle.histories.specs.declared.entry.Entry.{Entry}
use Rattle.histories.specs.Entries.{no_connection}
use Rattle.registry_core.specs.Books.{BookView}
use Rattle.registry_core.specs.Ledgers.{entry}
use Rattle.unit_registry.specs.declared.act.Act.TheVariants.{Done}
use Rattle.ruled_history.specs.Seats.{StandsAfter}
use Rattle.ruled_history.proofs.Serving.{in_slot, lent, book_stands, entering}
use Rattle.ruled_history.proofs.Telling.{stands_entered}
use Rattle.ruled_history.proofs.served.done_served.Goals as goal

pub slot_mut-requires : goal.slot_mut-requires
slot_mut-requires g c = (c.requires.seat, in_slot g.S.Shelf.kept g.S.Shelf.held _ c.args.place.now.me c.requires.served)

pub record-requires-clause-entering : goal.record-requires-clause-entering
record-requires-clause-entering g c =
    let Book : Type 0 = BookView g.row.S.Denot in
    let opening : Book = c.args.board.now.table.shared.key.opening.value in
    let me = c.args.place.now.me in
    let turn = c.requires.served in
    let book : Book = c.in-Some.book in
    let inside : c.slot_mut.result.now ≡ Some turn.book = lent me.1 c.slot_mut.result.now (Some turn.book) turn.hand c.slot_mut.ensures.value in
    let same : book ≡ turn.book = cc (inside, c.in-Some.is) in
    let stands : StandsAfter g.S.Shelf.kept g.S.Shelf.held opening book me.0.seen = book_stands g.S.Shelf.kept g.S.Shelf.held opening me turn book same in
    let newest : Entry = entry no_connection Done in
    entering g.S.Shelf.kept g.S.Shelf.held opening me turn c.args.board.now.table.shared.key.metered _ book c.done.new.self newest same refl c.done.ensures.done
    (stands_entered g.S.Shelf.kept g.S.Shelf.held opening book c.done.new.self me.0.seen newest stands c.done.ensures.done c.done.ensures.shelf (refl))
    (refl, c.requires.worker)
