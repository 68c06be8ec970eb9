use Rattle.std.proofs.Common.{◌≡◌, ◌∷◌, Some, refl, sym, subst}
use Rattle.std.specs.Prelude.{Option}
use Rattle.atomic_table.specs.Table.{Me, rest}
use Rattle.histories.specs.declared.entry.Entry.{Entry}
use Rattle.ruled_history.specs.declared.board.View.{View}
use Rattle.histories.specs.Counts.{Effect}
use Rattle.registry_core.specs.Books.{BookView}
use Rattle.registry_core.specs.Ledgers.{entry, leaving}
use Rattle.registry_core.proofs.Keeping.{leaving_stores}
use Rattle.unit_registry.specs.declared.act.Act.{Act}
use Rattle.ruled_history.specs.Seats.{StandsAfter}
use Rattle.ruled_history.specs.Steps.{IsEntering}
use Rattle.ruled_history.specs.Views.{MayAddBy}
use Rattle.ruled_history.proofs.Serving.{in_slot, lent, book_stands, entering}
use Rattle.ruled_history.proofs.Telling.{stands_entered, leaving_goes}
use Rattle.ruled_history.proofs.served.leave_served.Goals as goal

pub slot_mut-requires : goal.slot_mut-requires
slot_mut-requires g c = (c.requires.seat, in_slot g.S.Shelf.kept g.S.Shelf.held _ c.args.place.now.me c.requires.served)

pub record-requires-clause-entering : goal.record-requires-clause-entering
record-requires-clause-entering g c =
    let Book : Type 0 = BookView g.row.S.Denot in
    let opening : Book = c.args.board.now.table.shared.key.opening.value in
    let me = c.args.place.now.me in
    let turn = c.requires.served in
    let book : Book = c.in-Some.book in
    let inside : c.slot_mut.result.now ≡ Some turn.book = lent me.1 c.slot_mut.result.now (Some turn.book) turn.hand c.slot_mut.ensures.value in
    let same : book ≡ turn.book = cc (inside, c.in-Some.is) in
    let stands : StandsAfter g.S.Shelf.kept g.S.Shelf.held opening book me.0.seen = book_stands g.S.Shelf.kept g.S.Shelf.held opening me turn book same in
    let newest : Entry = entry c.args.conn (leaving c.args.how) in
    let now : Me (Option Book) View = (me.0, (0, Some c.leave.new.self) ∷ rest me.1) in
    subst (λ (a : Act). IsEntering (StandsAfter g.S.Shelf.kept g.S.Shelf.held opening) c.args.board.now.table.shared.key.metered opening.ledger (entry c.args.conn a) now) (sym c.going_act.ensures)
    (entering g.S.Shelf.kept g.S.Shelf.held opening me turn c.args.board.now.table.shared.key.metered now book c.leave.new.self newest same refl c.leave.ensures.left
    (stands_entered g.S.Shelf.kept g.S.Shelf.held opening book c.leave.new.self me.0.seen newest stands c.leave.ensures.left c.leave.ensures.shelf (leaving_stores c.args.how))
    (subst (λ (x : Effect). MayAddBy c.args.board.now.table.shared.key.metered me.0 c.args.conn x) (sym (leaving_goes c.args.how)) c.requires.own))
