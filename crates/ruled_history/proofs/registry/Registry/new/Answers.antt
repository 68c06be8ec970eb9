use Rattle.std.proofs.Common.{rules, refl, arith, ◌+◌, ◌≤◌, Bool, true, false, ◌≡◌, ◌∷◌, [], ◌++◌, List, ap, sym, subst, ◌∙◌, Some, IsFalse}
use Rattle.std.specs.Prelude.{Option}
use Rattle.atomic_table.specs.Table.{opening as table_at_start}
use Rattle.histories.specs.declared.entry.Entry.{Entry}
use Rattle.registry_core.specs.Books.{BookView}
use Rattle.registry_core.specs.Ledgers.{IsLedger}
use Rattle.ruled_history.specs.Rule.{Ruled}
use Rattle.ruled_history.specs.Seats.{StandsAfter, first_room}
use Rattle.ruled_history.specs.Views.{with_entries, first_view}
use Rattle.ruled_history.proofs.Closing.{starts}
use Rattle.ruled_history.proofs.Telling.{stands_first}
use Rattle.ruled_history.proofs.registry.Registry.new.Goals as goal

room_fits : {S : Type 0} (book : BookView S) (metered : Bool) → book.ledger.workers ≤ book.ledger.limit → book.ledger.workers + first_room metered book ≤ book.ledger.limit
room_fits book true enough = omega arith
room_fits book false enough = omega arith

room_none : {S : Type 0} (book : BookView S) (metered : Bool) → IsFalse metered → first_room metered book ≡ 0
room_none book true other = absurd (cc (other))
room_none book false other = refl

pub new-requires : goal.new-requires
new-requires g c =
    let Value : Type 0 = BookView g.row.S.Denot in
    let book : Value = c.args.book in
    let key : Value = c.of.result.value in
    let is : key ≡ book = c.of.ensures in
    let none_yet : c.in-Ok.slots.items ≡ [] = search rules in
    let items : c.push_reserved.new.self.items ≡ Some book ∷ [] = c.push_reserved.ensures.items ∙ ap (λ (xs : List (Option Value)). xs ++ Some book ∷ []) none_yet in
    let legal : IsLedger book.ledger = c.is_legal.ensures.legal in
    let empty : book.ledger.entries ≡ [] = c.requires.empty in
    let first : IsLedger (with_entries book.ledger []) = subst (λ (es : List Entry). IsLedger (with_entries book.ledger es)) empty legal in
    subst (λ (b : Value). Ruled (StandsAfter g.S.Shelf.kept g.S.Shelf.held b) c.args.metered b.ledger (table_at_start (0 ∷ 0 ∷ 0 ∷ []) c.push_reserved.new.self.items (first_view b.ledger.workers (first_room c.args.metered b)))) (sym is)
    (subst (λ (xs : List (Option Value)). Ruled (StandsAfter g.S.Shelf.kept g.S.Shelf.held book) c.args.metered book.ledger (table_at_start (0 ∷ 0 ∷ 0 ∷ []) xs (first_view book.ledger.workers (first_room c.args.metered book)))) (sym items)
    (starts (StandsAfter g.S.Shelf.kept g.S.Shelf.held book) c.args.metered book.ledger book (first_room c.args.metered book) legal.some first (room_fits book c.args.metered legal.few) (room_none book c.args.metered) (stands_first g.S.Shelf.kept g.S.Shelf.held book empty)))
