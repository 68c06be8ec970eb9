use Rattle.std.proofs.Common.{rules, ◌≡◌, List, length, sym, ap, subst, ◌∙◌}
use Rattle.histories.specs.declared.entry.Entry.{Entry}
use Rattle.registry_core.specs.Books.{BookView}
use Rattle.registry_core.specs.Ledgers.{LedgerView, open_in, done_in}
use Rattle.ruled_history.specs.declared.board.Stage.TheVariants.{Idle}
use Rattle.ruled_history.specs.declared.board.View.{View}
use Rattle.ruled_history.specs.Runs.{AreAllPlaces}
use Rattle.ruled_history.specs.Seats.{Shared, StandsAfter}
use Rattle.ruled_history.specs.Views.{Knows}
use Rattle.ruled_history.proofs.Turns.{ended}
use Rattle.ruled_history.proofs.registry.Registry.close.Goals as goal

pub unreachable-requires : goal.unreachable-requires
unreachable-requires g c =
    let key = c.self.inside.board.table.shared.key.opening.value in
    let v = c.into_seat.result.me.0 in
    let idle : v.stage ≡ Idle = search rules in
    let all : v.share ≡ key.ledger.workers = search rules in
    let did = ended (StandsAfter g.S.Shelf.kept g.S.Shelf.held key) _ key.ledger _ v _ _ _ c.close_with-closed.ensures.values.2 idle all c.self.inside.board.some_worker c.take-slot.ensures.value in
    c.in_default.not-Some did.book did.is

pub returns : goal.returns
returns g c =
    let key = c.self.inside.board.table.shared.key.opening.value in
    let v : View = c.into_seat.result.me.0 in
    let idle : v.stage ≡ Idle = search rules in
    let all : v.share ≡ key.ledger.workers = search rules in
    let did = ended (StandsAfter g.S.Shelf.kept g.S.Shelf.held key) _ key.ledger _ v _ _ _ c.close_with-closed.ensures.values.2 idle all c.self.inside.board.some_worker c.take-slot.ensures.value in
    let same : did.book ≡ c.in-Some.book = cc (did.is, c.in-Some.is) in
    let known : v ≡ c.args.seat.knows = search rules in
    let entries : did.entries ≡ c.in-Some.book.ledger.entries = sym (ap (λ l. l.entries) did.stands.is_ledger) ∙ ap (λ (b : BookView g.row.S.Denot). b.ledger.entries) same in
    let start : key ≡ c.args.self.opening = ap (λ (r : Shared g.row.S.Denot). r.opening) c.self.view_is in
    record {
      seen = sym entries ∙ did.seen ∙ ap (λ (x : View). x.seen) known;
      places = subst (λ (x : List Entry × View). AreAllPlaces x.1.places (length x.0)) (λ i. (entries i, known i)) did.places;
      opened = ap (λ (b : BookView g.row.S.Denot). open_in b.ledger) (sym same) ∙ ap (λ (l : LedgerView). open_in l) did.stands.is_ledger ∙ did.opened ∙ ap (λ (x : View). x.opened) known;
      dones = ap (λ (b : BookView g.row.S.Denot). done_in b.ledger) (sym same) ∙ ap (λ (l : LedgerView). done_in l) did.stands.is_ledger ∙ did.dones ∙ ap (λ (x : View). x.dones) known;
      knows = subst (λ (x : BookView g.row.S.Denot × View). Knows x.0.ledger x.1) (λ i. (start i, known i)) did.knows;
      book = subst (λ (x : BookView g.row.S.Denot × BookView g.row.S.Denot × List Entry). StandsAfter g.S.Shelf.kept g.S.Shelf.held x.0 x.1 x.2) (λ i. (start i, same i, entries i)) did.stands;
    }
