-- What the join of two views tells of each.
use Rattle.std.proofs.Common.{◌≡◌, ℕ, ◌<◌, Bool, true, false, nat_lt, length, Some, refl, ap, sym, ◌∙◌, ⊎_elim, arith, List, IsTrue}
use Rattle.std.specs.Prelude.{slice_get}
use mathlib.Core.Logic.{dite}
use native.Mathlib.Decide.{dec_lt}
use Rattle.unit_registry.specs.Acts.{is_done}
use Rattle.histories.specs.declared.entry.Entry.{Entry}
use Rattle.histories.specs.Entries.{no_connection}
use Rattle.registry_core.specs.Ledgers.{LedgerView}
use Rattle.ruled_history.specs.declared.board.View.{View}
use Rattle.ruled_history.specs.Runs.{Has}
use Rattle.ruled_history.specs.Views.{Knows, Keeps, joined}
use Rattle.ruled_history.proofs.Counts.{times-append, has_left, has_either, has_right, got_left, longer_both}
use Rattle.ruled_history.proofs.Histories.{all_got}

-- an entry of a connection is no Done
no_done : (opening : LedgerView) (view : View) → Knows opening view → (place : ℕ) (e : Entry) → slice_get view.seen place ≡ Some e → Has e.conn view.connections → is_done e.act ≡ false
no_done opening view knows place e at has = by (is_done e.act) refl
  where
    by : (b : Bool) → is_done e.act ≡ b → is_done e.act ≡ false
    by false is = is
    by true is =
        let few = knows.numbered e.conn has in
        let nobody = all_got (λ (x : Entry). IsTrue (is_done x.act) → x.conn ≡ no_connection) view.seen place e knows.of_nobody at is in
        absurd (omega arith)

module _ (opening : LedgerView) (v w : View) (kv : Knows opening v) (kw : Knows opening w) (both : Knows opening (joined v w)) where
  within_seen : (u : View) → Knows opening u → (place : ℕ) → Has place u.places → place < length u.seen
  within_seen u ku place has = dite (dec_lt place (length u.seen)) (λ lt. lt) (λ late. absurd (let none_late = ku.early place (omega arith) in omega arith))

  pub keeps_left : Keeps v (joined v w)
  keeps_left =
      let begins = longer_both v.seen w.seen (nat_lt (length v.seen) (length w.seen)) both.heard in record {
        seen = begins.0;
        within = within_seen v kv;
        own = λ place e at has. ⊎_elim (λ here. here)
            (λ there.
            let early : place < length w.seen = dite (dec_lt place (length w.seen)) (λ lt. lt) (λ late. absurd (let none_late = kw.early place (omega arith) in omega arith)) in
            let at_w = got_left w.seen begins.1.0 place e early (sym (ap (λ (l : List Entry). slice_get l place) begins.1.1) ∙ at) in
            let twice = kw.own_connections place e at_w there (no_done opening (joined v w) both place e at (has_left e.conn v.connections w.connections has)) in
            let once = both.connections_once e.conn in
            absurd (omega (arith, times-append e.conn v.connections w.connections)))
            (has_either place v.places w.places (both.own_places place e at (has_left e.conn v.connections w.connections has)));
      }

  pub keeps_right : Keeps w (joined v w)
  keeps_right =
      let begins = longer_both v.seen w.seen (nat_lt (length v.seen) (length w.seen)) both.heard in record {
        seen = begins.1;
        within = within_seen w kw;
        own = λ place e at has. ⊎_elim
            (λ there.
            let early : place < length v.seen = dite (dec_lt place (length v.seen)) (λ lt. lt) (λ late. absurd (let none_late = kv.early place (omega arith) in omega arith)) in
            let at_v = got_left v.seen begins.0.0 place e early (sym (ap (λ (l : List Entry). slice_get l place) begins.0.1) ∙ at) in
            let twice = kv.own_connections place e at_v there (no_done opening (joined v w) both place e at (has_right e.conn v.connections w.connections has)) in
            let once = both.connections_once e.conn in
            absurd (omega (arith, times-append e.conn v.connections w.connections)))
            (λ here. here)
            (has_either place v.places w.places (both.own_places place e at (has_right e.conn v.connections w.connections has)));
      }
