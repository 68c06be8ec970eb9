-- The connections of a seat that has all workers are those that were opened, each once.
use Rattle.std.proofs.Common.{◌≡◌, inl, inr, ℕ, ◌+◌, ◌≤◌, ◌<◌, Bool, true, false, cond, List, [], ◌∷◌, length, fold, is_none, refl, ap, subst, ◌∙◌, arith}
use Rattle.std.specs.Prelude.{IsFalse}
use Rattle.std.proofs.lemmas.Bool.{and_parts}
use Rattle.std.proofs.lemmas.Bool.Decides.{nat_tests}
use mathlib.Core.Logic.{dite}
use native.Mathlib.Decide.{ℕ_discrete, dec_lt}
use Rattle.unit_registry.specs.Acts.{is_done, is_open_act}
use Rattle.unit_registry.specs.declared.act.Act.{Act}
use Rattle.unit_registry.specs.Projects.{ProjectView}
use Rattle.histories.specs.declared.entry.Entry.{Entry}
use Rattle.histories.specs.Answered.{opened_count}
use Rattle.histories.specs.Noted.{Noted, answered_of}
use Rattle.histories.specs.Histories.{and_then, fault, is_legal_after}
use Rattle.histories.proofs.Acyclic.{answered_entry}
use Rattle.histories.proofs.Counting.{opened_count-more}
use Rattle.histories.proofs.Members.{In}
use Rattle.histories.proofs.Steps.{opens_next}
use Rattle.registry_core.specs.Ledgers.{LedgerView, IsLedger, opened_in}
use Rattle.ruled_history.specs.declared.board.View.{View}
use Rattle.ruled_history.specs.Runs.{AreAllPlaces, Has, once_below, times}
use Rattle.ruled_history.specs.Views.{Knows, with_entries}
use Rattle.mapper_server.proofs.Opening.{position_of}

-- ---- each connection that was opened has its Open in the history

-- the entry opens this connection
record Opens (conn : ℕ) (entries : List Entry) : Type 0 where
  entry : Entry
  there : In entry entries
  conn_is : entry.conn ≡ conn
  opens : is_open_act entry.act ≡ true

-- one entry more
opens_more : (project : ProjectView) (workers limit conn : ℕ) (e : Entry) (entries : List Entry) (noted : List Noted) → is_none (fault project workers limit noted e) ≡ true → opened_count (answered_of noted) ≤ conn
    → (opened_count (answered_of (and_then project workers noted e)) ≤ conn → Opens conn entries) → Opens conn (e ∷ entries)
opens_more project workers limit conn e entries noted passes late rest = by (is_open_act e.act) refl
  where
    grown : opened_count (answered_of (and_then project workers noted e)) ≡ opened_count (answered_of noted) + cond (is_open_act e.act) 1 0
    grown = opened_count-more (answered_entry project noted e) (answered_of noted)

    further : opened_count (answered_of (and_then project workers noted e)) ≤ conn → Opens conn (e ∷ entries)
    further after = let found = rest after in record { entry = found.entry; there = inr found.there; conn_is = found.conn_is; opens = found.opens }

    by : (b : Bool) → is_open_act e.act ≡ b → Opens conn (e ∷ entries)
    by true opens =
        let next : e.conn ≡ opened_count (answered_of noted) = opens_next project workers limit noted e passes opens in
        let one : opened_count (answered_of (and_then project workers noted e)) ≡ opened_count (answered_of noted) + 1 = grown ∙ ap (λ (b : Bool). opened_count (answered_of noted) + cond b 1 0) opens in
        dite (ℕ_discrete e.conn conn)
        (λ same. record { entry = e; there = inl refl; conn_is = same; opens = opens })
        (λ other. further (dite (dec_lt conn (opened_count (answered_of (and_then project workers noted e))))
        (λ below. let is : e.conn ≡ conn = omega (arith, next, one, below, late) in absurd (other is))
        (λ not_below. omega (arith, not_below))))
    by false other =
        let none : opened_count (answered_of (and_then project workers noted e)) ≡ opened_count (answered_of noted) + 0 = grown ∙ ap (λ (b : Bool). opened_count (answered_of noted) + cond b 1 0) other in
        further (omega (arith, none, late))

opens_after : (project : ProjectView) (workers limit conn : ℕ) → (entries : List Entry) (noted : List Noted) → is_legal_after project workers limit noted entries ≡ true
    → opened_count (answered_of noted) ≤ conn → conn < opened_count (answered_of (fold (and_then project workers) noted entries)) → Opens conn entries
opens_after project workers limit conn [] noted legal late early = absurd (omega (arith, late, early))
opens_after project workers limit conn (e ∷ entries) noted legal late early =
    let parts = and_parts (is_none (fault project workers limit noted e)) _ legal in
    opens_more project workers limit conn e entries noted parts.0 late (λ after. opens_after project workers limit conn entries (and_then project workers noted e) parts.1 after early)

has_opened : (ledger : LedgerView) → IsLedger ledger → (conn : ℕ) → conn < opened_in ledger → Opens conn ledger.entries
has_opened ledger is conn below =
    let start : opened_count (answered_of []) ≡ 0 = refl in
    opens_after ledger.project ledger.workers ledger.limit conn ledger.entries [] is.legal (omega (arith, start)) below

open_goes_on : (act : Act) → is_open_act act ≡ true → IsFalse (is_done act)
open_goes_on act opens = by act opens
  where
    by : (asked : Act) → is_open_act asked ≡ true → is_done asked ≡ false
    by asked e = grind arith

-- ---- the connections of the seat that has all workers

module _ (opening : LedgerView) (view : View) (knows : Knows opening view) (all : AreAllPlaces view.places (length view.seen)) where
  has_each : (conn : ℕ) → conn < opened_in (with_entries opening view.seen) → Has conn view.connections
  has_each conn below =
      let opened = has_opened (with_entries opening view.seen) knows.ledger conn below in
      let place = position_of opened.entry view.seen opened.there in
      let once : once_below place.0 (length view.seen) ≡ 1 = (let lt = place.1 in grind (arith, nat_tests)) in
      let there : Has place.0 view.places = omega (arith, all place.0, once) in
      subst (λ (c : ℕ). Has c view.connections) opened.conn_is (knows.own_connections place.0 opened.entry place.2 there (open_goes_on opened.entry.act opened.opens))

  pub all_numbers : ((conn : ℕ) → Has conn view.connections → conn < opened_in (with_entries opening view.seen)) → AreAllPlaces view.connections (opened_in (with_entries opening view.seen))
  all_numbers below conn =
      dite (dec_lt conn (opened_in (with_entries opening view.seen)))
      (λ lt. let here = has_each conn lt in let once = knows.connections_once conn in let one : once_below conn (opened_in (with_entries opening view.seen)) ≡ 1 = grind (arith, nat_tests) in omega (arith, here, once, one))
      (λ late. let none : once_below conn (opened_in (with_entries opening view.seen)) ≡ 0 = grind (arith, nat_tests) in
      dite (dec_lt 0 (times conn view.connections)) (λ has. let lt = below conn has in absurd (omega (arith, late, lt))) (λ not_there. omega (arith, not_there, none)))
