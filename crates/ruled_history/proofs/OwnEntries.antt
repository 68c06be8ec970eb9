-- What an entry of a seat's own changes for the seat.
use Rattle.std.proofs.Common.{◌≡◌, ◌⊎◌, inl, inr, ⊎_elim, ℕ, zero, suc, ◌+◌, ◌<◌, ◌≤◌, Bool, true, false, List, [], ◌∷◌, ◌++◌, length, IsTrue, IsFalse, refl, sym, ap, subst, ◌∙◌, arith, add-zero, true≢false}
use Rattle.std.specs.Prelude.{count_by}
use Rattle.std.specs.Option.{option_map_or}
use mathlib.Core.Logic.{dite}
use native.Mathlib.Decide.{ℕ_discrete, dec_lt}
use Rattle.unit_registry.specs.Acts.{is_done}
use Rattle.histories.specs.declared.entry.Entry.{Entry}
use Rattle.histories.specs.Entries.{no_connection}
use Rattle.histories.specs.Counts.{Effect, Opens, Asks, Goes, Ends, effect_of, ChangesOwn, MayCome}
use Rattle.histories.specs.Histories.{noted_of}
use Rattle.registry_core.specs.Ledgers.{LedgerView, IsLedger, Passes, is_open_in, opened_in}
use Rattle.registry_core.specs.Desks.{connections_with, uses, is_done_at}
use Rattle.registry_core.proofs.Desks.{slice_get_behind}
use Rattle.ruled_history.specs.declared.board.View.{View}
use Rattle.ruled_history.specs.Runs.{times, Has}
use Rattle.ruled_history.specs.Rule.{SeatFits}
use Rattle.ruled_history.specs.Views.{with_entries, opened_after, dones_after, MayAddBy}
use Rattle.ruled_history.proofs.Counts.{one_if, count_same, count-append, count_one, count_less, has_left, has_snoc, has_last, once_snoc}
use Rattle.histories.proofs.Counting.{does_end, done_act}
use Rattle.ruled_history.proofs.Histories.{opens, goes, ends, own_more, may_enter, open_other, few_opened}

-- ---- Dones among the own places

-- a Done stays one in a longer history
pub done_stays : (seen more : List Entry) (place : ℕ) → place < length seen → is_done_at (seen ++ more) place ≡ is_done_at seen place
done_stays [] more place lt = absurd (omega arith)
done_stays (x ∷ seen) more zero lt = refl
done_stays (x ∷ seen) more (suc place) lt = done_stays seen more place (omega arith)

pub dones_stay : (seen more : List Entry) (places : List ℕ) → ((place : ℕ) → length seen ≤ place → times place places ≡ 0) → count_by (is_done_at (seen ++ more)) places ≡ count_by (is_done_at seen) places
dones_stay seen more places early = count_same (is_done_at (seen ++ more)) (is_done_at seen) places
    (λ place has. dite (dec_lt place (length seen)) (λ lt. done_stays seen more place lt) (λ late. absurd (let none_late = early place (omega arith) in omega arith)))

done_last : (seen : List Entry) (newest : Entry) → is_done_at (seen ++ newest ∷ []) (length seen) ≡ is_done newest.act
done_last seen newest = ap (λ o. option_map_or (λ (x : Entry). is_done x.act) o false) (slice_get_behind seen (newest ∷ []) 0 (length seen) (sym (add-zero (length seen))))

ends_by : (effect : Effect) (dones : ℕ) → dones_after effect dones ≡ dones + one_if (does_end effect)
ends_by Opens dones = omega arith
ends_by Asks dones = omega arith
ends_by Goes dones = omega arith
ends_by Ends dones = refl

-- ---- one entry more

-- what an entry of the seat's own changes, by what its act does
pub record Changes (opening : LedgerView) (metered : Bool) (entries : List Entry) (belongs : ℕ → ℕ) (seat : ℕ) (view : View) (newest : Entry) (effect : Effect) : Type 0 where
  pub left_some : goes effect ≤ view.opened
  pub opened : opened_after effect view.opened + goes effect ≡ view.opened + opens effect
  pub dones : dones_after effect view.dones ≡ view.dones + ends effect
  pub enough : IsTrue metered → uses effect ≤ view.room
  pub cost : 1 + opens effect ≡ uses effect + goes effect + ends effect
  pub seats : opened_after effect view.opened + dones_after effect view.dones ≤ view.share
  pub nobody : IsTrue (is_done newest.act) → newest.conn ≡ no_connection
  pub connections_once : (conn : ℕ) → times conn (connections_with effect newest.conn view.connections) ≤ 1
  pub came : (conn : ℕ) → Has conn (connections_with effect newest.conn view.connections) → Has conn view.connections ⊎ ((opens effect ≡ 1) × (conn ≡ opened_in (with_entries opening entries)))
  pub stay : (conn : ℕ) → Has conn view.connections → Has conn (connections_with effect newest.conn view.connections)
  pub own : IsFalse (is_done newest.act) → Has newest.conn (connections_with effect newest.conn view.connections)
  pub opened_is : opened_after effect view.opened ≡ count_by (is_open_in (with_entries opening (entries ++ newest ∷ []))) (connections_with effect newest.conn view.connections)
  pub not_others : newest.conn < opened_in (with_entries opening entries) → belongs newest.conn ≡ seat

module _ (opening : LedgerView) (metered : Bool) (entries : List Entry) (makers : List ℕ) {away : Type 0} {drawn served : ℕ} {holder : ℕ → ℕ} (owner belongs : ℕ → ℕ) (seat : ℕ) (view : View)
    (ok : SeatFits opening entries makers away drawn served holder owner belongs seat view) (same : view.seen ≡ entries) (was : IsLedger (with_entries opening entries)) where
  opened_now : view.opened ≡ count_by (is_open_in (with_entries opening entries)) view.connections
  opened_now = ok.opened_is ∙ ap (λ (es : List Entry). count_by (is_open_in (with_entries opening es)) view.connections) same

  fresh : times (opened_in (with_entries opening entries)) view.connections ≡ 0
  fresh = dite (dec_lt 0 (times (opened_in (with_entries opening entries)) view.connections)) (λ has. absurd (let own = ok.connections_own (opened_in (with_entries opening entries)) has in let lt = own.1 in omega arith)) (λ none_yet. omega arith)

  module _ (newest : Entry) (now : IsLedger (with_entries opening (entries ++ newest ∷ []))) where
    changes_by : (effect : Effect) → effect_of newest.act ≡ effect → MayAddBy metered view newest.conn effect
        → MayCome opening.project opening.workers opening.limit (noted_of opening.project opening.workers entries) newest effect
        → ChangesOwn effect (is_open_in (with_entries opening entries) newest.conn) (is_open_in (with_entries opening (entries ++ newest ∷ [])) newest.conn)
        → Changes opening metered entries belongs seat view newest effect
    changes_by Opens kind may come turns =
        let is : newest.conn ≡ opened_in (with_entries opening entries) = come.next in
        let free = may.0 in
        let no_end : is_done newest.act ≡ false = done_act newest.act ∙ ap does_end kind in
        let kept : count_by (is_open_in (with_entries opening (entries ++ newest ∷ []))) view.connections ≡ count_by (is_open_in (with_entries opening entries)) view.connections =
        count_same (is_open_in (with_entries opening (entries ++ newest ∷ []))) (is_open_in (with_entries opening entries)) view.connections (λ c h. open_other opening entries newest c (λ at. let own = ok.connections_own c h in let lt = own.1 in omega arith)) in
        let one : count_by (is_open_in (with_entries opening (entries ++ newest ∷ []))) (newest.conn ∷ []) ≡ 1 = count_one (is_open_in (with_entries opening (entries ++ newest ∷ []))) newest.conn true turns.1 in
        record {
          left_some = omega arith;
          opened = omega arith;
          dones = omega arith;
          enough = may.1;
          cost = refl;
          seats = omega arith;
          nobody = λ done. absurd (true≢false (sym done ∙ no_end));
          connections_once = λ c. once_snoc c newest.conn view.connections (ok.connections_once c) (ap (λ (z : ℕ). times z view.connections) is ∙ fresh);
          came = λ c h. ⊎_elim inl (λ at. inr (refl, at ∙ is)) (has_snoc c newest.conn view.connections h);
          stay = λ c h. has_left c view.connections (newest.conn ∷ []) h;
          own = λ _. has_last newest.conn view.connections;
          opened_is = omega (arith, opened_now, kept, one, count-append (is_open_in (with_entries opening (entries ++ newest ∷ []))) view.connections (newest.conn ∷ []));
          not_others = λ lt. absurd (omega arith);
        }
    changes_by Asks kind may come turns =
        let own = ok.connections_own newest.conn may.0 in
        let seats = ok.enough in
        let no_end : is_done newest.act ≡ false = done_act newest.act ∙ ap does_end kind in
        let still : (c : ℕ) → is_open_in (with_entries opening entries) c ≡ is_open_in (with_entries opening (entries ++ newest ∷ [])) c = λ c. dite (ℕ_discrete newest.conn c)
        (λ at. subst (λ (z : ℕ). is_open_in (with_entries opening entries) z ≡ is_open_in (with_entries opening (entries ++ newest ∷ [])) z) at (turns.0 ∙ sym turns.1))
        (λ ne. sym (open_other opening entries newest c ne)) in
        record {
          left_some = omega arith;
          opened = omega arith;
          dones = omega arith;
          enough = may.1;
          cost = refl;
          seats = omega arith;
          nobody = λ done. absurd (true≢false (sym done ∙ no_end));
          connections_once = ok.connections_once;
          came = λ c h. inl h;
          stay = λ c h. h;
          own = λ _. may.0;
          opened_is = opened_now ∙ count_same (is_open_in (with_entries opening entries)) (is_open_in (with_entries opening (entries ++ newest ∷ []))) view.connections (λ c h. still c);
          not_others = λ _. own.0;
        }
    changes_by Goes kind may come turns =
        let own = ok.connections_own newest.conn may in
        let seats = ok.enough in
        let most = ok.connections_once newest.conn in
        let no_end : is_done newest.act ≡ false = done_act newest.act ∙ ap does_end kind in
        let less : count_by (is_open_in (with_entries opening (entries ++ newest ∷ []))) view.connections + 1 ≡ count_by (is_open_in (with_entries opening entries)) view.connections =
        count_less (is_open_in (with_entries opening entries)) (is_open_in (with_entries opening (entries ++ newest ∷ []))) newest.conn view.connections (omega arith) (λ c ne. sym (open_other opening entries newest c (λ at. ne (sym at)))) turns.0 turns.1 in
        record {
          left_some = omega (arith, opened_now, less);
          opened = omega (arith, opened_now, less);
          dones = omega arith;
          enough = λ _. omega arith;
          cost = refl;
          seats = omega arith;
          nobody = λ done. absurd (true≢false (sym done ∙ no_end));
          connections_once = ok.connections_once;
          came = λ c h. inl h;
          stay = λ c h. h;
          own = λ _. may;
          opened_is = omega (arith, opened_now, less);
          not_others = λ _. own.0;
        }
    changes_by Ends kind may come turns =
        let free = may.1 in
        let is = may.0 in
        let few = few_opened opening entries was in
        let an_end : is_done newest.act ≡ true = done_act newest.act ∙ ap does_end kind in
        let still : count_by (is_open_in (with_entries opening entries)) view.connections ≡ count_by (is_open_in (with_entries opening (entries ++ newest ∷ []))) view.connections =
        count_same (is_open_in (with_entries opening entries)) (is_open_in (with_entries opening (entries ++ newest ∷ []))) view.connections (λ c h. sym (open_other opening entries newest c (λ at. let own = ok.connections_own c h in let lt = own.1 in omega arith))) in
        record {
          left_some = omega arith;
          opened = omega arith;
          dones = refl;
          enough = λ _. omega arith;
          cost = refl;
          seats = omega arith;
          nobody = λ _. is;
          connections_once = ok.connections_once;
          came = λ c h. inl h;
          stay = λ c h. h;
          own = λ not_end. absurd (true≢false (sym an_end ∙ not_end));
          opened_is = opened_now ∙ still;
          not_others = λ lt. absurd (omega arith);
        }

    pub changes : Passes (with_entries opening entries) newest → MayAddBy metered view newest.conn (effect_of newest.act) → Changes opening metered entries belongs seat view newest (effect_of newest.act)
    changes passes may = changes_by (effect_of newest.act) refl may (may_enter opening entries newest was passes) (own_more opening entries newest now)

  -- the Dones among the places, with the entry
  pub dones_with : (newest : Entry) → dones_after (effect_of newest.act) view.dones ≡ count_by (is_done_at (view.seen ++ newest ∷ [])) (view.places ++ length view.seen ∷ [])
  dones_with newest =
      let last : is_done_at (view.seen ++ newest ∷ []) (length view.seen) ≡ does_end (effect_of newest.act) = done_last view.seen newest ∙ done_act newest.act in
      ends_by (effect_of newest.act) view.dones
      ∙ (ap (λ (z : ℕ). z + one_if (does_end (effect_of newest.act))) (ok.dones_is ∙ sym (dones_stay view.seen (newest ∷ []) view.places ok.early))
      ∙ (ap (λ (z : ℕ). count_by (is_done_at (view.seen ++ newest ∷ [])) view.places + z) (sym (count_one (is_done_at (view.seen ++ newest ∷ [])) (length view.seen) (does_end (effect_of newest.act)) last))
      ∙ sym (count-append (is_done_at (view.seen ++ newest ∷ [])) view.places (length view.seen ∷ []))))
