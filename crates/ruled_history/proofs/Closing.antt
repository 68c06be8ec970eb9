-- The rule at the start, and what it says of a seat with all worker numbers.
use Rattle.std.proofs.Common.{◌≡◌, ℕ, zero, suc, ◌≢◌, ◌+◌, ◌-◌, ◌<◌, ◌≤◌, Bool, true, false, nat_lt, List, [], ◌∷◌, ◌++◌, length, Some, IsTrue, IsFalse, refl, sym, ap, subst, ◌∙◌, inl, inr, arith, append-nil, length-append, ltb-false}
use Rattle.std.specs.Prelude.{Option, sum_by, if◌then◌else◌}
use Rattle.std.proofs.lemmas.List.Elements.{All-nil}
use mathlib.Core.Logic.{dite}
use mathlib.Core.Option.{some, some-injective, some-ne-none}
use native.Mathlib.Decide.{ℕ_discrete}
use lib.ListN.{get_elem?}
use Rattle.atomic_table.specs.Table.{State, opening as table_at_start}
use Rattle.unit_registry.specs.Acts.{is_done}
use Rattle.histories.specs.declared.entry.Entry.{Entry}
use Rattle.histories.specs.Entries.{no_connection}
use Rattle.registry_core.specs.Ledgers.{LedgerView, IsLedger}
use Rattle.ruled_history.specs.declared.board.View.{View}
use Rattle.ruled_history.specs.declared.board.Stage.TheVariants.{Idle, Serves}
use Rattle.ruled_history.specs.Runs.{StartsWith, AreAllPlaces, once_below, made_at}
use Rattle.ruled_history.specs.Rule.{SeatFits, SlotFits}
use Rattle.ruled_history.specs.Views.{with_entries, tickets_at, tickets, share_of, first_view, spent}
use Rattle.ruled_history.proofs.Counts.{sum_two, sum_alone, made_all}
use Rattle.ruled_history.proofs.Histories.{all_got}
use Rattle.ruled_history.proofs.Turning.{Rule}

-- ---- a list and its beginning

-- a beginning that isn't shorter is the whole
pub none_behind : {A : Type 0} (whole front : List A) → StartsWith whole front → length whole ≤ length front → whole ≡ front
none_behind {A} whole front begins le = by begins.0 begins.1
  where
    by : (rest : List A) → whole ≡ front ++ rest → whole ≡ front
    by [] is = is ∙ append-nil front
    by (x ∷ rest) is = absurd (omega (arith, ap length is, length-append front (x ∷ rest)))

-- where a place isn't one of so many, they are no more
pub none_from : (place count : ℕ) → 0 ≡ once_below place count → count ≤ place
none_from place count none = by (nat_lt place count) refl
  where
    by : (b : Bool) → nat_lt place count ≡ b → count ≤ place
    by true is = let one : once_below place count ≡ 1 = ap (λ (b : Bool). if b then 1 else 0) is in absurd (omega arith)
    by false is = ltb-false place count is

-- ---- the rule at the start

starts_seat : {away : Type 0} (opening : LedgerView) (room : ℕ) (j : ℕ) (v : View) → 0 < opening.workers → get_elem? (first_view opening.workers room ∷ []) j ≡ some v → SeatFits opening [] [] away 0 0 (λ _. 0) (λ _. 0) (λ _. 0) j v
starts_seat {away} opening room zero v some_worker e = subst (SeatFits opening [] [] away 0 0 (λ _. 0) (λ _. 0) (λ _. 0) 0) (some-injective (first_view opening.workers room) v e) record {
  begins = ([], refl);
  heard = ([], refl);
  turn = tt;
  one_ticket = omega arith;
  run = λ w h l. (omega arith, refl);
  some_share = λ none_left. absurd (omega arith);
  places = λ place. refl;
  early = λ place le. refl;
  connections_once = λ c. omega arith;
  connections_own = λ c h. absurd (omega arith);
  under_run = λ place x at h. absurd (omega arith);
  of_connections = λ place x at one not_end. absurd (omega arith);
  bare = λ _. refl;
  opened_is = refl;
  dones_is = refl;
  enough = omega arith;
}
starts_seat {away} opening room (suc j) v some_worker e = absurd (some-ne-none v (sym e))

module _ {B : Type 0} (Stands : B → List Entry → Type 0) (metered : Bool) (opening : LedgerView) where
  pub starts : (b : B) (room : ℕ) → 0 < opening.workers → IsLedger (with_entries opening []) → opening.workers + room ≤ opening.limit → (IsFalse metered → room ≡ 0) → Stands b []
      → Rule Stands metered opening (table_at_start (0 ∷ 0 ∷ 0 ∷ []) (Some b ∷ []) (first_view opening.workers room))
  starts b room some_worker ledger with_room without stands = record {
    entries = [];
    makers = [];
    drawn = 0;
    served = 0;
    holder = λ _. 0;
    owner = λ _. 0;
    belongs = λ _. 0;
    words = refl;
    out = omega arith;
    slot = inl (b, refl, stands);
    longest = (0, first_view opening.workers room, refl, refl);
    beside = refl;
    makers_below = All-nil (λ (maker : ℕ). maker < opening.workers);
    ledger = ledger;
    of_nobody = All-nil (λ (x : Entry). IsTrue (is_done x.act) → x.conn ≡ no_connection);
    shares = omega arith;
    opened = refl;
    dones = refl;
    rooms = record { all_rooms = omega arith; no_room = λ other. let all = without other in omega arith };
    each_seat = λ j v e. starts_seat opening room j v some_worker e;
  }

  alone : (s : State (Option B) View) (r : Rule Stands metered opening s) (id : ℕ) (v : View) → get_elem? s.views id ≡ some v → v.stage ≡ Idle → v.share ≡ opening.workers → SlotFits Stands r.entries r.served s.homes s.views
      → (b : B) × (s.homes ≡ some (Some b) ∷ []) × Stands b r.entries
  alone s r id v at idle all (inl home) = home
  alone s r id v at idle all (inr out) =
      let j = out.1.0 in let u = out.1.1 in
      let served : tickets u ≡ 1 = ap tickets_at out.1.3 in
      dite (ℕ_discrete j id)
      (λ same. let one : u ≡ v = some-injective u v (sym out.1.2 ∙ ap (get_elem? s.views) same ∙ at) in let no : Serves r.served ≡ Idle = sym out.1.3 ∙ ap (λ (x : View). x.stage) one ∙ idle in absurd (cc (no)))
      (λ ne. let two = sum_two share_of s.views j id u v ne out.1.2 at in let sum = r.shares in let some_share = (r.each_seat j u out.1.2).one_ticket in absurd (omega arith))

  -- a seat with all shares is the only one, and so the book is at home
  pub all_home : (s : State (Option B) View) (r : Rule Stands metered opening s) (id : ℕ) (v : View) → get_elem? s.views id ≡ some v → v.stage ≡ Idle → v.share ≡ opening.workers → (b : B) × (s.homes ≡ some (Some b) ∷ []) × Stands b r.entries
  all_home s r id v at idle all = alone s r id v at idle all r.slot

  -- and the places of all entries are its own
  pub all_places : (s : State (Option B) View) (r : Rule Stands metered opening s) (id : ℕ) (v : View) → get_elem? s.views id ≡ some v → 0 < opening.workers → v.share ≡ opening.workers → AreAllPlaces v.places (length r.entries)
  all_places s r id v at some_worker all place =
      let ok = r.each_seat id v at in
      let last = ok.run (v.first + (v.share - 1)) (omega arith) (omega arith) in let low = last.0 in
      let zero_first : v.first ≡ 0 = omega arith in
      ok.places place ∙ (ap (λ (z : ℕ). made_at z v.share r.makers place) zero_first ∙ (ap (λ (z : ℕ). made_at 0 z r.makers place) all
      ∙ (made_all opening.workers r.makers place (λ k w at_k. all_got (λ (maker : ℕ). maker < opening.workers) r.makers k w r.makers_below at_k) ∙ ap (once_below place) r.beside)))

  -- which are those that it has seen
  pub all_seen : (s : State (Option B) View) (r : Rule Stands metered opening s) (id : ℕ) (v : View) → get_elem? s.views id ≡ some v → 0 < opening.workers → v.share ≡ opening.workers → r.entries ≡ v.seen
  all_seen s r id v at some_worker all =
      let ok = r.each_seat id v at in
      none_behind r.entries v.seen ok.begins (none_from (length v.seen) (length r.entries) (sym (ok.early (length v.seen) (omega arith)) ∙ all_places s r id v at some_worker all (length v.seen)))

  -- all others are spent
  spent_others : (s : State (Option B) View) (r : Rule Stands metered opening s) (id : ℕ) (v : View) → get_elem? s.views id ≡ some v → v.share ≡ opening.workers → (j : ℕ) (u : View) → j ≢ id → get_elem? s.views j ≡ some u → u ≡ spent
  spent_others s r id v at all j u ne at_j =
      let two = sum_two share_of s.views j id u v ne at_j at in let sum = r.shares in
      let none_left : u.share ≡ 0 = omega arith in
      (r.each_seat j u at_j).some_share none_left

  -- and so the sum of all seats is its own
  pub all_own : (f : View → ℕ) → f spent ≡ 0 → (s : State (Option B) View) (r : Rule Stands metered opening s) (id : ℕ) (v : View) → get_elem? s.views id ≡ some v → v.share ≡ opening.workers → sum_by f s.views ≡ f v
  all_own f none_spent s r id v at all = sum_alone f s.views id v at (λ j u ne at_j. ap f (spent_others s r id v at all j u ne at_j) ∙ none_spent)
