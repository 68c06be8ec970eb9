-- What a turn tells, put together from its steps.
use Rattle.std.proofs.Common.{◌≡◌, Bool, ℕ, ◌+◌, ◌%◌, ◌^◌, ◌<◌, length, ◌∷◌, ◌++◌, List, [], Some, refl, sym, ap, subst, ◌∙◌}
use Rattle.std.specs.Prelude.{Option}
use mathlib.Core.Option.{some, none, some-injective}
use lib.ListN.{get_elem?}
use Rattle.atomic_table.specs.Table.{State, Me, step, Allows, Final, Seen}
use Rattle.histories.specs.declared.entry.Entry.{Entry}
use Rattle.registry_core.specs.Ledgers.{LedgerView, open_in, done_in}
use Rattle.ruled_history.specs.declared.board.View.{View}
use Rattle.ruled_history.specs.declared.board.Stage.TheVariants.{Idle, Waits, Serves}
use Rattle.ruled_history.specs.Runs.{StartsWith, AreAllPlaces}
use Rattle.ruled_history.specs.Rule.{Ruled}
use Rattle.ruled_history.specs.Steps.{AtTurn, InTurn, IsEntering, drew, Served, looked, recorded, passed}
use Rattle.ruled_history.specs.Views.{with_entries, opened_of, dones_of, sees, at_stage, Knows}
use Rattle.ruled_history.specs.Seats.{IsServing}
use Rattle.ruled_history.proofs.Turning.{Rule, draws, looks, passes}
use Rattle.ruled_history.proofs.Recording.{records}
use Rattle.ruled_history.proofs.Closing.{all_home, all_places, all_seen, all_own}
use Rattle.ruled_history.proofs.Fitting.{known}

-- ---- the steps, for a seat whose view and slots are known by equations

module _ {B : Type 0} (Stands : B → List Entry → Type 0) (metered : Bool) (opening : LedgerView) where
  pub draws_at : (slots id : ℕ) (m : Me (Option B) View) → m.0.stage ≡ Idle → 0 < m.0.share → Allows (Rule Stands metered opening) slots id m 0 (λ k. (k + 1) % 2 ^ 64) (drew (step slots 0 1 0 none) m)
  draws_at slots id m idle share = draws Stands metered opening slots id m.0 m.1 idle share

  pub looks_at : (slots id t : ℕ) (m : Me (Option B) View) (Tells : B → List Entry → View → Type 0) → ((b : B) (before : List Entry) (v : View) → AtTurn Stands opening b before v → Tells b before v) → m.0.stage ≡ Waits t
      → Allows (Rule Stands metered opening) slots id m 1 (λ k. k) (looked Tells (step slots 1 0 0 none) m)
  looks_at slots id t m Tells tells waits s r sized at fits = let did = looks Stands metered opening slots id t m.0 m.1 waits s r sized at fits in
      (did.0, did.1, did.2, did.3, λ t' e. (λ turn. let h = (did.4 t' e).0 turn in (h.0, h.1, h.2, h.3, tells h.0 m.0.seen did.0 h.4), λ other. (did.4 t' e).1 other))

  pub passes_at : (slots id : ℕ) (m : Me (Option B) View) → InTurn Stands opening m → Allows (Rule Stands metered opening) slots id m 1 (λ k. (k + 1) % 2 ^ 64) (passed (step slots 1 1 0 none) m)
  passes_at slots id m turn = subst (λ (c : List (ℕ × Option B)). Allows (Rule Stands metered opening) slots id (m.0, c) 1 (λ k. (k + 1) % 2 ^ 64) (passed (step slots 1 1 0 none) (m.0, c))) (sym turn.hand)
      (passes Stands metered opening slots id turn.ticket m.0 turn.book turn.serves turn.told.stands)

  pub records_at : (entries_of : B → List Entry) (slots id : ℕ) (m : Me (Option B) View) (e : Entry) (Tells : B → List Entry → View → Type 0) → ((b : B) (before : List Entry) (v : View) → AtTurn Stands opening b before v → Tells b before v) → ((b : B) (es : List Entry) → Stands b es → entries_of b ≡ es)
      → (entering : IsEntering Stands metered opening e m) → 0 < m.0.share → Allows (Rule Stands metered opening) slots id m 2 (λ k. (k + 1) % 2 ^ 64) (recorded entries_of Tells (step slots 2 1 0 none) m)
  records_at entries_of slots id m e Tells tells ended entering share = subst (λ (c : List (ℕ × Option B)). Allows (Rule Stands metered opening) slots id (m.0, c) 2 (λ k. (k + 1) % 2 ^ 64) (recorded entries_of Tells (step slots 2 1 0 none) (m.0, c))) (sym entering.hand)
      (λ s r sized at fits.
      let b : B = entering.book in
      let did = records Stands metered opening entries_of slots id entering.ticket m.0 b e entering.serves share entering.may (ended b (m.0.seen ++ e ∷ []) entering.stands) entering.stands entering.passes entering.is_entry s r sized at fits in
      (did.0, did.1, did.2, did.3, λ b' e' in_hand ends. let h = did.4 b' e' in_hand ends in (h.0, tells b' did.0.seen did.0 h.1)))

-- ---- the book in hand

module _ {B : Type 0} where
  -- the turn has come, with the book in hand
  pub record Came (Tells : B → List Entry → View → Type 0) (v : View) (m : Me (Option B) View) : Type 0 where
    pub book : B
    pub serving : IsServing v m.0
    pub hand : m.1 ≡ (0, Some book) ∷ []
    pub seen : StartsWith m.0.seen v.seen
    pub told : Tells book v.seen m.0

  pub came : (Tells : B → List Entry → View → Type 0) (v : View) (t : ℕ) (m m' : Me (Option B) View) → m.0 ≡ at_stage (Waits t) v → m.1 ≡ [] → Served Tells t m m' → Came Tells v m'
  came Tells v t m m' waits empty h =
      let view : m'.0 ≡ sees h.1 (at_stage (Serves t) v) = ap (λ n. n.0) h.2 ∙ ap (λ w. sees h.1 (at_stage (Serves t) w)) waits in
      let seen : m'.0.seen ≡ h.1 = ap (λ (w : View). w.seen) view in
      record {
        book = h.0;
        serving = (t, view ∙ ap (λ l. sees l (at_stage (Serves t) v)) (sym seen));
        hand = ap (λ n. n.1) h.2 ∙ ap (λ z. (0, Some h.0) ∷ z) empty;
        seen = (h.3.0, seen ∙ (h.3.1 ∙ ap (λ (w : View). w.seen ++ h.3.0) waits));
        told = subst (λ (es : List Entry). Tells h.0 es m'.0) (ap (λ (w : View). w.seen) waits) h.4;
      }

  -- whoever is served has its turn
  pub in_turn : (Stands : B → List Entry → Type 0) (opening : LedgerView) (b : B) (before : List Entry) (t : ℕ) (m : Me (Option B) View) → m.0.stage ≡ Serves t → m.1 ≡ (0, Some b) ∷ [] → AtTurn Stands opening b before m.0 → InTurn Stands opening m
  in_turn Stands opening b before t m serves hand told = record {
    ticket = t;
    book = b;
    serves = serves;
    hand = hand;
    told = record { stands = told.stands; knows = told.knows; still = λ conn has. refl; free_worker = told.free_worker; room = told.room };
  }

-- what the close tells
pub record Ended {B : Type 0} (Stands : B → List Entry → Type 0) (opening : LedgerView) (v : View) (x : Option B) : Type 0 where
  pub book : B
  pub entries : List Entry
  pub is : x ≡ Some book
  pub stands : Stands book entries
  pub seen : entries ≡ v.seen
  pub places : AreAllPlaces v.places (length entries)
  pub opened : open_in (with_entries opening entries) ≡ v.opened
  pub dones : done_in (with_entries opening entries) ≡ v.dones
  pub knows : Knows opening v

pub ended : {B : Type 0} (Stands : B → List Entry → Type 0) (metered : Bool) (opening : LedgerView) (id : ℕ) (v : View) (words : List ℕ) (xs : List (Option B)) (x : Option B) → Final (Seen (Ruled Stands metered opening) id v) words xs
    → v.stage ≡ Idle → v.share ≡ opening.workers → 0 < opening.workers → get_elem? xs 0 ≡ some x → Ended Stands opening v x
ended {B} Stands metered opening id v words xs x final idle all some_worker at =
    let s : State (Option B) View = final.0 in
    let r : Ruled Stands metered opening s = final.1.0 in
    let here = final.1.1 in
    let home = all_home Stands metered opening s r id v here idle all in
    record {
      book = home.0;
      entries = r.entries;
      is = some-injective x (Some home.0) (sym at ∙ final.4 0 (Some home.0) (ap (λ hs. get_elem? hs 0) home.1));
      stands = home.2;
      seen = all_seen Stands metered opening s r id v here some_worker all;
      places = all_places Stands metered opening s r id v here some_worker all;
      opened = sym r.opened ∙ all_own Stands metered opening opened_of refl s r id v here all;
      dones = sym r.dones ∙ all_own Stands metered opening dones_of refl s r id v here all;
      knows = known opening r.entries r.makers r.owner r.belongs id v (r.each_seat id v here) r.ledger r.of_nobody;
    }
