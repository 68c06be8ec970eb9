-- What holds of one seat and of the slot, and stays while others step.
use Rattle.std.proofs.Common.{◌≡◌, ◌≢◌, inl, inr, ⊎_elim, ℕ, ◌+◌, ◌<◌, ◌≤◌, ◌==◌, List, [], ◌∷◌, ◌++◌, length, set, All, Some, IsTrue, refl, sym, ap, subst, ◌∙◌, arith}
use Rattle.std.specs.Prelude.{Option, slice_get, count_by, if◌then◌else◌}
use Rattle.std.proofs.lemmas.Bool.Decides.{nat_tests}
use mathlib.Core.Logic.{dite}
use mathlib.Core.Option
use mathlib.Core.Option.{some, none, some-injective}
use native.Mathlib.Decide.{ℕ_discrete}
use lib.ListN.{get_elem?}
use Rattle.atomic_table.proofs.Lists.{at_set, set_here, set_else, at_longer}
use Rattle.unit_registry.specs.Acts.{is_done}
use Rattle.histories.specs.declared.entry.Entry.{Entry}
use Rattle.histories.specs.Entries.{no_connection}
use Rattle.registry_core.specs.Ledgers.{LedgerView, IsLedger, is_open_in}
use Rattle.registry_core.proofs.Desks.{slice_get_behind, slice_get_before}
use Rattle.registry_core.specs.Desks.{is_done_at}
use Rattle.ruled_history.specs.declared.board.View.{View}
use Rattle.ruled_history.specs.declared.board.Stage.{Stage}
use Rattle.ruled_history.specs.declared.board.Stage.TheVariants.{Idle, Waits, Serves}
use Rattle.ruled_history.specs.Runs.{StartsWith, Has}
use Rattle.ruled_history.specs.Rule.{HasTurn, SeatFits, SlotFits}
use Rattle.ruled_history.specs.Views.{with_entries, tickets_at, spent, at_stage, sees, Knows}
use Rattle.ruled_history.proofs.Counts.{in_list, begins_all, begins_trans, begins_whole, count_same, made_past, made_le, made_none}
use Rattle.ruled_history.proofs.Histories.{ledger_front, open_since, all_front, few_opened}
use Rattle.ruled_history.proofs.OwnEntries.{dones_stay}

-- ---- tickets

-- the holders of tickets, after one draws the ticket
abbrev pub now_has : (ℕ → ℕ) → ℕ → ℕ → ℕ → ℕ
now_has holder t seat k = if k == t then seat else holder k

pub now_has-same : (holder : ℕ → ℕ) (t seat : ℕ) → now_has holder t seat t ≡ seat
now_has-same holder t seat = grind (arith, nat_tests)

pub now_has-other : (holder : ℕ → ℕ) (t seat k : ℕ) → k ≢ t → now_has holder t seat k ≡ holder k
now_has-other holder t seat k ne = grind (arith, nat_tests)

-- what the other seats know stays so, where one seat draws, is served, records or passes the turn
pub turn_drawn : (log : List Entry) (away : Type 0) (drawn served : ℕ) (holder : ℕ → ℕ) (me seat : ℕ) (seen : List Entry) (st : Stage) → HasTurn log away drawn served holder seat seen st
    → HasTurn log away (drawn + 1) served (now_has holder drawn me) seat seen st
turn_drawn log away drawn served holder me seat seen Idle h = tt
turn_drawn log away drawn served holder me seat seen (Waits t) h = let b = h.1 in (h.0, omega arith, now_has-other holder drawn me t (omega arith) ∙ h.2)
turn_drawn log away drawn served holder me seat seen (Serves t) h = let b = h.1 in (h.0, omega arith, now_has-other holder drawn me t (omega arith) ∙ h.2, h.3, h.4)

pub turn_passed : (log : List Entry) (away away' : Type 0) (drawn served : ℕ) (holder : ℕ → ℕ) (me seat : ℕ) (seen : List Entry) → holder served ≡ me → seat ≢ me → (st : Stage) → HasTurn log away drawn served holder seat seen st
    → HasTurn log away' drawn (served + 1) holder seat seen st
turn_passed log away away' drawn served holder me seat seen mine ne Idle h = tt
turn_passed log away away' drawn served holder me seat seen mine ne (Waits t) h = let le = h.0 in let other : t ≢ served = λ e. ne (sym h.2 ∙ ap holder e ∙ mine) in (omega arith, h.1, h.2)
turn_passed log away away' drawn served holder me seat seen mine ne (Serves t) h = absurd (ne (sym h.2 ∙ ap holder h.0 ∙ mine))

pub turn_moved : (log : List Entry) (away away' : Type 0) (drawn served : ℕ) (holder : ℕ → ℕ) (seat : ℕ) (seen : List Entry) → (away → away') → (st : Stage) → HasTurn log away drawn served holder seat seen st → HasTurn log away' drawn served holder seat seen st
turn_moved log away away' drawn served holder seat seen f Idle h = tt
turn_moved log away away' drawn served holder seat seen f (Waits t) h = h
turn_moved log away away' drawn served holder seat seen f (Serves t) h = (h.0, h.1, h.2, h.3, f h.4)

-- any history may stand in where another seat is served
pub turn_recorded : (log log' : List Entry) (away : Type 0) (drawn served : ℕ) (holder : ℕ → ℕ) (me seat : ℕ) (seen : List Entry) → holder served ≡ me → seat ≢ me → (st : Stage) → HasTurn log away drawn served holder seat seen st
    → HasTurn log' away drawn served holder seat seen st
turn_recorded log log' away drawn served holder me seat seen mine ne Idle h = tt
turn_recorded log log' away drawn served holder me seat seen mine ne (Waits t) h = h
turn_recorded log log' away drawn served holder me seat seen mine ne (Serves t) h = absurd (ne (sym h.2 ∙ ap holder h.0 ∙ mine))

-- ---- all seats

-- a fact of each seat, after the view of one changes
pub seats_set : (P Q : ℕ → View → Type 0) (views : List View) (id : ℕ) (w : View) → Q id w → ((j : ℕ) (u : View) → j ≢ id → P j u → Q j u) → ((j : ℕ) (u : View) → get_elem? views j ≡ some u → P j u)
    → (j : ℕ) (u : View) → get_elem? (set views id w) j ≡ some u → Q j u
seats_set P Q views id w mine others all j u e = ⊎_elim (λ (t : (j ≡ id) × (w ≡ u)). subst (λ (x : ℕ × View). Q x.0 x.1) (λ i. (sym t.0 i, t.1 i)) mine)
    (λ (t : (j ≢ id) × (get_elem? views j ≡ some u)). others j u t.0 (all j u t.1)) (at_set views id j w u e)

pub one_slot : {X : Type 0} (xs : List X) (x y : X) → xs ≡ x ∷ [] → set xs 0 y ≡ y ∷ []
one_slot xs x y e = ap (λ zs. set zs 0 y) e

-- ---- one seat

module _ (opening : LedgerView) (entries : List Entry) (makers : List ℕ) (owner belongs : ℕ → ℕ) (seat : ℕ) where
  -- only the seat's turn changes
  pub restaged : {away away' : Type 0} {drawn served drawn' served' : ℕ} {holder holder' : ℕ → ℕ} (v : View) (st : Stage) → SeatFits opening entries makers away drawn served holder owner belongs seat v
      → HasTurn entries away' drawn' served' holder' seat v.seen st → tickets_at st ≤ v.share → (v.share ≡ 0 → at_stage st v ≡ spent) → SeatFits opening entries makers away' drawn' served' holder' owner belongs seat (at_stage st v)
  restaged v st ok turn one not_spent = record {
    begins = ok.begins;
    heard = ok.heard;
    turn = turn;
    one_ticket = one;
    run = ok.run;
    some_share = not_spent;
    places = ok.places;
    early = ok.early;
    connections_once = ok.connections_once;
    connections_own = ok.connections_own;
    under_run = ok.under_run;
    of_connections = ok.of_connections;
    bare = ok.bare;
    opened_is = ok.opened_is;
    dones_is = ok.dones_is;
    enough = ok.enough;
  }

  module _ {away : Type 0} {drawn served : ℕ} {holder : ℕ → ℕ} (v : View) (ok : SeatFits opening entries makers away drawn served holder owner belongs seat v) where
    -- what stands in a beginning of the history stands in the history
    stands_there : (k : List Entry) → StartsWith entries k → (place : ℕ) (e : Entry) → slice_get k place ≡ Some e → slice_get entries place ≡ Some e
    stands_there k up place e at = ap (λ (l : List Entry). slice_get l place) up.1 ∙ slice_get_before k up.0 place e at

    -- the entries of others leave its connections as they are
    pub grown : (k : List Entry) → StartsWith k v.seen → StartsWith entries k → (conn : ℕ) → Has conn v.connections → is_open_in (with_entries opening k) conn ≡ is_open_in (with_entries opening v.seen) conn
    grown k more up conn has = ap (λ (l : List Entry). is_open_in (with_entries opening l) conn) more.1 ∙ open_since opening more.0 v.seen conn (λ p e at is.
        let place : ℕ = length v.seen + p in
        let there = stands_there k up place e (ap (λ (l : List Entry). slice_get l place) more.1 ∙ (slice_get_behind v.seen more.0 p place refl ∙ at)) in
        let one = ok.under_run place e there (subst (λ (c : ℕ). Has c v.connections) (sym is) has) in
        let none_late = ok.early place (omega arith) in
        let here = ok.places place in
        omega arith)

    -- and its Dones
    pub dones_grown : (k : List Entry) → StartsWith k v.seen → count_by (is_done_at k) v.places ≡ count_by (is_done_at v.seen) v.places
    dones_grown k more = ap (λ (l : List Entry). count_by (is_done_at l) v.places) more.1 ∙ dones_stay v.seen more.0 v.places ok.early

    pub seen_all : {away' : Type 0} (st : Stage) → length makers ≡ length entries → HasTurn entries away' drawn served holder seat entries st → tickets_at st ≤ v.share → 0 < v.share
        → SeatFits opening entries makers away' drawn served holder owner belongs seat (sees entries (at_stage st v))
    seen_all st beside turn one worker = record {
      begins = begins_all entries;
      heard = begins_trans v.heard v.seen entries ok.heard ok.begins;
      turn = turn;
      one_ticket = one;
      run = ok.run;
      some_share = λ none_left. absurd (omega arith);
      places = ok.places;
      early = λ place le. ok.places place ∙ made_past v.first v.share makers place (omega arith);
      connections_once = ok.connections_once;
      connections_own = ok.connections_own;
      under_run = ok.under_run;
      of_connections = ok.of_connections;
      bare = ok.bare;
      opened_is = ok.opened_is ∙ count_same (is_open_in (with_entries opening v.seen)) (is_open_in (with_entries opening entries)) v.connections (λ c h. sym (grown entries ok.begins (begins_all entries) c h));
      dones_is = ok.dones_is ∙ sym (dones_grown entries ok.begins);
      enough = ok.enough;
    }

    pub known : IsLedger (with_entries opening entries) → All (λ newest. IsTrue (is_done newest.act) → newest.conn ≡ no_connection) entries → Knows opening v
    known all nobody = record {
      ledger = ledger_front opening entries v.seen ok.begins all;
      heard = ok.heard;
      places_once = λ place. let here = ok.places place in omega (arith, made_le v.first v.share makers place);
      early = ok.early;
      connections_once = ok.connections_once;
      own_places = λ place e at has. let one = ok.under_run place e (stands_there v.seen ok.begins place e at) has in let here = ok.places place in omega arith;
      own_connections = λ place e at has not_end. let here = ok.places place in let most = made_le v.first v.share makers place in ok.of_connections place e (stands_there v.seen ok.begins place e at) (omega arith) not_end;
      opened_is = ok.opened_is;
      dones_is = ok.dones_is;
      enough = ok.enough;
      of_nobody = all_front (λ (newest : Entry). IsTrue (is_done newest.act) → newest.conn ≡ no_connection) entries v.seen ok.begins nobody;
      numbered = λ conn has. let own = ok.connections_own conn has in let few = few_opened opening entries all in omega (arith, own.1);
      bare = ok.bare;
    }

-- a spent seat
pub spent_fits : (opening : LedgerView) (entries : List Entry) (makers : List ℕ) (away : Type 0) (drawn served : ℕ) (holder owner belongs : ℕ → ℕ) (j : ℕ) → SeatFits opening entries makers away drawn served holder owner belongs j spent
spent_fits opening entries makers away drawn served holder owner belongs j = record {
  begins = (entries, refl);
  heard = ([], refl);
  turn = tt;
  one_ticket = omega arith;
  run = λ w h l. absurd (omega arith);
  some_share = λ _. refl;
  places = λ place. sym (made_none 0 makers place);
  early = λ place le. refl;
  connections_once = λ c. omega arith;
  connections_own = λ c h. absurd (omega arith);
  under_run = λ place x at h. absurd (omega arith);
  of_connections = λ place x at one not_end. absurd (let none_here = made_none 0 makers place in omega arith);
  bare = λ _. refl;
  opened_is = refl;
  dones_is = refl;
  enough = omega arith;
}

-- ---- the longest history seen

-- some seat has seen the whole history, also after the view of one changes
pub longest_kept : (entries : List Entry) (views : List View) (id : ℕ) (v w : View) → get_elem? views id ≡ some v → w.seen ≡ v.seen → (j : ℕ) × (u : View) × (get_elem? views j ≡ some u) × (u.seen ≡ entries)
    → (j : ℕ) × (u : View) × (get_elem? (set views id w) j ≡ some u) × (u.seen ≡ entries)
longest_kept entries views id v w at same h =
    dite (ℕ_discrete h.0 id)
    (λ is. let one : h.1 ≡ v = some-injective h.1 v (sym h.2 ∙ ap (get_elem? views) is ∙ at) in (id, w, set_here views id w (in_list views id v at), same ∙ (ap (λ (x : View). x.seen) (sym one) ∙ h.3)))
    (λ ne. (h.0, h.1, set_else views id h.0 w ne ∙ h.2, h.3))

pub longest_joined : (entries : List Entry) (views : List View) (id other : ℕ) (v w both : View) → get_elem? views id ≡ some v → get_elem? views other ≡ some w → other ≢ id → StartsWith entries both.seen → StartsWith both.seen v.seen → StartsWith both.seen w.seen
    → (j : ℕ) × (u : View) × (get_elem? views j ≡ some u) × (u.seen ≡ entries) → (j : ℕ) × (u : View) × (get_elem? (set (set views id both) other spent) j ≡ some u) × (u.seen ≡ entries)
longest_joined entries views id other v w both at at_w apart up left right h =
    let here : get_elem? (set (set views id both) other spent) id ≡ some both = set_else (set views id both) other id spent (λ e. apart (sym e)) ∙ set_here views id both (in_list views id v at) in
    dite (ℕ_discrete h.0 id)
    (λ is.
    let one : h.1 ≡ v = some-injective h.1 v (sym h.2 ∙ ap (get_elem? views) is ∙ at) in
    let all : v.seen ≡ entries = ap (λ (x : View). x.seen) (sym one) ∙ h.3 in
    (id, both, here, begins_whole both.seen entries up (subst (λ (es : List Entry). StartsWith both.seen es) all left)))
    (λ ne. dite (ℕ_discrete h.0 other)
    (λ is.
    let one : h.1 ≡ w = some-injective h.1 w (sym h.2 ∙ ap (get_elem? views) is ∙ at_w) in
    let all : w.seen ≡ entries = ap (λ (x : View). x.seen) (sym one) ∙ h.3 in
    (id, both, here, begins_whole both.seen entries up (subst (λ (es : List Entry). StartsWith both.seen es) all right)))
    (λ ne'. (h.0, h.1, set_else (set views id both) other h.0 spent ne' ∙ (set_else views id h.0 both ne ∙ h.2), h.3)))

-- ---- the slot

module _ {B : Type 0} (Stands : B → List Entry → Type 0) where
  pub slot_longer : (log : List Entry) (served : ℕ) (homes : List (mathlib.Core.Option.Option (Option B))) (views : List View) (w : View) → SlotFits Stands log served homes views → SlotFits Stands log served homes (views ++ w ∷ [])
  slot_longer log served homes views w (inl home) = inl home
  slot_longer log served homes views w (inr out) = inr (out.0, (out.1.0, out.1.1, at_longer views (w ∷ []) out.1.0 out.1.1 out.1.2, out.1.3))

  -- while the slot is away any history may stand in
  pub slot_away : (log log' : List Entry) (served : ℕ) (homes : List (mathlib.Core.Option.Option (Option B))) (views : List View) → homes ≡ none ∷ [] → SlotFits Stands log served homes views → SlotFits Stands log' served homes views
  slot_away log log' served homes views gone (inl home) = absurd (cc (gone, home.1))
  slot_away log log' served homes views gone (inr out) = inr out

  -- a seat that waits with the ticket that is served finds the slot at home
  pub at_home : (log : List Entry) (away : Type 0) (served drawn : ℕ) (homes : List (mathlib.Core.Option.Option (Option B))) (views : List View) (holder : ℕ → ℕ) (id : ℕ) (v : View) → get_elem? views id ≡ some v → v.stage ≡ Waits served → holder served ≡ id
      → ((j : ℕ) (w : View) → get_elem? views j ≡ some w → HasTurn log away drawn served holder j w.seen w.stage) → SlotFits Stands log served homes views
      → (b : B) × (homes ≡ some (Some b) ∷ []) × Stands b log
  at_home log away served drawn homes views holder id v at waits mine turns (inl home) = home
  at_home log away served drawn homes views holder id v at waits mine turns (inr out) =
      let j = out.1.0 in let w = out.1.1 in
      let h : HasTurn log away drawn served holder j w.seen (Serves served) = subst (HasTurn log away drawn served holder j w.seen) out.1.3 (turns j w out.1.2) in
      let same : j ≡ id = sym h.2 ∙ mine in
      let one : w ≡ v = some-injective w v (sym out.1.2 ∙ ap (get_elem? views) same ∙ at) in
      let no : Serves served ≡ Waits served = sym out.1.3 ∙ ap (λ (x : View). x.stage) one ∙ waits in
      absurd (cc (no))

  pub slot_kept : (log : List Entry) (served : ℕ) (homes : List (mathlib.Core.Option.Option (Option B))) (views : List View) (id : ℕ) (v w : View) → get_elem? views id ≡ some v → (v.stage ≡ Serves served → w.stage ≡ Serves served)
      → SlotFits Stands log served homes views → SlotFits Stands log served homes (set views id w)
  slot_kept log served homes views id v w at still (inl home) = inl home
  slot_kept log served homes views id v w at still (inr out) =
      let j = out.1.0 in let u = out.1.1 in
      dite (ℕ_discrete j id)
      (λ same. let one : u ≡ v = some-injective u v (sym out.1.2 ∙ ap (get_elem? views) same ∙ at) in inr (out.0, (id, w, set_here views id w (in_list views id v at), still (ap (λ (x : View). x.stage) (sym one) ∙ out.1.3))))
      (λ ne. inr (out.0, (j, u, set_else views id j w ne ∙ out.1.2, out.1.3)))

  pub put_home : (log : List Entry) (served : ℕ) (homes : List (mathlib.Core.Option.Option (Option B))) (views : List View) (b : B) → SlotFits Stands log served homes views → set homes 0 (some (Some b)) ≡ some (Some b) ∷ []
  put_home log served homes views b (inl home) = one_slot homes _ _ home.1
  put_home log served homes views b (inr out) = one_slot homes _ _ out.0
