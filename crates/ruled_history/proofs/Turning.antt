-- Drawing a ticket, looking at serving, passing the turn: each keeps the rule.
use Rattle.std.proofs.Common.{◌≡◌, ℕ, ◌+◌, ◌%◌, ◌^◌, ◌<◌, ◌≤◌, Bool, List, [], ◌∷◌, length, get_or, set, Some, refl, sym, ap, subst, ◌∙◌, inl, inr, arith}
use Rattle.std.specs.Prelude.{Option, sum_by}
use mathlib.Core.Logic.{dite}
use mathlib.Core.Option.{some, none}
use native.Mathlib.Decide.{ℕ_discrete}
use lib.ListN.{get_elem?}
use lib.Seq.{set-get_or}
use Rattle.atomic_table.specs.Table.{State, Me, step, keeps, takes, gives, stepped, Allows}
use Rattle.atomic_table.proofs.Lists.{set_here, set_again, one_turn}
use Rattle.histories.specs.declared.entry.Entry.{Entry}
use Rattle.registry_core.specs.Ledgers.{LedgerView}
use Rattle.ruled_history.specs.declared.board.View.{View}
use Rattle.ruled_history.specs.declared.board.Stage.TheVariants.{Idle, Waits, Serves}
use Rattle.ruled_history.specs.Runs.{StartsWith, Has}
use Rattle.ruled_history.specs.Rule.{HasTurn, SeatFits, RoomFits, Ruled}
use Rattle.ruled_history.specs.Steps.{AtTurn, drew, Served, looked, passed, learnt}
use Rattle.ruled_history.specs.Views.{tickets_at, tickets, share_of, opened_of, dones_of, room_of, at_stage, sees, Knows}
use Rattle.ruled_history.proofs.Counts.{sum_set, sum_at, sum_le, sum_lt, sum_both, in_list, begins_all}
use Rattle.ruled_history.proofs.Fitting.{now_has, now_has-same, turn_drawn, turn_passed, turn_moved, seats_set, one_slot, restaged, grown, seen_all, known, longest_kept, at_home, slot_kept, put_home}

-- the workers of a seat that are taken: its open connections and its ends
abbrev taken_of : View → ℕ
taken_of v = v.opened + v.dones

module _ {B : Type 0} (Stands : B → List Entry → Type 0) (metered : Bool) (opening : LedgerView) where
  abbrev pub Rule : State (Option B) View → Type 0
  Rule = Ruled Stands metered opening

  -- what fits a seat in a state of the table
  abbrev pub Fits : (s : State (Option B) View) (r : Rule s) → ℕ → View → Type 0
  Fits s r j v = SeatFits opening r.entries r.makers (s.homes ≡ none ∷ []) r.drawn r.served r.holder r.owner r.belongs j v

  -- fewer tickets are out than 2 ^ 32
  few : (s : State (Option B) View) (r : Rule s) → sum_by tickets s.views < 2 ^ 32
  few s r = let small = r.ledger.small in let enough = r.ledger.few in omega (arith, sum_le tickets share_of s.views (λ j v at. (r.each_seat j v at).one_ticket), r.shares)

  -- a view whose room stays
  pub rooms_kept : (views : List View) (id : ℕ) (v w : View) → get_elem? views id ≡ some v → w.room ≡ v.room → (entries : List Entry) → RoomFits metered opening entries (sum_by room_of views) → RoomFits metered opening entries (sum_by room_of (set views id w))
  rooms_kept views id v w at kept entries rooms = subst (RoomFits metered opening entries) (omega (arith, sum_set room_of views id v w at)) rooms

  -- a load changes no word, and this one no view
  unmoved : (s : State (Option B) View) (r : Rule s) (id : ℕ) (v : View) (i : ℕ) → get_elem? s.views id ≡ some v → Rule (stepped s i (get_or s.words i 0) id [] v keeps)
  unmoved s r id v i at = subst (λ (x : List ℕ × List View). Rule record { words = x.0; homes = s.homes; views = x.1 }) (λ k. (sym (set-get_or s.words i 0) k, sym (set_again s.views id v at) k)) r

  served_with : (t t' : ℕ) (v : View) (c : List (ℕ × Option B)) (b : B) (entries : List Entry) → t' ≡ t → StartsWith entries v.seen → AtTurn Stands opening b v.seen (sees entries (at_stage (Serves t) v))
      → Served (AtTurn Stands opening) t' (v, c) (sees entries (at_stage (Serves t) v), (0, Some b) ∷ c)
  served_with t t' v c b entries same begins told = (b, entries, ap (λ (z : ℕ). (sees entries (at_stage (Serves z) v), (0, Some b) ∷ c)) (sym same), begins, told)

  -- a seat whose turn alone changes, by what others do
  restaged_other : (s : State (Option B) View) (r : Rule s) {away' : Type 0} {drawn' served' : ℕ} {holder' : ℕ → ℕ} (j : ℕ) (u : View) → Fits s r j u → HasTurn r.entries away' drawn' served' holder' j u.seen u.stage → SeatFits opening r.entries r.makers away' drawn' served' holder' r.owner r.belongs j u
  restaged_other s r j u o turn = restaged opening r.entries r.makers r.owner r.belongs j u u.stage o turn o.one_ticket o.some_share

  pub draws : (slots id : ℕ) (v : View) (c : List (ℕ × Option B)) → v.stage ≡ Idle → 0 < v.share → Allows Rule slots id (v, c) 0 (λ k. (k + 1) % 2 ^ 64) (drew (step slots 0 1 0 none) (v, c))
  draws slots id v c idle share s r sized at fits =
      let t : ℕ = r.drawn in let w : View = at_stage (Waits t) v in let ok = r.each_seat id v at in let line = r.out in let sums = sum_set tickets s.views id v w at in let none_yet : tickets v ≡ 0 = ap tickets_at idle in (
        w,
        keeps,
        tt,
        record {
          entries = r.entries;
          makers = r.makers;
          drawn = t + 1;
          served = r.served;
          holder = now_has r.holder t id;
          owner = r.owner;
          belongs = r.belongs;
          words = ap (λ ws. set ws 0 ((get_or ws 0 0 + 1) % 2 ^ 64)) r.words ∙ ap (λ (z : ℕ). z ∷ r.served % 2 ^ 64 ∷ length r.entries ∷ []) (omega arith);
          out = omega arith;
          slot = slot_kept Stands r.entries r.served s.homes s.views id v w at (λ e. absurd (cc (sym e ∙ idle))) r.slot;
          longest = longest_kept r.entries s.views id v w at refl r.longest;
          beside = r.beside;
          makers_below = r.makers_below;
          ledger = r.ledger;
          of_nobody = r.of_nobody;
          shares = omega (arith, sum_set share_of s.views id v w at, r.shares);
          opened = omega (arith, sum_set opened_of s.views id v w at, r.opened);
          dones = omega (arith, sum_set dones_of s.views id v w at, r.dones);
          rooms = rooms_kept s.views id v w at refl r.entries r.rooms;
          each_seat = seats_set (Fits s r) (SeatFits opening r.entries r.makers (s.homes ≡ none ∷ []) (t + 1) r.served (now_has r.holder t id) r.owner r.belongs) s.views id w
              (restaged opening r.entries r.makers r.owner r.belongs id v (Waits t) ok (omega arith, omega arith, now_has-same r.holder t id) (omega arith) (λ z. absurd (omega arith)))
              (λ j u ne o. restaged_other s r j u o (turn_drawn r.entries (s.homes ≡ none ∷ []) t r.served r.holder id j u.seen u.stage o.turn))
              r.each_seat;
        },
        (t, refl, ap (λ ws. get_or ws 0 0) r.words),
      )

  -- whoever waits with the ticket t has the turn where the word says t
  its_turn : (s : State (Option B) View) (r : Rule s) (id : ℕ) (v : View) (t : ℕ) → get_elem? s.views id ≡ some v → v.stage ≡ Waits t → get_or s.words 1 0 ≡ t % 2 ^ 64 → r.served ≡ t
  its_turn s r id v t at waits found =
      let h : HasTurn r.entries (s.homes ≡ none ∷ []) r.drawn r.served r.holder id v.seen (Waits t) = subst (HasTurn r.entries (s.homes ≡ none ∷ []) r.drawn r.served r.holder id v.seen) waits (r.each_seat id v at).turn in
      let small = few s r in let line = r.out in
      one_turn r.served t (2 ^ 64) h.0 (omega (arith, h.1)) (sym (ap (λ ws. get_or ws 1 0) r.words) ∙ found)

  -- what a seat whose view is w may be told, in a table that has it
  pub at_turn : (s : State (Option B) View) (r : Rule s) (id : ℕ) (v w : View) (b : B) → get_elem? s.views id ≡ some v → w.opened ≡ v.opened → w.dones ≡ v.dones → w.share ≡ v.share → w.room ≡ v.room → w.seen ≡ r.entries → Knows opening w → w.connections ≡ v.connections → Stands b r.entries
      → AtTurn Stands opening b v.seen w
  at_turn s r id v w b at opened dones share room seen knows connections stands =
      let most : (j : ℕ) (u : View) → get_elem? s.views j ≡ some u → taken_of u ≤ share_of u = λ j u at_u. (r.each_seat j u at_u).enough in
      let sum = sum_both opened_of dones_of taken_of s.views (λ u. refl) in
      record {
        stands = subst (Stands b) (sym seen) stands;
        knows = knows;
        still = λ c has. let ok = r.each_seat id v at in rw seen (grown opening r.entries r.makers r.owner r.belongs id v ok r.entries ok.begins (begins_all r.entries) c (subst (Has c) connections has));
        free_worker = λ free. let less = sum_lt taken_of share_of s.views most id v at (omega arith) in rw seen (omega (arith, r.opened, r.dones, r.shares));
        room = let one = sum_at room_of s.views id v at in let all = r.rooms.all_rooms in rw seen (omega arith);
      }

  pub looks : (slots id t : ℕ) (v : View) (c : List (ℕ × Option B)) → v.stage ≡ Waits t → Allows Rule slots id (v, c) 1 (λ k. k) (looked (AtTurn Stands opening) (step slots 1 0 0 none) (v, c))
  looks slots id t v c waits s r sized at fits =
      let ok = r.each_seat id v at in
      let same_ticket : (t' : ℕ) → v.stage ≡ Waits t' → t' ≡ t = λ t' e. cc (sym e ∙ waits) in
      dite (ℕ_discrete (get_or s.words 1 0) (t % 2 ^ 64))
      (λ found.
      let now : r.served ≡ t = its_turn s r id v t at waits found in
      let turn : HasTurn r.entries (s.homes ≡ none ∷ []) r.drawn r.served r.holder id v.seen (Waits t) = subst (HasTurn r.entries (s.homes ≡ none ∷ []) r.drawn r.served r.holder id v.seen) waits ok.turn in
      let home = at_home Stands r.entries (s.homes ≡ none ∷ []) r.served r.drawn s.homes s.views r.holder id v at (waits ∙ ap Waits (sym now)) (ap r.holder now ∙ turn.2) (λ j w at_j. (r.each_seat j w at_j).turn) r.slot in
      let b : B = home.0 in
      let w : View = sees r.entries (at_stage (Serves t) v) in
      let had : tickets v ≡ 1 = ap tickets_at waits in
      let one : tickets_at (Serves t) ≤ v.share = subst (λ (z : ℕ). z ≤ v.share) had ok.one_ticket in
      let gone : set s.homes 0 none ≡ none ∷ [] = one_slot s.homes _ _ home.1 in
      let new : SeatFits opening r.entries r.makers (set s.homes 0 none ≡ none ∷ []) r.drawn r.served r.holder r.owner r.belongs id w =
      seen_all opening r.entries r.makers r.owner r.belongs id v ok (Serves t) r.beside (sym now, turn.1, turn.2, refl, gone) one (omega arith) in
      let told : AtTurn Stands opening b v.seen w = at_turn s r id v w b at refl refl refl refl refl (known opening r.entries r.makers r.owner r.belongs id w new r.ledger r.of_nobody) refl home.2 in (
        w,
        takes 0 (Some b),
        ap (λ hs. get_elem? hs 0) home.1,
        record {
          entries = r.entries;
          makers = r.makers;
          drawn = r.drawn;
          served = r.served;
          holder = r.holder;
          owner = r.owner;
          belongs = r.belongs;
          words = ap (λ ws. set ws 1 (get_or ws 1 0)) r.words;
          out = omega (arith, sum_set tickets s.views id v w at, r.out);
          slot = inr (gone, (id, w, set_here s.views id w (in_list s.views id v at), ap Serves (sym now)));
          longest = (id, w, set_here s.views id w (in_list s.views id v at), refl);
          beside = r.beside;
          makers_below = r.makers_below;
          ledger = r.ledger;
          of_nobody = r.of_nobody;
          shares = omega (arith, sum_set share_of s.views id v w at, r.shares);
          opened = omega (arith, sum_set opened_of s.views id v w at, r.opened);
          dones = omega (arith, sum_set dones_of s.views id v w at, r.dones);
          rooms = rooms_kept s.views id v w at refl r.entries r.rooms;
          each_seat = seats_set (Fits s r) (SeatFits opening r.entries r.makers (set s.homes 0 none ≡ none ∷ []) r.drawn r.served r.holder r.owner r.belongs) s.views id w new
              (λ j u ne o. restaged_other s r j u o (turn_moved r.entries (s.homes ≡ none ∷ []) _ r.drawn r.served r.holder j u.seen (λ _. gone) u.stage o.turn))
              r.each_seat;
        },
        λ t' e. (λ _. served_with t t' v c b r.entries (same_ticket t' e) ok.begins told, λ other. absurd (other (found ∙ ap (λ (z : ℕ). z % 2 ^ 64) (sym (same_ticket t' e))))),
      ))
      (λ other. (v, keeps, tt, unmoved s r id v 1 at, λ t' e. (λ yes. absurd (other (yes ∙ ap (λ (z : ℕ). z % 2 ^ 64) (same_ticket t' e))), λ _. refl)))

  -- a load that tells what holds of the view
  pub learns : (slots id : ℕ) (m : Me (Option B) View) (Learns : View → Type 0) → (Knows opening m.0 → Learns m.0) → Allows Rule slots id m 0 (λ k. k) (learnt Learns (step slots 0 0 0 none) m)
  learns slots id m Learns tells s r sized at fits = (m.0, keeps, tt, unmoved s r id m.0 0 at, (refl, tells (known opening r.entries r.makers r.owner r.belongs id m.0 (r.each_seat id m.0 at) r.ledger r.of_nobody)))

  pub passes : (slots id t : ℕ) (v : View) (b : B) → v.stage ≡ Serves t → Stands b v.seen → Allows Rule slots id (v, (0, Some b) ∷ []) 1 (λ k. (k + 1) % 2 ^ 64) (passed (step slots 1 1 0 none) (v, (0, Some b) ∷ []))
  passes slots id t v b serves stands s r sized at fits =
      let ok = r.each_seat id v at in
      let turn : HasTurn r.entries (s.homes ≡ none ∷ []) r.drawn r.served r.holder id v.seen (Serves t) = subst (HasTurn r.entries (s.homes ≡ none ∷ []) r.drawn r.served r.holder id v.seen) serves ok.turn in
      let w : View = at_stage Idle v in
      let had : tickets v ≡ 1 = ap tickets_at serves in
      let one : 1 ≤ v.share = subst (λ (z : ℕ). z ≤ v.share) had ok.one_ticket in
      let mine : r.holder r.served ≡ id = ap r.holder (sym turn.0) ∙ turn.2 in (
        w,
        gives,
        tt,
        record {
          entries = r.entries;
          makers = r.makers;
          drawn = r.drawn;
          served = r.served + 1;
          holder = r.holder;
          owner = r.owner;
          belongs = r.belongs;
          words = ap (λ ws. set ws 1 ((get_or ws 1 0 + 1) % 2 ^ 64)) r.words ∙ ap (λ (z : ℕ). r.drawn % 2 ^ 64 ∷ z ∷ length r.entries ∷ []) (omega arith);
          out = omega (arith, sum_set tickets s.views id v w at, r.out);
          slot = inl (b, put_home Stands r.entries r.served s.homes s.views b r.slot, subst (Stands b) turn.3 stands);
          longest = longest_kept r.entries s.views id v w at refl r.longest;
          beside = r.beside;
          makers_below = r.makers_below;
          ledger = r.ledger;
          of_nobody = r.of_nobody;
          shares = omega (arith, sum_set share_of s.views id v w at, r.shares);
          opened = omega (arith, sum_set opened_of s.views id v w at, r.opened);
          dones = omega (arith, sum_set dones_of s.views id v w at, r.dones);
          rooms = rooms_kept s.views id v w at refl r.entries r.rooms;
          each_seat = seats_set (Fits s r) (SeatFits opening r.entries r.makers (set s.homes 0 (some (Some b)) ≡ none ∷ []) r.drawn (r.served + 1) r.holder r.owner r.belongs) s.views id w
              (restaged opening r.entries r.makers r.owner r.belongs id v Idle ok tt (omega arith) (λ z. absurd (omega arith)))
              (λ j u ne o. restaged_other s r j u o (turn_passed r.entries (s.homes ≡ none ∷ []) _ r.drawn r.served r.holder id j u.seen mine ne u.stage o.turn))
              r.each_seat;
        },
        refl,
      )
