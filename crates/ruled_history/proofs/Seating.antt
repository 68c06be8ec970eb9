-- Splitting and joining seats keep the rule.
use Rattle.std.proofs.Common.{◌≡◌, ◌≢◌, ⊎_elim, ℕ, ◌+◌, ◌-◌, ◌<◌, ◌≤◌, ◌==◌, nat_lt, Bool, List, [], ◌∷◌, ◌++◌, length, set, refl, sym, ap, ap₂, subst, ◌∙◌, arith, length-set}
use Rattle.std.specs.Prelude.{count_by, if◌then◌else◌}
use Rattle.std.proofs.lemmas.Bool.Decides.{nat_tests}
use Rattle.std.proofs.lemmas.List.Sums.{sum_by_push}
use mathlib.Core.Logic.{dite}
use mathlib.Core.Option.{some, none}
use native.Mathlib.Decide.{dec_lt}
use lib.ListN.{get_elem?}
use Rattle.atomic_table.specs.Table.{Splits, Joins}
use Rattle.atomic_table.proofs.Lists.{at_set, set_else, at_longer}
use Rattle.histories.specs.declared.entry.Entry.{Entry}
use Rattle.registry_core.specs.Ledgers.{LedgerView, is_open_in}
use Rattle.registry_core.specs.Desks.{is_done_at}
use Rattle.ruled_history.specs.declared.board.View.{View}
use Rattle.ruled_history.specs.declared.board.Stage.TheVariants.{Idle}
use Rattle.ruled_history.specs.Runs.{times, made_at}
use Rattle.ruled_history.specs.Rule.{HasTurn, SeatFits, RoomFits}
use Rattle.ruled_history.specs.Views.{with_entries, tickets_at, tickets, share_of, opened_of, dones_of, room_of, rest_of, cut_off, longer, joined, spent, Knows, IsBare}
use Rattle.ruled_history.proofs.Counts.{sum_set, begins_length, times-append, made_join, made_le, longer_begins, count_same, count-append, has_left, has_right, has_either, once_joined, at_end, append_none}
use Rattle.ruled_history.proofs.Fitting.{seats_set, grown, dones_grown, spent_fits, longest_kept, longest_joined, slot_longer, slot_kept}
use Rattle.ruled_history.proofs.Turning.{Rule, Fits}

-- ---- owners of worker numbers

-- the owners, after a run of worker numbers goes to a new seat
abbrev now_owns : (ℕ → ℕ) → ℕ → ℕ → ℕ → ℕ → ℕ
now_owns owner a s seat w = if nat_lt w a then owner w else if nat_lt w (a + s) then seat else owner w

now_owns-same : (owner : ℕ → ℕ) (a s seat w : ℕ) → a ≤ w → w < a + s → now_owns owner a s seat w ≡ seat
now_owns-same owner a s seat w h l = grind (arith, nat_tests)

now_owns-other : (owner : ℕ → ℕ) (a s seat w : ℕ) → (a ≤ w → w < a + s → ⊥) → now_owns owner a s seat w ≡ owner w
now_owns-other owner a s seat w out = grind (arith, nat_tests)

-- the owners, after one seat takes those of another
abbrev took_over : (ℕ → ℕ) → ℕ → ℕ → ℕ → ℕ
took_over owner id other w = if owner w == other then id else owner w

took_over-same : (owner : ℕ → ℕ) (id other w : ℕ) → owner w ≡ other → took_over owner id other w ≡ id
took_over-same owner id other w e = grind (arith, nat_tests)

took_over-other : (owner : ℕ → ℕ) (id other w : ℕ) → owner w ≢ other → took_over owner id other w ≡ owner w
took_over-other owner id other w ne = grind (arith, nat_tests)

joined_run : (owner : ℕ → ℕ) (id other workers : ℕ) (v w : View) → ((x : ℕ) → v.first ≤ x → x < v.first + v.share → (x < workers) × (owner x ≡ id))
    → ((x : ℕ) → w.first ≤ x → x < w.first + w.share → (x < workers) × (owner x ≡ other)) → w.first ≡ v.first + v.share → id ≢ other
    → (x : ℕ) → v.first ≤ x → x < v.first + (v.share + w.share) → Dec (x < v.first + v.share) → (x < workers) × (took_over owner id other x ≡ id)
joined_run owner id other workers v w here there next ne x low high (yes d) = let p = here x low d in (p.0, took_over-other owner id other x (λ e. ne (sym p.1 ∙ e)) ∙ p.1)
joined_run owner id other workers v w here there next ne x low high (no d) = let p = there x (omega arith) (omega arith) in (p.0, took_over-same owner id other x p.1)

-- the two seats of a split have no entry and no connection
pub bare_rest : (opening : LedgerView) (share room : ℕ) (v : View) → Knows opening v → v.places ≡ [] → IsBare (rest_of share room v)
bare_rest opening share room v knows empty = record {
  places = empty;
  connections = knows.bare empty;
  opened = knows.opened_is ∙ ap (count_by (is_open_in (with_entries opening v.seen))) (knows.bare empty);
  dones = knows.dones_is ∙ ap (count_by (is_done_at v.seen)) empty;
}

pub bare_cut : (share room : ℕ) (v : View) → IsBare (cut_off share room v)
bare_cut share room v = record { places = refl; connections = refl; opened = refl; dones = refl }

-- no connection is there where nothing was entered
module _ (opening : LedgerView) (entries : List Entry) (makers : List ℕ) {away : Type 0} {drawn served : ℕ} {holder : ℕ → ℕ} (owner belongs : ℕ → ℕ) (seat : ℕ) (v : View) (ok : SeatFits opening entries makers away drawn served holder owner belongs seat v) (empty : v.places ≡ []) where
  none_open : v.opened ≡ 0
  none_open = ok.opened_is ∙ ap (count_by (is_open_in (with_entries opening v.seen))) (ok.bare empty)

  none_done : v.dones ≡ 0
  none_done = ok.dones_is ∙ ap (count_by (is_done_at v.seen)) empty

module _ {B : Type 0} (Stands : B → List Entry → Type 0) (metered : Bool) (opening : LedgerView) where
  pub splits : (id share room : ℕ) (v : View) → v.stage ≡ Idle → v.places ≡ [] → 0 < share → share < v.share → room ≤ v.room → Splits (Rule Stands metered opening) id v (rest_of share room v) (cut_off share room v)
  splits id share room v idle empty some_share less enough s r at =
      let ok = r.each_seat id v at in
      let new : ℕ = length s.views in
      let cut : ℕ = v.first + (v.share - share) in
      let left : View = rest_of share room v in
      let right : View = cut_off share room v in
      let owner' : ℕ → ℕ = now_owns r.owner cut share new in
      let none_in : tickets v ≡ 0 = ap tickets_at idle in
      let no_opened : v.opened ≡ 0 = none_open opening r.entries r.makers r.owner r.belongs id v ok empty in
      let no_dones : v.dones ≡ 0 = none_done opening r.entries r.makers r.owner r.belongs id v ok empty in
      let bare : v.connections ≡ [] = ok.bare empty in
      let none_own : (c : ℕ) → times c v.connections ≡ 0 = λ c. ap (times c) bare in
      let zero_made : (place : ℕ) → made_at v.first (v.share - share) r.makers place + made_at cut share r.makers place ≡ 0 =
      λ place. sym (made_join v.first (v.share - share) share r.makers place) ∙ (ap (λ (z : ℕ). made_at v.first z r.makers place) (omega arith) ∙ (sym (ok.places place) ∙ ap (times place) empty)) in
      record {
        entries = r.entries;
        makers = r.makers;
        drawn = r.drawn;
        served = r.served;
        holder = r.holder;
        owner = owner';
        belongs = r.belongs;
        words = r.words;
        out = omega (arith, sum_set tickets s.views id v left at, sum_by_push tickets (set s.views id left) right, r.out);
        slot = slot_longer Stands r.entries r.served s.homes (set s.views id left) right (slot_kept Stands r.entries r.served s.homes s.views id v left at (λ z. z) r.slot);
        longest = (let h = longest_kept r.entries s.views id v left at refl r.longest in (h.0, h.1, at_longer (set s.views id left) (right ∷ []) h.0 h.1 h.2, h.3));
        beside = r.beside;
        makers_below = r.makers_below;
        ledger = r.ledger;
        of_nobody = r.of_nobody;
        shares = omega (arith, sum_set share_of s.views id v left at, sum_by_push share_of (set s.views id left) right, r.shares);
        opened = omega (arith, sum_set opened_of s.views id v left at, sum_by_push opened_of (set s.views id left) right, r.opened);
        dones = omega (arith, sum_set dones_of s.views id v left at, sum_by_push dones_of (set s.views id left) right, r.dones);
        rooms = subst (RoomFits metered opening r.entries) (omega (arith, sum_set room_of s.views id v left at, sum_by_push room_of (set s.views id left) right)) r.rooms;
        each_seat = λ j u e. ⊎_elim
            (seats_set (Fits Stands metered opening s r) (SeatFits opening r.entries r.makers (s.homes ≡ none ∷ []) r.drawn r.served r.holder owner' r.belongs) s.views id left
            record {
              begins = ok.begins;
              heard = ok.heard;
              turn = ok.turn;
              one_ticket = omega arith;
              run = λ w h l. let o = ok.run w h (omega arith) in (o.0, now_owns-other r.owner cut share new w (λ a b. omega arith) ∙ o.1);
              some_share = λ none_left. absurd (omega arith);
              places = λ place. ap (times place) empty ∙ omega (arith, zero_made place);
              early = λ place le. ap (times place) empty;
              connections_once = λ c. let none_here = none_own c in omega arith;
              connections_own = λ c h. absurd (let none_here = none_own c in omega arith);
              under_run = λ place x at_x h. absurd (let none_here = none_own x.conn in omega arith);
              of_connections = λ place x at_x one not_end. absurd (let zero = zero_made place in omega arith);
              bare = λ _. bare;
              opened_is = ok.opened_is;
              dones_is = ok.dones_is;
              enough = omega arith;
            }
            (λ k x ne o. record {
              begins = o.begins;
              heard = o.heard;
              turn = o.turn;
              one_ticket = o.one_ticket;
              run = λ w h l. let p = o.run w h l in (p.0, now_owns-other r.owner cut share new w (λ a b. ne (sym p.1 ∙ (ok.run w (omega arith) (omega arith)).1)) ∙ p.1);
              some_share = o.some_share;
              places = o.places;
              early = o.early;
              connections_once = o.connections_once;
              connections_own = o.connections_own;
              under_run = o.under_run;
              of_connections = o.of_connections;
              bare = o.bare;
              opened_is = o.opened_is;
              dones_is = o.dones_is;
              enough = o.enough;
            })
            r.each_seat j u)
            (λ (t : (j ≡ new) × (right ≡ u)). subst (λ (x : ℕ × View). SeatFits opening r.entries r.makers (s.homes ≡ none ∷ []) r.drawn r.served r.holder owner' r.belongs x.0 x.1) (λ i. (sym t.0 i, t.1 i)) record {
              begins = ok.begins;
              heard = ok.heard;
              turn = subst (HasTurn r.entries (s.homes ≡ none ∷ []) r.drawn r.served r.holder new v.seen) (sym idle) tt;
              one_ticket = omega arith;
              run = λ w h l. ((ok.run w (omega arith) (omega arith)).0, now_owns-same r.owner cut share new w h l);
              some_share = λ none_left. absurd (omega arith);
              places = λ place. omega (arith, zero_made place);
              early = λ place le. refl;
              connections_once = λ c. omega arith;
              connections_own = λ c h. absurd (omega arith);
              under_run = λ place x at_x h. absurd (omega arith);
              of_connections = λ place x at_x one not_end. absurd (let zero = zero_made place in omega arith);
              bare = λ _. refl;
              opened_is = refl;
              dones_is = refl;
              enough = omega arith;
            })
            (at_end (set s.views id left) right j u (length-set s.views id left) e);
      }

  pub joins : (id other : ℕ) (v w : View) → v.stage ≡ Idle → w.stage ≡ Idle → 0 < v.share → w.first ≡ v.first + v.share → Joins (Rule Stands metered opening) id v other w (joined v w) spent
  joins id other v w idle idle' share next s r at apart at' =
      let ok = r.each_seat id v at in
      let at_w : get_elem? s.views other ≡ some w = sym (set_else s.views id other (joined v w) apart) ∙ at' in
      let ok' = r.each_seat other w at_w in
      let both : View = joined v w in
      let views' : List View = set s.views id both in
      let none_v : tickets v ≡ 0 = ap tickets_at idle in
      let none_w : tickets w ≡ 0 = ap tickets_at idle' in
      let owner' : ℕ → ℕ = took_over r.owner id other in
      let belongs' : ℕ → ℕ = took_over r.belongs id other in
      let New : ℕ → View → Type 0 = SeatFits opening r.entries r.makers (s.homes ≡ none ∷ []) r.drawn r.served r.holder owner' belongs' in
      let later = longer_begins v.seen w.seen r.entries ok.begins ok'.begins in
      let late_v = begins_length (longer v.seen w.seen) v.seen later.2 in
      let late_w = begins_length (longer v.seen w.seen) w.seen later.3 in
      let two : (place : ℕ) → made_at v.first (v.share + w.share) r.makers place ≡ made_at v.first v.share r.makers place + made_at w.first w.share r.makers place =
      λ place. made_join v.first v.share w.share r.makers place ∙ ap (λ (z : ℕ). made_at v.first v.share r.makers place + made_at z w.share r.makers place) (sym next) in
      record {
        entries = r.entries;
        makers = r.makers;
        drawn = r.drawn;
        served = r.served;
        holder = r.holder;
        owner = owner';
        belongs = belongs';
        words = r.words;
        out = omega (arith, sum_set tickets s.views id v both at, sum_set tickets views' other w spent at', r.out);
        slot = slot_kept Stands r.entries r.served s.homes views' other w spent at' (λ e. absurd (cc (sym e ∙ idle'))) (slot_kept Stands r.entries r.served s.homes s.views id v both at (λ z. z) r.slot);
        longest = longest_joined r.entries s.views id other v w both at at_w apart later.0 later.2 later.3 r.longest;
        beside = r.beside;
        makers_below = r.makers_below;
        ledger = r.ledger;
        of_nobody = r.of_nobody;
        shares = omega (arith, sum_set share_of s.views id v both at, sum_set share_of views' other w spent at', r.shares);
        opened = omega (arith, sum_set opened_of s.views id v both at, sum_set opened_of views' other w spent at', r.opened);
        dones = omega (arith, sum_set dones_of s.views id v both at, sum_set dones_of views' other w spent at', r.dones);
        rooms = subst (RoomFits metered opening r.entries) (omega (arith, sum_set room_of s.views id v both at, sum_set room_of views' other w spent at')) r.rooms;
        each_seat = λ j u e. ⊎_elim
            (λ (t : (j ≡ other) × (spent ≡ u)). subst (New j) t.1 (spent_fits opening r.entries r.makers (s.homes ≡ none ∷ []) r.drawn r.served r.holder owner' belongs' j))
            (λ (t : (j ≢ other) × (get_elem? views' j ≡ some u)). ⊎_elim
            (λ (h : (j ≡ id) × (both ≡ u)). subst (λ (x : ℕ × View). New x.0 x.1) (λ i. (sym h.0 i, h.1 i)) record {
              begins = later.0;
              heard = later.1;
              turn = subst (HasTurn r.entries (s.homes ≡ none ∷ []) r.drawn r.served r.holder id (longer v.seen w.seen)) (sym idle) tt;
              one_ticket = omega arith;
              run = λ x low high. joined_run r.owner id other opening.workers v w ok.run ok'.run next (λ e. apart (sym e)) x low high (dec_lt x (v.first + v.share));
              some_share = λ none_left. absurd (omega arith);
              places = λ place. times-append place v.places w.places ∙ (ap₂ (λ (a b : ℕ). a + b) (ok.places place) (ok'.places place) ∙ sym (two place));
              early = λ place le. times-append place v.places w.places ∙ omega (arith, ok.early place (omega arith), ok'.early place (omega arith));
              connections_once = λ c. once_joined c v.connections w.connections (ok.connections_once c) (ok'.connections_once c) (λ here there. apart (sym (ok'.connections_own c there).0 ∙ (ok.connections_own c here).0));
              connections_own = λ c has. ⊎_elim
                  (λ here. let own = ok.connections_own c here in (took_over-other r.belongs id other c (λ z. apart (sym z ∙ own.0)) ∙ own.0, own.1))
                  (λ there. let own = ok'.connections_own c there in (took_over-same r.belongs id other c own.0, own.1))
                  (has_either c v.connections w.connections has);
              under_run = λ place x at_x has. let most = made_le v.first (v.share + w.share) r.makers place in let sum = two place in ⊎_elim
                  (λ here. let one = ok.under_run place x at_x here in omega arith)
                  (λ there. let one = ok'.under_run place x at_x there in omega arith)
                  (has_either x.conn v.connections w.connections has);
              of_connections = λ place x at_x one not_end. let sum = two place in let most = made_le v.first v.share r.makers place in
                  dite (dec_lt 0 (made_at v.first v.share r.makers place))
                  (λ here. has_left x.conn v.connections w.connections (ok.of_connections place x at_x (omega arith) not_end))
                  (λ not_here. has_right x.conn v.connections w.connections (ok'.of_connections place x at_x (omega arith) not_end));
              bare = λ empty. let parts = append_none v.places w.places empty in ap₂ (λ (xs ys : List ℕ). xs ++ ys) (ok.bare parts.0) (ok'.bare parts.1);
              opened_is = ap₂ (λ (a b : ℕ). a + b)
                  (ok.opened_is ∙ count_same (is_open_in (with_entries opening v.seen)) (is_open_in (with_entries opening (longer v.seen w.seen))) v.connections (λ c h. sym (grown opening r.entries r.makers r.owner r.belongs id v ok (longer v.seen w.seen) later.2 later.0 c h)))
                  (ok'.opened_is ∙ count_same (is_open_in (with_entries opening w.seen)) (is_open_in (with_entries opening (longer v.seen w.seen))) w.connections (λ c h. sym (grown opening r.entries r.makers r.owner r.belongs other w ok' (longer v.seen w.seen) later.3 later.0 c h)))
                  ∙ sym (count-append (is_open_in (with_entries opening (longer v.seen w.seen))) v.connections w.connections);
              dones_is = ap₂ (λ (a b : ℕ). a + b)
                  (ok.dones_is ∙ sym (dones_grown opening r.entries r.makers r.owner r.belongs id v ok (longer v.seen w.seen) later.2))
                  (ok'.dones_is ∙ sym (dones_grown opening r.entries r.makers r.owner r.belongs other w ok' (longer v.seen w.seen) later.3))
                  ∙ sym (count-append (is_done_at (longer v.seen w.seen)) v.places w.places);
              enough = let a = ok.enough in let b = ok'.enough in omega arith;
            })
            (λ (h : (j ≢ id) × (get_elem? s.views j ≡ some u)). let o = r.each_seat j u h.1 in record {
              begins = o.begins;
              heard = o.heard;
              turn = o.turn;
              one_ticket = o.one_ticket;
              run = λ x low high. let p = o.run x low high in (p.0, took_over-other r.owner id other x (λ z. t.0 (sym p.1 ∙ z)) ∙ p.1);
              some_share = o.some_share;
              places = o.places;
              early = o.early;
              connections_once = o.connections_once;
              connections_own = λ c has. let own = o.connections_own c has in (took_over-other r.belongs id other c (λ z. t.0 (sym own.0 ∙ z)) ∙ own.0, own.1);
              under_run = o.under_run;
              of_connections = o.of_connections;
              bare = o.bare;
              opened_is = o.opened_is;
              dones_is = o.dones_is;
              enough = o.enough;
            })
            (at_set s.views id j both u t.1))
            (at_set views' other j spent u e);
      }
