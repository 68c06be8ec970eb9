-- Recording an entry keeps the rule.
use Rattle.std.proofs.Common.{◌≡◌, ◌⊎◌, ⊎_elim, ℕ, ◌+◌, ◌-◌, ◌%◌, ◌^◌, ◌<◌, ◌≤◌, nat_lt, Bool, true, false, List, [], ◌∷◌, ◌++◌, length, get_or, set, Some, IsTrue, IsFalse, refl, sym, ap, subst, ◌∙◌, inl, inr, arith, length-append}
use Rattle.std.specs.Prelude.{Option, sum_by, count_by, slice_get, if◌then◌else◌}
use Rattle.std.proofs.lemmas.Bool.Decides.{nat_tests}
use Rattle.std.proofs.lemmas.List.Elements.{All-push}
use Rattle.std.proofs.lemmas.Option.{slice_get_within}
use mathlib.Core.Option.{some, none}
use lib.ListN.{get_elem?}
use Rattle.atomic_table.specs.Table.{step, stepped, keeps, Allows}
use Rattle.atomic_table.proofs.Lists.{set_here}
use Rattle.unit_registry.specs.Acts.{is_done}
use Rattle.histories.specs.declared.entry.Entry.{Entry}
use Rattle.histories.specs.Entries.{no_connection, IsTraceEntry}
use Rattle.histories.specs.Counts.{effect_of}
use Rattle.registry_core.specs.Ledgers.{LedgerView, IsLedger, Passes, is_open_in, opened_in}
use Rattle.registry_core.specs.Desks.{connections_with, uses}
use Rattle.ruled_history.specs.declared.board.View.{View}
use Rattle.ruled_history.specs.declared.board.Stage.TheVariants.{Serves}
use Rattle.ruled_history.specs.Runs.{StartsWith, Has, in_run}
use Rattle.ruled_history.specs.Rule.{HasTurn, SeatFits, RoomFits}
use Rattle.ruled_history.specs.Steps.{AtTurn, recorded}
use Rattle.ruled_history.specs.Views.{with_entries, tickets, share_of, opened_of, dones_of, room_of, adds, MayAdd}
use Rattle.ruled_history.proofs.Counts.{sum_set, in_list, begins_all, begins_more, snoc_same, got_end, in_run_out, made_before, made_last, made_here, own_place, own_early, other_place}
use Rattle.ruled_history.proofs.Histories.{opens, goes, ends, fits_in, ledger_push, opened_more, open_more, done_more, reserved_more, few_opened, numbered}
use Rattle.ruled_history.proofs.OwnEntries.{Changes, changes, dones_with}
use Rattle.ruled_history.proofs.Fitting.{known, seats_set, turn_recorded, slot_away, slot_kept}
use Rattle.ruled_history.proofs.Turning.{Rule, Fits, at_turn}

-- the seats of connections, after the next one goes to a seat
abbrev now_belongs : (ℕ → ℕ) → ℕ → ℕ → ℕ → ℕ
now_belongs belongs next seat c = if nat_lt c next then belongs c else seat

now_belongs-other : (belongs : ℕ → ℕ) (next seat c : ℕ) → c < next → now_belongs belongs next seat c ≡ belongs c
now_belongs-other belongs next seat c lt = grind (arith, nat_tests)

now_belongs-new : (belongs : ℕ → ℕ) (next seat c : ℕ) → next ≤ c → now_belongs belongs next seat c ≡ seat
now_belongs-new belongs next seat c le = grind (arith, nat_tests)

same_hand : {B : Type 0} (b b' : B) → ◌≡◌ {A = List (ℕ × Option B)} ((0, Some b) ∷ []) ((0, Some b') ∷ []) → b' ≡ b
same_hand {B} b b' e = let heads : ◌≡◌ {A = ℕ × Option B} (0, Some b) (0, Some b') = cc in let books : Some b ≡ Some b' = ap (λ (x : ℕ × Option B). x.1) heads in cc

either_metered : (metered : Bool) → (IsTrue metered) ⊎ (IsFalse metered)
either_metered true = inl refl
either_metered false = inr refl

module _ {B : Type 0} (Stands : B → List Entry → Type 0) (metered : Bool) (opening : LedgerView) where
  -- the rooms after an entry, which uses some of the seat's room
  room_recorded : (entries : List Entry) (views : List View) (id : ℕ) (v w : View) (newest : Entry) → get_elem? views id ≡ some v → w.room ≡ v.room - uses (effect_of newest.act) → (IsTrue metered → uses (effect_of newest.act) ≤ v.room)
      → 1 + opens (effect_of newest.act) ≡ uses (effect_of newest.act) + goes (effect_of newest.act) + ends (effect_of newest.act)
      → IsLedger (with_entries opening (entries ++ newest ∷ [])) → RoomFits metered opening entries (sum_by room_of views) → RoomFits metered opening (entries ++ newest ∷ []) (sum_by room_of (set views id w))
  room_recorded entries views id v w newest at used enough cost now rooms =
      let sum = sum_set room_of views id v w at in
      let more = reserved_more opening entries newest now in
      let long = length-append entries (newest ∷ []) in
      let fits = fits_in opening (entries ++ newest ∷ []) now in
      let all = rooms.all_rooms in record {
        all_rooms = ⊎_elim
            (λ (yes_metered : IsTrue metered). let some_room = enough yes_metered in omega arith)
            (λ (not_metered : IsFalse metered). let none_kept = rooms.no_room not_metered in omega arith)
            (either_metered metered);
        no_room = λ not_metered. let none_kept = rooms.no_room not_metered in omega arith;
      }

  pub records : (entries_of : B → List Entry) (slots id t : ℕ) (v : View) (b : B) (e : Entry) → v.stage ≡ Serves t → 0 < v.share → MayAdd metered v e → entries_of b ≡ v.seen ++ e ∷ [] → Stands b (v.seen ++ e ∷ []) → Passes (with_entries opening v.seen) e → IsTraceEntry e
      → Allows (Rule Stands metered opening) slots id (v, (0, Some b) ∷ []) 2 (λ k. (k + 1) % 2 ^ 64) (recorded entries_of (AtTurn Stands opening) (step slots 2 1 0 none) (v, (0, Some b) ∷ []))
  records entries_of slots id t v b e serves share may ended stands passes written s r sized at fits =
      let ok = r.each_seat id v at in
      let turn : HasTurn r.entries (s.homes ≡ none ∷ []) r.drawn r.served r.holder id v.seen (Serves t) = subst (HasTurn r.entries (s.homes ≡ none ∷ []) r.drawn r.served r.holder id v.seen) serves ok.turn in
      let w : View = adds e v in
      let mine : r.holder r.served ≡ id = ap r.holder (sym turn.0) ∙ turn.2 in
      let log' : List Entry = r.entries ++ e ∷ [] in
      let by' : List ℕ = r.makers ++ v.first ∷ [] in
      let whole : v.seen ++ e ∷ [] ≡ log' = ap (λ l. l ++ e ∷ []) turn.3 in
      let long : length log' ≡ length r.entries + 1 = length-append r.entries (e ∷ []) in
      let passes' : Passes (with_entries opening r.entries) e = subst (λ (es : List Entry). Passes (with_entries opening es) e) turn.3 passes in
      let legal' : IsLedger (with_entries opening log') = ledger_push opening r.entries e r.ledger passes' written in
      let fits' = fits_in opening log' legal' in
      let small = r.ledger.small in
      let beside = r.beside in
      let end : length v.seen ≡ length r.makers = ap length turn.3 ∙ sym beside in
      let number = ok.run v.first (omega arith) (omega arith) in
      let numbers = numbered opening r.entries r.ledger r.of_nobody in
      let few_conns = few_opened opening r.entries r.ledger in
      let does : Changes opening metered r.entries r.belongs id v e (effect_of e.act) = changes opening metered r.entries r.makers r.owner r.belongs id v ok turn.3 r.ledger e legal' passes' may in
      let cost = does.cost in
      let next : ℕ = opened_in (with_entries opening r.entries) in
      let opened_more' = opened_more opening r.entries e legal' in
      let belongs' : ℕ → ℕ = now_belongs r.belongs next id in
      let far : (place : ℕ) (x : Entry) → slice_get r.entries place ≡ Some x → place < length r.makers = λ place x old. let there = slice_get_within r.entries place x old in omega arith in
      let now : Rule Stands metered opening (stepped s 2 ((get_or s.words 2 0 + 1) % 2 ^ 64) id ((0, Some b) ∷ []) w keeps) = (
      record {
        entries = log';
        makers = by';
        drawn = r.drawn;
        served = r.served;
        holder = r.holder;
        owner = r.owner;
        belongs = belongs';
        words = ap (λ ws. set ws 2 ((get_or ws 2 0 + 1) % 2 ^ 64)) r.words ∙ ap (λ (z : ℕ). r.drawn % 2 ^ 64 ∷ r.served % 2 ^ 64 ∷ z ∷ []) (omega arith);
        out = omega (arith, sum_set tickets s.views id v w at, r.out);
        slot = slot_away Stands r.entries log' r.served s.homes (set s.views id w) turn.4 (slot_kept Stands r.entries r.served s.homes s.views id v w at (λ z. z) r.slot);
        longest = (id, w, set_here s.views id w (in_list s.views id v at), whole);
        beside = omega (arith, length-append r.makers (v.first ∷ []));
        makers_below = All-push (λ (maker : ℕ). maker < opening.workers) r.makers v.first r.makers_below number.0;
        ledger = legal';
        of_nobody = All-push (λ (x : Entry). IsTrue (is_done x.act) → x.conn ≡ no_connection) r.entries e r.of_nobody does.nobody;
        shares = omega (arith, sum_set share_of s.views id v w at, r.shares);
        opened = omega (arith, sum_set opened_of s.views id v w at, r.opened, does.opened, open_more opening r.entries e legal', does.left_some);
        dones = omega (arith, sum_set dones_of s.views id v w at, r.dones, does.dones, done_more opening r.entries e legal');
        rooms = room_recorded r.entries s.views id v w e at refl does.enough does.cost legal' r.rooms;
        each_seat = seats_set (Fits Stands metered opening s r) (SeatFits opening log' by' (s.homes ≡ none ∷ []) r.drawn r.served r.holder r.owner belongs') s.views id w
            record {
              begins = subst (λ (l : List Entry). StartsWith l (v.seen ++ e ∷ [])) whole (begins_all (v.seen ++ e ∷ []));
              heard = begins_more v.seen v.heard (e ∷ []) ok.heard;
              turn = subst (HasTurn log' (s.homes ≡ none ∷ []) r.drawn r.served r.holder id (v.seen ++ e ∷ [])) (sym serves) (turn.0, turn.1, turn.2, whole, turn.4);
              one_ticket = ok.one_ticket;
              run = ok.run;
              some_share = λ none_left. absurd (omega arith);
              places = λ place. own_place v.first v.share r.makers v.places place (length v.seen) end share (ok.places place);
              early = λ place le. own_early v.places place (length v.seen) (omega (arith, length-append v.seen (e ∷ []))) (ok.early place (omega (arith, length-append v.seen (e ∷ []))));
              connections_once = does.connections_once;
              connections_own = λ c has. ⊎_elim (λ old. let own = ok.connections_own c old in (now_belongs-other r.belongs next id c own.1 ∙ own.0, omega (arith, own.1)))
                  (λ (new : (opens (effect_of e.act) ≡ 1) × (c ≡ next)). (now_belongs-new r.belongs next id c (omega (arith, new.1)), omega (arith, new.0, new.1))) (does.came c has);
              under_run = λ place x at_x has. ⊎_elim
                  (λ old. ⊎_elim (λ was. made_before v.first v.share r.makers v.first place (far place x old) ∙ ok.under_run place x old was)
                  (λ (new : (opens (effect_of e.act) ≡ 1) × (x.conn ≡ next)). absurd (let no_one = numbers place x old (omega (arith, new.1)) in omega (arith, new.1))) (does.came x.conn has))
                  (λ (new : (place ≡ length r.entries) × (e ≡ x)). made_here v.first v.share r.makers place (omega (arith, new.0)) share)
                  (got_end r.entries e place x at_x);
              of_connections = λ place x at_x one not_end. ⊎_elim
                  (λ old. does.stay x.conn (ok.of_connections place x old (sym (made_before v.first v.share r.makers v.first place (far place x old)) ∙ one) not_end))
                  (λ (new : (place ≡ length r.entries) × (e ≡ x)). subst (λ (y : Entry). Has y.conn (connections_with (effect_of e.act) e.conn v.connections)) new.1 (does.own (ap (λ (y : Entry). is_done y.act) new.1 ∙ not_end)))
                  (got_end r.entries e place x at_x);
              bare = λ empty. absurd (let none_there = length-append v.places (length v.seen ∷ []) in let zero_long = ap length empty in omega arith);
              opened_is = does.opened_is ∙ ap (λ (l : List Entry). count_by (is_open_in (with_entries opening l)) (connections_with (effect_of e.act) e.conn v.connections)) (sym whole);
              dones_is = dones_with opening metered r.entries r.makers r.owner r.belongs id v ok turn.3 r.ledger e;
              enough = does.seats;
            }
            (λ j u ne o.
            let out : in_run u.first u.share v.first ≡ 0 = in_run_out u.first u.share v.first (λ h l. ne (sym (o.run v.first h l).1 ∙ number.1)) in record {
              begins = begins_more r.entries u.seen (e ∷ []) o.begins;
              heard = o.heard;
              turn = turn_recorded r.entries log' (s.homes ≡ none ∷ []) r.drawn r.served r.holder id j u.seen mine ne u.stage o.turn;
              one_ticket = o.one_ticket;
              run = o.run;
              some_share = o.some_share;
              places = λ place. o.places place ∙ other_place u.first u.share r.makers v.first place (λ h l. ne (sym (o.run v.first h l).1 ∙ number.1));
              early = o.early;
              connections_once = o.connections_once;
              connections_own = λ c has. let own = o.connections_own c has in (now_belongs-other r.belongs next id c own.1 ∙ own.0, omega (arith, own.1));
              under_run = λ place x at_x has. ⊎_elim
                  (λ old. made_before u.first u.share r.makers v.first place (far place x old) ∙ o.under_run place x old has)
                  (λ (new : (place ≡ length r.entries) × (e ≡ x)). absurd (let own = o.connections_own x.conn has in ne (sym own.0 ∙ (ap (λ (y : Entry). r.belongs y.conn) (sym new.1) ∙ does.not_others (let is = ap (λ (y : Entry). y.conn) new.1 in let lt = own.1 in omega arith)))))
                  (got_end r.entries e place x at_x);
              of_connections = λ place x at_x one not_end. ⊎_elim
                  (λ old. o.of_connections place x old (sym (made_before u.first u.share r.makers v.first place (far place x old)) ∙ one) not_end)
                  (λ (new : (place ≡ length r.entries) × (e ≡ x)). absurd (let none_here = made_last u.first u.share r.makers v.first place (omega (arith, new.0)) ∙ out in omega arith))
                  (got_end r.entries e place x at_x);
              bare = o.bare;
              opened_is = o.opened_is;
              dones_is = o.dones_is;
              enough = o.enough;
            })
            r.each_seat;
      }) in
      let told : AtTurn Stands opening b w.seen w = at_turn Stands metered opening (stepped s 2 ((get_or s.words 2 0 + 1) % 2 ^ 64) id ((0, Some b) ∷ []) w keeps) now id w w b (set_here s.views id w (in_list s.views id v at)) refl refl refl refl whole (known opening log' by' r.owner belongs' id w (now.each_seat id w (set_here s.views id w (in_list s.views id v at))) legal' now.of_nobody) refl (subst (Stands b) whole stands) in (
        w,
        keeps,
        tt,
        now,
        λ b' e' in_hand ends'. let same_b : b' ≡ b = same_hand b b' in_hand in let same_e : e' ≡ e = snoc_same v.seen e' e (sym ends' ∙ (ap entries_of same_b ∙ ended)) in (ap (λ (x : Entry). (adds x v, (0, Some b) ∷ [])) (sym same_e), subst (λ (z : B). AtTurn Stands opening z w.seen w) (sym same_b) told),
      )
