-- What all workers came to is what serving means, once the registry is closed and its history printed.
use Rattle.std.proofs.Common.{◌≡◌, inl, inr, ℕ, ◌+◌, ◌-◌, ◌^◌, ◌<◌, List, [], ◌∷◌, ◌++◌, length, Option, Some, None, Ok, Err, refl, sym, ap, subst, ◌∙◌, arith}
use Rattle.std.specs.List.{cons_option}
use Rattle.std.proofs.lemmas.List.Elements.{filter_map-append}
use Rattle.mm_outside.specs.Causes.{HasCause, Rose}
use Rattle.mm_outside.specs.Hall.{Links}
use Rattle.mm_outside.specs.HallCounts.{HallCounts}
use Rattle.mm_outside.specs.Octets.{Octets}
use Rattle.mm_outside.specs.Told.{Told}
use Rattle.mm_outside.specs.declared.hall.Back.{Back}
use Rattle.mm_outside.proofs.ToldLemmas.{Told-both, Told-map}
use Rattle.unit_registry.specs.Projects.{ProjectView}
use Rattle.histories.specs.declared.entry.Entry.{Entry}
use Rattle.histories.proofs.Members.{In, In-from_Contains}
use Rattle.registry_core.specs.Ledgers.{LedgerView, IsLedger, done_in, open_in, opened_in, reserved_in}
use Rattle.registry_core.proofs.Ready.{fits_in}
use Rattle.ruled_history.specs.declared.board.View.{View}
use Rattle.ruled_history.specs.Runs.{AreAllPlaces}
use Rattle.ruled_history.specs.Seats.{Sitting}
use Rattle.ruled_history.specs.Views.{Knows, first_view, with_entries}
use Rattle.ruled_history.proofs.Counts.{contains_had}
use Rattle.trace_text.specs.Texts.{trace}
use Rattle.mapper_server.specs.Backs.{AreReturned, IsReturned, Works, conns_of, new_back}
use Rattle.mapper_server.specs.Headline.{EndsPrinting, EachPair, IsOf, IsUsedUp, Serves, new_backs, told_all}
use Rattle.mapper_server.specs.Printing.{Prints}
use Rattle.mapper_server.specs.Serving.{HasNoRoom}
use Rattle.mapper_server.specs.Statuses.{IsLeast, Grew, less_of}
use Rattle.mapper_server.specs.Workers.{AllWork, IsLeft, ServesAmong}
use Rattle.mapper_server.proofs.Working.{new_back_is}
use Rattle.mapper_server.proofs.Halls.{Told-each, each_map}
use Rattle.mapper_server.proofs.Leasts.{least_both, less_up_first, less_up_second}
use Rattle.mapper_server.proofs.Numbers.{all_numbers}
use Rattle.mapper_server.proofs.Returning.{in_either}

-- ---- the connections of links that were served are below those that were opened

module _ {L : Type 0} (octets : L → Option Octets) (read_faults write_faults : L → ℕ) (history : LedgerView) (Full : Type 0) where
  conn_below : (conn : Option ℕ) (old new : L) (status : ℕ) (later : List (Back L)) (c : ℕ) → conn ≡ Some c → IsReturned octets read_faults write_faults history Full old new conn status later → c < opened_in history
  conn_below (Some conn) old new status later c is h = let same : conn ≡ c = cc (is) in subst (λ (n : ℕ). n < opened_in history) same h.opened
  conn_below None old new status later c is h = absurd (cc (is))

  one_below : (link : L) (back : Back L) (backs : List (Back L)) (c : ℕ) → IsReturned octets read_faults write_faults history Full link back.link back.conn back.status backs → (In c (conns_of backs) → c < opened_in history)
      → In c (conns_of (back ∷ backs)) → c < opened_in history
  one_below link back backs c returned rest there = by back.conn refl there
    where
      by : (conn : Option ℕ) → back.conn ≡ conn → In c (cons_option conn (conns_of backs)) → c < opened_in history
      by None is later = rest later
      by (Some conn) is (inl same) = conn_below back.conn link back.link back.status backs c (is ∙ ap (λ (n : ℕ). Some n) same) returned
      by (Some conn) is (inr later) = rest later

  conns_below : (given : List L) (backs : List (Back L)) (c : ℕ) → AreReturned octets read_faults write_faults history Full given backs → In c (conns_of backs) → c < opened_in history
  conns_below [] [] c h there = absurd there
  conns_below (link ∷ given) [] c h there = absurd h
  conns_below [] (back ∷ backs) c h there = absurd h
  conns_below (link ∷ given) (back ∷ backs) c h there = one_below link back backs c h.0 (conns_below given backs c h.1) there

  works_below : (old new : Links L) (c : ℕ) → Works octets read_faults write_faults history Full old new → In c (conns_of (new_back old new)) → c < opened_in history
  works_below old new c h there = conns_below h.given h.backs c h.returned (subst (λ (backs : List (Back L)). In c (conns_of backs)) (new_back_is old new h.backs h.back) there)

  -- what holds of a full history may be said otherwise
  module _ (Other : Type 0) (step : Full → Other) where
    returned_as : (conn : Option ℕ) (old new : L) (status : ℕ) (later : List (Back L)) → IsReturned octets read_faults write_faults history Full old new conn status later → IsReturned octets read_faults write_faults history Other old new conn status later
    returned_as (Some conn) old new status later h = record { opened = h.opened; how = h.how; status_is = h.status_is; served = h.served; causes = h.causes; was_full = h.was_full }
    returned_as None old new status later h = record { same = h.same; status_is = h.status_is; others = h.others; full = step h.full }

    all_as : (given : List L) (backs : List (Back L)) → AreReturned octets read_faults write_faults history Full given backs → AreReturned octets read_faults write_faults history Other given backs
    all_as [] [] h = tt
    all_as [] (back ∷ backs) h = absurd h
    all_as (link ∷ given) [] h = absurd h
    all_as (link ∷ given) (back ∷ backs) h = (returned_as back.conn link back.link back.status backs h.0, all_as given backs h.1)

    pub works_as : (old new : Links L) → Works octets read_faults write_faults history Full old new → Works octets read_faults write_faults history Other old new
    works_as old new h = record { given = h.given; backs = h.backs; taken = h.taken; back = h.back; returned = all_as h.given h.backs h.returned }

module _ {L : Type 0} (octets : L → Option Octets) (read_faults write_faults : L → ℕ) (history : LedgerView) (connections : List ℕ) where
  all_below : (olds news : List (Links L)) (c : ℕ) → EachPair (ServesAmong octets read_faults write_faults history connections) olds news → In c (conns_of (new_backs olds news)) → c < opened_in history
  all_below [] news c h there = absurd there
  all_below (old ∷ olds) [] c h there = absurd h
  all_below (old ∷ olds) (new ∷ news) c h there =
      elim (in_either c (conns_of (new_back old new)) (conns_of (new_backs olds news)) (subst (λ (cs : List ℕ). In c cs) (filter_map-append (λ (back : Back L). back.conn) (new_back old new) (new_backs olds news)) there)) [
        | inl here ↦ works_below octets read_faults write_faults history (HasNoRoom history) old new c h.0.works here
        | inr later ↦ all_below olds news c h.1 later
      ]

-- ---- the status of the printing

module _ {T E : Type 0} (before now : ℕ) where
  pub prints_well : (value : T) → HasCause {T = T} {E = E} before now (Ok value) → IsLeast (EndsPrinting Rose before now) (EndsPrinting Grew before now) 0
  prints_well value cause = record {
    cause = inl refl;
    least = λ other positive counts. absurd (let same : now ≡ before = cause.kept in let grew = counts.1 in omega (arith, same, grew));
  }

  pub prints_badly : (error : E) → HasCause {T = T} {E = E} before now (Err error) → IsLeast (EndsPrinting Rose before now) (EndsPrinting Grew before now) 5
  prints_badly error cause = record {
    cause = inr (refl, cause.failed);
    least = λ other positive counts. (let is = counts.0 in (omega arith, omega (arith, is)));
  }

-- ---- serving

-- a history of which all workers are done has no room for a connection only where it is used up
full_is : (history : LedgerView) → done_in history ≡ history.workers → open_in history ≡ 0 → HasNoRoom history → IsUsedUp history
full_is history done closed none =
    let ends : reserved_in history ≡ open_in history + history.workers - done_in history = refl in
    omega (arith, done, closed, none, ends)

module _ {H L : Type 0} (links : H → Option (Links L)) (hall_faults : H → ℕ) (counts : H → HallCounts) (octets : L → Option Octets) (read_faults write_faults : L → ℕ)
    (opening : LedgerView) (after : View) (before now : List H) (all : ℕ) (work : AllWork links hall_faults counts octets read_faults write_faults opening after before now all)
    (knows : Knows opening after) (places : AreAllPlaces after.places (length after.seen)) where
  each_once : Told (λ (old new : List (Links L)). AreAllPlaces (conns_of (new_backs old new)) (opened_in (with_entries opening after.seen))) (told_all links before) (told_all links now)
  each_once =
      Told-both (λ olds news conns each. subst (λ (cs : List ℕ). AreAllPlaces cs (opened_in (with_entries opening after.seen))) conns
      (all_numbers opening after knows places (λ conn has. all_below octets read_faults write_faults (with_entries opening after.seen) after.connections olds news conn each
      (subst (λ (cs : List ℕ). In conn cs) conns (In-from_Contains conn after.connections (contains_had conn after.connections has))))))
      work.conns (Told-each links (ServesAmong octets read_faults write_faults (with_entries opening after.seen) after.connections) before now work.served)

  pub serves : (history : LedgerView) (printed sink_before sink_now : ℕ) (out_before out_now : Option (List ℕ)) → history ≡ with_entries opening after.seen → done_in history ≡ history.workers → open_in history ≡ 0
      → Told (Prints (trace history.workers history.limit history.entries) sink_before sink_now) out_before out_now → IsLeast (EndsPrinting Rose sink_before sink_now) (EndsPrinting Grew sink_before sink_now) printed
      → Serves links hall_faults octets read_faults write_faults history before now (less_of all printed) sink_before sink_now out_before out_now
  serves history printed sink_before sink_now out_before out_now is done closed prints ends = record {
    printed = prints;
    over = record { legal = subst IsLedger (sym is) knows.ledger; done = done; closed = closed };
    served = subst (λ (seen : LedgerView). EachPair (λ (old new : H). Told (Works octets read_faults write_faults seen (IsUsedUp seen)) (links old) (links new)) before now) (sym is)
        (each_map (λ (old new : H). Told (ServesAmong octets read_faults write_faults (with_entries opening after.seen) after.connections) (links old) (links new))
        (λ (old new : H). Told (Works octets read_faults write_faults (with_entries opening after.seen) (IsUsedUp (with_entries opening after.seen))) (links old) (links new))
        (λ old new told. Told-map (λ a b among. works_as octets read_faults write_faults (with_entries opening after.seen) (HasNoRoom (with_entries opening after.seen)) (IsUsedUp (with_entries opening after.seen)) full a b among.works) told)
        before now work.served);
    one_each = subst (λ (seen : LedgerView). Told (λ (old new : List (Links L)). AreAllPlaces (conns_of (new_backs old new)) (opened_in seen)) (told_all links before) (told_all links now)) (sym is) each_once;
    used_up = work.used_up;
    status_is = Told-map (λ old new least. least_both least ends) work.status_is;
    hall_fault = λ some. less_up_first 4 all printed (work.hall_fault some);
    sink_fault = λ grew. less_up_second 5 all printed (ends.least 5 (omega arith) (refl, grew));
  }
    where
      full : HasNoRoom (with_entries opening after.seen) → IsUsedUp (with_entries opening after.seen)
      full = subst (λ (seen : LedgerView). HasNoRoom seen → IsUsedUp seen) is (full_is history done closed)

-- ---- the registry is closed

module _ {H L : Type 0} (links : H → Option (Links L)) (hall_faults : H → ℕ) (counts : H → HallCounts) (octets : L → Option Octets) (read_faults write_faults : L → ℕ)
    (project : ProjectView) (workers limit count : ℕ) (opening history : LedgerView) (is_blank : opening ≡ record { project = project; workers = workers; limit = limit; entries = [] })
    (stands : history ≡ with_entries opening history.entries) (counted : count ≡ length history.entries) where
  pub is_of : IsOf project workers limit count history
  is_of = record {
    project_is = ap (λ (l : LedgerView). l.project) stands ∙ ap (λ (l : LedgerView). l.project) is_blank;
    workers_is = ap (λ (l : LedgerView). l.workers) stands ∙ ap (λ (l : LedgerView). l.workers) is_blank;
    limit_is = ap (λ (l : LedgerView). l.limit) stands ∙ ap (λ (l : LedgerView). l.limit) is_blank;
    count_is = counted;
  }

  pub has_served : (seat left : Sitting) (before now : List H) (all printed status sink_before sink_now : ℕ) (out_before out_now : Option (List ℕ))
      → seat.knows ≡ first_view workers 0 → IsLeft seat left → history.entries ≡ left.knows.seen → AreAllPlaces left.knows.places (length history.entries) → open_in history ≡ left.knows.opened → done_in history ≡ left.knows.dones → Knows opening left.knows
      → AllWork links hall_faults counts octets read_faults write_faults opening left.knows before now all
      → Told (Prints (trace workers limit history.entries) sink_before sink_now) out_before out_now → IsLeast (EndsPrinting Rose sink_before sink_now) (EndsPrinting Grew sink_before sink_now) printed → status ≡ less_of all printed
      → Serves links hall_faults octets read_faults write_faults history before now status sink_before sink_now out_before out_now
  has_served seat left before now all printed status sink_before sink_now out_before out_now begins ends seen places opened dones knows work prints least is =
      subst (λ (s : ℕ). Serves links hall_faults octets read_faults write_faults history before now s sink_before sink_now out_before out_now) (sym is)
      (serves links hall_faults counts octets read_faults write_faults opening left.knows before now all work knows (subst (λ (es : List Entry). AreAllPlaces left.knows.places (length es)) seen places)
      history printed sink_before sink_now out_before out_now (stands ∙ ap (with_entries opening) seen)
      (dones ∙ ends.dones_is ∙ ap (λ (v : View). v.share) begins ∙ sym is_of.workers_is) (opened ∙ ends.opened_is)
      (subst (λ (n : ℕ × ℕ). Told (Prints (trace n.0 n.1 history.entries) sink_before sink_now) out_before out_now) (λ i. (sym is_of.workers_is i, sym is_of.limit_is i)) prints) least)

-- a history has not more entries than a number of 32 bits counts
pub few_entries : (opening : LedgerView) (entries : List Entry) → IsLedger (with_entries opening entries) → length entries < 2 ^ 31
few_entries opening entries ledger = let fits = fits_in (with_entries opening entries) ledger in let small = ledger.small in omega (arith, fits, small)
