-- Where all workers' connections have paused, some open connection does not wait.
use Rattle.std.proofs.Common.{◌≡◌, ◌≢◌, ℕ, Bool, true, false, not, ◌&&◌, ◌==◌, ◌+◌, ◌⊎◌, inl, inr, List, [], ◌∷◌, length, map, filter, Contains, Option, Some, None, is_none, IsTrue, IsFalse, refl, sym, ap, ap₂, subst, ◌∙◌, arith, true≢false, eq-eqb, eqb-true, ne_eqb}
use Rattle.std.proofs.lemmas.Bool.{both_ways, not-true, or_parts, and_parts, and_from, and_cases, not_from_false, cond-true, cond-false}
use Rattle.std.specs.List.{list_any, list_all}
use Rattle.std.specs.Option.{option_map_or, option_or}
use Rattle.histories.specs.declared.entry.Entry.{Entry}
use Rattle.histories.specs.declared.standing.Who.TheVariants.{Holder}
use Rattle.unit_registry.specs.Projects.{ProjectView}
use Rattle.histories.specs.declared.answered.Wait.{Wait}
use Rattle.histories.specs.Answered.{opened, open_connections, is_open, has_gone, done_count, is_paused, who, holder, told_to_wait}
use Rattle.histories.specs.Noted.{Noted, answered_of, is_given_up, fate, answer_by, ending, reply_in, coming_reply, pending, pair_of, waits}
use Rattle.histories.specs.declared.answered.Answered.{Answered}
use Rattle.histories.specs.Histories.{and_then, is_waiting, is_stalled, given_up, noted_of, IsLegal}
use Rattle.histories.proofs.Members.{In, In-from_Contains, Contains-from_In, In-filter, In-filter_from, In-filter_map, In-filter_map_from, In-map_from, any_to, any_from}
use Rattle.wait_graph.proofs.LastPairs.{last_from}
use Rattle.histories.proofs.OneEntry.{is_open-parts, is_open-from, HasNotEnded-from, none_from_HasNotEnded, StandsAt, stands_at, answered-cases}
use Rattle.histories.proofs.WhatIsSaid.{waits_by_import}
use Rattle.histories.specs.Answers.{at_once}
use Rattle.unit_registry.specs.Acts.{is_pause}
use Rattle.histories.specs.declared.answer.Said.TheVariants.{Waits}
use Rattle.std.proofs.lemmas.List.{length-map}
use Rattle.std.specs.Prelude.{option_map, option_and_then}
use Rattle.histories.proofs.Acyclic.{IsKept, IsAfter, noted_entry, pair_parts, kept-more, legal_is_kept}

-- a test of all elements
all_to : {A : Type 0} (p : A → Bool) (x : A) → (xs : List A) → list_all p xs ≡ true → In x xs → p x ≡ true
all_to p x [] h there = absurd there
all_to p x (y ∷ ys) h (inl e) = subst (λ z. p z ≡ true) e (and_parts (p y) (list_all p ys) h).0
all_to p x (y ∷ ys) h (inr there) = all_to p x ys (and_parts (p y) (list_all p ys) h).1 there

all_from : {A : Type 0} (p : A → Bool) → (xs : List A) → ((x : A) → In x xs → p x ≡ true) → list_all p xs ≡ true
all_from p [] h = refl
all_from p (y ∷ ys) h = and_from (p y) (list_all p ys) (h y (inl refl)) (all_from p ys (λ x there. h x (inr there)))

all_fails : {A : Type 0} (p : A → Bool) → (xs : List A) → list_all p xs ≡ false → (x : A) × In x xs × (p x ≡ false)
all_fails p [] h = absurd (true≢false h)
all_fails p (y ∷ ys) h =
    elim (and_cases (p y) (list_all p ys) h) [
      | inl here ↦ (y, inl refl, here)
      | inr there ↦ (let r = all_fails p ys there in (r.0, inr r.1, r.2))
    ]

some_in : {A : Type 0} (xs : List A) → length xs ≢ 0 → (x : A) × In x xs
some_in [] h = absurd (h refl)
some_in (x ∷ xs) h = (x, inl refl)

pub open_in : (answered : List Answered) (conn : ℕ) → In conn (open_connections answered) → is_open answered conn ≡ true
open_in answered conn there =
    let kept = In-filter (λ c. not (has_gone answered c)) conn (opened answered) there in
    is_open-from answered conn kept.0 (not-true (has_gone answered conn) kept.1)

pub in_open : (answered : List Answered) (conn : ℕ) → is_open answered conn ≡ true → In conn (open_connections answered)
in_open answered conn h =
    let parts = is_open-parts answered conn h in
    In-filter_from (λ c. not (has_gone answered c)) conn (not_from_false (has_gone answered conn) parts.1) (opened answered) parts.0

-- an import that still waits
record IsPending (project : ProjectView) (noted : List Noted) (w : Wait) : Type 0 where
  is_told : In w (told_to_wait (answered_of noted))
  still_open : is_open (answered_of noted) w.conn ≡ true
  no_reply : is_none (reply_in project noted w.place) ≡ true

IsPending-from : (project : ProjectView) (noted : List Noted) (w : Wait) → In w (pending project noted) → IsPending project noted w
IsPending-from project noted w there =
    let kept = In-filter (λ x. is_open (answered_of noted) x.conn && is_none (reply_in project noted x.place)) w (told_to_wait (answered_of noted)) there in
    let parts = and_parts (is_open (answered_of noted) w.conn) (is_none (reply_in project noted w.place)) kept.1 in
    record { is_told = kept.0; still_open = parts.0; no_reply = parts.1 }

pending_from : (project : ProjectView) (noted : List Noted) (w : Wait) → IsPending project noted w → In w (pending project noted)
pending_from project noted w h =
    In-filter_from (λ x. is_open (answered_of noted) x.conn && is_none (reply_in project noted x.place)) w (and_from _ _ h.still_open h.no_reply) (told_to_wait (answered_of noted)) h.is_told

waiting_to : (project : ProjectView) (noted : List Noted) (conn : ℕ) → is_waiting project noted conn ≡ true → (w : Wait) × In w (pending project noted) × (w.conn ≡ conn)
waiting_to project noted conn h =
    let found = any_to (λ w. w.conn == conn) (pending project noted) h in
    (found.0, found.1, eqb-true found.0.conn conn found.2)

-- the history at which an entry's stall is judged, before anything is given up with it, and the one with what is given up
abbrev judged : ProjectView → List Noted → Entry → List Noted
judged project before entry = noted_entry project before entry [] ∷ before

abbrev after : ProjectView → List Noted → Entry → List ℕ → List Noted
after project before entry given = noted_entry project before entry given ∷ before

-- an import that still waits at a Pause: it waited before, and its unit hasn't ended
record Awaits (project : ProjectView) (before now : List Noted) (w : Wait) : Type 0 where
  is_told : In w (told_to_wait (answered_of before))
  at : StandsAt (answered_of before) w
  stays : has_gone (answered_of before) w.conn ≡ false
  no_reply : is_none (reply_in project before w.place) ≡ true
  not_ended : is_none (fate project now w.unit) ≡ true

option_or_parts : {A : Type 0} (o p : Option A) → is_none (option_or o p) ≡ true → (is_none o ≡ true) × (is_none p ≡ true)
option_or_parts None p h = (refl, h)
option_or_parts (Some x) p h = absurd (true≢false (sym h))

none_mapped : {A B : Type 0} (f : A → B) (o : Option A) → is_none (option_map f o) ≡ true → is_none o ≡ true
none_mapped f None h = refl
none_mapped f (Some x) h = h

mapped_none : {A B : Type 0} (f : A → B) (o : Option A) → is_none o ≡ true → is_none (option_map f o) ≡ true
mapped_none f None h = refl
mapped_none f (Some x) h = h

-- the reply that comes with the newest entry to one who was told to wait before
pub coming_is : (project : ProjectView) (newest : Noted) (before : List Noted) (w : Wait) → StandsAt (answered_of before) w → has_gone (answered_of before) w.conn ≡ false → coming_reply project newest before w.place ≡ option_map (λ f. answer_by f w.unit) (fate project (newest ∷ before) w.unit)
coming_is project newest before w at stays =
    let other : w.place ≢ length before = λ e. (let l = at.within in let m : length (answered_of before) ≡ length before = length-map before (λ (x : Noted). x.answered) in omega arith) in
    cond-false _ _ _ (ne_eqb w.place (length before) other)
    ∙ ap (λ o. option_and_then (λ (x : Answered). ending project before (newest ∷ before) x.conn x.said) o) at.is_there
    ∙ ap₂ (λ c s. ending project before (newest ∷ before) c s) at.conn at.said
    ∙ cond-true _ _ _ (not_from_false (has_gone (answered_of before) w.conn) stays)

awaits : (project : ProjectView) (before : List Noted) (newest : Noted) (w : Wait) → is_paused (newest.answered ∷ answered_of before) w.conn ≡ true → IsKept project before → IsPending project (newest ∷ before) w → (newest.answered.said ≡ Waits w.unit → is_pause newest.answered.act ≡ false) → Awaits project before (newest ∷ before) w
awaits project before newest w paused kept h asks = by (answered-cases newest.answered (answered_of before) w h.is_told)
  where
    by : ((newest.answered.said ≡ Waits w.unit) × (newest.answered.conn ≡ w.conn)) ⊎ In w (told_to_wait (answered_of before)) → Awaits project before (newest ∷ before) w
    by (inl new) =
        let here : is_pause newest.answered.act ≡ true = sym (cond-true _ _ _ (eq-eqb newest.answered.conn w.conn new.1)) ∙ paused in
        absurd (both_ways (is_pause newest.answered.act) (asks new.0) here)
    by (inr there) =
        let at = stands_at (answered_of before) w there in
        let parts = option_or_parts (reply_in project before w.place) (coming_reply project newest before w.place) h.no_reply in
        let now_open = is_open-parts (newest.answered ∷ answered_of before) w.conn h.still_open in
        let stays = (or_parts _ (has_gone (answered_of before) w.conn) now_open.1).1 in
        record {
          is_told = there;
          at = at;
          stays = stays;
          no_reply = parts.0;
          not_ended = none_mapped (λ f. answer_by f w.unit) (fate project (newest ∷ before) w.unit) (subst (λ o. is_none o ≡ true) (coming_is project newest before w at stays) parts.1);
        }

option_or_none : {A : Type 0} (o p : Option A) → is_none o ≡ true → is_none p ≡ true → is_none (option_or o p) ≡ true
option_or_none None p a b = b
option_or_none (Some x) p a b = a

-- one who is told to wait is answered so of an import, and not of a Pause
asks_no_pause : (project : ProjectView) (before : List Noted) (entry : Entry) (unit : ℕ) → at_once project before entry.conn entry.act ≡ Waits unit → is_pause entry.act ≡ false
asks_no_pause project before entry unit said =
    subst (λ a. is_pause a ≡ false) (sym (waits_by_import project before entry.conn entry.act unit said).is_import) refl

was_pending : (project : ProjectView) (before : List Noted) (entry : Entry) (given : List ℕ) (w : Wait) → is_paused (answered_of (after project before entry given)) w.conn ≡ true → IsKept project before → In w (pending project (after project before entry given)) → Awaits project before (after project before entry given) w × In w (pending project (judged project before entry))
was_pending project before entry given w paused kept there =
    let e : Noted = noted_entry project before entry given in
    let m : Noted = noted_entry project before entry [] in
    let h = IsPending-from project (after project before entry given) w there in
    let a = awaits project before e w paused kept h (asks_no_pause project before entry w.unit) in
    let n = HasNotEnded-from project (after project before entry given) w.unit a.not_ended in
    let not_ended : is_none (fate project (judged project before entry) w.unit) ≡ true = none_from_HasNotEnded project (judged project before entry) w.unit (record {
      not_built = n.not_built;
      not_reported = n.not_reported;
      not_given_up = (or_parts (list_any (λ u. u == w.unit) given) (is_given_up before w.unit) n.not_given_up).1;
      holder_stays = n.holder_stays;
    }) in (
      a,
      pending_from project (judged project before entry) w (record {
        is_told = h.is_told;
        still_open = h.still_open;
        no_reply = option_or_none (reply_in project before w.place) (coming_reply project m before w.place) a.no_reply (subst (λ o. is_none o ≡ true) (sym (coming_is project m before w a.at a.stays)) (mapped_none (λ f. answer_by f w.unit) (fate project (judged project before entry) w.unit) not_ended));
      }),
    )

-- what is known where all workers' connections have paused and all wait
record AllWait (project : ProjectView) (workers : ℕ) (noted : List Noted) : Type 0 where
  fill : length (open_connections (answered_of noted)) + done_count (answered_of noted) ≡ workers
  some_open : length (open_connections (answered_of noted)) ≢ 0
  paused : (conn : ℕ) → IsTrue (is_open (answered_of noted) conn) → IsTrue (is_paused (answered_of noted) conn)
  all_waiting : list_all (is_waiting project noted) (open_connections (answered_of noted)) ≡ true

waits_of : (project : ProjectView) (workers : ℕ) (noted : List Noted) → AllWait project workers noted → (conn : ℕ) → is_open (answered_of noted) conn ≡ true → (w : Wait) × In w (pending project noted) × (w.conn ≡ conn)
waits_of project workers noted all conn h =
    waiting_to project noted conn (all_to (is_waiting project noted) conn (open_connections (answered_of noted)) all.all_waiting (in_open (answered_of noted) conn h))

-- then the entry was judged to stall
judged_stalled : (project : ProjectView) (workers : ℕ) (before : List Noted) (entry : Entry) (given : List ℕ) → IsKept project before → AllWait project workers (after project before entry given) → is_stalled project workers (judged project before entry) ≡ true
judged_stalled project workers before entry given kept all =
    let n : List Noted = after project before entry given in
    let m : List Noted = judged project before entry in
    and_from _ _ (and_from _ _ (not_from_false _ (ne_eqb (length (open_connections (answered_of n))) 0 all.some_open)) (eq-eqb _ workers all.fill)) (all_from (λ c. is_paused (answered_of m) c && is_waiting project m c) (open_connections (answered_of m)) (λ c there. and_from _ _ (all.paused c (open_in (answered_of n) c there)) (let w = waits_of project workers n all c (open_in (answered_of n) c there) in
    any_from (λ x. x.conn == c) w.0 (eq-eqb w.0.conn c w.2) (pending project m) (was_pending project before entry given w.0 (subst (λ x. is_paused (answered_of n) x ≡ true) (sym w.2) (all.paused c (open_in (answered_of n) c there))) kept w.1).1)))

-- one who waits where all wait
waits_there : (project : ProjectView) (workers : ℕ) (before : List Noted) (entry : Entry) → IsKept project before → AllWait project workers (and_then project workers before entry) → (w : Wait) → In w (pending project (and_then project workers before entry)) → Awaits project before (and_then project workers before entry) w × In w (pending project (judged project before entry))
waits_there project workers before entry kept all w there =
    was_pending project before entry (given_up project workers (judged project before entry)) w (all.paused w.conn (IsPending-from project (and_then project workers before entry) w there).still_open) kept there

-- and so each awaited unit has a holder
has_holder : (project : ProjectView) (workers : ℕ) (before : List Noted) (entry : Entry) → IsKept project before → AllWait project workers (and_then project workers before entry) → (w : Wait) → In w (pending project (and_then project workers before entry)) → (o : Option ℕ) → holder (answered_of (judged project before entry)) w.unit ≡ o → (conn : ℕ) × (o ≡ Some conn)
has_holder project workers before entry kept all w there (Some conn) e = (conn, refl)
has_holder project workers before entry kept all w there None e =
    let m : List Noted = judged project before entry in
    let given : List ℕ = given_up project workers m in
    let is : given ≡ filter (λ u. is_none (holder (answered_of m) u)) (map (λ x. x.unit) (pending project m)) = cond-true _ _ _ (judged_stalled project workers before entry given kept all) in
    let known = waits_there project workers before entry kept all w there in
    let awaited : In w.unit (map (λ (x : Wait). x.unit) (pending project m)) = In-map_from (λ x. x.unit) w (pending project m) known.1 in
    let listed : In w.unit (filter (λ u. is_none (holder (answered_of m) u)) (map (λ x. x.unit) (pending project m))) = In-filter_from (λ u. is_none (holder (answered_of m) u)) w.unit (ap (λ o. is_none o) e) (map (λ x. x.unit) (pending project m)) awaited in
    let gone : list_any (λ u. u == w.unit) given ≡ true = any_from (λ u. u == w.unit) w.unit (eq-eqb w.unit w.unit refl) given (subst (λ us. In w.unit us) (sym is) listed) in
    let n = HasNotEnded-from project (and_then project workers before entry) w.unit known.0.not_ended in
    absurd (both_ways (list_any (λ u. u == w.unit) given) (or_parts _ (is_given_up before w.unit) n.not_given_up).0 gone)

-- which waits in turn
next_pair : (project : ProjectView) (workers : ℕ) (before : List Noted) (entry : Entry) → IsKept project before → IsKept project (and_then project workers before entry) → AllWait project workers (and_then project workers before entry) → (w : Wait) → In w (pending project (and_then project workers before entry)) → (next : ℕ) × Contains (waits project (and_then project workers before entry)) (w.unit, next)
next_pair project workers before entry kept kept_now all w there =
    let n : List Noted = and_then project workers before entry in
    let held = has_holder project workers before entry kept all w there (holder (answered_of (judged project before entry)) w.unit) refl in
    let holds : holder (answered_of n) w.unit ≡ Some held.0 = held.1 in
    let ended = HasNotEnded-from project n w.unit (waits_there project workers before entry kept all w there).0.not_ended in
    let stays : has_gone (answered_of n) held.0 ≡ false = subst (λ o. option_map_or (has_gone (answered_of n)) o false ≡ false) holds ended.holder_stays in
    let is_now_open : is_open (answered_of n) held.0 ≡ true = is_open-from (answered_of n) held.0 (kept_now.holder_opened w.unit held.0 holds) stays in
    let next = waits_of project workers n all held.0 is_now_open in
    let knows : who (answered_of n) next.0.conn ≡ Holder w.unit = ap (λ c. who (answered_of n) c) next.2 ∙ kept_now.holder_holds w.unit held.0 holds in
    (next.0.unit, Contains-from_In (w.unit, next.0.unit) (waits project n) (In-filter_map_from (λ x. pair_of (who (answered_of n) x.conn) x.unit) (w.unit, next.0.unit) next.0 (ap (λ h. pair_of h next.0.unit) knows) (pending project n) next.1))

-- which can't go on for ever
no_all_wait : (project : ProjectView) (workers : ℕ) (before : List Noted) (entry : Entry) → IsKept project before → IsKept project (and_then project workers before entry) → AllWait project workers (and_then project workers before entry) → ⊥
no_all_wait project workers before entry kept kept_now all =
    let n : List Noted = and_then project workers before entry in
    let first = some_in (open_connections (answered_of n)) all.some_open in
    let w = waits_of project workers n all first.0 (open_in (answered_of n) first.0 first.1) in
    let pair = next_pair project workers before entry kept kept_now all w.0 w.1 in
    let last = last_from (waits project n) kept_now.acyclic w.0.unit pair.0 pair.1 in
    let found = In-filter_map (λ x. pair_of (who (answered_of n) x.conn) x.unit) last.pair (pending project n) (In-from_Contains last.pair (waits project n) last.is_there) in
    let same : found.0.unit ≡ last.pair.1 = (pair_parts (who (answered_of n) found.0.conn) found.0.unit last.pair found.2).1 in
    let next = next_pair project workers before entry kept kept_now all found.0 found.1 in
    last.last next.0 (subst (λ u. Contains (waits project n) (u, next.0)) same next.1)

abbrev GoesOn : ProjectView → List Noted → Type 0
GoesOn project noted = (conn : ℕ) × IsTrue (is_open (answered_of noted) conn) × IsFalse (is_waiting project noted conn)

abbrev Paused : ProjectView → ℕ → List Noted → Type 0
Paused project workers noted =
    length (open_connections (answered_of noted)) + done_count (answered_of noted) ≡ workers → (length (open_connections (answered_of noted)) ≢ 0) → ((conn : ℕ) → IsTrue (is_open (answered_of noted) conn) → IsTrue (is_paused (answered_of noted) conn)) → GoesOn project noted

goes_on_after : (project : ProjectView) (workers : ℕ) (before : List Noted) (entry : Entry) → IsKept project before → IsKept project (and_then project workers before entry) → Paused project workers (and_then project workers before entry)
goes_on_after project workers before entry kept kept_now fill some_open paused =
    decide (list_all (is_waiting project n) (open_connections (answered_of n))) refl
  where
    n : List Noted
    n = and_then project workers before entry

    decide : (b : Bool) → list_all (is_waiting project n) (open_connections (answered_of n)) ≡ b → GoesOn project n
    decide true h = absurd (no_all_wait project workers before entry kept kept_now (record { fill = fill; some_open = some_open; paused = paused; all_waiting = h }))
    decide false h = let found = all_fails (is_waiting project n) (open_connections (answered_of n)) h in (found.0, open_in (answered_of n) found.0 found.1, found.2)

goes_on_reached : (project : ProjectView) (workers limit : ℕ) (noted : List Noted) → (noted ≡ []) ⊎ IsAfter project workers limit noted → Paused project workers noted
goes_on_reached project workers limit noted (inl e) =
    λ fill some_open paused. absurd (some_open (ap (λ n. length (open_connections (answered_of n))) e))
goes_on_reached project workers limit noted (inr last) =
    subst (λ n. Paused project workers n) last.same (goes_on_after project workers last.before last.entry last.kept (kept-more project workers limit last.before last.entry last.passes _ last.kept))

pub someone_goes_on : (project : ProjectView) (workers limit : ℕ) (history : List Entry) → IsLegal project workers limit history → Paused project workers (noted_of project workers history)
someone_goes_on project workers limit history legal =
    goes_on_reached project workers limit (noted_of project workers history) (legal_is_kept project workers limit history legal).1
