-- The counts of a legal history, what one more legal entry does to them, and when one may come.
use Rattle.std.proofs.Common.{◌≡◌, ◌≢◌, ℕ, ◌+◌, ◌<◌, ◌≤◌, Bool, true, false, cond, not, ◌&&◌, ◌==◌, List, [], ◌∷◌, ◌++◌, length, filter, fold, All, Contains, Option, Some, None, is_some, is_none, nat_lt, IsFalse, refl, sym, ap, ap₂, subst, ◌∙◌, arith, true≢false, ne_eqb}
use Rattle.std.proofs.lemmas.Bool.{and_parts, or_from, and_right, cond-false}
use Rattle.std.proofs.lemmas.List.{map-id}
use Rattle.std.proofs.lemmas.List.Elements.{All-nil, All-cons, All-head, All-tail}
use Rattle.std.proofs.lemmas.List.Sums.{sum_by-cons}
use Rattle.std.proofs.lemmas.List.FromFn.{sum_by-map-range_with_len_more}
use Rattle.std.specs.Prelude.{if◌then◌else◌, count_by, ◌↔◌}
use Rattle.std.specs.List.{cons_option, range_with_len}
use Rattle.unit_registry.specs.declared.act.Act.{Act}
use Rattle.unit_registry.specs.declared.act.Act.TheVariants.{Hello}
use Rattle.unit_registry.specs.Acts.{is_open_act, is_done, hello_of}
use Rattle.unit_registry.specs.Projects.{ProjectView}
use Rattle.histories.specs.declared.entry.Entry.{Entry}
use Rattle.histories.specs.declared.answered.Answered.{Answered}
use Rattle.histories.specs.declared.standing.Who.TheVariants.{Nobody}
use Rattle.histories.specs.Answered.{has_gone, was_opened, is_open, opened, open_connections, opened_count, open_count, done_count, reserved, who, accepted_hello, is_accepted}
use Rattle.histories.specs.Noted.{Noted, answered_of}
use Rattle.histories.specs.Histories.{and_then, noted_of, answered_in, fault, is_legal_after, IsLegal}
use Rattle.histories.specs.Counts.{Effect, Opens, Asks, Goes, Ends, effect_of, ChangesOpened, ChangesOpen, ChangesDone, ChangesReserved, ChangesOwn}
use Rattle.histories.proofs.Members.{In, In-from_Contains, Contains-from_In}
use Rattle.histories.proofs.OneEntry.{opened_in, is_open-parts}
use Rattle.histories.proofs.Acyclic.{answered_entry}
use Rattle.histories.proofs.Legality.{noted_more, noted_push, length-noted_of, legal_split, legal_prefix, legal_last}
use Rattle.histories.proofs.Stalls.{in_open, open_in}
use Rattle.histories.proofs.Steps.{IsStanding, standing, standing-more, standing_first, opens_next, stands_open}
use Rattle.histories.proofs.GoingOn.{filter_alike_in}
use Rattle.histories.proofs.Counting.{of_kind, opened_count-more, done_count-more}
use Rattle.histories.proofs.Passing.{checks, Stands, more, HasWorkers, fresh, changes_opened, changes_open, changes_done, changes_reserved, changes_own, workers-more, other_open}

-- ---- along a legal history

pub not_lt : (m n : ℕ) → nat_lt m n ≡ false → n ≤ m
not_lt m n h = grind arith

pub lt_not : (m n : ℕ) → n ≤ m → nat_lt m n ≡ false
lt_not m n h = grind arith

pub stands : (project : ProjectView) (workers limit : ℕ) (noted : List Noted) (entry : Entry) → IsStanding project noted → is_none (fault project workers limit noted entry) ≡ true → Stands project workers limit noted entry (effect_of entry.act)
stands project workers limit noted entry s passing =
    record { standing = s; passing = passing; kind = of_kind entry.act (effect_of entry.act) refl }

workers_after : (project : ProjectView) (workers limit : ℕ) → (entries : List Entry) (noted : List Noted) → is_legal_after project workers limit noted entries ≡ true → IsStanding project noted → HasWorkers workers noted → HasWorkers workers (fold (and_then project workers) noted entries)
workers_after project workers limit [] noted legal s enough = enough
workers_after project workers limit (entry ∷ entries) noted legal s enough =
    let parts = and_parts (is_none (fault project workers limit noted entry)) _ legal in
    workers_after project workers limit entries (and_then project workers noted entry) parts.1 (standing-more project workers limit noted entry parts.0 s) (workers-more project workers limit noted entry (effect_of entry.act) (stands project workers limit noted entry s parts.0) enough)

pub enough_workers : (project : ProjectView) (workers limit : ℕ) (history : List Entry) → IsLegal project workers limit history → HasWorkers workers (noted_of project workers history)
enough_workers project workers limit history legal =
    workers_after project workers limit history [] legal (standing_first project) (omega arith)

fits_after : (project : ProjectView) (workers limit : ℕ) → (entries : List Entry) (noted : List Noted) → is_legal_after project workers limit noted entries ≡ true → length noted + reserved workers (answered_of noted) ≤ limit → length (fold (and_then project workers) noted entries) + reserved workers (answered_of (fold (and_then project workers) noted entries)) ≤ limit
fits_after project workers limit [] noted legal fits = fits
fits_after project workers limit (entry ∷ entries) noted legal fits =
    let parts = and_parts (is_none (fault project workers limit noted entry)) _ legal in
    fits_after project workers limit entries (and_then project workers noted entry) parts.1 (not_lt limit _ (checks project workers limit noted entry parts.0).fits)

pub noted_fits : (project : ProjectView) (workers limit : ℕ) (history : List Entry) → workers ≤ limit → IsLegal project workers limit history → length (noted_of project workers history) + reserved workers (answered_in project workers history) ≤ limit
noted_fits project workers limit history few legal = fits_after project workers limit history [] legal (omega arith)

pub ends_fit : (project : ProjectView) (workers limit : ℕ) (history : List Entry) → workers ≤ limit → IsLegal project workers limit history → length history + reserved workers (answered_in project workers history) ≤ limit
ends_fit project workers limit history few legal =
    let fits = noted_fits project workers limit history few legal in
    let all = length-noted_of project workers history in
    omega arith

-- at most one of the ends that were reserved goes with an entry
abbrev ReleasesOne : ℕ → ℕ → Type 0
ReleasesOne before after = before ≤ after + 1

by_effect : (effect : Effect) (before after : ℕ) → ChangesReserved effect before after → ReleasesOne before after
by_effect Opens before after changed = omega (arith, changed)
by_effect Asks before after changed = omega (arith, changed)
by_effect Goes before after changed = omega (arith, changed)
by_effect Ends before after changed = omega (arith, changed)

-- the entries that were noted, and the ends that are still to come
abbrev pub room_of : ℕ → List Noted → ℕ
room_of workers noted = length noted + reserved workers (answered_of noted)

pub room_after : (project : ProjectView) (workers limit : ℕ) → (entries : List Entry) (noted : List Noted) → is_legal_after project workers limit noted entries ≡ true → IsStanding project noted → HasWorkers workers noted → room_of workers noted ≤ room_of workers (fold (and_then project workers) noted entries)
room_after project workers limit [] noted legal s enough = omega arith
room_after project workers limit (entry ∷ entries) noted legal s enough =
    let parts = and_parts (is_none (fault project workers limit noted entry)) _ legal in
    let here = stands project workers limit noted entry s parts.0 in
    let one = by_effect (effect_of entry.act) _ _ (changes_reserved project workers limit noted entry (effect_of entry.act) here enough) in
    let rest = room_after project workers limit entries (and_then project workers noted entry) parts.1 (standing-more project workers limit noted entry parts.0 s) (workers-more project workers limit noted entry (effect_of entry.act) here enough) in
    omega arith

pub room_is_used_up : (project : ProjectView) (workers limit : ℕ) (history more : List Entry) → IsLegal project workers limit (history ++ more) → length history + reserved workers (answered_in project workers history) ≤ length (history ++ more) + reserved workers (answered_in project workers (history ++ more))
room_is_used_up project workers limit history more legal =
    let parts = legal_split project workers limit more history [] legal in
    let grows = room_after project workers limit more (noted_of project workers history) parts.1 (standing project workers limit history parts.0) (enough_workers project workers limit history parts.0) in
    let same : room_of workers (fold (and_then project workers) (noted_of project workers history) more) ≡ room_of workers (noted_of project workers (history ++ more)) = ap (room_of workers) (sym (noted_more project workers history more)) in
    let before = length-noted_of project workers history in
    let after = length-noted_of project workers (history ++ more) in
    omega arith

-- ---- one more legal entry

last_stands : (project : ProjectView) (workers limit : ℕ) (history : List Entry) (entry : Entry) → IsLegal project workers limit (history ++ entry ∷ []) → Stands project workers limit (noted_of project workers history) entry (effect_of entry.act)
last_stands project workers limit history entry legal =
    stands project workers limit (noted_of project workers history) entry (standing project workers limit history (legal_prefix project workers limit history (entry ∷ []) legal)) (legal_last project workers limit history entry legal)

with_last : (project : ProjectView) (workers : ℕ) (history : List Entry) (entry : Entry) → more project (noted_of project workers history) entry ≡ answered_in project workers (history ++ entry ∷ [])
with_last project workers history entry = ap (λ n. answered_of n) (sym (noted_push project workers history entry))

pub opened_with : (project : ProjectView) (workers limit : ℕ) (history : List Entry) (entry : Entry) → IsLegal project workers limit (history ++ entry ∷ []) → ChangesOpened (effect_of entry.act) (opened_count (answered_in project workers history)) (opened_count (answered_in project workers (history ++ entry ∷ [])))
opened_with project workers limit history entry legal =
    subst (λ a. ChangesOpened (effect_of entry.act) (opened_count (answered_in project workers history)) (opened_count a)) (with_last project workers history entry) (changes_opened project workers limit (noted_of project workers history) entry (effect_of entry.act) (last_stands project workers limit history entry legal))

pub open_with : (project : ProjectView) (workers limit : ℕ) (history : List Entry) (entry : Entry) → IsLegal project workers limit (history ++ entry ∷ []) → ChangesOpen (effect_of entry.act) (open_count (answered_in project workers history)) (open_count (answered_in project workers (history ++ entry ∷ [])))
open_with project workers limit history entry legal =
    subst (λ a. ChangesOpen (effect_of entry.act) (open_count (answered_in project workers history)) (open_count a)) (with_last project workers history entry) (changes_open project workers limit (noted_of project workers history) entry (effect_of entry.act) (last_stands project workers limit history entry legal))

pub done_with : (project : ProjectView) (workers limit : ℕ) (history : List Entry) (entry : Entry) → IsLegal project workers limit (history ++ entry ∷ []) → ChangesDone (effect_of entry.act) (done_count (answered_in project workers history)) (done_count (answered_in project workers (history ++ entry ∷ [])))
done_with project workers limit history entry legal =
    subst (λ a. ChangesDone (effect_of entry.act) (done_count (answered_in project workers history)) (done_count a)) (with_last project workers history entry) (changes_done project workers limit (noted_of project workers history) entry (effect_of entry.act) (last_stands project workers limit history entry legal))

pub reserved_with : (project : ProjectView) (workers limit : ℕ) (history : List Entry) (entry : Entry) → IsLegal project workers limit (history ++ entry ∷ []) → ChangesReserved (effect_of entry.act) (reserved workers (answered_in project workers history)) (reserved workers (answered_in project workers (history ++ entry ∷ [])))
reserved_with project workers limit history entry legal =
    subst (λ a. ChangesReserved (effect_of entry.act) (reserved workers (answered_in project workers history)) (reserved workers a)) (with_last project workers history entry) (changes_reserved project workers limit (noted_of project workers history) entry (effect_of entry.act) (last_stands project workers limit history entry legal) (enough_workers project workers limit history (legal_prefix project workers limit history (entry ∷ []) legal)))

pub own_with : (project : ProjectView) (workers limit : ℕ) (history : List Entry) (entry : Entry) → IsLegal project workers limit (history ++ entry ∷ []) → ChangesOwn (effect_of entry.act) (is_open (answered_in project workers history) entry.conn) (is_open (answered_in project workers (history ++ entry ∷ [])) entry.conn)
own_with project workers limit history entry legal =
    subst (λ a. ChangesOwn (effect_of entry.act) (is_open (answered_in project workers history) entry.conn) (is_open a entry.conn)) (with_last project workers history entry) (changes_own project workers limit (noted_of project workers history) entry (effect_of entry.act) (last_stands project workers limit history entry legal))

-- ---- the numbers of connections

opened_count-grows : (e : Answered) (answered : List Answered) → opened_count answered ≤ opened_count (e ∷ answered)
opened_count-grows e answered = let more = opened_count-more e answered in omega arith

opened_after : (project : ProjectView) (workers : ℕ) → (entries : List Entry) (noted : List Noted) → opened_count (answered_of noted) ≤ opened_count (answered_of (fold (and_then project workers) noted entries))
opened_after project workers [] noted = omega arith
opened_after project workers (entry ∷ entries) noted =
    let one = opened_count-grows (answered_entry project noted entry) (answered_of noted) in
    let rest = opened_after project workers entries (and_then project workers noted entry) in
    omega arith

number_below : (project : ProjectView) (workers limit : ℕ) (noted : List Noted) (entry : Entry) → IsStanding project noted → is_none (fault project workers limit noted entry) ≡ true → is_done entry.act ≡ false → entry.conn < opened_count (answered_of (and_then project workers noted entry))
number_below project workers limit noted entry s passing no_end = by (is_open_act entry.act) refl
  where
    grown : opened_count (answered_of (and_then project workers noted entry)) ≡ opened_count (answered_of noted) + cond (is_open_act entry.act) 1 0
    grown = opened_count-more (answered_entry project noted entry) (answered_of noted)

    by : (b : Bool) → is_open_act entry.act ≡ b → entry.conn < opened_count (answered_of (and_then project workers noted entry))
    by true o =
        let next = opens_next project workers limit noted entry passing o in
        let one : opened_count (answered_of (and_then project workers noted entry)) ≡ opened_count (answered_of noted) + 1 = grown ∙ ap (λ b. opened_count (answered_of noted) + cond b 1 0) o in
        omega arith
    by false o =
        let below = s.numbered.below entry.conn (is_open-parts (answered_of noted) entry.conn (stands_open project workers limit noted entry passing (or_from _ _ o no_end))).0 in
        let one : opened_count (answered_of (and_then project workers noted entry)) ≡ opened_count (answered_of noted) + 0 = grown ∙ ap (λ b. opened_count (answered_of noted) + cond b 1 0) o in
        omega arith

abbrev IsNumberBelow : ℕ → Entry → Type 0
IsNumberBelow count entry = IsFalse (is_done entry.act) → entry.conn < count

numbers_after : (project : ProjectView) (workers limit : ℕ) → (entries : List Entry) (noted : List Noted) → is_legal_after project workers limit noted entries ≡ true → IsStanding project noted → All (IsNumberBelow (opened_count (answered_of (fold (and_then project workers) noted entries)))) entries
numbers_after project workers limit [] noted legal s = All-nil _
numbers_after project workers limit (entry ∷ entries) noted legal s =
    let parts = and_parts (is_none (fault project workers limit noted entry)) _ legal in
    All-cons (IsNumberBelow (opened_count (answered_of (fold (and_then project workers) noted (entry ∷ entries))))) entry entries (λ no_end. let here = number_below project workers limit noted entry s parts.0 no_end in let rest = opened_after project workers entries (and_then project workers noted entry) in omega arith) (numbers_after project workers limit entries (and_then project workers noted entry) parts.1 (standing-more project workers limit noted entry parts.0 s))

pub numbers_below : (project : ProjectView) (workers limit : ℕ) (history : List Entry) → IsLegal project workers limit history → All (λ entry. IsFalse (is_done entry.act) → entry.conn < opened_count (answered_in project workers history)) history
numbers_below project workers limit history legal = numbers_after project workers limit history [] legal (standing_first project)

pub next_is_fresh : (project : ProjectView) (workers limit : ℕ) (history : List Entry) → IsLegal project workers limit history → (conn : ℕ) → opened_count (answered_in project workers history) ≤ conn → (was_opened (answered_in project workers history) conn ≡ false) × (has_gone (answered_in project workers history) conn ≡ false)
next_is_fresh project workers limit history legal conn past =
    fresh (answered_in project workers history) conn (standing project workers limit history legal).numbered past

-- ---- whom no entry names

hello_no_end : (act : Act) → is_some (hello_of act) ≡ true → is_done act ≡ false
hello_no_end (Hello version unit) h = refl
hello_no_end act h = absurd (true≢false (sym h))

hello_there : (accepted : Bool) (hello : Option (Option ℕ)) → is_some (if accepted then hello else None) ≡ true → is_some hello ≡ true
hello_there true hello h = h
hello_there false hello h = absurd (true≢false (sym h))

abbrev NobodyPast : List Answered → Type 0
NobodyPast answered = (conn : ℕ) → opened_count answered ≤ conn → who answered conn ≡ Nobody

nobody-more : (project : ProjectView) (workers limit : ℕ) (noted : List Noted) (entry : Entry) → IsStanding project noted → is_none (fault project workers limit noted entry) ≡ true → NobodyPast (answered_of noted) → NobodyPast (answered_of (and_then project workers noted entry))
nobody-more project workers limit noted entry s passing nobody conn past =
    cond-false _ _ _ not_here
    ∙ nobody conn (let grows = opened_count-grows e (answered_of noted) in omega arith)
  where
    e : Answered
    e = answered_entry project noted entry

    by : (b : Bool) → is_some (accepted_hello e) ≡ b → (entry.conn == conn && b) ≡ false
    by false h = and_right (entry.conn == conn) false refl
    by true h =
        let below = number_below project workers limit noted entry s passing (hello_no_end entry.act (hello_there (is_accepted e.said) (hello_of entry.act) h)) in
        let differ : entry.conn ≢ conn = λ same. omega arith in
        ap (λ b. b && true) (ne_eqb entry.conn conn differ)

    not_here : (entry.conn == conn && is_some (accepted_hello e)) ≡ false
    not_here = by (is_some (accepted_hello e)) refl

nobody_after : (project : ProjectView) (workers limit : ℕ) → (entries : List Entry) (noted : List Noted) → is_legal_after project workers limit noted entries ≡ true → IsStanding project noted → NobodyPast (answered_of noted) → NobodyPast (answered_of (fold (and_then project workers) noted entries))
nobody_after project workers limit [] noted legal s nobody = nobody
nobody_after project workers limit (entry ∷ entries) noted legal s nobody =
    let parts = and_parts (is_none (fault project workers limit noted entry)) _ legal in
    nobody_after project workers limit entries (and_then project workers noted entry) parts.1 (standing-more project workers limit noted entry parts.0 s) (nobody-more project workers limit noted entry s parts.0 nobody)

pub next_is_nobody : (project : ProjectView) (workers limit : ℕ) (history : List Entry) → IsLegal project workers limit history → (conn : ℕ) → opened_count (answered_in project workers history) ≤ conn → who (answered_in project workers history) conn ≡ Nobody
next_is_nobody project workers limit history legal =
    nobody_after project workers limit history [] legal (standing_first project) (λ conn past. refl)

-- ---- the open connections are counted over all numbers

count_range : (p : ℕ → Bool) (n : ℕ) → count_by p (range_with_len 0 (n + 1)) ≡ count_by p (range_with_len 0 n) + cond (p n) 1 0
count_range p n =
    ap (λ xs. count_by p xs) (sym (map-id (range_with_len 0 (n + 1))))
    ∙ sum_by-map-range_with_len_more (λ x. cond (p x) 1 0) (λ (x : ℕ). x) 0 n n (omega arith)
    ∙ ap (λ xs. count_by p xs + cond (p n) 1 0) (map-id (range_with_len 0 n))

abbrev CountsAlike : List Answered → Type 0
CountsAlike answered = (p : ℕ → Bool) → length (filter p (opened answered)) ≡ count_by p (range_with_len 0 (opened_count answered))

filter_front : (b : Bool) (x : ℕ) (xs : List ℕ) → length (cond b (x ∷ xs) xs) ≡ length xs + cond b 1 0
filter_front true x xs = omega arith
filter_front false x xs = omega arith

alike-more : (project : ProjectView) (workers limit : ℕ) (noted : List Noted) (entry : Entry) → is_none (fault project workers limit noted entry) ≡ true → CountsAlike (answered_of noted) → CountsAlike (answered_of (and_then project workers noted entry))
alike-more project workers limit noted entry passing alike p = by (is_open_act entry.act) refl
  where
    a : List Answered
    a = answered_of noted

    by : (b : Bool) → is_open_act entry.act ≡ b → length (filter p (cons_option (if b then Some entry.conn else None) (opened a))) ≡ count_by p (range_with_len 0 (length (cons_option (if b then Some entry.conn else None) (opened a))))
    by false o = alike p
    by true o =
        let next : entry.conn ≡ opened_count a = opens_next project workers limit noted entry passing o in
        let size : opened_count a + 1 ≡ length (entry.conn ∷ opened a) = omega arith in
        filter_front (p entry.conn) entry.conn (filter p (opened a))
        ∙ ap₂ (λ n c. n + cond (p c) 1 0) (alike p) next
        ∙ sym (count_range p (opened_count a))
        ∙ ap (λ n. count_by p (range_with_len 0 n)) size

alike_after : (project : ProjectView) (workers limit : ℕ) → (entries : List Entry) (noted : List Noted) → is_legal_after project workers limit noted entries ≡ true → CountsAlike (answered_of noted) → CountsAlike (answered_of (fold (and_then project workers) noted entries))
alike_after project workers limit [] noted legal alike = alike
alike_after project workers limit (entry ∷ entries) noted legal alike =
    let parts = and_parts (is_none (fault project workers limit noted entry)) _ legal in
    alike_after project workers limit entries (and_then project workers noted entry) parts.1 (alike-more project workers limit noted entry parts.0 alike)

open_of_opened : (answered : List Answered) (conn : ℕ) → In conn (opened answered) → not (has_gone answered conn) ≡ is_open answered conn
open_of_opened answered conn there =
    sym (ap (λ b. b && not (has_gone answered conn)) (opened_in answered conn there))

pub counted_over : (project : ProjectView) (workers limit : ℕ) (history : List Entry) → IsLegal project workers limit history → open_count (answered_in project workers history) ≡ count_by (is_open (answered_in project workers history)) (range_with_len 0 (opened_count (answered_in project workers history)))
counted_over project workers limit history legal =
    ap length (filter_alike_in (λ c. not (has_gone (answered_in project workers history) c)) (is_open (answered_in project workers history)) (opened (answered_in project workers history)) (open_of_opened (answered_in project workers history)))
    ∙ alike_after project workers limit history [] legal (λ p. refl) (is_open (answered_in project workers history))

pub open_members : (answered : List Answered) (conn : ℕ) → Contains (open_connections answered) conn ↔ (is_open answered conn ≡ true)
open_members answered conn = (
  λ there. open_in answered conn (In-from_Contains conn (open_connections answered) there),
  λ is_there. Contains-from_In conn (open_connections answered) (in_open answered conn is_there),
)

-- ---- the counts over the entries themselves

counted_after : (project : ProjectView) (workers : ℕ) (test : Act → Bool) (count : List Answered → ℕ) → ((newest : Answered) (before : List Answered) → count (newest ∷ before) ≡ count before + cond (test newest.act) 1 0) → (entries : List Entry) (noted : List Noted) → count (answered_of (fold (and_then project workers) noted entries)) ≡ count (answered_of noted) + count_by (λ entry. test entry.act) entries
counted_after project workers test count one_more [] noted =
    let none : count_by (λ (entry : Entry). test entry.act) [] ≡ 0 = refl in
    omega arith
counted_after project workers test count one_more (entry ∷ entries) noted =
    let one = one_more (answered_entry project noted entry) (answered_of noted) in
    let rest = counted_after project workers test count one_more entries (and_then project workers noted entry) in
    let split : count_by (λ (x : Entry). test x.act) (entry ∷ entries) ≡ cond (test entry.act) 1 0 + count_by (λ (x : Entry). test x.act) entries = sum_by-cons (λ (x : Entry). cond (test x.act) 1 0) entry entries in
    omega arith

pub opened_over : (project : ProjectView) (workers : ℕ) (history : List Entry) → opened_count (answered_in project workers history) ≡ count_by (λ entry. is_open_act entry.act) history
opened_over project workers history =
    let start : opened_count (answered_of []) ≡ 0 = refl in
    let all = counted_after project workers is_open_act opened_count opened_count-more history [] in
    omega arith

pub done_over : (project : ProjectView) (workers : ℕ) (history : List Entry) → done_count (answered_in project workers history) ≡ count_by (λ entry. is_done entry.act) history
done_over project workers history =
    let start : done_count (answered_of []) ≡ 0 = refl in
    let all = counted_after project workers is_done done_count done_count-more history [] in
    omega arith

-- ---- entries of other connections

open_since_after : (project : ProjectView) (workers conn : ℕ) → (more : List Entry) (noted : List Noted) → All (λ entry. entry.conn ≢ conn) more → is_open (answered_of (fold (and_then project workers) noted more)) conn ≡ is_open (answered_of noted) conn
open_since_after project workers conn [] noted others = refl
open_since_after project workers conn (entry ∷ more) noted others =
    open_since_after project workers conn more (and_then project workers noted entry) (All-tail (λ (x : Entry). x.conn ≢ conn) entry more others)
    ∙ other_open (answered_entry project noted entry) (answered_of noted) conn (All-head (λ (x : Entry). x.conn ≢ conn) entry more others)

pub open_since : (project : ProjectView) (workers : ℕ) (history more : List Entry) (conn : ℕ) → All (λ entry. entry.conn ≢ conn) more → is_open (answered_in project workers (history ++ more)) conn ≡ is_open (answered_in project workers history) conn
open_since project workers history more conn others =
    ap (λ noted. is_open (answered_of noted) conn) (noted_more project workers history more)
    ∙ open_since_after project workers conn more (noted_of project workers history) others
