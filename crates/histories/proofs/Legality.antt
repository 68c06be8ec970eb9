-- Legal histories cut in two, with one more entry, and without a fault.
use Rattle.std.proofs.Common.{◌≡◌, ℕ, ◌+◌, true, List, [], ◌∷◌, ◌++◌, length, fold, Option, Some, None, is_none, refl, sym, ap, ◌∙◌, arith, true≢false}
use Rattle.std.proofs.lemmas.Bool.{and_parts, and_from}
use Rattle.std.proofs.lemmas.List.Sums.{fold-append}
use Rattle.std.specs.Prelude.{option_map, ◌↔◌}
use Rattle.std.specs.Option.{option_or}
use Rattle.unit_registry.specs.Projects.{ProjectView}
use Rattle.histories.specs.declared.entry.Entry.{Entry}
use Rattle.histories.specs.declared.illegal_reason.IllegalReason.{IllegalReason}
use Rattle.histories.specs.Noted.{Noted}
use Rattle.histories.specs.Histories.{and_then, noted_of, fault, first_fault, is_legal_after, IsLegal, IsFirstFault}

-- the noted history after more entries
pub noted_more : (project : ProjectView) (workers : ℕ) (history more : List Entry) → noted_of project workers (history ++ more) ≡ fold (and_then project workers) (noted_of project workers history) more
noted_more project workers history more = fold-append (and_then project workers) [] history more

-- and after one more entry
pub noted_push : (project : ProjectView) (workers : ℕ) (history : List Entry) (entry : Entry) → noted_of project workers (history ++ entry ∷ []) ≡ and_then project workers (noted_of project workers history) entry
noted_push project workers history entry = noted_more project workers history (entry ∷ [])

length_after : (project : ProjectView) (workers : ℕ) → (entries : List Entry) (noted : List Noted) → length (fold (and_then project workers) noted entries) ≡ length noted + length entries
length_after project workers [] noted = omega arith
length_after project workers (entry ∷ entries) noted =
    let more = length_after project workers entries (and_then project workers noted entry) in
    omega arith

-- each entry is noted once
pub length-noted_of : (project : ProjectView) (workers : ℕ) (history : List Entry) → length (noted_of project workers history) ≡ length history
length-noted_of project workers history = let all = length_after project workers history [] in omega arith

pub legal_split : (project : ProjectView) (workers limit : ℕ) (more : List Entry) → (entries : List Entry) (noted : List Noted) → is_legal_after project workers limit noted (entries ++ more) ≡ true → (is_legal_after project workers limit noted entries ≡ true) × (is_legal_after project workers limit (fold (and_then project workers) noted entries) more ≡ true)
legal_split project workers limit more [] noted legal = (refl, legal)
legal_split project workers limit more (entry ∷ entries) noted legal =
    let parts = and_parts (is_none (fault project workers limit noted entry)) _ legal in
    let rest = legal_split project workers limit more entries (and_then project workers noted entry) parts.1 in
    (and_from _ _ parts.0 rest.0, rest.1)

pub legal_join : (project : ProjectView) (workers limit : ℕ) (more : List Entry) → (entries : List Entry) (noted : List Noted) → is_legal_after project workers limit noted entries ≡ true → is_legal_after project workers limit (fold (and_then project workers) noted entries) more ≡ true → is_legal_after project workers limit noted (entries ++ more) ≡ true
legal_join project workers limit more [] noted legal rest = rest
legal_join project workers limit more (entry ∷ entries) noted legal rest =
    let parts = and_parts (is_none (fault project workers limit noted entry)) _ legal in
    and_from _ _ parts.0 (legal_join project workers limit more entries (and_then project workers noted entry) parts.1 rest)

-- what stands at the front of a legal history is legal
pub legal_prefix : (project : ProjectView) (workers limit : ℕ) (history more : List Entry) → IsLegal project workers limit (history ++ more) → IsLegal project workers limit history
legal_prefix project workers limit history more legal = (legal_split project workers limit more history [] legal).0

-- one more entry that passes the checks
pub legal_push : (project : ProjectView) (workers limit : ℕ) (history : List Entry) (entry : Entry) → IsLegal project workers limit history → is_none (fault project workers limit (noted_of project workers history) entry) ≡ true → IsLegal project workers limit (history ++ entry ∷ [])
legal_push project workers limit history entry legal passes =
    legal_join project workers limit (entry ∷ []) history [] legal (and_from _ _ passes refl)

-- the last entry of a legal history passed them
pub legal_last : (project : ProjectView) (workers limit : ℕ) (history : List Entry) (entry : Entry) → IsLegal project workers limit (history ++ entry ∷ []) → is_none (fault project workers limit (noted_of project workers history) entry) ≡ true
legal_last project workers limit history entry legal =
    (and_parts _ _ (legal_split project workers limit (entry ∷ []) history [] legal).1).0

pub none_is : {A : Type 0} (o : Option A) → is_none o ≡ true → o ≡ None
none_is None h = refl
none_is (Some x) h = absurd (true≢false (sym h))

pub legal_one_more : (project : ProjectView) (workers limit : ℕ) (history : List Entry) (entry : Entry) → IsLegal project workers limit (history ++ entry ∷ []) ↔ (IsLegal project workers limit history × (fault project workers limit (noted_of project workers history) entry ≡ None))
legal_one_more project workers limit history entry = (
  λ legal. (legal_prefix project workers limit history (entry ∷ []) legal, none_is _ (legal_last project workers limit history entry legal)),
  λ both. legal_push project workers limit history entry both.0 (ap (λ o. is_none o) both.1),
)

-- ---- the first fault

-- the first fault, where this is what the entry at the place fails
abbrev or_behind : ProjectView → ℕ → ℕ → ℕ → List Noted → Entry → List Entry → Option IllegalReason → Option (ℕ × IllegalReason)
or_behind project workers limit place noted entry entries failed =
    option_or (option_map (λ reason. (place, reason)) failed) (first_fault project workers limit (place + 1) (and_then project workers noted entry) entries)

-- a legal history has no first fault
legal-from_none : (project : ProjectView) (workers limit : ℕ) → (entries : List Entry) (place : ℕ) (noted : List Noted) → first_fault project workers limit place noted entries ≡ None → is_legal_after project workers limit noted entries ≡ true
legal-from_none project workers limit [] place noted h = refl
legal-from_none project workers limit (entry ∷ entries) place noted h =
    by (legal-from_none project workers limit entries (place + 1) (and_then project workers noted entry)) (fault project workers limit noted entry) refl h
  where
    by : (first_fault project workers limit (place + 1) (and_then project workers noted entry) entries ≡ None → is_legal_after project workers limit (and_then project workers noted entry) entries ≡ true) → (o : Option IllegalReason) → fault project workers limit noted entry ≡ o → or_behind project workers limit place noted entry entries o ≡ None → is_legal_after project workers limit noted (entry ∷ entries) ≡ true
    by behind None e h = and_from _ _ (ap (λ o. is_none o) e) (behind h)
    by behind (Some reason) e h = absurd (cc)

none-from_legal : (project : ProjectView) (workers limit : ℕ) → (entries : List Entry) (place : ℕ) (noted : List Noted) → is_legal_after project workers limit noted entries ≡ true → first_fault project workers limit place noted entries ≡ None
none-from_legal project workers limit [] place noted legal = refl
none-from_legal project workers limit (entry ∷ entries) place noted legal =
    let parts = and_parts (is_none (fault project workers limit noted entry)) _ legal in
    ap (or_behind project workers limit place noted entry entries) (none_is _ parts.0)
    ∙ none-from_legal project workers limit entries (place + 1) (and_then project workers noted entry) parts.1

pub none_if_legal : (project : ProjectView) (workers limit : ℕ) (history : List Entry) → (first_fault project workers limit 0 [] history ≡ None) ↔ IsLegal project workers limit history
none_if_legal project workers limit history =
    (legal-from_none project workers limit history 0 [], none-from_legal project workers limit history 0 [])

-- after the noted entries, the entries are legal up to the place, of which the first has this number
record FailsAt (project : ProjectView) (workers limit : ℕ) (noted : List Noted) (entries : List Entry) (first place : ℕ) (reason : IllegalReason) : Type 0 where
  front : List Entry
  entry : Entry
  behind : List Entry
  are_entries : entries ≡ front ++ entry ∷ behind
  is_place : place ≡ first + length front
  legal : is_legal_after project workers limit noted front ≡ true
  fails : fault project workers limit (fold (and_then project workers) noted front) entry ≡ Some reason

fails_at : (project : ProjectView) (workers limit : ℕ) (found : ℕ × IllegalReason) → (entries : List Entry) (first : ℕ) (noted : List Noted) → first_fault project workers limit first noted entries ≡ Some found → FailsAt project workers limit noted entries first found.0 found.1
fails_at project workers limit found [] first noted h = absurd (cc)
fails_at project workers limit found (entry ∷ entries) first noted h =
    by (fails_at project workers limit found entries (first + 1) (and_then project workers noted entry)) (fault project workers limit noted entry) refl h
  where
    by : (first_fault project workers limit (first + 1) (and_then project workers noted entry) entries ≡ Some found → FailsAt project workers limit (and_then project workers noted entry) entries (first + 1) found.0 found.1) → (o : Option IllegalReason) → fault project workers limit noted entry ≡ o → or_behind project workers limit first noted entry entries o ≡ Some found → FailsAt project workers limit noted (entry ∷ entries) first found.0 found.1
    by behind None passes h =
        let rest = behind h in
        record {
          front = entry ∷ rest.front;
          entry = rest.entry;
          behind = rest.behind;
          are_entries = ap (λ (xs : List Entry). entry ∷ xs) rest.are_entries;
          is_place = let place = rest.is_place in omega arith;
          legal = and_from _ _ (ap (λ o. is_none o) passes) rest.legal;
          fails = rest.fails;
        }
    by behind (Some reason) fails h =
        let same : (first, reason) ≡ found = cc in
        let place : first ≡ found.0 = ap (λ (p : ℕ × IllegalReason). p.0) same in
        let why : reason ≡ found.1 = ap (λ (p : ℕ × IllegalReason). p.1) same in
        record {
          front = [];
          entry = entry;
          behind = entries;
          are_entries = refl;
          is_place = omega arith;
          legal = refl;
          fails = fails ∙ ap (λ (r : IllegalReason). Some r) why;
        }

-- a place and a reason, as `first_fault` answers them
abbrev found_at : ℕ → IllegalReason → Option (ℕ × IllegalReason)
found_at place reason = Some (place, reason)

found_from : (project : ProjectView) (workers limit : ℕ) (entry : Entry) (behind : List Entry) (place : ℕ) (reason : IllegalReason) → (front : List Entry) (first : ℕ) (noted : List Noted) → place ≡ first + length front → is_legal_after project workers limit noted front ≡ true → fault project workers limit (fold (and_then project workers) noted front) entry ≡ Some reason → first_fault project workers limit first noted (front ++ entry ∷ behind) ≡ found_at place reason
found_from project workers limit entry behind place reason [] first noted is_place legal fails =
    let same : first ≡ place = omega arith in
    ap (or_behind project workers limit first noted entry behind) fails ∙ ap (λ p. found_at p reason) same
found_from project workers limit entry behind place reason (next ∷ front) first noted is_place legal fails =
    let parts = and_parts (is_none (fault project workers limit noted next)) _ legal in
    ap (or_behind project workers limit first noted next (front ++ entry ∷ behind)) (none_is _ parts.0)
    ∙ found_from project workers limit entry behind place reason front (first + 1) (and_then project workers noted next) (omega arith) parts.1 fails

-- the first fault is where the history stops being legal, and has the reason
pub some_if_illegal : (project : ProjectView) (workers limit : ℕ) (history : List Entry) (place : ℕ) (reason : IllegalReason) → (first_fault project workers limit 0 [] history ≡ Some (place, reason)) ↔ IsFirstFault project workers limit history place reason
some_if_illegal project workers limit history place reason = (to, from)
  where
    to : first_fault project workers limit 0 [] history ≡ found_at place reason → IsFirstFault project workers limit history place reason
    to h =
        let found = fails_at project workers limit (place, reason) history 0 [] h in
        record {
          front = found.front;
          entry = found.entry;
          behind = found.behind;
          is_history = found.are_entries;
          is_place = let p = found.is_place in omega arith;
          legal = found.legal;
          fails = found.fails;
        }

    from : IsFirstFault project workers limit history place reason → first_fault project workers limit 0 [] history ≡ found_at place reason
    from found =
        ap (λ entries. first_fault project workers limit 0 [] entries) found.is_history
        ∙ found_from project workers limit found.entry found.behind place reason found.front 0 [] (let p = found.is_place in omega arith) found.legal found.fails
