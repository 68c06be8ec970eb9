-- A trace that is legal for its limit is legal for a smaller one that its entries and their ends fit in.
use Rattle.std.proofs.Common.{◌≡◌, ℕ, ◌+◌, ◌≤◌, true, List, [], ◌∷◌, suc, length, Option, Some, None, is_none, refl, arith}
use Rattle.std.specs.Prelude.{min, not, if◌then◌else◌}
use Rattle.std.proofs.lemmas.List.{length-map}
use Rattle.std.proofs.lemmas.List.Sums.{count_by-le-length, length-filter}
use Rattle.std.specs.List.{cons_option}
use Rattle.std.proofs.lemmas.Bool.{and_parts, and_from}
use Rattle.unit_registry.specs.Acts.{is_open_act}
use Rattle.unit_registry.specs.Projects.{ProjectView}
use Rattle.histories.specs.declared.entry.Entry.{Entry}
use Rattle.histories.specs.declared.answered.Answered.{Answered}
use Rattle.histories.specs.Answered.{has_gone, opened, reserved}
use Rattle.histories.specs.Noted.{Noted, answered_of}
use Rattle.histories.specs.Histories.{and_then, fault, is_legal_after, IsLegal}
use Rattle.histories.proofs.LegalCounts.{lt_not, not_lt}
use Rattle.histories.proofs.Passing.{checks, passes}

option_less : {A : Type 0} (o : Option A) (xs : List A) (n : ℕ) → length xs ≤ n → length (cons_option o xs) ≤ suc n
option_less None xs n h = omega (arith, h)
option_less (Some x) xs n h = omega (arith, h)

opened_less : (answered : List Answered) → length (opened answered) ≤ length answered
opened_less [] = omega arith
opened_less (e ∷ answered) = option_less (if is_open_act e.act then Some e.conn else None) (opened answered) (length answered) (opened_less answered)

-- no more ends are to come than there are entries and workers
reserved_less : (workers : ℕ) (answered : List Answered) → reserved workers answered ≤ length answered + workers
reserved_less workers answered =
    let all = opened_less answered in
    omega (arith, length-filter (λ conn. not (has_gone answered conn)) (opened answered), count_by-le-length (λ conn. not (has_gone answered conn)) (opened answered), all)

module _ (project : ProjectView) (workers limit small total : ℕ) (enough : (m : ℕ) → m ≤ limit → m ≤ total + total + workers → m ≤ small) where
  passes_small : (noted : List Noted) (entry : Entry) → length noted + 1 ≤ total → is_none (fault project workers limit noted entry) ≡ true → is_none (fault project workers small noted entry) ≡ true
  passes_small noted entry within h =
      let c = checks project workers limit noted entry h in
      let after : List Noted = and_then project workers noted entry in
      let large = not_lt limit (length after + reserved workers (answered_of after)) c.fits in
      let size : length (answered_of after) ≡ length after = length-map after (λ (x : Noted). x.answered) in
      let few = reserved_less workers (answered_of after) in
      passes project workers small noted entry (record { in_order = c.in_order; is_there = c.is_there; has_worker = c.has_worker; in_range = c.in_range; fits = lt_not small (length after + reserved workers (answered_of after)) (enough (length after + reserved workers (answered_of after)) large (omega (arith, size, few, within))) })

  legal_small : (entries : List Entry) (noted : List Noted) → length noted + length entries ≤ total → is_legal_after project workers limit noted entries ≡ true → is_legal_after project workers small noted entries ≡ true
  legal_small [] noted within legal = refl
  legal_small (entry ∷ entries) noted within legal =
      let parts = and_parts (is_none (fault project workers limit noted entry)) _ legal in
      and_from _ _ (passes_small noted entry (omega (arith, within)) parts.0) (legal_small entries (and_then project workers noted entry) (omega (arith, within)) parts.1)

-- the limit that is enough
pub legal_within : (project : ProjectView) (workers limit : ℕ) (history : List Entry) → IsLegal project workers limit history → IsLegal project workers (min limit (length history + length history + workers)) history
legal_within project workers limit history legal = legal_small project workers limit (min limit (length history + length history + workers)) (length history) (λ m a b. omega (arith, a, b)) history [] (omega arith) legal
