-- The entry at a place of a history, with what was said to it.
use Rattle.std.proofs.Common.{◌≡◌, ℕ, zero, suc, List, [], ◌∷◌, ◌++◌, length, reverse, fold, Some, refl, sym, ap, ◌∙◌}
use Rattle.std.proofs.lemmas.List.{length-map, length-reverse, reverse-append}
use Rattle.std.specs.Prelude.{slice_get}
use Rattle.unit_registry.specs.Projects.{ProjectView}
use Rattle.histories.specs.declared.entry.Entry.{Entry}
use Rattle.histories.specs.declared.answered.Answered.{Answered}
use Rattle.histories.specs.Noted.{Noted, answered_of, answered_at}
use Rattle.histories.specs.Histories.{and_then, noted_of}
use Rattle.histories.proofs.OneEntry.{slice_get-append, slice_get-last}
use Rattle.histories.proofs.Acyclic.{answered_entry}
use Rattle.histories.proofs.Legality.{noted_more, length-noted_of}

-- the list, cut around the item at the place
pub record IsCut {A : Type 0} (xs : List A) (place : ℕ) (x : A) : Type 0 where
  pub front : List A
  pub behind : List A
  pub are : xs ≡ front ++ x ∷ behind
  pub is_place : place ≡ length front

pub cut_at : {A : Type 0} (x : A) → (xs : List A) (place : ℕ) → slice_get xs place ≡ Some x → IsCut xs place x
cut_at x [] place h = absurd (cc)
cut_at x (y ∷ xs) zero h = let same : y ≡ x = cc in record { front = []; behind = xs; are = ap (λ z. z ∷ xs) same; is_place = refl }
cut_at x (y ∷ xs) (suc place) h =
    let rest = cut_at x xs place h in
    record { front = y ∷ rest.front; behind = rest.behind; are = ap (λ zs. y ∷ zs) rest.are; is_place = ap suc rest.is_place }

-- what stands at a place stays there
answered_stays : (project : ProjectView) (workers place : ℕ) (x : Answered) → (more : List Entry) (noted : List Noted) → answered_at noted place ≡ Some x → answered_at (fold (and_then project workers) noted more) place ≡ Some x
answered_stays project workers place x [] noted h = h
answered_stays project workers place x (entry ∷ more) noted h =
    answered_stays project workers place x more (and_then project workers noted entry)
    (ap (λ xs. slice_get xs place) (reverse-append (answered_entry project noted entry ∷ []) (answered_of noted)) ∙ slice_get-append x (reverse (answered_of noted)) (answered_entry project noted entry ∷ []) place h)

-- an entry was answered after those before it
pub entry_at : (project : ProjectView) (workers : ℕ) (front behind : List Entry) (entry : Entry) → answered_at (noted_of project workers (front ++ entry ∷ behind)) (length front) ≡ Some (answered_entry project (noted_of project workers front) entry)
entry_at project workers front behind entry =
    ap (λ n. answered_at n (length front)) (noted_more project workers front (entry ∷ behind))
    ∙ answered_stays project workers (length front) newest behind (and_then project workers noted entry)
    (ap (λ xs. slice_get xs (length front)) (reverse-append (newest ∷ []) (answered_of noted)) ∙ slice_get-last newest (reverse (answered_of noted)) (length front) (sym (length-reverse (answered_of noted) ∙ length-map noted (λ (x : Noted). x.answered) ∙ length-noted_of project workers front)))
  where
    noted : List Noted
    noted = noted_of project workers front

    newest : Answered
    newest = answered_entry project noted entry

-- the entry at the place of a history is noted there
pub record StandsHere (project : ProjectView) (workers : ℕ) (history : List Entry) (place : ℕ) (of : Entry) : Type 0 where
  pub entry : Answered
  pub is_there : answered_at (noted_of project workers history) place ≡ Some entry
  pub act : entry.act ≡ of.act
  pub conn : entry.conn ≡ of.conn

pub stands_here : (project : ProjectView) (workers : ℕ) (history : List Entry) (place : ℕ) (entry : Entry) → slice_get history place ≡ Some entry → StandsHere project workers history place entry
stands_here project workers history place entry h =
    let cut = cut_at entry history place h in
    record {
      entry = answered_entry project (noted_of project workers cut.front) entry;
      is_there = ap (λ (es : List Entry). answered_at (noted_of project workers es) place) cut.are ∙ ap (λ (p : ℕ). answered_at (noted_of project workers (cut.front ++ entry ∷ cut.behind)) p) cut.is_place ∙ entry_at project workers cut.front cut.behind entry;
      act = refl;
      conn = refl;
    }
