-- A reply that has come stays.
use Rattle.std.proofs.Common.{◌≡◌, ℕ, true, List, [], ◌∷◌, ◌++◌, map, All, is_some, refl, sym, ap, ap₂, ◌∙◌, true≢false}
use Rattle.std.proofs.lemmas.List.Elements.{All-head, All-tail}
use Rattle.std.proofs.lemmas.List.Sums.{fold-append}
use Rattle.std.specs.Prelude.{Option, Some, None, IsTrue, fold}
use Rattle.std.specs.Option.{option_or}
use Rattle.histories.specs.declared.entry.Entry.{Entry}
use Rattle.histories.specs.declared.answer.Answer.{Answer}
use Rattle.unit_registry.specs.Projects.{ProjectView}
use Rattle.histories.specs.Noted.{Noted, reply_in}
use Rattle.histories.specs.Histories.{noted_of, and_then, reply}

option_or-some : {A : Type 0} → (o p : Option A) (x : A) → o ≡ Some x → option_or o p ≡ Some x
option_or-some o p x e = ap (λ q. option_or q p) e

stays : (project : ProjectView) (workers : ℕ) (noted : List Noted) (more : List Entry) (place : ℕ) (answer : Answer) → reply_in project noted place ≡ Some answer → reply_in project (fold (and_then project workers) noted more) place ≡ Some answer
stays project workers noted [] place answer came = came
stays project workers noted (entry ∷ more) place answer came =
    stays project workers (and_then project workers noted entry) more place answer (option_or-some _ _ answer came)

pub replies_stay : (project : ProjectView) (workers : ℕ) (history more : List Entry) (place : ℕ) (answer : Answer) → reply project workers history place ≡ Some answer → reply project workers (history ++ more) place ≡ Some answer
replies_stay project workers history more place answer came =
    ap (λ noted. reply_in project noted place) (fold-append (and_then project workers) [] history more)
    ∙ stays project workers (noted_of project workers history) more place answer came

some_stays : (project : ProjectView) (workers : ℕ) (history more : List Entry) (place : ℕ) → is_some (reply project workers history place) ≡ true → reply project workers (history ++ more) place ≡ reply project workers history place
some_stays project workers history more place there = by (reply project workers history place) refl there
  where
    by : (o : Option Answer) → reply project workers history place ≡ o → is_some o ≡ true → reply project workers (history ++ more) place ≡ reply project workers history place
    by None came there = absurd (true≢false (sym there))
    by (Some answer) came there = replies_stay project workers history more place answer came ∙ sym came

-- the replies at places that all have one
pub all_stay : (project : ProjectView) (workers : ℕ) (history more : List Entry) (places : List ℕ) → All (λ place. IsTrue (is_some (reply project workers history place))) places → map (reply project workers (history ++ more)) places ≡ map (reply project workers history) places
all_stay project workers history more [] there = refl
all_stay project workers history more (place ∷ places) there =
    ap₂ (λ o os. o ∷ os) (some_stays project workers history more place (All-head (λ (p : ℕ). IsTrue (is_some (reply project workers history p))) place places there)) (all_stay project workers history more places (All-tail (λ (p : ℕ). IsTrue (is_some (reply project workers history p))) place places there))
