-- Names and contents that are added one after another.
use Rattle.std.proofs.Common.{◌≡◌, ℕ, ◌+◌, ◌<◌, List, length, Some, Ok, ◌∙◌, sym, ap, arith, get_or}
use Rattle.std.proofs.lemmas.List.{get_or_default}
use borrow.Author.Count.{below_more}
use Rattle.mm_outside.specs.Files.{Lookup, Stores}
use Rattle.mm_outside.specs.Named.{AreDistinct, HoldsFirst}

-- one name more holds its content
pub holds-more : {T E : Type 0} (u : T) (k : ℕ) (names contents : List (List ℕ)) (old new : Lookup) (name content : List ℕ)
    → k < length names → length names ≡ length contents → name ≡ get_or names k name → content ≡ get_or contents k content
    → AreDistinct names → HoldsFirst k names contents old → Stores {T = T} {E = E} (Ok u) name content old new → HoldsFirst (k + 1) names contents new
holds-more u k names contents old new name content below len is_name is_content distinct holds stores =
    let named : (d : List ℕ) → get_or names k d ≡ name = λ d. get_or_default names k d name below ∙ sym is_name in
    let filled : (d : List ℕ) → get_or contents k d ≡ content = λ d. get_or_default contents k d content (omega (arith, len)) ∙ sym is_content in
    let here : (d : List ℕ) → new (get_or names k d) ≡ Some (get_or contents k d) = λ d. ap new (named d) ∙ stores.stored ∙ ap Some (sym (filled d)) in
    let before : (j : ℕ) → j < k → (d : List ℕ) → new (get_or names j d) ≡ Some (get_or contents j d) =
    λ j less d. stores.others (get_or names j d) (λ e. distinct j k d less below (e ∙ sym (named d))) ∙ holds.held j d less in
    record {
      held = λ j d less. below_more (λ i. (d : List ℕ) → new (get_or names i d) ≡ Some (get_or contents i d)) k before here j less d;
      none = λ other never. stores.others other (λ e. never k name (omega arith) (named name ∙ sym e)) ∙ holds.none other (λ j d less. never j d (omega (arith, less)));
    }
