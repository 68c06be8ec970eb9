-- The first word of a command line.
use Rattle.std.proofs.Common.{◌<◌, ◌≡◌, ℕ, Bool, true, List, [], ◌∷◌, length, map, get_or, sym, ap, ◌∙◌, arith, IsTrue}
use Rattle.std.specs.Str.{bytes_eq}
use Rattle.std.proofs.lemmas.Slice.Eq.{bytes_eq-Decides}

true_is : (b : Bool) → IsTrue b → b ≡ true
true_is b h = search (arith, h)

is_true : (b : Bool) → b ≡ true → IsTrue b
is_true b h = search (arith, h)

begins : {X Y : Type 0} (f : X → Y) (xs : List X) (x : X) → 0 < length xs → x ≡ get_or xs 0 x → (rest : List Y) × (map f xs ≡ f x ∷ rest)
begins f [] x some e = absurd (omega (arith, some))
begins f (y ∷ xs) x some e = (map f xs, ap (λ z. f z ∷ map f xs) (sym e))

-- the first word is this text exactly where the test says so
pub first_word : {X : Type 0} (bytes : X → List ℕ) (words : List X) (word : X) (text : List ℕ) (found : List ℕ) (test : Bool) → 0 < length words → word ≡ get_or words 0 word → found ≡ bytes word → test ≡ bytes_eq found text
    → (IsTrue test → (rest : List (List ℕ)) × (map bytes words ≡ text ∷ rest)) × ((rest : List (List ℕ)) × (map bytes words ≡ text ∷ rest) → IsTrue test)
first_word bytes words word text found test some at same e =
    let all = begins bytes words word some at in (
      λ h. (all.0, all.1 ∙ ap (λ t. t ∷ all.0) (sym same ∙ (bytes_eq-Decides found text).0 (sym e ∙ true_is test h))),
      λ h. is_true test (e ∙ (bytes_eq-Decides found text).1 (same ∙ front _ _ (sym all.1 ∙ h.1))),
    )
  where
    front : {x y : List ℕ} (xs ys : List (List ℕ)) → x ∷ xs ≡ y ∷ ys → x ≡ y
    front xs ys h = cc
