-- Tests of all elements of a list, and of one octet.
use Rattle.std.proofs.Common.{◌≡◌, ℕ, Bool, true, false, eqb, not, List, [], ◌∷◌, refl, ap, ◌∙◌, inl, inr}
use Rattle.std.specs.List.{AllByRecursion, list_all, join_with_byte}
use Rattle.std.proofs.lemmas.List.Folds.{list_all-append}
use Rattle.std.proofs.lemmas.Bool.{and_parts, and_from, cases_Bool, eqb-true, not_from_false, both_ways}

-- what passes one test passes another
pub list_all_weaker : {X : Type 0} (p q : X → Bool) → ((x : X) → p x ≡ true → q x ≡ true) → (xs : List X) → list_all p xs ≡ true → list_all q xs ≡ true
list_all_weaker p q f [] h = refl
list_all_weaker p q f (x ∷ xs) h =
    let both = and_parts (p x) (list_all p xs) h in
    and_from (q x) (list_all q xs) (f x both.0) (list_all_weaker p q f xs both.1)

-- a test and the fact that it decides, over a list
pub each_from : {X : Type 0} (p : X → Bool) (P : X → Type 0) → ((x : X) → p x ≡ true → P x) → (xs : List X) → list_all p xs ≡ true → AllByRecursion P xs
each_from p P f [] h = tt
each_from p P f (x ∷ xs) h =
    let both = and_parts (p x) (list_all p xs) h in
    (f x both.0, each_from p P f xs both.1)

-- the other way round
pub each_to : {X : Type 0} (p : X → Bool) (P : X → Type 0) → ((x : X) → P x → p x ≡ true) → (xs : List X) → AllByRecursion P xs → list_all p xs ≡ true
each_to p P f [] h = refl
each_to p P f (x ∷ xs) h = and_from (p x) (list_all p xs) (f x h.0) (each_to p P f xs h.1)

-- lists joined by an octet that passes
pub list_all-join : (q : ℕ → Bool) (c : ℕ) → q c ≡ true → (parts : List (List ℕ)) → list_all (list_all q) parts ≡ true → list_all q (join_with_byte c parts) ≡ true
list_all-join q c t [] h = refl
list_all-join q c t (part ∷ []) h = (and_parts (list_all q part) true h).0
list_all-join q c t (part ∷ next ∷ parts) h =
    let both = and_parts (list_all q part) (list_all (list_all q) (next ∷ parts)) h in
    list_all-append q part (c ∷ join_with_byte c (next ∷ parts))
    ∙ and_from (list_all q part) (list_all q (c ∷ join_with_byte c (next ∷ parts))) both.0 (and_from (q c) (list_all q (join_with_byte c (next ∷ parts))) t (list_all-join q c t (next ∷ parts) both.1))

-- an octet that passes isn't one that fails
pub apart : (p : ℕ → Bool) (d : ℕ) → p d ≡ false → (c : ℕ) → p c ≡ true → eqb c d ≡ false
apart p d f c t = elim (cases_Bool (eqb c d)) [ inl e ↦ absurd (both_ways (p c) (ap p (eqb-true c d e) ∙ f) t) | inr e ↦ e ]

-- no octet is this one
abbrev pub lacks : ℕ → List ℕ → Bool
lacks c xs = list_all (λ x. not (eqb x c)) xs

-- a list of octets that pass lacks one that fails
pub lacks_from : (p : ℕ → Bool) (d : ℕ) → p d ≡ false → (xs : List ℕ) → list_all p xs ≡ true → lacks d xs ≡ true
lacks_from p d f xs h = list_all_weaker p (λ x. not (eqb x d)) (λ c t. not_from_false (eqb c d) (apart p d f c t)) xs h
