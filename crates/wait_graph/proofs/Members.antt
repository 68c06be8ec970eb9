-- What a list contains, through a filter and through a test of some element.
use Rattle.std.proofs.Common.{◌≡◌, ℕ, zero, suc, ◌<◌, ◌≤◌, Bool, true, false, cond, inl, inr, List, [], ◌∷◌, length, filter, get_or, Contains, refl, sym, ap, subst, ◌∙◌, arith, true≢false}
use Rattle.std.proofs.lemmas.Bool.{or_cases, cond-true, cond-false}
use Rattle.std.proofs.lemmas.List.Elements.{All-contains, All-filter, All-contains_itself, filter_passes}
use Rattle.std.proofs.lemmas.List.Sums.{length-filter, count_by-le-length}
use Rattle.std.proofs.lemmas.List.Folds.{list_any_at}
use Rattle.std.specs.List.{list_any}

pub Contains-cons : {A : Type 0} (x y : A) (ys : List A) → Contains ys x → Contains (y ∷ ys) x
Contains-cons x y ys c = (suc c.0, omega arith, c.2)

-- what a filter keeps
pub Contains-filter : {A : Type 0} (p : A → Bool) (x : A) (xs : List A) → Contains (filter p xs) x → Contains xs x × (p x ≡ true)
Contains-filter p x xs c =
    (All-contains (λ y. Contains xs y) (filter p xs) x (All-filter p (λ y. Contains xs y) xs (All-contains_itself xs)) c, All-contains (λ y. p y ≡ true) (filter p xs) x (filter_passes p xs) c)

pub Contains-filter_from : {A : Type 0} (p : A → Bool) (x : A) → p x ≡ true → (xs : List A) → Contains xs x → Contains (filter p xs) x
Contains-filter_from {A} p x passes xs c = go xs c.0 c.1 c.2
  where
    go : (xs : List A) (k : ℕ) → k < length xs → get_or xs k x ≡ x → Contains (filter p xs) x
    go [] k below e = absurd (omega arith)
    go (y ∷ ys) zero below e = subst (λ zs. Contains zs x) (sym (cond-true (p y) (y ∷ filter p ys) (filter p ys) (ap p e ∙ passes))) (0, omega arith, e)
    go (y ∷ ys) (suc k) below e = step (p y) (go ys k (omega arith) e)
      where
        step : (b : Bool) → Contains (filter p ys) x → Contains (cond b (y ∷ filter p ys) (filter p ys)) x
        step true there = Contains-cons x y (filter p ys) there
        step false there = there

-- a filter that leaves an element out makes a shorter list
pub length-filter_lt : {A : Type 0} (p : A → Bool) (x : A) → p x ≡ false → (xs : List A) → Contains xs x → length (filter p xs) < length xs
length-filter_lt {A} p x fails xs c = go xs c.0 c.1 c.2
  where
    go : (xs : List A) (k : ℕ) → k < length xs → get_or xs k x ≡ x → length (filter p xs) < length xs
    go [] k below e = absurd (omega arith)
    go (y ∷ ys) zero below e =
        let same : length (filter p (y ∷ ys)) ≡ length (filter p ys) = ap length (cond-false (p y) (y ∷ filter p ys) (filter p ys) (ap p e ∙ fails)) in
        let less : length (filter p ys) ≤ length ys = omega (arith, length-filter p ys, count_by-le-length p ys) in
        omega arith
    go (y ∷ ys) (suc k) below e = step (p y) (go ys k (omega arith) e)
      where
        step : (b : Bool) → length (filter p ys) < length ys → length (cond b (y ∷ filter p ys) (filter p ys)) < length (y ∷ ys)
        step true less = omega arith
        step false less = omega arith

-- a test of some element
pub any_to : {A : Type 0} (p : A → Bool) → (xs : List A) → list_any p xs ≡ true → (x : A) × Contains xs x × (p x ≡ true)
any_to p [] h = absurd (true≢false (sym h))
any_to p (y ∷ ys) h =
    elim (or_cases (p y) (list_any p ys) h) [
      | inl here ↦ (y, (0, omega arith, refl), here)
      | inr there ↦ (let r = any_to p ys there in (r.0, Contains-cons r.0 y ys r.1, r.2))
    ]

pub any_from : {A : Type 0} (p : A → Bool) (x : A) → p x ≡ true → (xs : List A) → Contains xs x → list_any p xs ≡ true
any_from p x passes xs c = list_any_at p xs c.0 x c.1 (ap p c.2 ∙ passes)
