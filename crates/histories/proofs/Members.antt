-- Membership by recursion on the list against std's `Contains`, and what filters and maps keep.
use Rattle.std.proofs.Common.{◌≡◌, ℕ, zero, suc, ◌<◌, Bool, true, inl, inr, List, [], ◌∷◌, ◌++◌, reverse, length, map, filter, filter_map, get_or, Contains, Option, Some, None, refl, sym, ap, subst, ◌∙◌, arith}
use Rattle.std.proofs.lemmas.List.{reverse-append}
use Rattle.std.proofs.lemmas.List.Elements.{Contains-append_left, Contains-append_right}
use Rattle.std.specs.List.{list_any, cons_option}
pub use Rattle.histories.specs.Members.{In}
use Rattle.wait_graph.proofs.Members.{Contains-filter, Contains-filter_from, any_to as any_contained, any_from as any_of_contained}

pub In-at : {A : Type 0} (x : A) → (xs : List A) (k : ℕ) → k < length xs → get_or xs k x ≡ x → In x xs
In-at x [] k below e = absurd (omega arith)
In-at x (y ∷ ys) zero below e = inl e
In-at x (y ∷ ys) (suc k) below e = inr (In-at x ys k (omega arith) e)

pub In-from_Contains : {A : Type 0} (x : A) (xs : List A) → Contains xs x → In x xs
In-from_Contains x xs c = In-at x xs c.0 c.1 c.2

pub Contains-from_In : {A : Type 0} (x : A) → (xs : List A) → In x xs → Contains xs x
Contains-from_In x [] h = absurd h
Contains-from_In x (y ∷ ys) (inl e) = (0, omega arith, e)
Contains-from_In x (y ∷ ys) (inr h) = let r = Contains-from_In x ys h in (suc r.0, omega arith, r.2)

-- what a filter keeps
pub In-filter : {A : Type 0} (p : A → Bool) (x : A) → (xs : List A) → In x (filter p xs) → In x xs × (p x ≡ true)
In-filter p x xs h =
    let kept = Contains-filter p x xs (Contains-from_In x (filter p xs) h) in
    (In-from_Contains x xs kept.0, kept.1)

pub In-filter_from : {A : Type 0} (p : A → Bool) (x : A) → p x ≡ true → (xs : List A) → In x xs → In x (filter p xs)
In-filter_from p x passes xs h =
    In-from_Contains x (filter p xs) (Contains-filter_from p x passes xs (Contains-from_In x xs h))

-- a test of some element
pub any_to : {A : Type 0} (p : A → Bool) → (xs : List A) → list_any p xs ≡ true → (x : A) × In x xs × (p x ≡ true)
any_to p xs h = let found = any_contained p xs h in (found.0, In-from_Contains found.0 xs found.1, found.2)

pub any_from : {A : Type 0} (p : A → Bool) (x : A) → p x ≡ true → (xs : List A) → In x xs → list_any p xs ≡ true
any_from p x passes xs h = any_of_contained p x passes xs (Contains-from_In x xs h)

-- what `filter_map` gives
In-filter_map_step : {A B : Type 0} (h : A → Option B) (z : B) (y : A) (ys : List A) → (In z (filter_map h ys) → (x : A) × In x ys × (h x ≡ Some z)) → (o : Option B) → h y ≡ o → In z (cons_option o (filter_map h ys)) → (x : A) × In x (y ∷ ys) × (h x ≡ Some z)
In-filter_map_step h z y ys ih None e there = let r = ih there in (r.0, inr r.1, r.2)
In-filter_map_step {A} {B} h z y ys ih (Some w) e (inl s) =
    (y, inl refl, e ∙ ap (λ (v : B). Some v) s)
In-filter_map_step h z y ys ih (Some w) e (inr there) = let r = ih there in (r.0, inr r.1, r.2)

pub In-filter_map : {A B : Type 0} (h : A → Option B) (z : B) → (xs : List A) → In z (filter_map h xs) → (x : A) × In x xs × (h x ≡ Some z)
In-filter_map h z [] there = absurd there
In-filter_map h z (y ∷ ys) there = In-filter_map_step h z y ys (In-filter_map h z ys) (h y) refl there

In-filter_map_from_step : {A B : Type 0} (h : A → Option B) (z : B) (x y : A) (ys : List A) → h x ≡ Some z → (In x ys → In z (filter_map h ys)) → In x (y ∷ ys) → In z (cons_option (h y) (filter_map h ys))
In-filter_map_from_step h z x y ys gives ih (inl e) =
    subst (λ o. In z (cons_option o (filter_map h ys))) (sym (ap h e ∙ gives)) (inl refl)
In-filter_map_from_step {A} {B} h z x y ys gives ih (inr there) = behind (h y) (ih there)
  where
    behind : (o : Option B) → In z (filter_map h ys) → In z (cons_option o (filter_map h ys))
    behind None there = there
    behind (Some w) there = inr there

pub In-filter_map_from : {A B : Type 0} (h : A → Option B) (z : B) (x : A) → h x ≡ Some z → (xs : List A) → In x xs → In z (filter_map h xs)
In-filter_map_from h z x gives [] there = absurd there
In-filter_map_from h z x gives (y ∷ ys) there =
    In-filter_map_from_step h z x y ys gives (In-filter_map_from h z x gives ys) there

pub In-map : {A B : Type 0} (f : A → B) (z : B) → (xs : List A) → In z (map f xs) → (x : A) × In x xs × (f x ≡ z)
In-map f z [] h = absurd h
In-map f z (y ∷ ys) (inl e) = (y, inl refl, e)
In-map f z (y ∷ ys) (inr h) = let r = In-map f z ys h in (r.0, inr r.1, r.2)

pub In-map_from : {A B : Type 0} (f : A → B) (x : A) → (xs : List A) → In x xs → In (f x) (map f xs)
In-map_from f x [] h = absurd h
In-map_from f x (y ∷ ys) (inl e) = inl (ap f e)
In-map_from f x (y ∷ ys) (inr h) = inr (In-map_from f x ys h)

-- the same list, backwards
backwards : {A : Type 0} (x y : A) (ys : List A) → Contains (reverse ys ++ y ∷ []) x → In x (reverse (y ∷ ys))
backwards x y ys there =
    subst (λ zs. In x zs) (sym (reverse-append (y ∷ []) ys)) (In-from_Contains x (reverse ys ++ y ∷ []) there)

pub In-reverse : {A : Type 0} (x : A) → (xs : List A) → In x xs → In x (reverse xs)
In-reverse x [] h = absurd h
In-reverse x (y ∷ ys) (inl e) = backwards x y ys (Contains-append_right (reverse ys) (y ∷ []) x (0, omega arith, e))
In-reverse x (y ∷ ys) (inr h) = backwards x y ys (Contains-append_left (reverse ys) (y ∷ []) x (Contains-from_In x (reverse ys) (In-reverse x ys h)))
