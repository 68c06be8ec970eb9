-- Names as the keys of a set.
use Rattle.std.proofs.Common.{◌≡◌, ℕ, Bool, true, false, ◌||◌, List, [], ◌∷◌, ◌++◌, map, if◌then◌else◌, ap, ◌∙◌, refl, true≢false}
use Rattle.std.proofs.lemmas.List.{map-append}
use Rattle.std.specs.List.{list_any}

-- a test of what keys stand for
pub any_of : {K : Type 0} (items : K → List ℕ) (test : List ℕ → Bool) (keys : List K) → list_any (λ k. test (items k)) keys ≡ list_any test (map items keys)
any_of items test [] = refl
any_of items test (k ∷ keys) = ap (λ b. test (items k) || b) (any_of items test keys)

-- a key that isn't there goes last
pub added : {K : Type 0} (items : K → List ℕ) (test : Bool) (keys new : List K) (key : K) → test ≡ false → new ≡ (if test then keys else keys ++ key ∷ []) → map items new ≡ map items keys ++ items key ∷ []
added items true keys new key absent is = absurd (true≢false absent)
added items false keys new key absent is = ap (map items) is ∙ map-append items keys (key ∷ [])
