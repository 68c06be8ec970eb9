-- The longest run of octets that pass a test, and the first close of a comment.
use Rattle.std.proofs.Common.{◌≡◌, ℕ, zero, suc, ◌+◌, ◌<◌, Bool, true, false, cond, List, [], ◌∷◌, length, get_or, take, drop, eqb, ◌&&◌, refl, arith, add-one}
use Rattle.std.proofs.Math.Numerals.{one-add}
use Rattle.std.proofs.lemmas.Bool.{not_from_false, false_from_ne_true, and_parts, eqb-true, or_from}
use Rattle.std.proofs.lemmas.List.{take_all}
use Rattle.std.specs.List.{prefix_len, list_all}
use Rattle.module_lexer.specs.Cut.{ends_run, has_close}

-- the longest run passes the test
pub run_passes : (p : ℕ → Bool) (xs : List ℕ) → list_all p (take (prefix_len p xs) xs) ≡ true
run_passes p [] = refl
run_passes p (x ∷ xs) =
    elim (p x) as (λ b. p x ≡ b → list_all p (take (cond b (1 + prefix_len p xs) 0) (x ∷ xs)) ≡ true) [
      | true ↦ λ e. rw one-add (rw e (run_passes p xs))
      | false ↦ λ e. refl
    ] refl

-- what stands behind the longest run ends it
pub run_ends : (p : ℕ → Bool) (xs : List ℕ) → ends_run p (drop (prefix_len p xs) xs) ≡ true
run_ends p [] = refl
run_ends p (x ∷ xs) =
    elim (p x) as (λ b. p x ≡ b → ends_run p (drop (cond b (1 + prefix_len p xs) 0) (x ∷ xs)) ≡ true) [
      | true ↦ λ e. rw one-add (run_ends p xs)
      | false ↦ λ e. not_from_false (p x) e
    ] refl

-- a run that goes on past its first octet
pub run-cons : (p : ℕ → Bool) (x : ℕ) (xs : List ℕ) → p x ≡ true → prefix_len p (x ∷ xs) ≡ suc (prefix_len p xs)
run-cons p x xs e = rw e (one-add (prefix_len p xs))

-- no close stands at a place
abbrev pub NoCloseAt : List ℕ → ℕ → Type 0
NoCloseAt octets k = get_or octets k 0 ≡ 42 → get_or octets (k + 1) 0 ≡ 47 → ⊥

-- two octets that are no star and slash
close_test : (a b : ℕ) → (a ≡ 42 → b ≡ 47 → ⊥) → (eqb a 42 && eqb b 47) ≡ false
close_test a b none = false_from_ne_true _ (λ e. let p = and_parts (eqb a 42) (eqb b 47) e in none (eqb-true _ _ p.0) (eqb-true _ _ p.1))

-- where no place before n is a close, the first n + 1 octets have none
has_close-take_suc : (octets : List ℕ) (n : ℕ) → ((k : ℕ) → k < n → NoCloseAt octets k) → has_close (take (suc n) octets) ≡ false
has_close-take_suc [] n none = refl
has_close-take_suc (a ∷ []) zero none = refl
has_close-take_suc (a ∷ []) (suc n) none = refl
has_close-take_suc (a ∷ b ∷ bs) zero none = refl
has_close-take_suc (a ∷ b ∷ bs) (suc n) none =
    or_from _ _ (close_test a b (none 0 (omega arith)))
    (has_close-take_suc (b ∷ bs) n (λ k lt. rw add-one (let h = none (suc k) (omega arith) in rw add-one at h)))

-- where no place whose two octets lie before n is a close, the first n octets have none
pub has_close-take : (octets : List ℕ) (n : ℕ) → ((k : ℕ) → k + 1 < n → NoCloseAt octets k) → has_close (take n octets) ≡ false
has_close-take octets zero none = refl
has_close-take octets (suc n) none = has_close-take_suc octets n (λ k lt. none k (omega arith))

-- where no place is a close, there is none
pub has_close_none : (octets : List ℕ) → ((k : ℕ) → k + 1 < length octets → NoCloseAt octets k) → has_close octets ≡ false
has_close_none octets none = rw (take_all (length octets) octets (omega arith)) at (has_close-take octets (length octets) none)
