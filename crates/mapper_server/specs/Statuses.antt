-- The status that serving ends with.
use Rattle.std.specs.Prelude.{◌≡◌, ℕ, zero, suc, ◌≤◌, ◌<◌, min, List, ◌⊎◌, map}
use Rattle.mm_outside.specs.declared.hall.Back.{Back}

-- a status above 0 that is at most this number
abbrev pub IsUpTo : ℕ → ℕ → Type 0
IsUpTo most status = (0 < status) × (status ≤ most)

-- The status is 0 or a number that may count. Where a number above 0 must count, the status is above 0 and at most that.
pub record IsLeast (may must : ℕ → Type 0) (status : ℕ) : Type 0 where
  pub cause : (status ≡ 0) ⊎ may status
  pub least : (other : ℕ) → 0 < other → must other → IsUpTo other status

-- a status that serving ends with
abbrev pub IsServingStatus : ℕ → Type 0
IsServingStatus status = (status ≡ 0) ⊎ ((status ≡ 4) ⊎ ((status ≡ 5) ⊎ ((status ≡ 7) ⊎ ((status ≡ 8) ⊎ (status ≡ 9)))))

-- a count has grown in this call
abbrev pub Grew : ℕ → ℕ → Type 0
Grew before now = before < now

-- the statuses that these links were given back with
abbrev pub statuses_of : {L : Type 0} → List (Back L) → List ℕ
statuses_of = map (λ back. back.status)

-- of two statuses the less that is above 0
abbrev pub less_of : ℕ → ℕ → ℕ
less_of zero other = other
less_of (suc status) zero = suc status
less_of (suc status) (suc other) = min (suc status) (suc other)
