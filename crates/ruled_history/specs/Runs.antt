-- Lists of numbers, and the runs of worker numbers under which entries are made.
use Rattle.std.specs.Prelude.{◌≡◌, ℕ, zero, suc, ◌+◌, ◌<◌, ◌==◌, List, [], ◌∷◌, ◌++◌, count_by, if◌then◌else◌, nat_lt}

-- the list begins with the other
abbrev pub StartsWith : {A : Type 0} → List A → List A → Type 0
StartsWith {A} whole front = (rest : List A) × (whole ≡ front ++ rest)

-- how often the number stands in the list
abbrev pub times : ℕ → List ℕ → ℕ
times number numbers = count_by (λ other. other == number) numbers

-- the number stands in the list
abbrev pub Has : ℕ → List ℕ → Type 0
Has number numbers = 0 < times number numbers

-- 1 where the number is below the other, else 0
abbrev pub once_below : ℕ → ℕ → ℕ
once_below number end = if nat_lt number end then 1 else 0

-- each place of so many entries stands in the list once, and nothing else stands there
abbrev pub AreAllPlaces : List ℕ → ℕ → Type 0
AreAllPlaces places count = (place : ℕ) → times place places ≡ once_below place count

-- 1 where the worker number is one of the run of so many numbers from the first on, else 0
abbrev pub in_run : ℕ → ℕ → ℕ → ℕ
in_run first share worker = if nat_lt worker first then 0 else (if nat_lt worker (first + share) then 1 else 0)

-- 1 where an entry stands at the place that was made under the run, else 0. The list has, beside each entry, the first
-- worker number of the seat that made it
abbrev pub made_at : ℕ → ℕ → List ℕ → ℕ → ℕ
made_at first share [] place = 0
made_at first share (maker ∷ makers) zero = in_run first share maker
made_at first share (maker ∷ makers) (suc place) = made_at first share makers place
