-- Pairs of units, and the walks along them.
use Rattle.std.specs.Prelude.{◌≡◌, ℕ, zero, suc, Bool, ◌||◌, List, [], ◌∷◌, length, filter, Contains, ◌==◌}
use Rattle.std.specs.List.{list_any}

-- The units behind `from` are a walk to `to`: each two neighbours are one of the pairs. With no unit behind it the walk
-- is `from` alone, and has no pair.
abbrev pub IsWalk : List (ℕ × ℕ) → ℕ → List ℕ → ℕ → Type 0
IsWalk pairs from [] to = from ≡ to
IsWalk pairs from (next ∷ units) to = Contains pairs (from, next) × IsWalk pairs next units to

-- some walk leads from one unit to the other
abbrev pub Leads : List (ℕ × ℕ) → ℕ → ℕ → Type 0
Leads pairs from to = (units : List ℕ) × IsWalk pairs from units to

-- no walk of two or more units leads from a unit to itself
abbrev pub IsAcyclic : List (ℕ × ℕ) → Type 0
IsAcyclic pairs = (unit next : ℕ) (units : List ℕ) → ¬ IsWalk pairs unit (next ∷ units) unit

-- the second unit of the pair is the first of none
abbrev pub IsLastPair : List (ℕ × ℕ) → ℕ × ℕ → Type 0
IsLastPair pairs pair = (unit : ℕ) → ¬ Contains pairs (pair.1, unit)

-- whether a walk of at most so many pairs leads there
abbrev pub leads_within : ℕ → List (ℕ × ℕ) → ℕ → ℕ → Bool
leads_within zero pairs from to = from == to
leads_within (suc most) pairs from to =
    from == to || list_any (λ pair. leads_within most pairs pair.1 to) (filter (λ pair. pair.0 == from) pairs)

-- whether a walk leads there: a shortest one has no more pairs than there are
abbrev pub leads : List (ℕ × ℕ) → ℕ → ℕ → Bool
leads pairs from to = leads_within (length pairs) pairs from to
