-- Worked rows, which the definitions compute.
use Rattle.std.proofs.Common.{◌≡◌, ℕ, List, [], ◌∷◌, refl, true, false, not, ◌==◌, filter, arith}
use Rattle.wait_graph.specs.Walks.{IsWalk, leads, leads_within}

-- two pairs, one behind the other
chain : List (ℕ × ℕ)
chain = (0, 1) ∷ (1, 2) ∷ []

-- the walk from 0 to 2 is 0, 1, 2
along : IsWalk chain 0 (1 ∷ 2 ∷ []) 2
unfolding chain
along = ((0, omega arith, refl), ((1, omega arith, refl), refl))

leads_along : leads chain 0 2 ≡ true
unfolding chain
leads_along = refl

-- one pair alone is not enough
not_by_one_pair : leads_within 1 chain 0 2 ≡ false
unfolding chain
not_by_one_pair = refl

leads_not_back : leads chain 2 0 ≡ false
unfolding chain
leads_not_back = refl

-- a walk of one unit has no pair
stays : IsWalk [] 2 [] 2
stays = refl

leads_to_itself : leads chain 2 2 ≡ true
unfolding chain
leads_to_itself = refl

-- a third pair would close a circle of three, and its walk leads from 0 to itself
ring : IsWalk ((2, 0) ∷ (0, 1) ∷ (1, 2) ∷ []) 0 (1 ∷ 2 ∷ 0 ∷ []) 0
ring = ((1, omega arith, refl), ((2, omega arith, refl), ((0, omega arith, refl), refl)))

-- a pair of a unit with itself is a circle
own_ring : IsWalk ((4, 4) ∷ []) 4 (4 ∷ []) 4
own_ring = ((0, omega arith, refl), refl)

-- what is left without the pairs to 1, and without those from 1
without_to : filter (λ pair. not (pair.1 == 1)) chain ≡ (1, 2) ∷ []
unfolding chain
without_to = refl

without_from : filter (λ pair. not (pair.0 == 1)) chain ≡ (0, 1) ∷ []
unfolding chain
without_from = refl
