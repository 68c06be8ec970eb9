-- Short walks: where a walk leads, one with at most as many pairs as there are does, and `leads` finds those.
use Rattle.std.proofs.Common.{◌≡◌, ◌≢◌, ℕ, zero, suc, ◌<◌, ◌≤◌, true, not, ◌==◌, ◌⊎◌, inl, inr, List, [], ◌∷◌, length, filter, Contains, refl, subst, arith, eq-eqb, eqb-true, ne_eqb}
use Rattle.std.proofs.lemmas.Bool.{or_cases, or_left, or_right, cases_eq, not_from_true, not_from_false}
use Rattle.wait_graph.specs.Walks.{IsWalk, Leads, leads_within, leads}
use Rattle.wait_graph.proofs.Members.{Contains-filter, Contains-filter_from, length-filter_lt, any_to, any_from}
use Rattle.wait_graph.proofs.WalkLaws.{Pairs, AreAmong, AreAmong-filter, IsWalk-more, Leads-step}

-- the pairs that don't begin at a unit
abbrev pub without : ℕ → Pairs → Pairs
without unit pairs = filter (λ p. not (p.0 == unit)) pairs

pub without-among : (unit : ℕ) (pairs : Pairs) → AreAmong (without unit pairs) pairs
without-among unit pairs = AreAmong-filter (λ p. not (p.0 == unit)) pairs

pub without-keeps : (unit : ℕ) (pairs : Pairs) (p : ℕ × ℕ) → p.0 ≢ unit → Contains pairs p → Contains (without unit pairs) p
without-keeps unit pairs p differs c =
    Contains-filter_from (λ q. not (q.0 == unit)) p (not_from_false (p.0 == unit) (ne_eqb p.0 unit differs)) pairs c

pub without-lt : (unit next : ℕ) (pairs : Pairs) → Contains pairs (unit, next) → length (without unit pairs) < length pairs
without-lt unit next pairs c =
    length-filter_lt (λ q. not (q.0 == unit)) (unit, next) (not_from_true (unit == unit) (eq-eqb unit unit refl)) pairs c

-- there is a pair that begins at the unit, and a walk from its second unit along pairs that don't
abbrev LeadsBehind : Pairs → ℕ → ℕ → Type 0
LeadsBehind pairs unit to =
    (next : ℕ) × Contains pairs (unit, next) × Leads (without unit pairs) next to

-- a walk either avoids the pairs that begin at a unit, or has an end behind the last of them that does
avoid : (pairs : Pairs) (unit to : ℕ) → (units : List ℕ) (from : ℕ) → IsWalk pairs from units to → Leads (without unit pairs) from to ⊎ LeadsBehind pairs unit to
avoid pairs unit to [] from e = inl ([], e)
avoid pairs unit to (next ∷ units) from h = step (cases_eq from unit) (avoid pairs unit to units next h.1)
  where
    step : (from ≡ unit) ⊎ (from ≡ unit → ⊥) → Leads (without unit pairs) next to ⊎ LeadsBehind pairs unit to → Leads (without unit pairs) from to ⊎ LeadsBehind pairs unit to
    step (inl e) (inl walk) = inr (next, (subst (λ x. Contains pairs (x, next)) e h.0), walk)
    step (inr differs) (inl walk) =
        inl (Leads-step (without unit pairs) from next to (without-keeps unit pairs (from, next) differs h.0) walk)
    step _ (inr found) = inr found

-- a walk between two units that differ begins with a pair behind which the first unit is not come to again
leaves : (pairs : Pairs) (from to : ℕ) → from ≢ to → (units : List ℕ) → IsWalk pairs from units to → LeadsBehind pairs from to
leaves pairs from to differs [] e = absurd (differs e)
leaves pairs from to differs (next ∷ units) h =
    elim (avoid pairs from to units next h.1) [ inl walk ↦ (next, h.0, walk) | inr found ↦ found ]

abbrev HasShort : Pairs → ℕ → ℕ → Type 0
HasShort pairs from to = (units : List ℕ) × IsWalk pairs from units to × (length units ≤ length pairs)

short_step : (most : ℕ) (pairs : Pairs) (from to : ℕ) → length pairs ≤ suc most → ((next : ℕ) → length (without from pairs) ≤ most → Leads (without from pairs) next to → HasShort (without from pairs) next to) → (from ≡ to) ⊎ (from ≡ to → ⊥) → Leads pairs from to → HasShort pairs from to
short_step most pairs from to few ih (inl e) walk = ([], e, omega arith)
short_step most pairs from to few ih (inr differs) walk =
    let found = leaves pairs from to differs walk.0 walk.1 in
    let fewer : length (without from pairs) < length pairs = without-lt from found.0 pairs found.1 in
    let r = ih found.0 (omega arith) found.2 in
    let bound : length r.0 ≤ length (without from pairs) = r.2 in
    (found.0 ∷ r.0, (found.1, IsWalk-more (without from pairs) pairs (without-among from pairs) r.0 found.0 to r.1), omega arith)

-- where a walk leads, one with at most as many pairs as there are does
short : (most : ℕ) (pairs : Pairs) (from to : ℕ) → length pairs ≤ most → Leads pairs from to → HasShort pairs from to
short zero pairs from to few walk = start (cases_eq from to)
  where
    start : (from ≡ to) ⊎ (from ≡ to → ⊥) → HasShort pairs from to
    start (inl e) = ([], e, omega arith)
    start (inr differs) =
        let found = leaves pairs from to differs walk.0 walk.1 in
        let fewer : length (without from pairs) < length pairs = without-lt from found.0 pairs found.1 in
        absurd (omega arith)
short (suc most) pairs from to few walk =
    short_step most pairs from to few (λ next. short most (without from pairs) next to) (cases_eq from to) walk

-- `leads_within` finds every walk of so many pairs, and only walks
finds : (pairs : Pairs) (to : ℕ) → (most : ℕ) (units : List ℕ) (from : ℕ) → IsWalk pairs from units to → length units ≤ most → leads_within most pairs from to ≡ true
finds pairs to zero [] from e few = eq-eqb from to e
finds pairs to zero (next ∷ units) from h few = absurd (omega arith)
finds pairs to (suc most) [] from e few = or_left (from == to) _ (eq-eqb from to e)
finds pairs to (suc most) (next ∷ units) from h few =
    let rest : leads_within most pairs next to ≡ true = finds pairs to most units next h.1 (omega arith) in
    or_right (from == to) _ (any_from (λ p. leads_within most pairs p.1 to) (from, next) rest (filter (λ p. p.0 == from) pairs) (Contains-filter_from (λ p. p.0 == from) (from, next) (eq-eqb from from refl) pairs h.0))

found_is_walk : (pairs : Pairs) (to : ℕ) → (most : ℕ) (from : ℕ) → leads_within most pairs from to ≡ true → Leads pairs from to
found_is_walk pairs to zero from h = ([], eqb-true from to h)
found_is_walk pairs to (suc most) from h =
    elim (or_cases (from == to) _ h) [
      | inl e ↦ ([], eqb-true from to e)
      | inr some ↦ (let p = any_to (λ p. leads_within most pairs p.1 to) (filter (λ p. p.0 == from) pairs) some in
          let kept = Contains-filter (λ p. p.0 == from) p.0 pairs p.1 in
          let pair : Contains pairs (from, p.0.1) = subst (λ x. Contains pairs (x, p.0.1)) (eqb-true p.0.0 from kept.1) kept.0 in
          Leads-step pairs from p.0.1 to pair (found_is_walk pairs to most p.0.1 p.2))
    ]

pub leads-true : (pairs : Pairs) (from to : ℕ) → leads pairs from to ≡ true → Leads pairs from to
leads-true pairs from to h = found_is_walk pairs to (length pairs) from h

pub leads-from : (pairs : Pairs) (from to : ℕ) → Leads pairs from to → leads pairs from to ≡ true
leads-from pairs from to walk =
    let s = short (length pairs) pairs from to (omega arith) walk in
    finds pairs to (length pairs) s.0 from s.1 s.2
