-- Walks: joined, along fewer pairs, and along one more; pairs in no circle.
use Rattle.std.proofs.Common.{◌≡◌, ℕ, ◌⊎◌, inl, inr, Bool, not, ◌==◌, List, [], ◌∷◌, ◌++◌, filter, All, Contains, refl, sym, ap, subst, ◌<◌, ◌≤◌, arith, eq-eqb, eqb-true}
use Rattle.std.proofs.lemmas.Bool.{not-true, eqb-false}
use Rattle.std.proofs.lemmas.List.Elements.{All-contains, All-filter, All-contains_itself, Contains-append_left, Contains-push, Contains-push_cases}
use Rattle.std.specs.Prelude.{◌↔◌, IsTrue}
use Rattle.wait_graph.specs.Walks.{IsWalk, Leads, IsAcyclic}
use Rattle.wait_graph.specs.Marks.{AreWithin}
use Rattle.wait_graph.proofs.Members.{Contains-filter}

abbrev pub Pairs : Type 0
Pairs = List (ℕ × ℕ)

-- ---- joined walks

IsWalk-then : (pairs : Pairs) (to last : ℕ) → (units : List ℕ) (from : ℕ) → IsWalk pairs from units to → Leads pairs to last → Leads pairs from last
IsWalk-then pairs to last [] from e walk = subst (λ x. Leads pairs x last) (sym e) walk
IsWalk-then pairs to last (next ∷ units) from h walk =
    let r = IsWalk-then pairs to last units next h.1 walk in
    (next ∷ r.0, (h.0, r.1))

pub Leads-then : (pairs : Pairs) (from to last : ℕ) → Leads pairs from to → Leads pairs to last → Leads pairs from last
Leads-then pairs from to last first second = IsWalk-then pairs to last first.0 from first.1 second

pub Leads-step : (pairs : Pairs) (from next to : ℕ) → Contains pairs (from, next) → Leads pairs next to → Leads pairs from to
Leads-step pairs from next to pair walk = (next ∷ walk.0, (pair, walk.1))

-- ---- fewer pairs

abbrev pub AreAmong : Pairs → Pairs → Type 0
AreAmong few many = (p : ℕ × ℕ) → Contains few p → Contains many p

pub AreAmong-filter : (test : ℕ × ℕ → Bool) (pairs : Pairs) → AreAmong (filter test pairs) pairs
AreAmong-filter test pairs p c = (Contains-filter test p pairs c).0

pub AreAmong-from_All : (few many : Pairs) → All (Contains many) few → AreAmong few many
AreAmong-from_All few many all p c = All-contains (λ q. Contains many q) few p all c

-- a walk along some of the pairs is one along all
pub IsWalk-more : (few many : Pairs) → AreAmong few many → (units : List ℕ) (from to : ℕ) → IsWalk few from units to → IsWalk many from units to
IsWalk-more few many all [] from to e = e
IsWalk-more few many all (next ∷ units) from to h =
    (all (from, next) h.0, IsWalk-more few many all units next to h.1)

pub Leads-more : (few many : Pairs) → AreAmong few many → (from to : ℕ) → Leads few from to → Leads many from to
Leads-more few many all from to walk = (walk.0, IsWalk-more few many all walk.0 from to walk.1)

pub IsAcyclic-fewer : (few many : Pairs) → AreAmong few many → IsAcyclic many → IsAcyclic few
IsAcyclic-fewer few many all acyclic unit next units walk =
    acyclic unit next units (IsWalk-more few many all (next ∷ units) unit unit walk)

pub IsAcyclic-filter : (test : ℕ × ℕ → Bool) (pairs : Pairs) → IsAcyclic pairs → IsAcyclic (filter test pairs)
IsAcyclic-filter test pairs acyclic =
    IsAcyclic-fewer (filter test pairs) pairs (AreAmong-filter test pairs) acyclic

pub filter-among : (test : ℕ × ℕ → Bool) (pairs : Pairs) → All (Contains pairs) (filter test pairs)
filter-among test pairs =
    All-filter test (λ p. Contains pairs p) pairs (All-contains_itself pairs)

-- no walk of two or more units leads to a unit that is the second of no pair
pub none_to : (pairs : Pairs) (unit : ℕ) → (units : List ℕ) (from : ℕ) → IsWalk (filter (λ pair. not (pair.1 == unit)) pairs) from units unit → from ≡ unit
none_to pairs unit [] from e = e
none_to pairs unit (next ∷ units) from h =
    let kept = Contains-filter (λ pair. not (pair.1 == unit)) (from, next) pairs h.0 in
    absurd (eqb-false next unit (not-true (next == unit) kept.1) (none_to pairs unit units next h.1))

-- no walk of two or more units leads from a unit that is the first of no pair
pub none_from : (pairs : Pairs) (unit to : ℕ) → (units : List ℕ) → IsWalk (filter (λ pair. not (pair.0 == unit)) pairs) unit units to → unit ≡ to
none_from pairs unit to [] e = e
none_from pairs unit to (next ∷ units) h =
    let kept = Contains-filter (λ pair. not (pair.0 == unit)) (unit, next) pairs h.0 in
    absurd (eqb-false unit unit (not-true (unit == unit) kept.1) refl)

-- ---- one more pair

abbrev pub Same : ℕ × ℕ → ℕ × ℕ → Type 0
Same p q = p ≡ q

-- every pair now is an old one or the new one
abbrev pub IsOneMore : Pairs → Pairs → ℕ → ℕ → Type 0
IsOneMore old now first second =
    (p : ℕ × ℕ) → Contains now p → Contains old p ⊎ Same p (first, second)

-- a walk along the pairs now is one along the old, or leads over the new pair, before which and behind which are such walks
through : (old now : Pairs) (first second : ℕ) → IsOneMore old now first second → (to : ℕ) (units : List ℕ) (from : ℕ) → IsWalk now from units to → Leads old from to ⊎ (Leads old from first × Leads old second to)
through old now first second more to [] from e = inl ([], e)
through old now first second more to (next ∷ units) from h =
    join (more (from, next) h.0) (through old now first second more to units next h.1)
  where
    join : Contains old (from, next) ⊎ Same (from, next) (first, second) → Leads old next to ⊎ (Leads old next first × Leads old second to) → Leads old from to ⊎ (Leads old from first × Leads old second to)
    join (inl pair) (inl walk) = inl (Leads-step old from next to pair walk)
    join (inl pair) (inr walks) = inr (Leads-step old from next first pair walks.0, walks.1)
    join (inr e) (inl walk) = inr (([], ap (λ p. p.0) e), (walk.0, subst (λ x. IsWalk old x walk.0 to) (ap (λ p. p.1) e) walk.1))
    join (inr e) (inr walks) = inr (([], ap (λ p. p.0) e), walks.1)

pub Leads-one_more : (old now : Pairs) (first second : ℕ) → IsOneMore old now first second → (from to : ℕ) → Leads now from to → Leads old from to ⊎ (Leads old from first × Leads old second to)
Leads-one_more old now first second more from to walk = through old now first second more to walk.0 from walk.1

-- a pair between whose ends no walk leads back closes no circle
pub IsAcyclic-one_more : (old now : Pairs) (first second : ℕ) → IsOneMore old now first second → ¬ Leads old second first → IsAcyclic old → IsAcyclic now
IsAcyclic-one_more old now first second more no_way acyclic unit next units h =
    split (more (unit, next) h.0) (through old now first second more unit units next h.1)
  where
    split : Contains old (unit, next) ⊎ Same (unit, next) (first, second) → Leads old next unit ⊎ (Leads old next first × Leads old second unit) → ⊥
    split (inl pair) (inl walk) = acyclic unit next walk.0 (pair, walk.1)
    split (inl pair) (inr walks) =
        no_way (Leads-then old second unit first walks.1 (Leads-step old unit next first pair walks.0))
    split (inr e) (inl walk) =
        no_way (subst (λ x. Leads old x first) (ap (λ p. p.1) e) (subst (λ x. Leads old next x) (ap (λ p. p.0) e) walk))
    split (inr e) (inr walks) = no_way (subst (λ x. Leads old second x) (ap (λ p. p.0) e) walks.1)

-- a pair at the end is one more
pub IsOneMore-push : (pairs : Pairs) (first second : ℕ) → IsOneMore pairs (pairs ++ (first, second) ∷ []) first second
IsOneMore-push pairs first second p c =
    elim (Contains-push_cases pairs (first, second) p c) [ inl old ↦ inl old | inr new ↦ inr (sym new) ]

pub AreAmong-push : (pairs : Pairs) (p : ℕ × ℕ) → AreAmong pairs (pairs ++ p ∷ [])
AreAmong-push pairs p q c = Contains-append_left pairs (p ∷ []) q c

pub Leads-push : (pairs : Pairs) (first second from to : ℕ) → Leads (pairs ++ (first, second) ∷ []) from to ↔ (Leads pairs from to ⊎ (Leads pairs from first × Leads pairs second to))
Leads-push pairs first second from to = (Leads-one_more pairs (pairs ++ (first, second) ∷ []) first second (IsOneMore-push pairs first second) from to, back)
  where
    more : (x y : ℕ) → Leads pairs x y → Leads (pairs ++ (first, second) ∷ []) x y
    more x y walk = Leads-more pairs (pairs ++ (first, second) ∷ []) (AreAmong-push pairs (first, second)) x y walk

    back : Leads pairs from to ⊎ (Leads pairs from first × Leads pairs second to) → Leads (pairs ++ (first, second) ∷ []) from to
    back (inl walk) = more from to walk
    back (inr walks) =
        Leads-then (pairs ++ (first, second) ∷ []) from first to (more from first walks.0) (Leads-step (pairs ++ (first, second) ∷ []) first second to (Contains-push pairs (first, second)) (more second to walks.1))

pub IsAcyclic-push : (pairs : Pairs) (first second : ℕ) → ¬ Leads pairs second first → IsAcyclic pairs → IsAcyclic (pairs ++ (first, second) ∷ [])
IsAcyclic-push pairs first second no_way acyclic =
    IsAcyclic-one_more pairs (pairs ++ (first, second) ∷ []) first second (IsOneMore-push pairs first second) no_way acyclic

-- a pair in a list without a circle leads nowhere back
pub no_return : (pairs : Pairs) (from to : ℕ) → IsAcyclic pairs → Contains pairs (from, to) → ¬ Leads pairs to from
no_return pairs from to acyclic pair walk = acyclic from to walk.0 (pair, walk.1)

-- a walk of two or more units begins and ends at units of pairs
pub IsWalk-within : (pairs : Pairs) (count : ℕ) → AreWithin pairs count → (to : ℕ) (units : List ℕ) (from : ℕ) → IsWalk pairs from units to → (from ≡ to) ⊎ ((from < count) × (to < count))
IsWalk-within pairs count within to [] from e = inl e
IsWalk-within pairs count within to (next ∷ units) from h =
    let pair = All-contains (λ pair. (pair.0 < count) × (pair.1 < count)) pairs (from, next) within h.0 in
    elim (IsWalk-within pairs count within to units next h.1) [
      | inl e ↦ inr (pair.0, subst (λ x. x < count) e pair.1)
      | inr both ↦ inr (pair.0, both.1)
    ]

-- only the walk of one unit leads from or to what is no unit
pub outside : (pairs : Pairs) (count : ℕ) → AreWithin pairs count → (from to : ℕ) → (count ≤ from) ⊎ (count ≤ to) → IsTrue (from == to) ↔ Leads pairs from to
outside pairs count within from to out =
    (λ e. ([], eqb-true from to e), λ walk. alone out (IsWalk-within pairs count within to walk.0 from walk.1))
  where
    alone : (count ≤ from) ⊎ (count ≤ to) → (from ≡ to) ⊎ ((from < count) × (to < count)) → IsTrue (from == to)
    alone side (inl e) = eq-eqb from to e
    alone (inl le) (inr both) = absurd (omega (arith, both.0))
    alone (inr le) (inr both) = absurd (omega (arith, both.1))
