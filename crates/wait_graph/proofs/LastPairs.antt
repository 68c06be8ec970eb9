-- Pairs in no circle have a last one: its second unit is the first of none.
use Rattle.std.proofs.Common.{◌≡◌, ◌≢◌, ℕ, zero, suc, ◌<◌, ◌≤◌, Bool, true, false, ◌==◌, inl, inr, [], ◌∷◌, length, Contains, refl, sym, subst, arith, eq-eqb, eqb-true}
use Rattle.std.proofs.lemmas.Bool.{both_ways, cases_eq}
use Rattle.std.specs.List.{list_any}
use Rattle.wait_graph.specs.Walks.{Leads, IsAcyclic, IsLastPair}
use Rattle.wait_graph.proofs.Members.{any_to, any_from}
use Rattle.wait_graph.proofs.WalkLaws.{Pairs, IsAcyclic-fewer, Leads-more, Leads-step, no_return}
use Rattle.wait_graph.proofs.ShortWalks.{without, without-among, without-keeps, without-lt}

-- a last pair to which a walk leads
pub record HasLast (pairs : Pairs) (start : ℕ) : Type 0 where
  pub pair : ℕ × ℕ
  pub is_there : Contains pairs pair
  pub led : Leads pairs start pair.0
  pub last : IsLastPair pairs pair

-- whether a unit is the first of a pair
starts : Pairs → ℕ → Bool
starts pairs unit = list_any (λ p. p.0 == unit) pairs

starts-false : (pairs : Pairs) (unit : ℕ) → starts pairs unit ≡ false → (next : ℕ) → ¬ Contains pairs (unit, next)
unfolding starts
starts-false pairs unit h next pair =
    both_ways (starts pairs unit) h (any_from (λ p. p.0 == unit) (unit, next) (eq-eqb unit unit refl) pairs pair)

starts-true : (pairs : Pairs) (unit : ℕ) → starts pairs unit ≡ true → (next : ℕ) × Contains pairs (unit, next)
unfolding starts
starts-true pairs unit h =
    let found = any_to (λ p. p.0 == unit) pairs h in
    (found.0.1, subst (λ x. Contains pairs (x, found.0.1)) (eqb-true found.0.0 unit found.2) found.1)

last_step : (pairs : Pairs) → IsAcyclic pairs → (from to : ℕ) → Contains pairs (from, to) → ((next : ℕ) → Contains (without from pairs) (to, next) → HasLast (without from pairs) to) → (b : Bool) → starts pairs to ≡ b → HasLast pairs from
last_step pairs acyclic from to pair ih false h = record {
  pair = (from, to);
  is_there = pair;
  led = ([], refl);
  last = starts-false pairs to h;
}
last_step pairs acyclic from to pair ih true h =
    let found = starts-true pairs to h in
    let differs : to ≢ from = λ e. no_return pairs from to acyclic pair ([], e) in
    let end = ih found.0 (without-keeps from pairs (to, found.0) differs found.1) in
    let there : Contains pairs end.pair = without-among from pairs end.pair end.is_there in
    let led : Leads pairs to end.pair.0 = Leads-more (without from pairs) pairs (without-among from pairs) to end.pair.0 end.led in
    let on : Leads pairs from end.pair.0 = Leads-step pairs from to end.pair.0 pair led in
    record {
      pair = end.pair;
      is_there = there;
      led = on;
      last = λ unit next. elim (cases_eq end.pair.1 from) [
        | inl e ↦ no_return pairs end.pair.0 end.pair.1 acyclic there (subst (λ x. Leads pairs x end.pair.0) (sym e) on)
        | inr other ↦ end.last unit (without-keeps from pairs (end.pair.1, unit) other next)
      ];
    }

last_within : (most : ℕ) (pairs : Pairs) → length pairs ≤ most → IsAcyclic pairs → (from to : ℕ) → Contains pairs (from, to) → HasLast pairs from
last_within zero pairs few acyclic from to pair =
    let fewer : length (without from pairs) < length pairs = without-lt from to pairs pair in
    absurd (omega arith)
last_within (suc most) pairs few acyclic from to pair =
    let fewer : length (without from pairs) < length pairs = without-lt from to pairs pair in
    last_step pairs acyclic from to pair (λ next there. last_within most (without from pairs) (omega arith) (IsAcyclic-fewer (without from pairs) pairs (without-among from pairs) acyclic) to next there) (starts pairs to) refl

-- from the first unit of each pair a walk leads to a last one
pub last_from : (pairs : Pairs) → IsAcyclic pairs → (from to : ℕ) → Contains pairs (from, to) → HasLast pairs from
last_from pairs acyclic from to pair =
    last_within (length pairs) pairs (omega arith) acyclic from to pair

pub has_last_pair : (pairs : Pairs) → pairs ≢ [] → IsAcyclic pairs → (pair : ℕ × ℕ) × Contains pairs pair × IsLastPair pairs pair
has_last_pair [] some acyclic = absurd (some refl)
has_last_pair (p ∷ pairs) some acyclic =
    let last = last_from (p ∷ pairs) acyclic p.0 p.1 (0, omega arith, refl) in
    (last.pair, last.is_there, last.last)
