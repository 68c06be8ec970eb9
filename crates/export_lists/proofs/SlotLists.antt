-- Slots of a table, one of which is written.
use Rattle.std.proofs.Common.{◌≡◌, ℕ, zero, suc, ◌+◌, ◌≤◌, List, [], ◌∷◌, length, Some, ap, refl, arith, set, add-one}
use Rattle.std.specs.Prelude.{slice_get, filter_map}
use Rattle.module_units.specs.declared.unit.Unit.{Unit as UnitOf}
use Rattle.export_lists.specs.Outcomes.{Outcome}
use Rattle.export_lists.specs.Slots.{Slot, Left, Over, left_count, outcome_in}

-- what is in the place that is written, and in another
pub get_set_same : {X : Type 0} (xs : List X) (k : ℕ) (x y : X) → slice_get xs k ≡ Some x → slice_get (set xs k y) k ≡ Some y
get_set_same [] k x y e = absurd (cc)
get_set_same (z ∷ xs) zero x y e = refl
get_set_same (z ∷ xs) (suc k) x y e = get_set_same xs k x y e

pub get_set_other : {X : Type 0} (xs : List X) (k j : ℕ) (y : X) → (j ≡ k → ⊥) → slice_get (set xs k y) j ≡ slice_get xs j
get_set_other [] k j y ne = refl
get_set_other (z ∷ xs) zero zero y ne = absurd (ne refl)
get_set_other (z ∷ xs) zero (suc j) y ne = refl
get_set_other (z ∷ xs) (suc k) zero y ne = refl
get_set_other (z ∷ xs) (suc k) (suc j) y ne = get_set_other xs k j y (λ e. ne (ap suc e))

-- one fewer is left
pub left_less : (slots : List Slot) (k : ℕ) (unit : UnitOf) (outcome : Outcome) → slice_get slots k ≡ Some (Left unit) → left_count (set slots k (Over outcome)) + 1 ≡ left_count slots
left_less [] k unit outcome e = absurd (cc)
left_less (Left other ∷ slots) zero unit outcome e = add-one (left_count slots)
left_less (Over other ∷ slots) zero unit outcome e = absurd (cc)
left_less (Left other ∷ slots) (suc k) unit outcome e = let h : left_count (set slots k (Over outcome)) + 1 ≡ left_count slots = left_less slots k unit outcome e in omega arith
left_less (Over other ∷ slots) (suc k) unit outcome e = left_less slots k unit outcome e

pub left_bound : (slots : List Slot) → left_count slots ≤ length slots
left_bound [] = omega arith
left_bound (Left unit ∷ slots) = let h = left_bound slots in omega arith
left_bound (Over outcome ∷ slots) = let h = left_bound slots in omega arith

-- a unit that is left counts
pub left_here : (slots : List Slot) (k : ℕ) (unit : UnitOf) → slice_get slots k ≡ Some (Left unit) → 1 ≤ left_count slots
left_here [] k unit e = absurd (cc)
left_here (Left other ∷ slots) zero unit e = omega arith
left_here (Over other ∷ slots) zero unit e = absurd (cc)
left_here (Left other ∷ slots) (suc k) unit e = omega arith
left_here (Over other ∷ slots) (suc k) unit e = left_here slots k unit e

-- where no slot is left none counts
pub none_left : (slots : List Slot) → ((k : ℕ) (unit : UnitOf) → slice_get slots k ≡ Some (Left unit) → ⊥) → left_count slots ≡ 0
none_left [] never = refl
none_left (Left unit ∷ slots) never = absurd (never zero unit refl)
none_left (Over outcome ∷ slots) never = none_left slots (λ k unit e. never (suc k) unit e)

-- where no unit is left, the outcomes are those of all slots
pub outcomes_count : (slots : List Slot) → left_count slots ≡ 0 → length (filter_map outcome_in slots) ≡ length slots
outcomes_count [] none = refl
outcomes_count (Left unit ∷ slots) none = absurd (omega arith)
outcomes_count (Over outcome ∷ slots) none = ap suc (outcomes_count slots none)

pub outcome_at_slot : (slots : List Slot) (k : ℕ) (outcome : Outcome) → left_count slots ≡ 0 → slice_get slots k ≡ Some (Over outcome) → slice_get (filter_map outcome_in slots) k ≡ Some outcome
outcome_at_slot [] k outcome none e = absurd (cc)
outcome_at_slot (Left unit ∷ slots) k outcome none e = absurd (omega arith)
outcome_at_slot (Over other ∷ slots) zero outcome none e = let same : Over other ≡ Over outcome = cc in let is : other ≡ outcome = cc in ap Some is
outcome_at_slot (Over other ∷ slots) (suc k) outcome none e = outcome_at_slot slots k outcome none e
