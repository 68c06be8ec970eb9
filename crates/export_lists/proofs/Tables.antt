-- Tables of the units of a project: what is over is right, and what no round finishes has failed.
use Rattle.std.proofs.Common.{◌≡◌, ℕ, zero, suc, ◌+◌, ◌-◌, ◌<◌, ◌≤◌, List, [], ◌∷◌, length, map, inl, inr, ◌⊎◌, Option, Some, None, Result, Ok, Err, sym, ap, ◌∙◌, refl, subst, arith, set, length-set, option_and_then}
use Rattle.std.specs.Prelude.{slice_get, option_map}
use Rattle.std.proofs.lemmas.Bool.{cases_eq}
use Rattle.std.proofs.lemmas.List.{length-map}
use Rattle.std.proofs.lemmas.Option.{slice_get-map, slice_get_within, slice_get_past, same_Some}
use Rattle.module_units.specs.declared.unit.Unit.{Unit as UnitOf}
use Rattle.module_units.specs.declared.parts.Import.{Import as ImportOf}
use Rattle.module_units.specs.Reading.{Good, Bad}
use Rattle.unit_registry.specs.Projects.{ProjectView, unit_count, name_of, find_unit}
use Rattle.export_lists.specs.Lists.{Cmi}
use Rattle.export_lists.specs.Outcomes.{Origin, FromSource, FromCmi, Interfaces, put_first, gathered, outcome_over, step, at_start, cmi_in, outcome_at, outcome, Outcome, Failed}
use Rattle.export_lists.specs.declared.outcome.Verdict.TheVariants as verdicts
use Rattle.export_lists.specs.Slots.{Slot, Left, Over, first_slot, slot_cmi, has_of, left_count, IsSound, Within, at_depth, IsTable, finished, settled, settled_at, IsStuck}
use Rattle.export_lists.proofs.Depth.{step_within, deeper, deeper_by, gathered_within, table_whole}
use Rattle.export_lists.proofs.SlotLists.{get_set_same, get_set_other, left_less, left_bound, left_here}

-- an item is there or not
pub there_or_not : {X : Type 0} (found : Option X) → ((x : X) × (found ≡ Some x)) ⊎ (found ≡ None)
there_or_not (Some x) = inl (x, refl)
there_or_not None = inr refl

pub none_past : {X : Type 0} (xs : List X) (k : ℕ) → slice_get xs k ≡ None → length xs ≤ k
none_past [] k e = omega arith
none_past (x ∷ xs) zero e = absurd (cc)
none_past (x ∷ xs) (suc k) e = let h = none_past xs k e in omega arith

-- interfaces that are within others, which are within more
trans_within : (has more most : Interfaces) → Within has more → Within more most → Within has most
trans_within has more most v w = record { each = λ unit cmi e. w.each unit cmi (v.each unit cmi e) }

-- interfaces that are the same for each unit are gathered alike
pub gathered_same : (project : ProjectView) (has more : Interfaces) → ((unit : ℕ) → has unit ≡ more unit) → (imports : List ImportOf) → gathered project has imports ≡ gathered project more imports
gathered_same project has more same [] = refl
gathered_same project has more same (import ∷ imports) =
    λ k. put_first (at_unit (find_unit project import.name) k) import.name (gathered_same project has more same imports k)
  where
    at_unit : (unit : Option ℕ) → option_and_then has unit ≡ option_and_then more unit
    at_unit None = refl
    at_unit (Some unit) = same unit

-- interfaces of which each is among the others are the same
same_within : (has more : Interfaces) → Within has more → Within more has → (unit : ℕ) → has unit ≡ more unit
same_within has more v w unit = by_cases (there_or_not (has unit)) (there_or_not (more unit))
  where
    by_cases : ((cmi : Cmi) × (has unit ≡ Some cmi)) ⊎ (has unit ≡ None) → ((cmi : Cmi) × (more unit ≡ Some cmi)) ⊎ (more unit ≡ None) → has unit ≡ more unit
    by_cases (inl h) other = h.1 ∙ sym (v.each unit h.0 h.1)
    by_cases (inr nothing) (inl h) = w.each unit h.0 h.1 ∙ sym h.1
    by_cases (inr nothing) (inr none) = nothing ∙ sym none

-- the outcome of a unit is a step over a depth of one less than there are units
pub outcome_step : (project : ProjectView) (origins : List Origin) (number : ℕ) → 0 < unit_count project → outcome project origins number ≡ step project (at_depth project origins (unit_count project - 1)) number (slice_get origins number)
outcome_step project origins number lt =
    let e : unit_count project ≡ suc (unit_count project - 1) = omega arith in
    ap (λ depth. outcome_at project origins depth number) e

-- the step of a unit that is left
pub left_step : (project : ProjectView) (origins : List Origin) (has : Interfaces) (number : ℕ) (unit : UnitOf) (found : Result (List Cmi) (List ℕ)) → slice_get origins number ≡ Some (FromSource (Good unit)) → gathered project has unit.imports ≡ found
    → step project has number (slice_get origins number) ≡ Some (outcome_over (name_of project number) unit found)
left_step project origins has number unit found is e = ap (step project has number) is ∙ ap (λ f. Some (outcome_over (name_of project number) unit f)) e

-- where a unit is left, the interfaces of a table are there at a depth of one less than there are units
pub table_deep : (project : ProjectView) (origins : List Origin) (slots : List Slot) → IsTable project origins slots → 1 ≤ left_count slots → Within (has_of slots) (at_depth project origins (unit_count project - 1))
table_deep project origins slots t some =
    let bound : left_count slots ≤ length slots = left_bound slots in
    let count : length slots ≡ unit_count project = t.count in
    let e : (left_count slots - 1) + (unit_count project - left_count slots) ≡ unit_count project - 1 = omega arith in
    trans_within (has_of slots) (at_depth project origins (unit_count project - left_count slots)) (at_depth project origins (unit_count project - 1)) t.within
    (subst (λ depth. Within (at_depth project origins (unit_count project - left_count slots)) (at_depth project origins depth)) e (deeper_by project origins (left_count slots - 1) (unit_count project - left_count slots)))

-- a table where a unit that was left is over
pub table_more : (project : ProjectView) (origins : List Origin) (slots : List Slot) (number : ℕ) (unit : UnitOf) (found : Outcome) → IsTable project origins slots → slice_get slots number ≡ Some (Left unit) → outcome project origins number ≡ Some found
    → ((cmi : Cmi) → cmi_in found ≡ Some cmi → at_depth project origins (suc (unit_count project - left_count slots)) number ≡ Some cmi)
    → IsTable project origins (set slots number (Over found))
table_more project origins slots number unit found t left is has = record {
  are_so_many = t.are_so_many;
  count = length-set slots number (Over found) ∙ t.count;
  sound = sound;
  within = subst (λ depth. Within (has_of (set slots number (Over found))) (at_depth project origins depth)) one_deeper (record { each = each });
}
  where
    one_deeper : suc (unit_count project - left_count slots) ≡ unit_count project - left_count (set slots number (Over found))
    one_deeper =
        let less : left_count (set slots number (Over found)) + 1 ≡ left_count slots = left_less slots number unit found left in
        let bound : left_count slots ≤ length slots = left_bound slots in
        let count : length slots ≡ unit_count project = t.count in
        omega arith

    sound : (k : ℕ) (slot : Slot) → slice_get (set slots number (Over found)) k ≡ Some slot → IsSound slot project origins k
    sound k slot e =
        elim (cases_eq k number) [
          | inl same ↦
              let here : slice_get (set slots number (Over found)) k ≡ Some (Over found) = ap (slice_get (set slots number (Over found))) same ∙ get_set_same slots number (Left unit) (Over found) left in
              let over : Over found ≡ slot = same_Some (Over found) slot (sym here ∙ e) in
              subst (λ s. IsSound s project origins k) over (ap (outcome project origins) same ∙ is)
          | inr other ↦ t.sound k slot (sym (get_set_other slots number k (Over found) other) ∙ e)
        ]

    each : (k : ℕ) (cmi : Cmi) → has_of (set slots number (Over found)) k ≡ Some cmi → at_depth project origins (suc (unit_count project - left_count slots)) k ≡ Some cmi
    each k cmi e =
        elim (cases_eq k number) [
          | inl same ↦
              let here : has_of (set slots number (Over found)) k ≡ cmi_in found = ap (has_of (set slots number (Over found))) same ∙ ap slot_cmi (get_set_same slots number (Left unit) (Over found) left) in
              ap (at_depth project origins (suc (unit_count project - left_count slots))) same ∙ has cmi (sym here ∙ e)
          | inr other ↦ (deeper project origins (unit_count project - left_count slots)).each k cmi (t.within.each k cmi (sym (ap slot_cmi (get_set_other slots number k (Over found) other)) ∙ e))
        ]

-- a unit that compiles over the table is over
pub table_settled : (project : ProjectView) (origins : List Origin) (slots : List Slot) (number : ℕ) (unit : UnitOf) (cmis : List Cmi) → IsTable project origins slots → slice_get slots number ≡ Some (Left unit) → gathered project (has_of slots) unit.imports ≡ Ok cmis
    → IsTable project origins (set slots number (Over (outcome_over (name_of project number) unit (Ok cmis))))
table_settled project origins slots number unit cmis t left all =
    let some : 1 ≤ left_count slots = left_here slots number unit left in
    let inside : number < length slots = slice_get_within slots number (Left unit) left in
    let positive : 0 < unit_count project = (let count : length slots ≡ unit_count project = t.count in omega arith) in
    let is : slice_get origins number ≡ Some (FromSource (Good unit)) = t.sound number (Left unit) left in
    let last = unit_count project - 1 in
    let deep : gathered project (at_depth project origins last) unit.imports ≡ Ok cmis = gathered_within project (has_of slots) (at_depth project origins last) (table_deep project origins slots t some) unit.imports cmis all in
    let stepped : step project (has_of slots) number (slice_get origins number) ≡ Some (outcome_over (name_of project number) unit (Ok cmis)) = left_step project origins (has_of slots) number unit (Ok cmis) is all in
    table_more project origins slots number unit (outcome_over (name_of project number) unit (Ok cmis)) t left
    (outcome_step project origins number positive ∙ left_step project origins (at_depth project origins last) number unit (Ok cmis) is deep)
    (λ cmi e. step_within project (has_of slots) (at_depth project origins (unit_count project - left_count slots)) t.within number (slice_get origins number) cmi (ap (option_and_then cmi_in) stepped ∙ e))

-- a unit whose imports have interfaces is settled
pub not_settled : (name : List ℕ) (unit : UnitOf) (found : Result (List Cmi) (List ℕ)) → finished name unit found ≡ None → (import : List ℕ) × (found ≡ Err import)
not_settled name unit (Ok cmis) e = absurd (cc)
not_settled name unit (Err import) e = (import, refl)

-- the first import of a unit that is left, in a table that is stuck
pub stuck_at : (project : ProjectView) (slots : List Slot) (number : ℕ) (unit : UnitOf) → IsStuck project slots → slice_get slots number ≡ Some (Left unit) → (import : List ℕ) × (gathered project (has_of slots) unit.imports ≡ Err import)
stuck_at project slots number unit stuck left =
    not_settled (name_of project number) unit (gathered project (has_of slots) unit.imports) (sym (ap (λ s. settled s project (has_of slots) number) left) ∙ stuck.each number)

-- in a table that is stuck no step finds another interface
stays : (project : ProjectView) (origins : List Origin) (slots : List Slot) → IsTable project origins slots → IsStuck project slots → 1 ≤ left_count slots → (unit : ℕ) (cmi : Cmi) → option_and_then cmi_in (step project (has_of slots) unit (slice_get origins unit)) ≡ Some cmi → has_of slots unit ≡ Some cmi
stays project origins slots t stuck some unit cmi e = by_slot (there_or_not (slice_get slots unit))
  where
    bound : left_count slots ≤ length slots
    bound = left_bound slots

    by_one : (slot : Slot) → slice_get slots unit ≡ Some slot → has_of slots unit ≡ Some cmi
    by_one (Left source) is =
        let lack = stuck_at project slots unit source stuck is in
        let stepped : step project (has_of slots) unit (slice_get origins unit) ≡ Some (Failed (verdicts.Import lack.0)) = left_step project origins (has_of slots) unit source (Err lack.0) (t.sound unit (Left source) is) lack.1 in
        let none : None ≡ Some cmi = sym (ap (option_and_then cmi_in) stepped) ∙ e in
        absurd (cc)
    by_one (Over found) is =
        let positive : 0 < unit_count project = (let count : length slots ≡ unit_count project = t.count in let b = bound in omega arith) in
        let deep : option_and_then cmi_in (step project (at_depth project origins (unit_count project - 1)) unit (slice_get origins unit)) ≡ Some cmi =
        step_within project (has_of slots) (at_depth project origins (unit_count project - 1)) (table_deep project origins slots t some) unit (slice_get origins unit) cmi e in
        let over : outcome project origins unit ≡ Some found = t.sound unit (Over found) is in
        ap slot_cmi is ∙ ap (option_and_then cmi_in) (sym over) ∙ ap (option_and_then cmi_in) (outcome_step project origins unit positive) ∙ deep

    by_slot : ((slot : Slot) × (slice_get slots unit ≡ Some slot)) ⊎ (slice_get slots unit ≡ None) → has_of slots unit ≡ Some cmi
    by_slot (inl h) = by_one h.0 h.1
    by_slot (inr none) =
        let outside : length origins ≤ unit = (let out : length slots ≤ unit = none_past slots unit none in let count : length slots ≡ unit_count project = t.count in let many : length origins ≡ unit_count project = t.are_so_many in omega arith) in
        let nothing : None ≡ Some cmi = sym (ap (λ o. option_and_then cmi_in (step project (has_of slots) unit o)) (slice_get_past origins unit outside)) ∙ e in
        absurd (cc)

-- the outcome of a unit that is left in a table that is stuck
pub stuck_outcome : (project : ProjectView) (origins : List Origin) (slots : List Slot) (number : ℕ) (unit : UnitOf) (import : List ℕ) → IsTable project origins slots → IsStuck project slots → slice_get slots number ≡ Some (Left unit) → gathered project (has_of slots) unit.imports ≡ Err import
    → outcome project origins number ≡ Some (Failed (verdicts.Import import))
stuck_outcome project origins slots number unit import t stuck left lack =
    let some : 1 ≤ left_count slots = left_here slots number unit left in
    let inside : number < length slots = slice_get_within slots number (Left unit) left in
    let positive : 0 < unit_count project = (let count : length slots ≡ unit_count project = t.count in omega arith) in
    let last = unit_count project - 1 in
    let same : (k : ℕ) → at_depth project origins last k ≡ has_of slots k =
    same_within (at_depth project origins last) (has_of slots) (table_whole project origins (has_of slots) (stays project origins slots t stuck some) last) (table_deep project origins slots t some) in
    let deep : gathered project (at_depth project origins last) unit.imports ≡ Err import = gathered_same project (at_depth project origins last) (has_of slots) same unit.imports ∙ lack in
    outcome_step project origins number positive ∙ left_step project origins (at_depth project origins last) number unit (Err import) (t.sound number (Left unit) left) deep

-- a unit that stays left is over as one with an import that has no interface
pub table_ended : (project : ProjectView) (origins : List Origin) (slots : List Slot) (number : ℕ) (unit : UnitOf) (import : List ℕ) → IsTable project origins slots → IsStuck project slots → slice_get slots number ≡ Some (Left unit) → gathered project (has_of slots) unit.imports ≡ Err import
    → IsTable project origins (set slots number (Over (Failed (verdicts.Import import))))
table_ended project origins slots number unit import t stuck left lack =
    table_more project origins slots number unit (Failed (verdicts.Import import)) t left (stuck_outcome project origins slots number unit import t stuck left lack) (λ cmi e. absurd (cc))

-- a failed unit adds no interface
same_has : (slots : List Slot) (number : ℕ) (unit : UnitOf) (import : List ℕ) → slice_get slots number ≡ Some (Left unit) → (k : ℕ) → has_of (set slots number (Over (Failed (verdicts.Import import)))) k ≡ has_of slots k
same_has slots number unit import left k =
    elim (cases_eq k number) [
      | inl same ↦
          ap (has_of (set slots number (Over (Failed (verdicts.Import import))))) same
          ∙ ap slot_cmi (get_set_same slots number (Left unit) (Over (Failed (verdicts.Import import))) left)
          ∙ sym (ap (has_of slots) same ∙ ap slot_cmi left)
      | inr other ↦ ap slot_cmi (get_set_other slots number k (Over (Failed (verdicts.Import import))) other)
    ]

-- so the table stays stuck
pub stuck_more : (project : ProjectView) (slots : List Slot) (number : ℕ) (unit : UnitOf) (import : List ℕ) → IsStuck project slots → slice_get slots number ≡ Some (Left unit) → IsStuck project (set slots number (Over (Failed (verdicts.Import import))))
stuck_more project slots number unit import stuck left = record { each = each }
  where
    new : List Slot
    new = set slots number (Over (Failed (verdicts.Import import)))

    settled_same : (slot : Option Slot) (k : ℕ) → settled slot project (has_of (set slots number (Over (Failed (verdicts.Import import))))) k ≡ settled slot project (has_of slots) k
    settled_same (Some (Left source)) k =
        ap (finished (name_of project k) source) (gathered_same project (has_of (set slots number (Over (Failed (verdicts.Import import))))) (has_of slots) (same_has slots number unit import left) source.imports)
    settled_same (Some (Over found)) k = refl
    settled_same None k = refl

    each : (k : ℕ) → settled_at project (set slots number (Over (Failed (verdicts.Import import)))) k ≡ None
    each k =
        elim (cases_eq k number) [
          | inl same ↦
              ap (λ s. settled s project (has_of (set slots number (Over (Failed (verdicts.Import import))))) k)
              (ap (slice_get (set slots number (Over (Failed (verdicts.Import import))))) same ∙ get_set_same slots number (Left unit) (Over (Failed (verdicts.Import import))) left)
          | inr other ↦
              settled_same (slice_get (set slots number (Over (Failed (verdicts.Import import)))) k) k
              ∙ ap (λ s. settled s project (has_of slots) k) (get_set_other slots number k (Over (Failed (verdicts.Import import))) other)
              ∙ stuck.each k
        ]

-- what units are made of is a table before any round
pub table_first : (project : ProjectView) (origins : List Origin) → length origins ≡ unit_count project → IsTable project origins (map first_slot origins)
table_first project origins many = record {
  are_so_many = many;
  count = length-map origins first_slot ∙ many;
  sound = sound;
  within = record { each = each };
}
  where
    by_origin : (origin : Origin) (k : ℕ) → slice_get origins k ≡ Some origin → IsSound (first_slot origin) project origins k
    by_origin (FromCmi cmi) k e = outcome_step project origins k (let inside : k < length origins = slice_get_within origins k (FromCmi cmi) e in let h = many in omega arith) ∙ ap (step project (at_depth project origins (unit_count project - 1)) k) e
    by_origin (FromSource (Good unit)) k e = e
    by_origin (FromSource (Bad line reason)) k e = outcome_step project origins k (let inside : k < length origins = slice_get_within origins k (FromSource (Bad line reason)) e in let h = many in omega arith) ∙ ap (step project (at_depth project origins (unit_count project - 1)) k) e

    sound : (k : ℕ) (slot : Slot) → slice_get (map first_slot origins) k ≡ Some slot → IsSound slot project origins k
    sound k slot e =
        elim (there_or_not (slice_get origins k)) [
          | inl h ↦
              let is : first_slot h.0 ≡ slot = same_Some (first_slot h.0) slot (sym (ap (option_map first_slot) h.1) ∙ sym (slice_get-map first_slot origins k) ∙ e) in
              subst (λ s. IsSound s project origins k) is (by_origin h.0 k h.1)
          | inr none ↦ let nothing : None ≡ Some slot = sym (slice_get-map first_slot origins k ∙ ap (option_map first_slot) none) ∙ e in absurd (cc)
        ]

    start_of : (origin : Option Origin) (cmi : Cmi) → slot_cmi (option_map first_slot origin) ≡ Some cmi → option_and_then cmi_in (at_start origin) ≡ Some cmi
    start_of (Some (FromCmi built)) cmi e = e
    start_of (Some (FromSource (Good unit))) cmi e = absurd (cc)
    start_of (Some (FromSource (Bad line reason))) cmi e = absurd (cc)
    start_of None cmi e = absurd (cc)

    each : (k : ℕ) (cmi : Cmi) → has_of (map first_slot origins) k ≡ Some cmi → at_depth project origins (unit_count project - left_count (map first_slot origins)) k ≡ Some cmi
    each k cmi e =
        let depth = unit_count project - left_count (map first_slot origins) in
        let whole : depth + 0 ≡ depth = omega arith in
        (subst (λ d. Within (at_depth project origins 0) (at_depth project origins d)) whole (deeper_by project origins depth 0)).each k cmi
        (start_of (slice_get origins k) cmi (sym (ap slot_cmi (slice_get-map first_slot origins k)) ∙ e))
