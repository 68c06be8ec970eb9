-- Rounds over a table.
use Rattle.std.proofs.Common.{◌≡◌, ℕ, ◌+◌, ◌<◌, ◌≤◌, List, length, Bool, true, false, ◌||◌, inl, inr, ◌⊎◌, Option, Some, None, Result, Ok, Err, sym, ap, ◌∙◌, refl, subst, arith, set, length-set}
use Rattle.std.specs.Prelude.{slice_get}
use Rattle.std.specs.Option.{is_some}
use Rattle.std.proofs.lemmas.Option.{slice_get_past, slice_get_within, same_Some}
use Rattle.std.proofs.lemmas.Bool.{cases_eq, cases_lt}
use Rattle.std.proofs.Math.Bool.{or-false, or-true}
use Rattle.module_units.specs.declared.unit.Unit.{Unit as UnitOf}
use Rattle.unit_registry.specs.Projects.{ProjectView, name_of}
use Rattle.export_lists.specs.Lists.{Cmi}
use Rattle.export_lists.specs.Outcomes.{gathered, outcome_over, Outcome, Failed}
use Rattle.export_lists.specs.declared.outcome.Verdict.TheVariants as verdicts
use Rattle.export_lists.specs.Slots.{Slot, Left, Over, has_of, left_count, IsTable, finished, settled, settled_at, lacking, left_over, left_over_at, with_outcome, IsStuck, LeadsTo, Changes, IsRound}
use Rattle.export_lists.proofs.SlotLists.{get_set_same, get_set_other, left_less, left_bound, left_here, none_left}
use Rattle.export_lists.proofs.Tables.{table_settled, table_ended, stuck_at, stuck_more}

-- a table leads to itself, and one that leads on to where that leads
pub leads_same : (project : ProjectView) (slots : List Slot) → LeadsTo project slots slots
leads_same project slots = record { count = refl; keeps = λ origins t. t }

pub leads_on : (project : ProjectView) (old now new : List Slot) → LeadsTo project old now → LeadsTo project now new → LeadsTo project old new
leads_on project old now new a b = record { count = b.count ∙ a.count; keeps = λ origins t. b.keeps origins (a.keeps origins t) }

-- what a unit comes to that is settled: it is left, and its imports have interfaces
pub record Settles (project : ProjectView) (slots : List Slot) (number : ℕ) (outcome : Outcome) : Type 0 where
  pub unit : UnitOf
  pub cmis : List Cmi
  pub left : slice_get slots number ≡ Some (Left unit)
  pub all : gathered project (has_of slots) unit.imports ≡ Ok cmis
  pub is : outcome ≡ outcome_over (name_of project number) unit (Ok cmis)

finished_with : (name : List ℕ) (unit : UnitOf) (found : Result (List Cmi) (List ℕ)) (outcome : Outcome) → finished name unit found ≡ Some outcome → (cmis : List Cmi) × (found ≡ Ok cmis) × (outcome ≡ outcome_over name unit (Ok cmis))
finished_with name unit (Ok cmis) outcome e = (cmis, refl, sym (same_Some _ _ e))
finished_with name unit (Err import) outcome e = absurd (cc)

pub settles : (project : ProjectView) (slots : List Slot) (number : ℕ) (outcome : Outcome) → settled_at project slots number ≡ Some outcome → Settles project slots number outcome
settles project slots number outcome e = by_slot (slice_get slots number) refl e
  where
    by_slot : (slot : Option Slot) → slice_get slots number ≡ slot → settled slot project (has_of slots) number ≡ Some outcome → Settles project slots number outcome
    by_slot (Some (Left unit)) is e =
        let parts = finished_with (name_of project number) unit (gathered project (has_of slots) unit.imports) outcome e in
        record { unit = unit; cmis = parts.0; left = is; all = parts.1; is = parts.2 }
    by_slot (Some (Over found)) is e = absurd (cc)
    by_slot None is e = absurd (cc)

-- the table with it
pub settled_leads : (project : ProjectView) (slots : List Slot) (number : ℕ) (outcome : Outcome) → Settles project slots number outcome → LeadsTo project slots (set slots number (Over outcome))
settled_leads project slots number outcome s = record {
  count = length-set slots number (Over outcome);
  keeps = λ origins t. subst (λ o. IsTable project origins (set slots number (Over o))) (sym s.is) (table_settled project origins slots number s.unit s.cmis t s.left s.all);
}

-- a part of a round: where nothing changed, no unit up to a place is settled
abbrev pub PartChanges : Bool → ProjectView → List Slot → List Slot → ℕ → Type 0
PartChanges true project old now place = left_count now < left_count old
PartChanges false project old now place = (now ≡ old) × ((number : ℕ) → number < place → settled_at project old number ≡ None)

pub record IsPart (project : ProjectView) (old now : List Slot) (place : ℕ) (changed : Bool) : Type 0 where
  pub leads : LeadsTo project old now
  pub changes : PartChanges changed project old now place

-- no more are left than before
no_more : (project : ProjectView) (old now : List Slot) (place : ℕ) (changed : Bool) → PartChanges changed project old now place → left_count now ≤ left_count old
no_more project old now place true c = omega arith
no_more project old now place false c = let e : left_count now ≡ left_count old = ap left_count c.0 in omega arith

before_or_last : (number place : ℕ) → number < place + 1 → (number < place) ⊎ (number ≡ place)
before_or_last number place below = elim (cases_eq number place) [ inl same ↦ inr same | inr other ↦ inl (omega arith) ]

-- one unit more, which isn't settled
part_stays : (project : ProjectView) (old now : List Slot) (place : ℕ) (changed : Bool) → settled_at project now place ≡ None → PartChanges changed project old now place → PartChanges changed project old now (place + 1)
part_stays project old now place true none c = c
part_stays project old now place false none c = (c.0, each)
  where
    each : (number : ℕ) → number < place + 1 → settled_at project old number ≡ None
    each number below =
        elim (before_or_last number place below) [
          | inl before ↦ c.1 number before
          | inr same ↦ ap (settled_at project old) same ∙ sym (ap (λ slots. settled_at project slots place) c.0) ∙ none
        ]

-- one unit more
pub part_more : (project : ProjectView) (old now new : List Slot) (place : ℕ) (changed written : Bool) (outcome : Option Outcome) → outcome ≡ settled_at project now place → new ≡ with_outcome now place outcome → written ≡ is_some outcome → IsPart project old now place changed
    → IsPart project old new (place + 1) (changed || written)
part_more project old now new place changed written None is new_is written_is p = record {
  leads = subst (LeadsTo project old) (sym new_is) p.leads;
  changes = subst (λ b. PartChanges b project old new (place + 1)) (sym (ap (λ b. changed || b) written_is ∙ or-false changed))
      (subst (λ slots. PartChanges changed project old slots (place + 1)) (sym new_is) (part_stays project old now place changed (sym is) p.changes));
}
part_more project old now new place changed written (Some outcome) is new_is written_is p = record {
  leads = subst (LeadsTo project old) (sym new_is) (leads_on project old now (set now place (Over outcome)) p.leads (settled_leads project now place outcome s));
  changes = subst (λ b. PartChanges b project old new (place + 1)) (sym (ap (λ b. changed || b) written_is ∙ or-true changed)) fewer;
}
  where
    s : Settles project now place outcome
    s = settles project now place outcome (sym is)

    fewer : left_count new < left_count old
    fewer =
        let less : left_count (set now place (Over outcome)) + 1 ≡ left_count now = left_less now place s.unit outcome s.left in
        let same : left_count new ≡ left_count (set now place (Over outcome)) = ap left_count new_is in
        let most : left_count now ≤ left_count old = no_more project old now place changed p.changes in
        omega arith

-- past the table no unit is settled
past_none : (project : ProjectView) (slots : List Slot) (number : ℕ) → length slots ≤ number → settled_at project slots number ≡ None
past_none project slots number out = ap (λ s. settled s project (has_of slots) number) (slice_get_past slots number out)

unchanged_stuck : (project : ProjectView) (old now : List Slot) (place : ℕ) → length old ≤ place → (now ≡ old) × ((number : ℕ) → number < place → settled_at project old number ≡ None) → IsStuck project now
unchanged_stuck project old now place all c = subst (IsStuck project) (sym c.0) (record { each = each })
  where
    each : (number : ℕ) → settled_at project old number ≡ None
    each number =
        elim (cases_lt number place) [
          | inl below ↦ c.1 number below
          | inr above ↦ past_none project old number (omega arith)
        ]

-- the whole round
part_changes : (project : ProjectView) (old now : List Slot) (place : ℕ) (changed : Bool) → length old ≤ place → PartChanges changed project old now place → Changes changed project old now
part_changes project old now place true all c = c
part_changes project old now place false all c = unchanged_stuck project old now place all c

pub part_all : (project : ProjectView) (old now : List Slot) (place : ℕ) (changed : Bool) → length old ≤ place → IsPart project old now place changed → IsRound project old now changed
part_all project old now place changed all p = record { leads = p.leads; changes = part_changes project old now place changed all p.changes }

-- where no unit is left, the table is stuck
pub none_left_stuck : (project : ProjectView) (slots : List Slot) → left_count slots ≡ 0 → IsStuck project slots
none_left_stuck project slots none = record { each = λ number. by_slot number (slice_get slots number) refl }
  where
    by_slot : (number : ℕ) (slot : Option Slot) → slice_get slots number ≡ slot → settled slot project (has_of slots) number ≡ None
    by_slot number (Some (Left unit)) is = absurd (let some : 1 ≤ left_count slots = left_here slots number unit is in omega arith)
    by_slot number (Some (Over found)) is = refl
    by_slot number None is = refl

-- several rounds, each of which changed the table
pub record AreRounds (project : ProjectView) (old now : List Slot) (rounds : ℕ) : Type 0 where
  pub leads : LeadsTo project old now
  pub few : left_count now + rounds ≤ length old

pub rounds_start : (project : ProjectView) (slots : List Slot) → AreRounds project slots slots 0
rounds_start project slots = record { leads = leads_same project slots; few = (let b : left_count slots ≤ length slots = left_bound slots in omega arith) }

pub rounds_all : (project : ProjectView) (old now : List Slot) (rounds : ℕ) → length old ≤ rounds → AreRounds project old now rounds → IsStuck project now
rounds_all project old now rounds all are = none_left_stuck project now (let f = are.few in omega arith)

-- a part of the end: the units before a place are over
pub record IsEnd (project : ProjectView) (old now : List Slot) (place : ℕ) : Type 0 where
  pub leads : LeadsTo project old now
  pub stuck : IsStuck project now
  pub over : (number : ℕ) (unit : UnitOf) → number < place → slice_get now number ≡ Some (Left unit) → ⊥

-- the slot that is left, and the first import that has no interface
pub record Lacks (project : ProjectView) (slots : List Slot) (number : ℕ) (outcome : Outcome) : Type 0 where
  pub unit : UnitOf
  pub import : List ℕ
  pub left : slice_get slots number ≡ Some (Left unit)
  pub lack : gathered project (has_of slots) unit.imports ≡ Err import
  pub is : outcome ≡ Failed (verdicts.Import import)

lacking_with : (found : Result (List Cmi) (List ℕ)) (outcome : Outcome) → lacking found ≡ Some outcome → (import : List ℕ) × (found ≡ Err import) × (outcome ≡ Failed (verdicts.Import import))
lacking_with (Ok cmis) outcome e = absurd (cc)
lacking_with (Err import) outcome e = (import, refl, sym (same_Some _ _ e))

lacks : (project : ProjectView) (slots : List Slot) (number : ℕ) (outcome : Outcome) → left_over_at project slots number ≡ Some outcome → Lacks project slots number outcome
lacks project slots number outcome e = by_slot (slice_get slots number) refl e
  where
    by_slot : (slot : Option Slot) → slice_get slots number ≡ slot → left_over slot project (has_of slots) ≡ Some outcome → Lacks project slots number outcome
    by_slot (Some (Left unit)) is e =
        let parts = lacking_with (gathered project (has_of slots) unit.imports) outcome e in
        record { unit = unit; import = parts.0; left = is; lack = parts.1; is = parts.2 }
    by_slot (Some (Over found)) is e = absurd (cc)
    by_slot None is e = absurd (cc)

-- one unit more
pub end_more : (project : ProjectView) (old now new : List Slot) (place : ℕ) (outcome : Option Outcome) → outcome ≡ left_over_at project now place → new ≡ with_outcome now place outcome → IsEnd project old now place → IsEnd project old new (place + 1)
end_more project old now new place None is new_is p = subst (λ slots. IsEnd project old slots (place + 1)) (sym new_is) (record { leads = p.leads; stuck = p.stuck; over = over })
  where
    over : (number : ℕ) (unit : UnitOf) → number < place + 1 → slice_get now number ≡ Some (Left unit) → ⊥
    over number unit below left =
        elim (cases_eq number place) [
          | inl same ↦
              let here : slice_get now place ≡ Some (Left unit) = sym (ap (slice_get now) same) ∙ left in
              let lack = stuck_at project now place unit p.stuck here in
              let some : None ≡ Some (Failed (verdicts.Import lack.0)) = is ∙ ap (λ s. left_over s project (has_of now)) here ∙ ap lacking lack.1 in
              absurd (cc)
          | inr other ↦ p.over number unit (omega arith) left
        ]
end_more project old now new place (Some outcome) is new_is p = subst (λ slots. IsEnd project old slots (place + 1)) (sym (new_is ∙ ap (λ o. set now place (Over o)) l.is)) (record {
  leads = leads_on project old now (set now place (Over (Failed (verdicts.Import l.import)))) p.leads (record {
    count = length-set now place (Over (Failed (verdicts.Import l.import)));
    keeps = λ origins t. table_ended project origins now place l.unit l.import t p.stuck l.left l.lack;
  });
  stuck = stuck_more project now place l.unit l.import p.stuck l.left;
  over = over;
})
  where
    l : Lacks project now place outcome
    l = lacks project now place outcome (sym is)

    over : (number : ℕ) (unit : UnitOf) → number < place + 1 → slice_get (set now place (Over (Failed (verdicts.Import l.import)))) number ≡ Some (Left unit) → ⊥
    over number unit below left =
        elim (cases_eq number place) [
          | inl same ↦
              let here : Some (Over (Failed (verdicts.Import l.import))) ≡ Some (Left unit) =
              sym (get_set_same now place (Left l.unit) (Over (Failed (verdicts.Import l.import))) l.left) ∙ sym (ap (slice_get (set now place (Over (Failed (verdicts.Import l.import))))) same) ∙ left in
              absurd (cc)
          | inr other ↦ p.over number unit (omega arith) (sym (get_set_other now place number (Over (Failed (verdicts.Import l.import))) other) ∙ left)
        ]

-- all units are over
pub end_all : (project : ProjectView) (old now : List Slot) (place : ℕ) → length old ≤ place → IsEnd project old now place → left_count now ≡ 0
end_all project old now place all p = none_left now never
  where
    never : (number : ℕ) (unit : UnitOf) → slice_get now number ≡ Some (Left unit) → ⊥
    never number unit left =
        let inside : number < length now = slice_get_within now number (Left unit) left in
        let count : length now ≡ length old = p.leads.count in
        p.over number unit (omega arith) left
