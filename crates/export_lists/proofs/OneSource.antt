-- A source has one reading in a project.
use Rattle.std.proofs.Common.{◌≡◌, ℕ, List, [], ◌∷◌, Some, inl, inr, ap, sym, ◌∙◌, refl, subst}
use Rattle.module_units.specs.Reading.{SourceReading, Good, Bad, ReadsUnit, Reads}
use Rattle.module_units.proofs.OneReading.{one_reading}
use Rattle.module_units.specs.declared.unit.Unit.{Unit as UnitOf}
use Rattle.module_units.specs.declared.unit.SourceError.TheVariants as errors
use Rattle.module_lexer.specs.declared.reason.SourceReason.{SourceReason}
use Rattle.unit_registry.specs.Projects.{ProjectView, kind_of, name_of}
use Rattle.module_units.specs.declared.faults.Fault.{Fault}
use Rattle.module_units.specs.FaultRuns.{first_fault}
use Rattle.export_lists.specs.Sources.{project_faults, BreaksProject, IsUnitFor, Source, RefusesFor}

-- the faults of a unit in a project
abbrev faults : ProjectView → ℕ → UnitOf → List Fault
faults project number unit = project_faults (kind_of project number) (name_of project number) unit

-- the reading that the first of these faults is
abbrev read_as : List Fault → SourceReading → SourceReading
read_as [] other = other
read_as (fault ∷ others) other = Bad fault.line fault.reason

abbrev unit_in : SourceReading → UnitOf → UnitOf
unit_in (Good unit) other = unit
unit_in (Bad line reason) other = other

-- a unit that is read has no fault, or the same ones
same_faults : (project : ProjectView) (number : ℕ) (text : List ℕ) (unit other : UnitOf) → ReadsUnit text unit → ReadsUnit text other → faults project number unit ≡ faults project number other
same_faults project number text unit other a b = ap (λ r. faults project number (unit_in r unit)) (one_reading text (Good unit) (Good other) a b)

lawful_or_not : (project : ProjectView) (number : ℕ) (text : List ℕ) (unit : UnitOf) (line : ℕ) (reason : SourceReason) → IsUnitFor project number text unit → BreaksProject project number text line reason → ⊥
lawful_or_not project number text unit line reason a b =
    let e : [] ≡ record { line = line; reason = reason } ∷ b.others = sym a.lawful ∙ same_faults project number text unit b.unit a.read b.read ∙ b.first in absurd (cc)

never_both : (text : List ℕ) (unit : UnitOf) (line : ℕ) (reason : SourceReason) → ReadsUnit text unit → Reads text (Bad line reason) → ⊥
never_both text unit line reason a b = let e : Good unit ≡ Bad line reason = one_reading text (Good unit) (Bad line reason) a b in absurd (cc)

pub one_source : (project : ProjectView) (number : ℕ) (text : List ℕ) (reading other : SourceReading) → Source project number text reading → Source project number text other → reading ≡ other
one_source project number text (Good unit) (Good other) a b = one_reading text (Good unit) (Good other) a.read b.read
one_source project number text (Good unit) (Bad line reason) a (inl b) = absurd (never_both text unit line reason a.read b)
one_source project number text (Good unit) (Bad line reason) a (inr b) = absurd (lawful_or_not project number text unit line reason a b)
one_source project number text (Bad line reason) (Good unit) (inl a) b = absurd (never_both text unit line reason b.read a)
one_source project number text (Bad line reason) (Good unit) (inr a) b = absurd (lawful_or_not project number text unit line reason b a)
one_source project number text (Bad line reason) (Bad other why) (inl a) (inl b) = one_reading text (Bad line reason) (Bad other why) a b
one_source project number text (Bad line reason) (Bad other why) (inl a) (inr b) = absurd (never_both text b.unit line reason b.read a)
one_source project number text (Bad line reason) (Bad other why) (inr a) (inl b) = absurd (never_both text a.unit other why a.read b)
one_source project number text (Bad line reason) (Bad other why) (inr a) (inr b) =
    ap (λ fs. read_as fs (Bad line reason)) (sym a.first ∙ same_faults project number text a.unit b.unit a.read b.read ∙ b.first)

-- a source whose unit breaks a rule is refused for it
pub refused : (project : ProjectView) (number : ℕ) (text : List ℕ) (unit : UnitOf) (fault : Fault) → ReadsUnit text unit → Some fault ≡ first_fault (faults project number unit) → RefusesFor project number text (errors.Text fault.line fault.reason)
refused project number text unit fault read e = by_faults (faults project number unit) refl e
  where
    by_faults : (found : List Fault) → faults project number unit ≡ found → Some fault ≡ first_fault found → RefusesFor project number text (errors.Text fault.line fault.reason)
    by_faults [] is t = absurd (cc)
    by_faults (first ∷ others) is t =
        let same : first ≡ fault = cc in
        subst (λ (f : Fault). RefusesFor project number text (errors.Text f.line f.reason)) same (inr (record { unit = unit; others = others; read = read; first = is }))
