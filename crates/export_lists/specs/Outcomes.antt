-- What becomes of the units of a project, by recursion along their imports.
use Rattle.std.specs.Prelude.{ℕ, zero, suc, List, [], ◌∷◌, Option, Some, None, Result, Ok, Err, slice_get, option_and_then}
use Rattle.module_units.specs.declared.unit.Unit.{Unit as UnitOf}
use Rattle.module_units.specs.declared.parts.Import.{Import as ImportOf}
use Rattle.module_units.specs.declared.faults.Fault.{Fault}
use Rattle.module_units.specs.Reading.{SourceReading, Good, Bad}
use Rattle.unit_registry.specs.Projects.{ProjectView, unit_count, name_of, find_unit}
use Rattle.export_lists.specs.Lists.{Cmi}
use Rattle.export_lists.specs.Compiling.{compiled}
pub use Rattle.export_lists.specs.declared.outcome.Outcome.{Outcome}
pub use Rattle.export_lists.specs.declared.outcome.Outcome.TheVariants.{Compiled, Built, Failed}
pub use Rattle.export_lists.specs.declared.outcome.Verdict.{Verdict}
use Rattle.export_lists.specs.declared.outcome.Verdict.TheVariants as verdicts

-- what a unit is made of: what its source reads as, or the interface of a unit that was built before
pub data Origin : Type 0 where
  FromSource : (reading : SourceReading) → Origin
  FromCmi : (cmi : Cmi) → Origin

-- the interface of an outcome, if it has one
abbrev pub cmi_in : Outcome → Option Cmi
cmi_in (Compiled cmi) = Some cmi
cmi_in (Built cmi) = Some cmi
cmi_in (Failed verdict) = None

-- the interfaces that units have, by their numbers
abbrev pub Interfaces : Type 0
Interfaces = ℕ → Option Cmi

-- the interface of the unit that an import names
abbrev pub imported_cmi : ProjectView → Interfaces → ImportOf → Option Cmi
imported_cmi project has import = option_and_then has (find_unit project import.name)

-- an import's interface before those of the rest, or its name
abbrev pub put_first : Option Cmi → List ℕ → Result (List Cmi) (List ℕ) → Result (List Cmi) (List ℕ)
put_first None name rest = Err name
put_first (Some cmi) name (Ok cmis) = Ok (cmi ∷ cmis)
put_first (Some cmi) name (Err other) = Err other

-- the interfaces of imports, or the name of the first that has none
abbrev pub gathered : ProjectView → Interfaces → List ImportOf → Result (List Cmi) (List ℕ)
gathered project has [] = Ok []
gathered project has (import ∷ imports) = put_first (imported_cmi project has import) import.name (gathered project has imports)

-- the outcome of a unit that has compiled so
abbrev pub as_outcome : Result Cmi Fault → Outcome
as_outcome (Ok cmi) = Compiled cmi
as_outcome (Err fault) = Failed (verdicts.Source fault.line fault.reason)

-- the outcome of a unit over the interfaces of its imports
abbrev pub outcome_over : List ℕ → UnitOf → Result (List Cmi) (List ℕ) → Outcome
outcome_over name unit (Ok cmis) = as_outcome (compiled name unit cmis)
outcome_over name unit (Err import) = Failed (verdicts.Import import)

-- the outcome of a source
abbrev pub outcome_of_source : ProjectView → Interfaces → ℕ → SourceReading → Outcome
outcome_of_source project has number (Good unit) = outcome_over (name_of project number) unit (gathered project has unit.imports)
outcome_of_source project has number (Bad line reason) = Failed (verdicts.Source line reason)

-- one step: what a unit comes to where the units have these interfaces
abbrev pub step : ProjectView → Interfaces → ℕ → Option Origin → Option Outcome
step project has number (Some (FromSource reading)) = Some (outcome_of_source project has number reading)
step project has number (Some (FromCmi cmi)) = Some (Built cmi)
step project has number None = None

-- what there is before any step: the interfaces of units that were built before
abbrev pub at_start : Option Origin → Option Outcome
at_start (Some (FromSource reading)) = None
at_start (Some (FromCmi cmi)) = Some (Built cmi)
at_start None = None

-- the outcome of a unit, where imports are followed to this depth, or none where it isn't compiled by then
abbrev pub outcome_at : ProjectView → List Origin → ℕ → ℕ → Option Outcome
outcome_at project origins zero number = at_start (slice_get origins number)
outcome_at project origins (suc depth) number = step project (λ unit. option_and_then cmi_in (outcome_at project origins depth unit)) number (slice_get origins number)

-- the outcome of a unit. No walk along imports is longer than there are units, unless it leads round in a ring
abbrev pub outcome : ProjectView → List Origin → ℕ → Option Outcome
outcome project origins number = outcome_at project origins (unit_count project) number
