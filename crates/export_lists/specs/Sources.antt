-- What a source reads as in a project: the unit that it is, or its first fault.
use Rattle.std.specs.Prelude.{◌≡◌, ◌⊎◌, ℕ, Bool, true, false, not, ◌&&◌, List, [], ◌∷◌, ◌++◌}
use Rattle.std.specs.Str.{bytes_eq}
use Rattle.header_units.specs.Octets.{colon}
use Rattle.module_lexer.specs.declared.reason.SourceReason.{SourceReason}
use Rattle.module_lexer.specs.declared.reason.SourceReason.TheVariants.{UnitDiffers, ImportInHeader}
use Rattle.module_units.specs.declared.unit.Unit.{Unit as UnitOf}
use Rattle.module_units.specs.declared.parts.Import.{Import as ImportOf}
use Rattle.module_units.specs.declared.faults.Fault.{Fault}
use Rattle.module_units.specs.Rules.{fault_if}
use Rattle.module_units.specs.Reading.{SourceReading, Good, Bad, ReadsUnit, Reads}
use Rattle.module_units.specs.declared.parts.UnitKind.{UnitKind}
use Rattle.module_units.specs.declared.parts.UnitKind.TheVariants as units
use Rattle.module_units.specs.declared.unit.SourceError.{SourceError}
use Rattle.module_units.specs.declared.unit.SourceError.TheVariants as errors
use Rattle.unit_registry.specs.declared.kind.Kind.{Kind}
use Rattle.unit_registry.specs.declared.kind.Kind.TheVariants.{Module, Header, Plain}
use Rattle.unit_registry.specs.Projects.{ProjectView, kind_of, name_of}

-- a unit's name: its module's, with its partition behind a colon
abbrev pub named : List ℕ → List ℕ → List ℕ
named [] m = m
named (c ∷ partition) m = m ++ colon ∷ c ∷ partition

-- the name of a unit
abbrev pub unit_name : UnitOf → List ℕ
unit_name unit = named unit.partition unit.module

-- whether a project may declare units of the kind: as a module or a partition, as a header unit, or as a plain unit
abbrev pub may_be : Kind → UnitKind → Bool
may_be Module units.Interface = true
may_be Module units.PartitionInterface = true
may_be Module units.PartitionImplementation = true
may_be Module units.Implementation = false
may_be Module units.Plain = false
may_be Header units.Plain = true
may_be Header units.Interface = false
may_be Header units.PartitionInterface = false
may_be Header units.PartitionImplementation = false
may_be Header units.Implementation = false
may_be Plain units.Plain = true
may_be Plain units.Implementation = true
may_be Plain units.Interface = false
may_be Plain units.PartitionInterface = false
may_be Plain units.PartitionImplementation = false

-- whether a unit has the name that its project declares, where it declares a module or a partition
abbrev pub has_name : Kind → List ℕ → UnitOf → Bool
has_name Module name unit = bytes_eq (unit_name unit) name
has_name Header name unit = true
has_name Plain name unit = true

-- the fault of the first import of a header unit
abbrev pub header_faults : Kind → List ImportOf → List Fault
header_faults Module imports = []
header_faults Plain imports = []
header_faults Header [] = []
header_faults Header (import ∷ imports) = record { line = import.line; reason = ImportInHeader } ∷ []

-- the faults of a unit in a project that declares a unit of this kind and name, in the order of the text
abbrev pub project_faults : Kind → List ℕ → UnitOf → List Fault
project_faults kind name unit =
    fault_if (not (may_be kind unit.kind && has_name kind name unit)) unit.module_line UnitDiffers
    ++ header_faults kind unit.imports

-- the source reads as a unit, and breaks a rule of the project, first on this line for this reason
pub record BreaksProject (project : ProjectView) (number : ℕ) (text : List ℕ) (line : ℕ) (reason : SourceReason) : Type 0 where
  pub unit : UnitOf
  pub others : List Fault
  pub read : ReadsUnit text unit
  pub first : project_faults (kind_of project number) (name_of project number) unit ≡ record { line = line; reason = reason } ∷ others

-- the source reads as a unit, and breaks no rule of the project
pub record IsUnitFor (project : ProjectView) (number : ℕ) (text : List ℕ) (unit : UnitOf) : Type 0 where
  pub read : ReadsUnit text unit
  pub lawful : project_faults (kind_of project number) (name_of project number) unit ≡ []

-- what the source of a unit of the project reads as: a unit, or the first fault
abbrev pub Source : ProjectView → ℕ → List ℕ → SourceReading → Type 0
Source project number text (Good unit) = IsUnitFor project number text unit
Source project number text (Bad line reason) = Reads text (Bad line reason) ⊎ BreaksProject project number text line reason

-- what may be answered where there is no unit: the source's first fault, or want of memory
abbrev pub RefusesFor : ProjectView → ℕ → List ℕ → SourceError → Type 0
RefusesFor project number text (errors.Text line reason) = Source project number text (Bad line reason)
RefusesFor project number text errors.Memory = Unit {0}
