-- Units whose imports lead round in a ring.
use Rattle.std.specs.Prelude.{◌≡◌, ℕ, List, Some, slice_get}
use Rattle.std.specs.List.{Contains}
use Rattle.module_units.specs.declared.unit.Unit.{Unit as UnitOf}
use Rattle.module_units.specs.declared.parts.Import.{Import as ImportOf}
use Rattle.module_units.specs.Reading.{Good}
use Rattle.unit_registry.specs.Projects.{ProjectView, find_unit}
use Rattle.export_lists.specs.Outcomes.{Origin, FromSource}

-- The source of a unit is good, and one of its imports is of one of these units.
pub record ImportsOneOf (project : ProjectView) (origins : List Origin) (units : List ℕ) (unit : ℕ) : Type 0 where
  pub source : UnitOf
  pub import : ImportOf
  pub other : ℕ
  pub made_of : slice_get origins unit ≡ Some (FromSource (Good source))
  pub imports : Contains source.imports import
  pub found : find_unit project import.name ≡ Some other
  pub among : Contains units other

-- each of these units imports one of them
abbrev pub LeadRound : ProjectView → List Origin → List ℕ → Type 0
LeadRound project origins units = (unit : ℕ) → Contains units unit → ImportsOneOf project origins units unit
