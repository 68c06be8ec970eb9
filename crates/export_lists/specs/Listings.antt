-- What units are made of in a project, and the outcomes of all of them.
use Rattle.std.specs.Prelude.{◌≡◌, ◌<◌, ℕ, true, false, List, length, take, count_by, Some, slice_get}
use Rattle.unit_registry.specs.Projects.{ProjectView, unit_count, is_built}
use Rattle.export_lists.specs.Lists.{Cmi}
use Rattle.export_lists.specs.Sources.{Source}
use Rattle.export_lists.specs.Outcomes.{Origin, FromSource, FromCmi, Outcome, outcome}

-- how many units were built before
abbrev pub built_count : ProjectView → ℕ
built_count project = count_by (λ unit. unit.built) project.units

-- how many of the units before a number were built before
abbrev pub built_before : ProjectView → ℕ → ℕ
built_before project number = count_by (λ unit. unit.built) (take number project.units)

-- What a unit is made of: its interface, where it was built before, and else what its source reads as. The interfaces
-- are those of the built units in their order.
abbrev pub IsMadeOf : Origin → ProjectView → List (List ℕ) → List Cmi → ℕ → Type 0
IsMadeOf (FromCmi cmi) project sources built number = (is_built project number ≡ true) × (slice_get built (built_before project number) ≡ Some cmi)
IsMadeOf (FromSource reading) project sources built number = (is_built project number ≡ false) × (text : List ℕ) × (slice_get sources number ≡ Some text) × Source project number text reading

-- what the units are made of, where these are their sources and the interfaces of the units that were built before
pub record AreOrigins (project : ProjectView) (sources : List (List ℕ)) (built : List Cmi) (origins : List Origin) : Type 0 where
  pub count : length origins ≡ unit_count project
  pub each : (number : ℕ) (origin : Origin) → slice_get origins number ≡ Some origin → IsMadeOf origin project sources built number

-- these are the outcomes of the units, in order
pub record AreOutcomes (project : ProjectView) (origins : List Origin) (outcomes : List Outcome) : Type 0 where
  pub count : length outcomes ≡ unit_count project
  pub each : (number : ℕ) → number < unit_count project → slice_get outcomes number ≡ outcome project origins number

-- these are the outcomes of the units that are made of these sources and of these interfaces
pub record IsListing (project : ProjectView) (sources : List (List ℕ)) (built : List Cmi) (outcomes : List Outcome) : Type 0 where
  pub origins : List Origin
  pub are : AreOrigins project sources built origins
  pub come_to : AreOutcomes project origins outcomes
