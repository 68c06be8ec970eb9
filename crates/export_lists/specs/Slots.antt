-- Working definitions of the table of units that are left or over.
use Rattle.std.specs.Prelude.{◌≡◌, ◌<◌, ◌-◌, ℕ, zero, suc, Bool, true, false, List, [], ◌∷◌, length, map, Option, Some, None, Result, Ok, Err, slice_get, set, option_and_then}
use Rattle.module_units.specs.declared.unit.Unit.{Unit as UnitOf}
use Rattle.module_units.specs.Reading.{SourceReading, Good, Bad}
use Rattle.unit_registry.specs.Projects.{ProjectView, unit_count, name_of}
use Rattle.export_lists.specs.Lists.{Cmi}
use Rattle.export_lists.specs.Compiling.{compiled}
use Rattle.export_lists.specs.Sources.{Source}
use Rattle.export_lists.specs.Outcomes.{Origin, FromSource, FromCmi, Interfaces, gathered, as_outcome, cmi_in, outcome_at, outcome, Outcome, Built, Failed}
use Rattle.export_lists.specs.Lent.{lent}
use Rattle.export_lists.specs.Listings.{IsMadeOf}
use Rattle.export_lists.specs.declared.outcome.Verdict.TheVariants as verdicts
pub use Rattle.export_lists.specs.declared.slots.Slot.{Slot}
pub use Rattle.export_lists.specs.declared.slots.Slot.TheVariants.{Left, Over}
use Rattle.export_lists.specs.declared.rounds.Gathered.{Gathered}
use Rattle.export_lists.specs.declared.rounds.Gathered.TheVariants.{All, Lacking}

-- what a unit of an origin is before any round: left, where its source is a good one
abbrev pub first_slot : Origin → Slot
first_slot (FromCmi cmi) = Over (Built cmi)
first_slot (FromSource (Good unit)) = Left unit
first_slot (FromSource (Bad line reason)) = Over (Failed (verdicts.Source line reason))

-- the slot of a unit that is made so
pub record IsFirstSlot (project : ProjectView) (sources : List (List ℕ)) (built : List Cmi) (number : ℕ) (slot : Slot) : Type 0 where
  pub origin : Origin
  pub made_of : IsMadeOf origin project sources built number
  pub slot_is : slot ≡ first_slot origin

-- the slot of a unit with this source
pub record IsSourceSlot (project : ProjectView) (number : ℕ) (text : List ℕ) (slot : Slot) : Type 0 where
  pub reading : SourceReading
  pub reads : Source project number text reading
  pub slot_is : slot ≡ first_slot (FromSource reading)

-- the slots of the first units
pub record AreFirstSlots (project : ProjectView) (sources : List (List ℕ)) (built : List Cmi) (count : ℕ) (slots : List Slot) : Type 0 where
  pub origins : List Origin
  pub are_so_many : length origins ≡ count
  pub each : (number : ℕ) (origin : Origin) → slice_get origins number ≡ Some origin → IsMadeOf origin project sources built number
  pub slots_are : slots ≡ map first_slot origins

-- the interface in a slot, if there is one
abbrev pub slot_cmi : Option Slot → Option Cmi
slot_cmi (Some (Left unit)) = None
slot_cmi (Some (Over outcome)) = cmi_in outcome
slot_cmi None = None

-- the interfaces in slots
abbrev pub has_of : List Slot → Interfaces
has_of slots unit = slot_cmi (slice_get slots unit)

-- how many units are left
abbrev pub left_count : List Slot → ℕ
left_count [] = zero
left_count (Left unit ∷ slots) = suc (left_count slots)
left_count (Over outcome ∷ slots) = left_count slots

-- the outcome in a slot, if there is one
abbrev pub outcome_in : Slot → Option Outcome
outcome_in (Left unit) = None
outcome_in (Over outcome) = Some outcome

-- what a slot says is so: a unit that is left is the one that the source is, and an outcome is the unit's
abbrev pub IsSound : Slot → ProjectView → List Origin → ℕ → Type 0
IsSound (Left unit) project origins number = slice_get origins number ≡ Some (FromSource (Good unit))
IsSound (Over found) project origins number = outcome project origins number ≡ Some found

-- each unit with an interface has it among others too
pub record Within (has more : Interfaces) : Type 0 where
  pub each : (unit : ℕ) (cmi : Cmi) → has unit ≡ Some cmi → more unit ≡ Some cmi

-- the interfaces at a depth
abbrev pub at_depth : ProjectView → List Origin → ℕ → Interfaces
at_depth project origins depth unit = option_and_then cmi_in (outcome_at project origins depth unit)

-- a table of the units of a project with these origins: the interfaces in it are there at a depth of as many units as
-- are over
pub record IsTable (project : ProjectView) (origins : List Origin) (slots : List Slot) : Type 0 where
  pub are_so_many : length origins ≡ unit_count project
  pub count : length slots ≡ unit_count project
  pub sound : (number : ℕ) (slot : Slot) → slice_get slots number ≡ Some slot → IsSound slot project origins number
  pub within : Within (has_of slots) (at_depth project origins (unit_count project - left_count slots))

-- what a unit comes to, where each import has an interface
abbrev pub finished : List ℕ → UnitOf → Result (List Cmi) (List ℕ) → Option Outcome
finished name unit (Ok cmis) = Some (as_outcome (compiled name unit cmis))
finished name unit (Err import) = None

-- what a unit that is left comes to over interfaces
abbrev pub settled : Option Slot → ProjectView → Interfaces → ℕ → Option Outcome
settled (Some (Left unit)) project has number = finished (name_of project number) unit (gathered project has unit.imports)
settled (Some (Over outcome)) project has number = None
settled None project has number = None

-- what a slot's unit comes to over the interfaces of the table
abbrev pub settled_at : ProjectView → List Slot → ℕ → Option Outcome
settled_at project slots number = settled (slice_get slots number) project (has_of slots) number

-- the outcome of a unit with an import that has no interface
abbrev pub lacking : Result (List Cmi) (List ℕ) → Option Outcome
lacking (Ok cmis) = None
lacking (Err import) = Some (Failed (verdicts.Import import))

-- the outcome of a unit that stays left over interfaces
abbrev pub left_over : Option Slot → ProjectView → Interfaces → Option Outcome
left_over (Some (Left unit)) project has = lacking (gathered project has unit.imports)
left_over (Some (Over outcome)) project has = None
left_over None project has = None

-- the outcome of a slot's unit, where it stays left
abbrev pub left_over_at : ProjectView → List Slot → ℕ → Option Outcome
left_over_at project slots number = left_over (slice_get slots number) project (has_of slots)

-- the table with an outcome in this place, where there is one
abbrev pub with_outcome : List Slot → ℕ → Option Outcome → List Slot
with_outcome slots number None = slots
with_outcome slots number (Some outcome) = set slots number (Over outcome)

-- what is seen of interfaces that are gathered
abbrev pub seen : Gathered → Result (List Cmi) (List ℕ)
seen (All cmis) = Ok (lent cmis.items)
seen (Lacking name) = Err name.now

-- no unit that is left can be compiled over the interfaces of the table
pub record IsStuck (project : ProjectView) (slots : List Slot) : Type 0 where
  pub each : (number : ℕ) → settled_at project slots number ≡ None

-- from one table to a later one, which has as many units, and is one where the first is
pub record LeadsTo (project : ProjectView) (old new : List Slot) : Type 0 where
  pub count : length new ≡ length old
  pub keeps : (origins : List Origin) → IsTable project origins old → IsTable project origins new

-- whether a round changes a table: fewer units are left, or no unit that is left can be compiled
abbrev pub Changes : Bool → ProjectView → List Slot → List Slot → Type 0
Changes true project old new = left_count new < left_count old
Changes false project old new = IsStuck project new

-- a round from one table to a later one
pub record IsRound (project : ProjectView) (old new : List Slot) (changed : Bool) : Type 0 where
  pub leads : LeadsTo project old new
  pub changes : Changes changed project old new
