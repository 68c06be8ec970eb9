-- What `list` comes to: what the files of a project's units hold, and the report on them.
use Rattle.std.specs.Prelude.{◌≡◌, ◌≢◌, ◌⊎◌, ℕ, suc, ◌<◌, ◌≤◌, Bool, true, false, List, ◌∷◌, ◌++◌, length, slice_get, Option, Some, None, Result, Ok, Err, codes, not}
use Rattle.std.specs.List.{All, list_any}
use Rattle.mm_outside.specs.Files.{Lookup}
use Rattle.mm_outside.specs.Told.{Told}
use Rattle.header_units.specs.Names.{name_kind}
use Rattle.header_units.specs.Octets.{slash}
use Rattle.header_units.specs.CmiNames.{cmi_name}
use Rattle.unit_registry.specs.Projects.{ProjectView, unit_count, name_of, ident_of, is_built}
use Rattle.unit_registry.specs.Readings.{Declares}
use Rattle.export_lists.specs.declared.cmi.Cmi.{Cmi}
use Rattle.export_lists.specs.CmiFaults.{IsCmiText, IsFaultyLine}
use Rattle.export_lists.specs.Listings.{built_before, IsListing}
use Rattle.export_lists.specs.declared.outcome.Outcome.{Outcome}
use Rattle.export_lists.specs.declared.outcome.Outcome.TheVariants.{Compiled, Built, Failed}
use Rattle.export_lists.specs.Reports.{report}
use Rattle.mapper_commands.specs.declared.unit_files.Stop.{Stop}
use Rattle.mapper_commands.specs.declared.unit_files.Fault.{Fault}
use Rattle.mapper_commands.specs.declared.unit_files.Fault.TheVariants as fault
use Rattle.mapper_commands.specs.declared.unit_files.Gathered.{Gathered}
use Rattle.mapper_commands.specs.Endings.{Ended, OutOfMemory, CannotRead, FileTooLong, Refused, Report, EndsIn, Issues, Output}
use Rattle.mapper_commands.specs.FileReadings.{Stay}
use Rattle.mapper_commands.specs.ProjectFiles.{DeclaresProject, IsOfFile, IsReadAs}

-- ---- the files of units

-- the most octets of a source, and of the file of an interface
abbrev pub most_source_octets : ℕ
most_source_octets = 1048576

abbrev pub most_cmi_octets : ℕ
most_cmi_octets = 268435456

-- the file of a unit's interface, which stands in the repository
abbrev pub cmi_file : ProjectView → ℕ → List ℕ
cmi_file project unit = project.repo ++ slash ∷ cmi_name (name_of project unit)

-- the file that is read for a unit: that of its interface, where it was built before, and else its source
abbrev pub file_by : Bool → ProjectView → ℕ → List ℕ
file_by true project unit = cmi_file project unit
file_by false project unit = ident_of project unit

abbrev pub unit_file : ProjectView → ℕ → List ℕ
unit_file project unit = file_by (is_built project unit) project unit

-- the most octets that this file may have
abbrev pub most_by : Bool → ℕ
most_by true = most_cmi_octets
most_by false = most_source_octets

-- a file holds this text, which is within a limit
pub record HoldsWithin (content : Lookup) (name : List ℕ) (most : ℕ) (text : List ℕ) : Type 0 where
  pub held : content name ≡ Some text
  pub within : length text ≤ most

-- the file of a unit's interface holds the text of this interface, which is the unit's own
pub record HoldsCmi (project : ProjectView) (content : Lookup) (unit : ℕ) (cmi : Cmi) : Type 0 where
  pub text : List ℕ
  pub holds : HoldsWithin content (cmi_file project unit) most_cmi_octets text
  pub reads : IsCmiText text cmi
  pub named : cmi.unit ≡ name_of project unit

-- these are the source of a unit that wasn't built before, and its place among the sources
pub record HoldsSource (project : ProjectView) (content : Lookup) (sources : List (List ℕ)) (unit : ℕ) : Type 0 where
  pub text : List ℕ
  pub place : slice_get sources unit ≡ Some text
  pub holds : HoldsWithin content (ident_of project unit) most_source_octets text

-- this is the interface of a unit that was built before, and its place among those of such units
pub record HoldsBuilt (project : ProjectView) (content : Lookup) (built : List Cmi) (unit : ℕ) : Type 0 where
  pub cmi : Cmi
  pub place : slice_get built (built_before project unit) ≡ Some cmi
  pub holds : HoldsCmi project content unit cmi

-- There is a source for each of the first so many units, none longer than a source may be, and an interface for each of
-- them that was built before.
pub record Fit (project : ProjectView) (count : ℕ) (sources : List (List ℕ)) (built : List Cmi) : Type 0 where
  pub sources_fit : length sources ≡ count
  pub short : All (λ text. length text ≤ most_source_octets) sources
  pub built_fit : length built ≡ built_before project count

-- The files of the first so many units hold these sources, and the texts of these interfaces. The source of a unit
-- that was built before says nothing.
pub record HoldUnits (project : ProjectView) (content : Lookup) (count : ℕ) (sources : List (List ℕ)) (built : List Cmi) : Type 0 where
  pub fit : Fit project count sources built
  pub source : (unit : ℕ) → unit < count → is_built project unit ≡ false → HoldsSource project content sources unit
  pub interface : (unit : ℕ) → unit < count → is_built project unit ≡ true → HoldsBuilt project content built unit

-- the file declares a project, and this is the name of the file that is read for one of its units
pub record IsUnitFile (held : Option (List ℕ)) (name : List ℕ) : Type 0 where
  pub project : ProjectView
  pub declares : DeclaresProject held project
  pub unit : ℕ
  pub declared : unit < unit_count project
  pub name_is : name ≡ unit_file project unit

-- ---- a file that is refused

-- why a file isn't taken: memory was wanted; it is absent, or a read failed; or it is above its limit
pub data RefusesFile (failed : Type 0) (name : List ℕ) (most : ℕ) (content : Lookup) (ended : Ended) : Type 0 where
  no_memory : ended ≡ OutOfMemory → RefusesFile failed name most content ended
  unreadable : ended ≡ CannotRead name → (content name ≡ None) ⊎ failed → RefusesFile failed name most content ended
  too_long : (text : List ℕ) → ended ≡ FileTooLong name → content name ≡ Some text → most < length text → RefusesFile failed name most content ended

-- what a text has of a line that isn't one of an interface's text, or of an interface of another unit
pub data IsNoCmiOf (name : List ℕ) (declared text : List ℕ) (ended : Ended) : Type 0 where
  not_a_cmi : (line : ℕ) → ended ≡ Refused name line (codes "not a cmi") → IsFaultyLine text line → IsNoCmiOf name declared text ended
  other_unit : (cmi : Cmi) → ended ≡ Refused name 2 (codes "unit differs from project") → IsCmiText text cmi → cmi.unit ≢ declared → IsNoCmiOf name declared text ended

-- why the file of a unit isn't taken: as a file; or it was to hold the text of the unit's interface, and doesn't
pub data RefusesUnit (failed : Type 0) (project : ProjectView) (unit : ℕ) (content : Lookup) (ended : Ended) : Type 0 where
  as_file : RefusesFile failed (unit_file project unit) (most_by (is_built project unit)) content ended → RefusesUnit failed project unit content ended
  as_cmi : (text : List ℕ) → is_built project unit ≡ true → HoldsWithin content (unit_file project unit) most_cmi_octets text → IsNoCmiOf (unit_file project unit) (name_of project unit) text ended → RefusesUnit failed project unit content ended

-- the files of the units before one are taken, and its own isn't
pub record StopsAt (failed : Type 0) (project : ProjectView) (content : Lookup) (ended : Ended) : Type 0 where
  pub unit : ℕ
  pub declared : unit < unit_count project
  pub sources : List (List ℕ)
  pub built : List Cmi
  pub before : HoldUnits project content unit sources built
  pub refused : RefusesUnit failed project unit content ended

-- some text declares the project
pub record IsDeclared (project : ProjectView) : Type 0 where
  pub text : List ℕ
  pub declares : Declares text project

-- each unit that was built before has a name of a module, a partition or a header
abbrev pub BuiltHaveNames : ProjectView → Type 0
BuiltHaveNames project = (unit : ℕ) → unit < unit_count project → is_built project unit ≡ true → name_kind (name_of project unit) ≢ None

-- ---- what the calls answer

-- why a file isn't taken, as the ending of a run
abbrev pub ended_at : List ℕ → Fault → Ended
ended_at name fault.Unreadable = CannotRead name
ended_at name fault.TooLong = FileTooLong name
ended_at name (fault.NotCmi line) = Refused name line (codes "not a cmi")
ended_at name fault.OtherUnit = Refused name 2 (codes "unit differs from project")
ended_at name fault.Memory = OutOfMemory

-- why the file of a unit isn't taken, as the ending of a run
abbrev pub ended_for : ProjectView → ℕ → Fault → Ended
ended_for project unit found = ended_at (unit_file project unit) found

-- why reading stops, as the ending of a run
abbrev pub ended_by : ProjectView → Stop → Ended
ended_by project stop = ended_for project stop.unit stop.fault

-- what was read, with what a stop tells in place of it
abbrev pub stopped_as : {A : Type 0} → ProjectView → Result A Stop → Result A Ended
stopped_as project (Ok read) = Ok read
stopped_as project (Err stop) = Err (ended_by project stop)

-- Where a file isn't taken so, no read that failed is hidden: the count of failed reads is as it was, unless the file
-- can't be read, or memory was wanted.
pub data KeepsReadsAt (found : Fault) (reads_before reads_now : ℕ) : Type 0 where
  reads_stay : reads_now ≡ reads_before → KeepsReadsAt found reads_before reads_now
  at_read : found ≡ fault.Unreadable → KeepsReadsAt found reads_before reads_now
  at_memory : found ≡ fault.Memory → KeepsReadsAt found reads_before reads_now

-- the same of what was read, or a fault in place of it
abbrev pub KeepsReadsBut : {A : Type 0} → Result A Fault → ℕ → ℕ → Type 0
KeepsReadsBut (Ok read) reads_before reads_now = reads_now ≡ reads_before
KeepsReadsBut (Err found) reads_before reads_now = KeepsReadsAt found reads_before reads_now

-- what the files of all units are read as
abbrev pub GathersSo : Type 0 → ProjectView → Result Gathered Stop → Lookup → Type 0
GathersSo failed project (Ok gathered) content = HoldUnits project content (unit_count project) gathered.sources gathered.built
GathersSo failed project (Err stop) content = StopsAt failed project content (ended_by project stop)

-- what a file is read as
abbrev pub FileSo : Type 0 → List ℕ → ℕ → Result (List ℕ) Fault → Lookup → Type 0
FileSo failed name most (Ok text) content = HoldsWithin content name most text
FileSo failed name most (Err found) content = RefusesFile failed name most content (ended_at name found)

-- what the source of a unit is read as
abbrev pub SourceSo : Type 0 → ProjectView → ℕ → Result (List ℕ) Fault → Lookup → Type 0
SourceSo failed project unit (Ok text) content = HoldsWithin content (ident_of project unit) most_source_octets text
SourceSo failed project unit (Err found) content = RefusesUnit failed project unit content (ended_for project unit found)

-- what the text of an interface's file is read as, where that of a unit declared so is wanted
abbrev pub TextSo : List ℕ → List ℕ → Result Cmi Fault → Type 0
TextSo declared text (Ok cmi) = IsCmiText text cmi × (cmi.unit ≡ declared)
TextSo declared text (Err fault.Unreadable) = ⊥
TextSo declared text (Err fault.TooLong) = ⊥
TextSo declared text (Err (fault.NotCmi line)) = IsFaultyLine text line
TextSo declared text (Err fault.OtherUnit) = (cmi : Cmi) × IsCmiText text cmi × (cmi.unit ≢ declared)
TextSo declared text (Err fault.Memory) = Unit {0}

-- what the file of a unit's interface is read as
abbrev pub CmiSo : Type 0 → ProjectView → ℕ → Result Cmi Fault → Lookup → Type 0
CmiSo failed project unit (Ok cmi) content = HoldsCmi project content unit cmi
CmiSo failed project unit (Err found) content = RefusesUnit failed project unit content (ended_for project unit found)

-- what the file of one more unit adds
abbrev pub AddsSo : {T : Type 0} → Type 0 → ProjectView → ℕ → Result T Fault → Gathered → Gathered → Lookup → Type 0
AddsSo failed project unit (Ok _) old new content = HoldUnits project content unit old.sources old.built → HoldUnits project content (suc unit) new.sources new.built
AddsSo failed project unit (Err found) old new content = RefusesUnit failed project unit content (ended_for project unit found)

-- ---- the run

-- whether a unit failed
abbrev pub has_failed : Outcome → Bool
has_failed (Compiled cmi) = false
has_failed (Built cmi) = false
has_failed (Failed verdict) = true

-- the report on the outcomes of a project's units, and whether none of them failed
abbrev pub list_report : ProjectView → List Outcome → Report
list_report project outcomes = record { text = report project outcomes; good = not (list_any has_failed outcomes) }

-- the file of this name declares the project, and the files of its units hold these sources and interfaces
pub record HoldsProject (name : List ℕ) (project : ProjectView) (sources : List (List ℕ)) (built : List Cmi) (content : Lookup) : Type 0 where
  pub declares : DeclaresProject (content name) project
  pub holds : HoldUnits project content (unit_count project) sources built

-- Nothing hinders a report on the units of the project of this file: the file declares a project, and each unit's
-- source is there, or the text of its own interface.
pub record HoldsAll (name : List ℕ) (content : Lookup) : Type 0 where
  pub project : ProjectView
  pub sources : List (List ℕ)
  pub built : List Cmi
  pub holds : HoldsProject name project sources built content

-- the project file isn't taken, or it declares a project of whose units' files one isn't
abbrev pub RefusesList : Type 0 → List ℕ → Ended → Lookup → Type 0
RefusesList failed name ended content = IsReadAs failed name (Err ended) (content name) ⊎ ((project : ProjectView) × DeclaresProject (content name) project × StopsAt failed project content ended)

-- what was printed on the outcomes of units that are made of these sources and interfaces: the report, or a part of it
pub record ReportsOn (project : ProjectView) (sources : List (List ℕ)) (built : List Cmi) (output : Output) (status : ℕ) : Type 0 where
  pub outcomes : List Outcome
  pub listing : IsListing project sources built outcomes
  pub issued : Issues (list_report project outcomes) output status

module _ (failed : Type 0) (before now : Option Lookup) where
  -- What `list` comes to, by its ending, and no file changed: a project is declared, and the report is that on the
  -- outcomes of its units, as the files tell them; or a file isn't taken, or memory was wanted.
  pub data ListsSo (name : List ℕ) (ended : Ended) : Type 0 where
    reported : (project : ProjectView) (sources : List (List ℕ)) (built : List Cmi) (outcomes : List Outcome) → Told (Stay (HoldsProject name project sources built)) before now → IsListing project sources built outcomes → EndsIn (list_report project outcomes) ended → ListsSo name ended
    refused : IsOfFile ended → Told (Stay (RefusesList failed name ended)) before now → ListsSo name ended
