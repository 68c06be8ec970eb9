-- What a project file is read as.
use Rattle.std.specs.Prelude.{◌≡◌, ℕ, List, Option, Result, Ok, Err}
use Rattle.unit_registry.specs.declared.reason.ProjectReason.{ProjectReason}
use Rattle.unit_registry.specs.Projects.{ProjectView}
use Rattle.unit_registry.specs.Readings.{Declares, IsFault}
use Rattle.unit_registry.specs.Reasons.{reason_text}
use Rattle.mm_outside.specs.Files.{Lookup}
use Rattle.mapper_commands.specs.declared.ending.Ending.{Ending}
use Rattle.mapper_commands.specs.FileReadings.{Holds, IsFileReadAs, Stay}
use Rattle.mapper_commands.specs.Endings.{Ended, told_by, BadWords, OutOfMemory, CannotRead, FileTooLong, Refused, CannotOpen, Served, Reported, Cut, WriteFailed}

-- the most octets that a project file may have
abbrev pub most_project_octets : ℕ
most_project_octets = 16777216

-- the file holds a text within the limit that declares the project
abbrev pub DeclaresProject : Option (List ℕ) → ProjectView → Type 0
DeclaresProject held project = Holds most_project_octets Declares held project

-- the first fault of a text is on this line, for a reason with this text
pub record HasFault (text : List ℕ) (line : ℕ) (reason : List ℕ) : Type 0 where
  pub cause : ProjectReason
  pub fault : IsFault text line cause
  pub reason_is : reason ≡ reason_text cause

-- what the project file of this name is read as: the project that it declares, or why there is none
abbrev pub IsReadAs : Type 0 → List ℕ → Result ProjectView Ended → Option (List ℕ) → Type 0
IsReadAs failed name result held = IsFileReadAs most_project_octets Declares HasFault failed name result held

-- what was read, with what an ending tells in place of it
abbrev pub read_as : {A : Type 0} → Result A Ending → Result A Ended
read_as (Ok read) = Ok read
read_as (Err ending) = Err (told_by ending)

-- the file of this name was read as this, and no file changed
abbrev pub FindsProject : Type 0 → List ℕ → Result ProjectView Ended → Lookup → Lookup → Type 0
FindsProject failed name result = Stay (λ content. IsReadAs failed name result (content name))

-- an ending that a file which is read brings
abbrev pub IsOfFile : Ended → Type 0
IsOfFile BadWords = ⊥
IsOfFile OutOfMemory = Unit {0}
IsOfFile (CannotRead named) = Unit {0}
IsOfFile (FileTooLong named) = Unit {0}
IsOfFile (Refused named line reason) = Unit {0}
IsOfFile (CannotOpen address) = ⊥
IsOfFile (Served how) = ⊥
IsOfFile (Reported report) = ⊥
IsOfFile (Cut report) = ⊥
IsOfFile WriteFailed = ⊥

-- A run that ends so hides no read that failed: the count of failed reads is as it was, unless the ending is that a
-- file can't be read, or memory was wanted.
pub data KeepsReads (ended : Ended) (reads_before reads_now : ℕ) : Type 0 where
  none_failed : reads_now ≡ reads_before → KeepsReads ended reads_before reads_now
  at_file : (named : List ℕ) → ended ≡ CannotRead named → KeepsReads ended reads_before reads_now
  for_memory : ended ≡ OutOfMemory → KeepsReads ended reads_before reads_now

-- the same of what was read, or an ending in place of it
abbrev pub KeepsReadsOf : {A : Type 0} → Result A Ended → ℕ → ℕ → Type 0
KeepsReadsOf (Ok read) reads_before reads_now = reads_now ≡ reads_before
KeepsReadsOf (Err ended) reads_before reads_now = KeepsReads ended reads_before reads_now
