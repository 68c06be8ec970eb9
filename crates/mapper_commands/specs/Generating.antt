-- What `gen` comes to: the files of a generated project, written one after another.
use Rattle.std.specs.Prelude.{◌≡◌, ◌≢◌, ℕ, suc, ◌+◌, ◌<◌, true, List, [], ◌∷◌, ◌++◌, All, length, take, Option, Some, Result, Ok, Err, codes, decimal}
use Rattle.mm_outside.specs.Causes.{Rose}
use Rattle.mm_outside.specs.Files.{Lookup}
use Rattle.mm_outside.specs.Told.{Told}
use Rattle.export_lists.specs.Generated.{generated, source_path}
use Rattle.export_lists.specs.declared.generated.Generated.{Generated}
use Rattle.mapper_commands.specs.Endings.{Ended, OutOfMemory, WriteFailed, Report, EndsIn}

-- ---- the files

-- a text, and the name of the file that is to hold it
pub record NamedText : Type 0 where
  pub name : List ℕ
  pub text : List ℕ

-- the name of the project file in a folder
abbrev pub project_name : List ℕ → List ℕ
project_name folder = folder ++ codes "/project"

-- the sources, numbered from the first one's number on
abbrev pub source_files : List ℕ → ℕ → List (List ℕ) → List NamedText
source_files folder number [] = []
source_files folder number (text ∷ texts) = record { name = source_path folder number; text = text } ∷ source_files folder (suc number) texts

-- the files of a generated project, in the order in which they are written: the project file and then the sources
abbrev pub files_of : List ℕ → Generated → List NamedText
files_of folder project = record { name = project_name folder; text = project.project } ∷ source_files folder 0 project.sources

-- the files of the project that is generated in a folder
abbrev pub generated_files : List ℕ → ℕ → ℕ → List NamedText
generated_files folder units seed = files_of folder (generated folder units seed)

-- ---- writing them

-- the files hold their texts, and no other name changed
pub record HoldTexts (files : List NamedText) (before now : Lookup) : Type 0 where
  pub held : All (λ file. now file.name ≡ Some file.text) files
  pub others : (name : List ℕ) → All (λ file. name ≢ file.name) files → now name ≡ before name

-- Writing stopped at one of the files: those before it hold their texts, it may hold anything, and no other name
-- changed.
pub record StopsWithin (files : List NamedText) (before now : Lookup) : Type 0 where
  pub count : ℕ
  pub within : count < length files
  pub held : All (λ file. now file.name ≡ Some file.text) (take count files)
  pub others : (name : List ℕ) → All (λ file. name ≢ file.name) (take (suc count) files) → now name ≡ before name

-- at `Ok` all files were written, at a fault those before one of them
abbrev pub WritesAll : {T E : Type 0} → Result T E → List NamedText → Lookup → Lookup → Type 0
WritesAll (Ok _) files before now = HoldTexts files before now
WritesAll (Err _) files before now = StopsWithin files before now

-- ---- what is said

-- how many files were written
abbrev pub wrote_text : ℕ → List ℕ
wrote_text count = codes "wrote " ++ decimal count ++ codes " files\n"

-- the report that so many files were written
abbrev pub wrote_report : ℕ → Report
wrote_report count = record { text = wrote_text count; good = true }

module _ (faults_before faults_now : ℕ) (before now : Option Lookup) where
  -- What `gen` comes to, by its ending: all files were written, and it ends with the report of their number; or a
  -- write of a file failed, and no further file was written; or memory was wanted, before any file was written. The
  -- counts are those of failed writes of files.
  pub data GeneratesSo (folder : List ℕ) (units seed : ℕ) (ended : Ended) : Type 0 where
    all_written : Told (HoldTexts (generated_files folder units seed)) before now → faults_now ≡ faults_before → EndsIn (wrote_report (units + 1)) ended → GeneratesSo folder units seed ended
    write_stopped : Told (StopsWithin (generated_files folder units seed)) before now → Rose faults_before faults_now → ended ≡ WriteFailed → GeneratesSo folder units seed ended
    none_written : Told (λ (old new : Lookup). new ≡ old) before now → faults_now ≡ faults_before → ended ≡ OutOfMemory → GeneratesSo folder units seed ended
