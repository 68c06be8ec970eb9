-- What a project file declares, or where it is at fault.
use Rattle.std.specs.Prelude.{◌≡◌, ◌≢◌, ◌⊎◌, ℕ, ◌+◌, List, [], ◌∷◌, ◌++◌, length, Result, Ok, Err, true}
use Rattle.unit_registry.specs.declared.draft.Draft.{Draft}
use Rattle.unit_registry.specs.declared.line.Stage.{Stage}
use Rattle.unit_registry.specs.declared.line.Stage.TheVariants.{Head, Repo, Units, Over}
use Rattle.unit_registry.specs.declared.reason.ProjectReason.{ProjectReason}
use Rattle.unit_registry.specs.declared.reason.ProjectReason.TheVariants.{NoEnd}
use Rattle.unit_registry.specs.declared.reason.ProjectError.{ProjectError}
use Rattle.unit_registry.specs.declared.reason.ProjectError.TheVariants.{Text, Memory}
use Rattle.unit_registry.specs.Projects.{ProjectView}
use Rattle.unit_registry.specs.Lines.{lines_of, is_text}
use Rattle.unit_registry.specs.Grammar.{SayLines, project_lines, CanFollow}
use Rattle.unit_registry.specs.Drafts.{blank_draft, with_line, Leads}

-- The text declares the project: its lines, blank ones aside, say the project's, its repository is a text, and each of its
-- units can follow those before it.
pub record Declares (text : List ℕ) (project : ProjectView) : Type 0 where
  pub lines : SayLines (lines_of text) (project_lines project)
  pub repo : is_text project.repo ≡ true
  pub units : CanFollow [] project.units

-- The lines of the text, one by one, reach the end of the project: each is good behind those before it, and `end` was the
-- last that isn't blank. A law says that this is so exactly where the text declares the project.
pub record ReachesEnd (text : List ℕ) (project : ProjectView) : Type 0 where
  pub last : Draft
  pub good : Leads blank_draft (lines_of text) last
  pub over : last.stage ≡ Over
  pub declared : project ≡ last.project

-- A line is the first at fault, for this reason. Lines are counted from 1.
pub record IsFaultyLine (text : List ℕ) (number : ℕ) (reason : ProjectReason) : Type 0 where
  pub before : List (List ℕ)
  pub line : List ℕ
  pub behind : List (List ℕ)
  pub draft : Draft
  pub whole : lines_of text ≡ before ++ line ∷ behind
  pub good : Leads blank_draft before draft
  pub fault : with_line draft line ≡ Err reason
  pub number_is : number ≡ length before + 1

-- Each line is good behind those before it, and none of them is `end`. The fault is behind the last line.
pub record LacksEnd (text : List ℕ) (number : ℕ) (reason : ProjectReason) : Type 0 where
  pub last : Draft
  pub good : Leads blank_draft (lines_of text) last
  pub going_on : last.stage ≢ Over
  pub reason_is : reason ≡ NoEnd
  pub number_is : number ≡ length (lines_of text) + 1

-- The first fault of the text.
abbrev pub IsFault : List ℕ → ℕ → ProjectReason → Type 0
IsFault text number reason = IsFaultyLine text number reason ⊎ LacksEnd text number reason

-- what an error tells of a text, unless memory ran out
abbrev pub TellsFault : List ℕ → ProjectError → Type 0
TellsFault text (Text line reason) = IsFault text line reason
TellsFault text Memory = Unit {0}

-- a line's number and its fault
pub record Fault : Type 0 where
  pub line : ℕ
  pub reason : ProjectReason

-- the project, where `end` was read
abbrev pub ended : Stage → ProjectView → ℕ → Result ProjectView Fault
ended Head project number = Err (record { line = number; reason = NoEnd })
ended Repo project number = Err (record { line = number; reason = NoEnd })
ended Units project number = Err (record { line = number; reason = NoEnd })
ended Over project number = Ok project

-- goes on behind a good line
abbrev pub goes_on : Result Draft ProjectReason → ℕ → (Draft → Result ProjectView Fault) → Result ProjectView Fault
goes_on (Ok draft) number more = more draft
goes_on (Err reason) number more = Err (record { line = number; reason = reason })

-- what these lines declare behind a draft, the first of them with this number
abbrev pub read_behind : Draft → ℕ → List (List ℕ) → Result ProjectView Fault
read_behind draft number [] = ended draft.stage draft.project number
read_behind draft number (line ∷ lines) = goes_on (with_line draft line) number (λ next. read_behind next (number + 1) lines)

-- the one project or fault of a text, as a function: what the lines lead to, one by one
unfoldable pub reading : List ℕ → Result ProjectView Fault
reading text = read_behind blank_draft 1 (lines_of text)

-- the answer is the reading, unless memory ran out
abbrev pub Answers : Result ProjectView Fault → Result ProjectView ProjectError → Type 0
Answers read (Ok project) = read ≡ Ok project
Answers read (Err (Text line reason)) = read ≡ Err (record { line = line; reason = reason })
Answers read (Err Memory) = Unit {0}
