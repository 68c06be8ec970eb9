-- What the lines of a project file declare, line by line, and why a line is at fault behind good ones.
use Rattle.std.specs.Prelude.{◌≡◌, ℕ, Bool, not, nat_le, if◌then◌else◌, List, [], ◌∷◌, ◌++◌, length, Option, Some, None, is_some, Result, Ok, Err}
use Rattle.cody_words.specs.Lines.{Meaning, Blank, Words, Malformed}
use Rattle.cody_words.specs.Meanings.{meaning, is_marked}
use Rattle.unit_registry.specs.declared.draft.Draft.{Draft}
use Rattle.unit_registry.specs.declared.unit.Declared.{Declared}
use Rattle.unit_registry.specs.declared.line.Stage.TheVariants.{Head, Repo, Units, Over}
use Rattle.unit_registry.specs.declared.reason.ProjectReason.{ProjectReason}
use Rattle.unit_registry.specs.declared.reason.ProjectReason.TheVariants as reason
use Rattle.unit_registry.specs.Kinds.{fits}
use Rattle.unit_registry.specs.Projects.{ProjectView, find_by, own_name, own_ident, most_units}
use Rattle.unit_registry.specs.Lines.{Form, Heading, Repository, Entry, Ending, form, is_text}

-- before the first line
abbrev pub blank_draft : Draft
blank_draft = record { stage = Head; project = record { repo = []; units = [] } }

-- why a unit can't follow these units: the first that applies
abbrev pub unit_fault : List Declared → Declared → Option ProjectReason
unit_fault units unit =
    if not (is_text unit.ident) then Some reason.BadText
    else if not (fits unit.kind unit.name) then Some reason.BadName
    else if is_some (find_by own_name units unit.name) then Some reason.TwiceName
    else if is_some (find_by own_ident units unit.ident) then Some reason.TwiceIdent
    else if nat_le most_units (length units) then Some reason.TooMany
    else None

-- the project with one unit more
abbrev pub with_unit : ProjectView → Declared → ProjectView
with_unit project unit = record { repo = project.repo; units = project.units ++ unit ∷ [] }

-- the project with its repository
abbrev pub with_repo : ProjectView → List ℕ → ProjectView
with_repo project path = record { repo = path; units = project.units }

-- a unit's line, with its fault if it has one
abbrev pub with_entry : Draft → Option ProjectReason → Declared → Result Draft ProjectReason
with_entry draft (Some reason) unit = Err reason
with_entry draft None unit = Ok (record { stage = Units; project = with_unit draft.project unit })

-- a line of words, by its form
abbrev pub with_form : Draft → Option Form → Result Draft ProjectReason
with_form draft None = Err reason.Syntax
with_form draft (Some Heading) = Ok (record { stage = Repo; project = draft.project })
with_form draft (Some (Repository path)) =
    if is_text path then Ok (record { stage = Units; project = with_repo draft.project path }) else Err reason.BadText
with_form draft (Some (Entry unit)) = with_entry draft (unit_fault draft.project.units unit) unit
with_form draft (Some Ending) = Ok (record { stage = Over; project = draft.project })

-- a line by what it says, and whether it has the mark
abbrev pub with_said : Draft → Meaning → Bool → Result Draft ProjectReason
with_said draft (Malformed place why) marked = Err reason.Words
with_said draft Blank marked = if marked then Err reason.Syntax else Ok draft
with_said draft (Words words) marked = if marked then Err reason.Syntax else with_form draft (form draft.stage words)

-- what is declared with one line more, or why that line is at fault
unfoldable pub with_line : Draft → List ℕ → Result Draft ProjectReason
with_line draft line = with_said draft (meaning line) (is_marked line)

-- Each line is good behind those before it, and they lead from one draft to the other.
abbrev pub Leads : Draft → List (List ℕ) → Draft → Type 0
Leads draft [] last = last ≡ draft
Leads draft (line ∷ lines) last = (next : Draft) × (with_line draft line ≡ Ok next) × Leads next lines last
