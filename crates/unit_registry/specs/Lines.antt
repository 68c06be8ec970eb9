-- The lines of a project file, and the forms that a line may have.
use Rattle.std.specs.Prelude.{ℕ, ◌+◌, Bool, true, false, not, ◌&&◌, ◌==◌, nat_le, if◌then◌else◌, List, [], ◌∷◌, length, Option, Some, None, codes}
use Rattle.std.specs.List.{list_all, onto_first}
use Rattle.std.specs.Str.{bytes_eq}
use Rattle.cody_words.specs.Octets.{newline}
use Rattle.header_units.specs.Octets.{is_path_octet}
use Rattle.mapper_requests.specs.Requests.{word_at}
use Rattle.unit_registry.specs.declared.kind.Kind.{Kind}
use Rattle.unit_registry.specs.declared.kind.Kind.TheVariants as kind
use Rattle.unit_registry.specs.declared.unit.Declared.{Declared}
use Rattle.unit_registry.specs.declared.line.Stage.{Stage}
use Rattle.unit_registry.specs.declared.line.Stage.TheVariants.{Head, Repo, Units, Over}
use Rattle.unit_registry.specs.declared.line.Form.{Form as LentForm}
use Rattle.unit_registry.specs.declared.line.Form.TheVariants as lent
use Rattle.unit_registry.specs.declared.line.UnitLine.{UnitLine}

-- the pieces between the NEWLINEs of a text, without a last empty piece
abbrev pub lines_of : List ℕ → List (List ℕ)
lines_of [] = []
lines_of (octet ∷ rest) = if octet == newline then [] ∷ lines_of rest else onto_first octet (lines_of rest)

-- What a line is: the first one, the repository, a unit, or the end.
pub data Form : Type 0 where
  Heading : Form
  Repository : List ℕ → Form
  Entry : Declared → Form
  Ending : Form

-- a unit, by what its line says
abbrev pub declared : Bool → Kind → List ℕ → List ℕ → Declared
declared built kind name ident = record { kind = kind; name = name; ident = ident; built = built }

-- whether the word at a place is this one
abbrev pub is_word : List (List ℕ) → ℕ → List ℕ → Bool
is_word words place word = bytes_eq (word_at words place) word

-- `module NAME IDENT` or `header NAME IDENT`, from a place on
abbrev pub named_form : Bool → List (List ℕ) → ℕ → Option Form
named_form built words place =
    if is_word words place (codes "module") then Some (Entry (declared built kind.Module (word_at words (place + 1)) (word_at words (place + 2))))
    else if is_word words place (codes "header") then Some (Entry (declared built kind.Header (word_at words (place + 1)) (word_at words (place + 2))))
    else None

-- `module NAME IDENT`, `header NAME IDENT`, these behind `built`, `plain IDENT`, or `end`
abbrev pub unit_form : List (List ℕ) → Option Form
unit_form words =
    if length words == 1 && is_word words 0 (codes "end") then Some Ending
    else if length words == 2 && is_word words 0 (codes "plain") then Some (Entry (declared false kind.Plain [] (word_at words 1)))
    else if length words == 3 then named_form false words 0
    else if length words == 4 && is_word words 0 (codes "built") then named_form true words 1
    else None

-- `modmap-project 1`
abbrev pub head_form : List (List ℕ) → Option Form
head_form words =
    if length words == 2 && is_word words 0 (codes "modmap-project") && is_word words 1 (codes "1") then Some Heading
    else None

-- `repo PATH`
abbrev pub repo_form : List (List ℕ) → Option Form
repo_form words =
    if length words == 2 && is_word words 0 (codes "repo") then Some (Repository (word_at words 1))
    else None

-- the form that the words have at their place in the file
abbrev pub form : Stage → List (List ℕ) → Option Form
form Head words = head_form words
form Repo words = repo_form words
form Units words = unit_form words
form Over words = None

-- the most octets of a path and of an ident
abbrev pub longest_text : ℕ
longest_text = 512

-- a path or an ident: not empty, not too long, and of octets that a header name may have
abbrev pub is_text : List ℕ → Bool
is_text text = not (length text == 0) && nat_le (length text) longest_text && list_all is_path_octet text

-- a unit as its line lends it
abbrev pub declared_by : UnitLine → Declared
declared_by line = declared line.built line.kind line.name.now line.ident.now

-- a form as a line lends it
abbrev pub form_of : LentForm → Form
form_of lent.Heading = Heading
form_of (lent.Repository path) = Repository path.now
form_of (lent.Entry line) = Entry (declared_by line)
form_of lent.Ending = Ending
