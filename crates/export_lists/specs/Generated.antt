-- Generated projects: each unit imports some of the units before it, which are drawn.
use Rattle.std.specs.Prelude.{ℕ, zero, suc, ◌+◌, ◌*◌, ◌/◌, ◌%◌, ◌==◌, Bool, true, false, List, [], ◌∷◌, ◌++◌, flat_map, if◌then◌else◌, codes, decimal}
use Rattle.std.specs.List.{list_any}
use Rattle.cody_words.specs.Octets.{newline}
use Rattle.unit_registry.specs.declared.kind.Kind.TheVariants.{Module}
use Rattle.unit_registry.specs.Grammar.{kind_words, head_words, repo_words, end_words}
use Rattle.export_lists.specs.Words.{line_of}
pub use Rattle.export_lists.specs.declared.generated.Generated.{Generated}
use Rattle.export_lists.specs.declared.draws.Link.{Link}

-- the number that follows in the sequence of draws
abbrev pub following : ℕ → ℕ
following state = (1103515245 * state + 12345) % 2147483648

-- what is drawn of this number, below a bound
abbrev pub drawn : ℕ → ℕ → ℕ
drawn state bound = state / 65536 % bound

-- whether the unit is imported by one of these links
abbrev pub is_linked : List Link → ℕ → Bool
is_linked links unit = list_any (λ link. link.unit == unit) links

-- with a link to the unit, unless there is one
abbrev pub with_link : List Link → ℕ → Bool → List Link
with_link links unit exported = if is_linked links unit then links else links ++ record { unit = unit; exported = exported } ∷ []

-- links, and the number of the sequence behind them
pub record Drawing : Type 0 where
  pub state : ℕ
  pub links : List Link

-- one link more: first the unit is drawn, below this bound, and then whether it is exported
abbrev pub one_link : ℕ → Drawing → Drawing
one_link bound drawing = record {
  state = following (following drawing.state);
  links = with_link drawing.links (drawn (following drawing.state) bound) (drawn (following (following drawing.state)) 2 == 1);
}

-- so many links more
abbrev pub more_links : ℕ → ℕ → Drawing → Drawing
more_links bound zero drawing = drawing
more_links bound (suc count) drawing = one_link bound (more_links bound count drawing)

-- the links of the unit of a number: none for the first, and else up to three that are drawn, behind how many they are
abbrev pub links_from : ℕ → ℕ → Drawing
links_from number state =
    if number == 0 then record { state = state; links = [] }
    else more_links number (drawn (following state) 4) (record { state = following state; links = [] })

-- the number of the sequence before the unit of a number
abbrev pub state_before : ℕ → ℕ → ℕ
state_before seed zero = seed
state_before seed (suc number) = (links_from number (state_before seed number)).state

-- a line
abbrev pub ended : List ℕ → List ℕ
ended text = text ++ newline ∷ []

-- a letter with a number
abbrev pub numbered : List ℕ → ℕ → List ℕ
numbered letters number = letters ++ decimal number

-- the word before an import, where it is exported
abbrev pub export_word : Bool → List ℕ
export_word true = codes "export "
export_word false = []

-- the line of an import
abbrev pub import_line : Link → List ℕ
import_line link = export_word link.exported ++ numbered (codes "import g") link.unit ++ ended (codes ";")

-- parameters behind others
abbrev pub further_parameters : List Link → List ℕ
further_parameters links = flat_map (λ link. numbered (codes ", S") link.unit) links

-- the parameters of a function, one for each import
abbrev pub parameters : List Link → List ℕ
parameters [] = []
parameters (link ∷ links) = numbered (codes "S") link.unit ++ further_parameters links

-- the line of the module declaration
abbrev pub head_of : ℕ → List ℕ
head_of number = numbered (codes "export module g") number ++ ended (codes ";")

-- the line of the type
abbrev pub struct_of : ℕ → List ℕ
struct_of number = numbered (codes "export struct S") number ++ ended (codes ";")

-- the line of the function, with one parameter for each import
abbrev pub function_of : ℕ → List Link → List ℕ
function_of number links = numbered (codes "export S") number ++ numbered (codes " f") number ++ codes "(" ++ parameters links ++ ended (codes ");")

-- the source of the unit of a number, with these imports
abbrev pub source_of : ℕ → List Link → List ℕ
source_of number links = head_of number ++ flat_map import_line links ++ struct_of number ++ function_of number links

-- the sources of so many units
abbrev pub sources_of : ℕ → ℕ → List (List ℕ)
sources_of seed zero = []
sources_of seed (suc number) = sources_of seed number ++ source_of number (links_from number (state_before seed number)).links ∷ []

-- the path of the source of a unit
abbrev pub source_path : List ℕ → ℕ → List ℕ
source_path folder number = folder ++ (numbered (codes "/u") number ++ codes ".cc")

-- the line of a unit in the project file
abbrev pub module_line : List ℕ → ℕ → List ℕ
module_line folder number = line_of (kind_words Module (numbered (codes "g") number) (source_path folder number))

-- the lines of so many units
abbrev pub module_lines : List ℕ → ℕ → List ℕ
module_lines folder zero = []
module_lines folder (suc number) = module_lines folder number ++ module_line folder number

-- the project file
abbrev pub project_text : List ℕ → ℕ → List ℕ
project_text folder units =
    line_of head_words ++ line_of (repo_words (folder ++ codes "/cache")) ++ module_lines folder units ++ line_of end_words

-- the generated project
abbrev pub generated : List ℕ → ℕ → ℕ → Generated
generated folder units seed = record { project = project_text folder units; sources = sources_of seed units }
