-- The grammar of project files, over whole files: the lines of a project, and the texts that say them.
use Rattle.std.specs.Prelude.{◌≡◌, ◌⊎◌, ℕ, Bool, true, false, List, [], ◌∷◌, ◌++◌, map, None, codes}
use Rattle.cody_words.specs.Lines.{Says, Blank, Words}
use Rattle.unit_registry.specs.declared.kind.Kind.{Kind}
use Rattle.unit_registry.specs.declared.kind.Kind.TheVariants.{Module, Header, Plain}
use Rattle.unit_registry.specs.declared.unit.Declared.{Declared}
use Rattle.unit_registry.specs.Projects.{ProjectView}
use Rattle.unit_registry.specs.Drafts.{unit_fault}

-- the words of a unit's line, by its kind
abbrev pub kind_words : Kind → List ℕ → List ℕ → List (List ℕ)
kind_words Module name ident = codes "module" ∷ name ∷ ident ∷ []
kind_words Header name ident = codes "header" ∷ name ∷ ident ∷ []
kind_words Plain name ident = codes "plain" ∷ ident ∷ []

-- words behind `built`, where the unit is built
abbrev pub built_words : Bool → List (List ℕ) → List (List ℕ)
built_words true words = codes "built" ∷ words
built_words false words = words

-- the words of a unit's line
abbrev pub unit_words : Declared → List (List ℕ)
unit_words unit = built_words unit.built (kind_words unit.kind unit.name unit.ident)

-- the words of the first line, of the second, and of the last
abbrev pub head_words : List (List ℕ)
head_words = codes "modmap-project" ∷ codes "1" ∷ []

abbrev pub repo_words : List ℕ → List (List ℕ)
repo_words path = codes "repo" ∷ path ∷ []

abbrev pub end_words : List (List ℕ)
end_words = codes "end" ∷ []

-- the words of the lines of units, and of the last line
abbrev pub unit_lines : List Declared → List (List (List ℕ))
unit_lines units = map unit_words units ++ end_words ∷ []

-- the words of a project's lines
abbrev pub project_lines : ProjectView → List (List (List ℕ))
project_lines project = head_words ∷ repo_words project.repo ∷ unit_lines project.units

-- The lines say these words, a line's words each, with blank lines between them. None has the mark.
abbrev pub SayLines : List (List ℕ) → List (List (List ℕ)) → Type 0
SayLines [] said = said ≡ []
SayLines (line ∷ lines) said =
    (Says line Blank false × SayLines lines said)
    ⊎ ((words : List (List ℕ)) × (behind : List (List (List ℕ))) × (said ≡ words ∷ behind) × Says line (Words words) false × SayLines lines behind)

-- a plain unit isn't built
abbrev pub MayBeBuilt : Kind → Bool → Type 0
MayBeBuilt Module built = Unit {0}
MayBeBuilt Header built = Unit {0}
MayBeBuilt Plain built = built ≡ false

-- each of the units can follow those before it
abbrev pub CanFollow : List Declared → List Declared → Type 0
CanFollow before [] = Unit {0}
CanFollow before (unit ∷ units) = (unit_fault before unit ≡ None) × MayBeBuilt unit.kind unit.built × CanFollow (before ++ unit ∷ []) units
