-- What is seen of a project: its repository, and its units in order.
use Rattle.std.specs.Prelude.{◌≡◌, ℕ, ◌<◌, Bool, true, false, not, ◌&&◌, ◌==◌, List, [], length, slice_get, Option, Some}
use Rattle.std.specs.List.{position_from}
use Rattle.std.specs.Option.{option_map_or}
use Rattle.std.specs.Str.{bytes_eq}
use Rattle.unit_registry.specs.declared.kind.Kind.{Kind}
use Rattle.unit_registry.specs.declared.kind.Kind.TheVariants.{Plain}
use Rattle.unit_registry.specs.declared.unit.Declared.{Declared}
use Rattle.unit_registry.specs.Kinds.{is_plain_kind, is_header_kind, fits}

-- a project
pub record ProjectView : Type 0 where
  pub repo : List ℕ
  pub units : List Declared

-- the most units of a project
abbrev pub most_units : ℕ
most_units = 16384

-- how many units it has
abbrev pub unit_count : ProjectView → ℕ
unit_count project = length project.units

-- a unit's name, empty for a plain unit
abbrev pub name_of : ProjectView → ℕ → List ℕ
name_of project unit = option_map_or (λ entry. entry.name) (slice_get project.units unit) []

-- a unit's ident: the word by which its compiler says who it is
abbrev pub ident_of : ProjectView → ℕ → List ℕ
ident_of project unit = option_map_or (λ entry. entry.ident) (slice_get project.units unit) []

-- a unit's kind
abbrev pub kind_of : ProjectView → ℕ → Kind
kind_of project unit = option_map_or (λ entry. entry.kind) (slice_get project.units unit) Plain

-- whether a unit's interface was built before
abbrev pub is_built : ProjectView → ℕ → Bool
is_built project unit = option_map_or (λ entry. entry.built) (slice_get project.units unit) false

-- whether a unit is one without a name
abbrev pub is_plain : ProjectView → ℕ → Bool
is_plain project unit = option_map_or (λ entry. is_plain_kind entry.kind) (slice_get project.units unit) false

-- whether a unit is a header unit
abbrev pub is_header : ProjectView → ℕ → Bool
is_header project unit = option_map_or (λ entry. is_header_kind entry.kind) (slice_get project.units unit) false

-- whether the word isn't empty, and is this word of a unit
abbrev pub has_word : (Declared → List ℕ) → List ℕ → Declared → Bool
has_word word_of word unit = not (length word == 0) && bytes_eq word (word_of unit)

-- the first unit that has the word, if there is one
unfoldable pub find_by : (Declared → List ℕ) → List Declared → List ℕ → Option ℕ
find_by word_of units word = position_from (has_word word_of word) 0 units

-- the name that a unit has
abbrev pub own_name : Declared → List ℕ
own_name unit = unit.name

-- the ident that a unit has
abbrev pub own_ident : Declared → List ℕ
own_ident unit = unit.ident

-- the unit of a name; an empty name is none
abbrev pub find_unit : ProjectView → List ℕ → Option ℕ
find_unit project name = find_by own_name project.units name

-- the unit of an ident; an empty ident is none
abbrev pub find_ident : ProjectView → List ℕ → Option ℕ
find_ident project ident = find_by own_ident project.units ident

-- no two units have an ident in common: each is found by its own
abbrev pub IdentsDiffer : ProjectView → Type 0
IdentsDiffer project = (unit : ℕ) → unit < unit_count project → find_ident project (ident_of project unit) ≡ Some unit

-- no two units have a name in common: each that isn't plain is found by its own
abbrev pub NamesDiffer : ProjectView → Type 0
NamesDiffer project = (unit : ℕ) → unit < unit_count project → is_plain project unit ≡ false → find_unit project (name_of project unit) ≡ Some unit

-- each unit has a name that its kind may have
abbrev pub NamesFit : ProjectView → Type 0
NamesFit project = (unit : ℕ) → unit < unit_count project → fits (kind_of project unit) (name_of project unit) ≡ true
