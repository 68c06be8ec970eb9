-- Entries of lists, of which the first of equal ones is kept.
use Rattle.std.specs.Prelude.{ℕ, Bool, ◌&&◌, ◌==◌, List, [], ◌∷◌, ◌++◌, if◌then◌else◌, fold}
use Rattle.std.specs.List.{list_any}
use Rattle.std.specs.Str.{bytes_eq}
use Rattle.module_units.specs.declared.parts.DeclKind.{DeclKind}
use Rattle.module_units.specs.declared.parts.DeclKind.TheVariants.{Struct, Class, Alias, Variable, Function}
pub use Rattle.export_lists.specs.declared.listed.Listed.{Listed}

-- the number of a kind of declaration
abbrev pub kind_number : DeclKind → ℕ
kind_number Struct = 0
kind_number Class = 1
kind_number Alias = 2
kind_number Variable = 3
kind_number Function = 4

-- two entries have the same kind, name and owner
abbrev pub is_same : Listed → Listed → Bool
is_same entry other = kind_number entry.kind == kind_number other.kind && (bytes_eq entry.name other.name && bytes_eq entry.owner other.owner)

-- an entry behind others, unless it is equal to one of them
abbrev pub with_entry : List Listed → Listed → List Listed
with_entry entries entry = if list_any (is_same entry) entries then entries else entries ++ entry ∷ []

-- entries behind others, without those that are equal to one before them
abbrev pub with_entries : List Listed → List Listed → List Listed
with_entries entries more = fold with_entry entries more

-- the entries in order, without those that are equal to one before them
abbrev pub distinct : List Listed → List Listed
distinct entries = with_entries [] entries
