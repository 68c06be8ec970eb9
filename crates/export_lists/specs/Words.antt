-- The words of lines, and of entries.
use Rattle.std.specs.Prelude.{ℕ, false, List, [], ◌∷◌, codes, flat_map}
use Rattle.cody_words.specs.Canonical.{canonical_line}
use Rattle.module_units.specs.declared.parts.DeclKind.{DeclKind}
use Rattle.module_units.specs.declared.parts.DeclKind.TheVariants.{Struct, Class, Alias, Variable, Function}
use Rattle.export_lists.specs.Entries.{Listed}

-- the word for a kind of declaration
abbrev pub kind_word : DeclKind → List ℕ
kind_word Struct = codes "struct"
kind_word Class = codes "class"
kind_word Alias = codes "alias"
kind_word Variable = codes "variable"
kind_word Function = codes "function"

-- the words of a line
abbrev pub Row : Type 0
Row = List (List ℕ)

-- a line of these words in canonical writing
abbrev pub line_of : Row → List ℕ
line_of words = canonical_line words false

-- the words of an entry's line, behind a first word: its kind, its name and its owner
abbrev pub entry_row : List ℕ → Listed → Row
entry_row first entry = first ∷ kind_word entry.kind ∷ entry.name ∷ entry.owner ∷ []

-- an entry's line, behind a first word
abbrev pub entry_line : List ℕ → Listed → List ℕ
entry_line first entry = line_of (entry_row first entry)

-- the lines of entries, each behind the same first word
abbrev pub entry_lines : List ℕ → List Listed → List ℕ
entry_lines first entries = flat_map (entry_line first) entries
