-- The text of a compiled module interface.
use Rattle.std.specs.Prelude.{◌≡◌, ◌≤◌, ℕ, Bool, true, false, ◌&&◌, List, [], ◌∷◌, ◌++◌, length, Option, Some, None, is_some, codes}
use Rattle.std.specs.List.{list_all}
use Rattle.header_units.specs.declared.name.NameKind.{NameKind}
use Rattle.header_units.specs.declared.name.NameKind.TheVariants.{Primary, Partition, Header}
use Rattle.header_units.specs.Names.{is_identifier, name_kind}
use Rattle.export_lists.specs.Entries.{Listed, distinct}
use Rattle.export_lists.specs.Lists.{Cmi}
use Rattle.export_lists.specs.Compiling.{most_names}
use Rattle.export_lists.specs.Words.{Row, line_of, entry_lines}

-- the word for whether a unit is an interface
abbrev pub role_word : Bool → List ℕ
role_word true = codes "interface"
role_word false = codes "implementation"

-- the words of the first line
abbrev pub head_row : Row
head_row = codes "modmap-cmi" ∷ codes "1" ∷ []

-- the words of the line of a unit
abbrev pub unit_row : List ℕ → Bool → Row
unit_row name interface = codes "unit" ∷ name ∷ role_word interface ∷ []

-- the words of the last line
abbrev pub end_row : Row
end_row = codes "end" ∷ []

-- the first line
abbrev pub head_line : List ℕ
head_line = line_of head_row

-- the line of the unit
abbrev pub unit_line : Cmi → List ℕ
unit_line cmi = line_of (unit_row cmi.unit cmi.interface)

-- the last line
abbrev pub end_line : List ℕ
end_line = line_of end_row

-- the text: the first line, that of the unit, one for each entry of the exports and of the view, and the last line
abbrev pub cmi_text : Cmi → List ℕ
cmi_text cmi = head_line ++ unit_line cmi ++ entry_lines (codes "export") cmi.exports ++ entry_lines (codes "inner") cmi.view ++ end_line

-- ---- what may be read

-- whether names of the kind own names: dotted names and header names do
abbrev pub owns : Option NameKind → Bool
owns (Some Primary) = true
owns (Some Header) = true
owns (Some Partition) = false
owns None = false

-- whether the octets may own names: a dotted name or a header name
abbrev pub is_owner : List ℕ → Bool
is_owner name = owns (name_kind name)

-- whether an entry may have the name and the owner: an identifier, and what may own names
abbrev pub is_good_entry : List ℕ → List ℕ → Bool
is_good_entry name owner = is_identifier name && is_owner owner

-- Entries that may be read: each of them may, there aren't too many, and no two are equal.
pub record AreGood (entries : List Listed) : Type 0 where
  pub each : list_all (λ entry. is_good_entry entry.name entry.owner) entries ≡ true
  pub few : length entries ≤ most_names
  pub differ : distinct entries ≡ entries

-- An interface that may be read: its unit has a name of a module, of a partition or of a header unit, and the entries
-- of its lists may be read.
pub record IsGoodCmi (cmi : Cmi) : Type 0 where
  pub named : is_some (name_kind cmi.unit) ≡ true
  pub exports : AreGood cmi.exports
  pub view : AreGood cmi.view
