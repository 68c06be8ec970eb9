-- How a project is kept: its units, with the numbers of their names and idents beside them.
use Rattle.std.specs.Prelude.{◌≡◌, ◌<◌, ◌≤◌, ℕ, true, List, length, slice_get, Some}
use Rattle.unit_registry.specs.declared.unit.Declared.{Declared}
use Rattle.unit_registry.specs.Kinds.{fits}
use Rattle.unit_registry.specs.Lines.{longest_text}
use Rattle.unit_registry.specs.Projects.{find_by, own_name, own_ident, most_units}
use Rattle.unit_registry.specs.Numbers.{number_in}

-- there are not too many units, each has a name that fits its kind and an ident that isn't too long, no two have a name or an ident in common, and the numbers are those of the units
pub record IsKept (units : List Declared) (names idents : List (List ℕ × ℕ)) : Type 0 where
  pub few : length units ≤ most_units
  pub fitting : (place : ℕ) (unit : Declared) → slice_get units place ≡ Some unit → fits unit.kind unit.name ≡ true
  pub short : (place : ℕ) (unit : Declared) → slice_get units place ≡ Some unit → length unit.ident ≤ longest_text
  pub by_name : (place : ℕ) (unit : Declared) → slice_get units place ≡ Some unit → 0 < length unit.name → find_by own_name units unit.name ≡ Some place
  pub by_ident : (place : ℕ) (unit : Declared) → slice_get units place ≡ Some unit → find_by own_ident units unit.ident ≡ Some place
  pub name_numbers : (word : List ℕ) → number_in names word ≡ find_by own_name units word
  pub ident_numbers : (word : List ℕ) → number_in idents word ≡ find_by own_ident units word
