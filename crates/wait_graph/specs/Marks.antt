-- Marks of units.
use Rattle.std.specs.Prelude.{◌≡◌, ℕ, ◌<◌, Bool, true, false, List, All, count_by}
use Rattle.std.specs.List.{slice_index_or}
use Rattle.wait_graph.specs.Walks.{Leads}

-- the unit has a mark
abbrev pub HasMark : List Bool → ℕ → Type 0
HasMark marks unit = slice_index_or marks unit false ≡ true

-- how many units have one
abbrev pub mark_count : List Bool → ℕ
mark_count marks = count_by (λ mark. mark) marks

-- the units of each pair are below the number of units
abbrev pub AreWithin : List (ℕ × ℕ) → ℕ → Type 0
AreWithin pairs units = All (λ pair. (pair.0 < units) × (pair.1 < units)) pairs

-- where the first unit of a pair has a mark, so has the second
abbrev pub IsClosed : List (ℕ × ℕ) → List Bool → Type 0
IsClosed pairs marks = All (λ pair. HasMark marks pair.0 → HasMark marks pair.1) pairs

-- a walk leads from the unit to each that has a mark
abbrev pub AreLedFrom : List (ℕ × ℕ) → ℕ → List Bool → Type 0
AreLedFrom pairs from marks = (unit : ℕ) → HasMark marks unit → Leads pairs from unit
