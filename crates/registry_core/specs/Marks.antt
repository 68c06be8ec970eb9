-- Marks by unit, as items.
use Rattle.std.specs.Prelude.{ℕ, Bool, false, List, get_or, Option, Some, None, if◌then◌else◌}

-- the item of a unit that has a mark
abbrev pub mark_at : List Bool → ℕ → Option (Unit {0})
mark_at marks unit = if get_or marks unit false then Some tt else None
