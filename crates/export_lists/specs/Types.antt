-- Working definitions of the set of the names of types.
use Rattle.std.specs.Prelude.{◌≡◌, ℕ, List}
use Rattle.export_lists.specs.Compiling.{is_among}

-- two lists have the same names
pub record Knows (names known : List (List ℕ)) : Type 0 where
  pub same : (name : List ℕ) → is_among names name ≡ is_among known name
