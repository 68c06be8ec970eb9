-- What is seen of a buffer that lines are written to.
use Rattle.std.specs.Prelude.{◌≡◌, ℕ, ◌+◌, List, ◌++◌, length}

-- the octets written, and how many more there is room for
pub record Buffer : Type 0 where
  pub octets : List ℕ
  pub spare : ℕ

-- the text stands behind what was written, and takes of the spare room
pub record Appends (old new : Buffer) (text : List ℕ) : Type 0 where
  pub octets : new.octets ≡ old.octets ++ text
  pub spare : new.spare + length text ≡ old.spare
