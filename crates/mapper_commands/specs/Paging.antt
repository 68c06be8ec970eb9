-- How a text goes out to a sink by way of a buffer: working definitions, and no part of what is printed.
use Rattle.std.specs.Prelude.{◌≡◌, ℕ, List, ◌++◌, Option, Result, Ok, Err}
use Rattle.mm_outside.specs.declared.errors.Failed.{Failed}
use Rattle.mm_outside.specs.Told.{Told}
use Rattle.mapper_server.specs.Printing.{IsCut}

-- what was held before and the text behind it were written, but for what is held now
pub record GoesOut (text held_before held_now : List ℕ) (old new : List ℕ) : Type 0 where
  pub gone : List ℕ
  pub written : new ≡ old ++ gone
  pub parts : gone ++ held_now ≡ held_before ++ text

-- the text was put behind what is held; or a write failed, and a proper part of both was written
abbrev pub Puts : Result (Unit {0}) Failed → List ℕ → List ℕ → List ℕ → Option (List ℕ) → Option (List ℕ) → Type 0
Puts (Ok done) text held_before held_now old new = Told (GoesOut text held_before held_now) old new
Puts (Err failed) text held_before held_now old new = Told (IsCut (held_before ++ text)) old new

-- room for the line of an entry
abbrev pub line_room : ℕ
line_room = 100
