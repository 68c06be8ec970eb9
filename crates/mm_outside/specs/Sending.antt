-- What is written where a piece is to be written whole.
use Rattle.std.specs.Prelude.{◌≡◌, ℕ, ◌<◌, List, ◌++◌, length, take, Result, Ok, Err}
use Rattle.mm_outside.specs.Octets.{Octets}

-- the octets of the input stay
pub record SameInput (old new : Octets) : Type 0 where
  pub read : new.read ≡ old.read
  pub to_come : new.to_come ≡ old.to_come

-- at `Ok` the whole piece was appended, at a fault a proper part of it
abbrev pub AppendsAll : {T E : Type 0} → Result T E → List ℕ → List ℕ → List ℕ → Type 0
AppendsAll (Ok _) piece old new = new ≡ old ++ piece
AppendsAll (Err _) piece old new = (n : ℕ) × (n < length piece) × (new ≡ old ++ take n piece)

-- the same of a link, whose input stays
pub record Sends {T E : Type 0} (result : Result T E) (piece : List ℕ) (old new : Octets) : Type 0 where
  pub written : AppendsAll result piece old.written new.written
  pub input : SameInput old new

-- the first n octets of the piece were written
pub record SentFirst (piece : List ℕ) (n : ℕ) (old new : Octets) : Type 0 where
  pub written : new.written ≡ old.written ++ take n piece
  pub input : SameInput old new

-- the same of a sink
pub record PrintedFirst (piece : List ℕ) (n : ℕ) (old new : List ℕ) : Type 0 where
  pub written : new ≡ old ++ take n piece
