-- What a session answers to a piece of input and at the end of its input.
use Rattle.std.specs.Prelude.{◌≡◌, ℕ, zero, suc, ◌+◌, ◌<◌, ◌≤◌, true, false, List, [], ◌∷◌, ◌++◌, length, take, ⊤}
use Rattle.cody_batches.specs.Blocks.{blocks, taken, has_long_block, most_octets}
use Rattle.unit_registry.specs.Projects.{ProjectView}
use Rattle.connection_core.specs.declared.block_reader.Stage.TheVariants as stage
use Rattle.connection_core.specs.declared.conn_end.ConnEnd.{ConnEnd}
use Rattle.connection_core.specs.declared.conn_end.ConnEnd.TheVariants.{Closed, Truncated, ReadFault, WriteFault, TooLong, BatchTooLong, HistoryFull}
use Rattle.connection_core.specs.declared.conn_end.Took.{Took}
use Rattle.connection_core.specs.declared.conn_end.Took.TheVariants as took
use Rattle.connection_core.specs.Asking.{Block, asked_of}
use Rattle.connection_core.specs.Standing.{ReaderState, ReaderStands}

-- all of the piece was taken, and no block ended in it
pub record TakesAll (project : ProjectView) (fed piece : List ℕ) (new : ReaderState) : Type 0 where
  pub stands : ReaderStands new project (fed ++ piece)
  pub none_ended : blocks (fed ++ piece) ≡ blocks fed
  pub reading : new.stage ≡ stage.Reading

-- the first octets of the piece end the first block that ends in it
pub record EndsBlock (fed piece : List ℕ) (used : ℕ) (block : Block) : Type 0 where
  pub some : 0 < used
  pub within : used ≤ length piece
  pub one_ended : blocks (fed ++ take used piece) ≡ blocks fed ++ block ∷ []
  pub none_before : (n : ℕ) → n < used → blocks (fed ++ take n piece) ≡ blocks fed

-- these octets were taken, and the block waits for its replies
pub record TakesBlock (project : ProjectView) (fed piece : List ℕ) (used : ℕ) (new : ReaderState) : Type 0 where
  pub block : Block
  pub ends : EndsBlock fed piece used block
  pub stands : ReaderStands new project (fed ++ take used piece)
  pub kept : new.asked ≡ asked_of project block

-- a block has more lines than a block may have, within the octets of a connection; those that ended so far are all
-- that are taken
pub record PassesLines (fed piece : List ℕ) : Type 0 where
  pub taken_are : taken (fed ++ piece) ≡ blocks fed
  pub long : has_long_block (take most_octets (fed ++ piece)) ≡ true

-- there are more octets than a connection may send, and no block before that has too many lines
pub record PassesOctets (fed piece : List ℕ) : Type 0 where
  pub taken_are : taken (fed ++ piece) ≡ blocks fed
  pub many : most_octets < length (fed ++ piece)
  pub fits : has_long_block (take most_octets (fed ++ piece)) ≡ false

-- a block ended in the piece within the limits, and what it enters had no room
pub record FillsHistory (project : ProjectView) (fed piece : List ℕ) (new : ReaderState) : Type 0 where
  pub used : ℕ
  pub block : Block
  pub ends : EndsBlock fed piece used block
  pub few : length (fed ++ take used piece) ≤ most_octets
  pub fits : has_long_block (fed ++ take used piece) ≡ false
  pub kept : new.asked ≡ asked_of project block

-- what a reader that stood after these octets comes to with a piece
abbrev pub Takes : ProjectView → List ℕ → List ℕ → Took → ReaderState → Type 0
Takes project fed piece took.All new = TakesAll project fed piece new
Takes project fed piece (took.Block used) new = TakesBlock project fed piece used new
Takes project fed piece (took.Ended TooLong) new = PassesOctets fed piece
Takes project fed piece (took.Ended BatchTooLong) new = PassesLines fed piece
Takes project fed piece (took.Ended (HistoryFull entries kept)) new = FillsHistory project fed piece new
Takes project fed piece (took.Ended Closed) new = ⊥
Takes project fed piece (took.Ended (Truncated lines)) new = ⊥
Takes project fed piece (took.Ended ReadFault) new = ⊥
Takes project fed piece (took.Ended WriteFault) new = ⊥

-- how many of the octets of a piece were taken: all, or those up to the end of a block, at least one
abbrev pub CountsTaken : ℕ → Took → ℕ → ℕ → Type 0
CountsTaken count took.All old new = new ≡ old + count
CountsTaken count (took.Block used) old new = (new ≡ old + used) × (0 < used) × (used ≤ count)
CountsTaken count (took.Ended how) old new = ⊤

-- an end that a limit brings, or a full history
abbrev pub IsLimit : ConnEnd → Type 0
IsLimit TooLong = ⊤
IsLimit BatchTooLong = ⊤
IsLimit (HistoryFull entries kept) = ⊤
IsLimit Closed = ⊥
IsLimit (Truncated lines) = ⊥
IsLimit ReadFault = ⊥
IsLimit WriteFault = ⊥

-- how a connection ends whose input ends while so many lines are held
abbrev pub end_holding : ℕ → ConnEnd
end_holding zero = Closed
end_holding (suc n) = Truncated (suc n)

-- an end that the end of the input brings
abbrev pub IsEndOfInput : ConnEnd → Type 0
IsEndOfInput Closed = ⊤
IsEndOfInput (Truncated lines) = ⊤
IsEndOfInput TooLong = ⊥
IsEndOfInput BatchTooLong = ⊥
IsEndOfInput ReadFault = ⊥
IsEndOfInput WriteFault = ⊥
IsEndOfInput (HistoryFull entries kept) = ⊥
