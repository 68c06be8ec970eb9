-- What a session keeps, and what its calls come to at a desk and a link.
use Rattle.std.specs.Prelude.{◌≡◌, ℕ, ◌+◌, ◌≤◌, Bool, true, false, IsFalse, List, [], length, Option, Some, None, Result, Ok, Err, ⊤}
use Rattle.mm_outside.specs.declared.errors.Failed.{Failed}
use Rattle.mm_outside.specs.Octets.{Octets}
use Rattle.mm_outside.specs.Sending.{Sends}
use Rattle.mm_outside.specs.Told.{Told}
use Rattle.cody_words.specs.Buffers.{Buffer}
use Rattle.cody_batches.specs.Blocks.{most_lines}
use Rattle.unit_registry.specs.declared.act.Act.{Act as Acts}
use Rattle.unit_registry.specs.Projects.{ProjectView}
use Rattle.registry_core.specs.Ledgers.{LedgerView, reply_at}
use Rattle.registry_core.specs.Desks.{DeskState, TakesNoTurn}
use Rattle.connection_replies.specs.Rooms.{HoldsLines}
use Rattle.connection_core.specs.declared.asked.Asked.{Asked}
use Rattle.connection_core.specs.declared.block_reader.Stage.{Stage}
use Rattle.connection_core.specs.declared.block_reader.Stage.TheVariants as stage
use Rattle.connection_core.specs.declared.conn_end.ConnEnd.{ConnEnd}
use Rattle.connection_core.specs.declared.conn_end.ConnEnd.TheVariants.{WriteFault, HistoryFull}
use Rattle.connection_core.specs.declared.conn_end.Took.{Took}
use Rattle.connection_core.specs.declared.conn_end.Took.TheVariants as took
use Rattle.connection_core.specs.declared.conn_end.Turn.{Turn}
use Rattle.connection_core.specs.declared.conn_end.Turn.TheVariants as turn
use Rattle.connection_core.specs.declared.entering.Stash.{Stash}
use Rattle.connection_core.specs.Asking.{Block, entered_by, is_refused, stored_for}
use Rattle.connection_core.specs.Answers.{block_answer, IsFirstMissing}
use Rattle.connection_core.specs.Standing.{ReaderState, ReaderStands, end_in}
use Rattle.connection_core.specs.Taking.{EndsBlock, IsLimit}
use Rattle.connection_core.specs.Entering.{Enters, EntersPart, unit_kept, stash_behind}

-- What a session keeps: the reader of its octets, its connection, the item that is kept for a report, and the places of
-- the requests of the block that ended last.
pub record SessionState (Item : Type 0) : Type 0 where
  pub reader : ReaderState
  pub conn : ℕ
  pub stash : Option (Stash Item)
  pub places : List ℕ

module _ {Item : Type 0} where
  -- the session has taken these octets of its connection, by this project, and goes on
  abbrev pub StandsAfter : SessionState Item → ProjectView → List ℕ → Type 0
  StandsAfter s project fed = ReaderStands s.reader project fed

  -- the end that the session has come to
  abbrev pub ended : SessionState Item → Option ConnEnd
  ended s = end_in s.reader.stage

  -- a block may be begun, or goes on
  abbrev pub IsReading : SessionState Item → Type 0
  IsReading s = s.reader.stage ≡ stage.Reading

  -- a block has ended and waits for its replies
  abbrev pub IsWaiting : SessionState Item → Type 0
  IsWaiting s = s.reader.stage ≡ stage.Waiting

  -- no block waits for its replies
  abbrev pub IsIdle : SessionState Item → Type 0
  IsIdle s = IsWaiting s → ⊥

  -- no item is kept
  abbrev pub KeepsNoItem : SessionState Item → Type 0
  KeepsNoItem s = s.stash ≡ None

  -- how many octets the session has taken
  abbrev pub octets_taken : SessionState Item → ℕ
  octets_taken s = s.reader.taken

  -- what the lines ask of the block that is begun or has ended last
  abbrev pub lines_of : SessionState Item → List Asked
  lines_of s = s.reader.asked

  -- the acts that the block enters that has ended last, with the kept item
  abbrev pub acts_due : SessionState Item → SessionState Item → List Acts
  acts_due before s = stored_for (unit_kept before.stash) (entered_by (lines_of s))

  -- where a block ends in the piece, there is room for the acts of its lines and a Pause
  pub record HasRoomFor (s : SessionState Item) (project : ProjectView) (piece : List ℕ) (room : ℕ) : Type 0 where
    pub fed : List ℕ
    pub stands : StandsAfter s project fed
    pub enough : (used : ℕ) (block : Block) → EndsBlock fed piece used block → length block + 1 ≤ room

  -- what a piece entered at the desk, of a session that had not ended
  abbrev pub EntersTook : {Held : Type 0} → Took → SessionState Item → SessionState Item → DeskState Held → DeskState Held → Type 0
  EntersTook took.All old new before after = after ≡ before
  EntersTook (took.Block used) old new before after =
      Enters old.conn (acts_due old new) new.places before after × (new.stash ≡ stash_behind old.stash (entered_by (lines_of new)))
  EntersTook (took.Ended (HistoryFull entries kept)) old new before after =
      EntersPart old.conn (acts_due old new) (record { entries = entries; reserved = kept }) before after
  EntersTook (took.Ended how) old new before after = after ≡ before

  -- A piece leaves the kept item as it is where no block ended in it, and where it brought an end but a full history.
  -- What is left of the item behind a block stands in `EntersTook`.
  abbrev pub KeepsStash : Took → SessionState Item → SessionState Item → Type 0
  KeepsStash took.All old new = new.stash ≡ old.stash
  KeepsStash (took.Block used) old new = ⊤
  KeepsStash (took.Ended (HistoryFull entries kept)) old new = ⊤
  KeepsStash (took.Ended how) old new = new.stash ≡ old.stash

  -- a piece that entered nothing: no block ended in it, or a refused one
  abbrev pub EntersNothing : Took → SessionState Item → Type 0
  EntersNothing took.All new = ⊤
  EntersNothing (took.Block used) new = is_refused (lines_of new) ≡ true
  EntersNothing (took.Ended (HistoryFull entries kept)) new = ⊥
  EntersNothing (took.Ended how) new = ⊤

  -- the desk keeps no turn, unless for a block that isn't refused
  abbrev pub HoldsForBlock : SessionState Item → Bool → Type 0
  HoldsForBlock s holds = is_refused (lines_of s) ≡ true → IsFalse holds

  -- Whether the desk keeps its turn behind a piece, where it kept none before: only for a block that waits and isn't
  -- refused.
  abbrev pub TurnTaken : Took → SessionState Item → Bool → Bool → Type 0
  TurnTaken took.All new before after = TakesNoTurn before after
  TurnTaken (took.Block used) new before after = IsFalse before → HoldsForBlock new after
  TurnTaken (took.Ended how) new before after = TakesNoTurn before after

  -- how the session goes on behind a piece, or to which end it has come, a limit where it is a new one
  abbrev pub EndsTaking : Took → SessionState Item → SessionState Item → Type 0
  EndsTaking took.All old new = IsReading new
  EndsTaking (took.Block used) old new = IsWaiting new
  EndsTaking (took.Ended how) old new = (ended new ≡ Some how) × (ended old ≡ None → IsLimit how)

  -- the reply octets that are due in a stage
  abbrev pub due_in : Stage → LedgerView → SessionState Item → Option (List ℕ)
  due_in stage.Reading seen s = Some []
  due_in stage.Waiting seen s = block_answer seen.project (reply_at seen) (lines_of s) s.places
  due_in (stage.Ended how) seen s = Some []

  -- the reply octets of the block that waits for its replies, by this history; none while a reply is missing
  abbrev pub due : LedgerView → SessionState Item → Option (List ℕ)
  due seen s = due_in s.reader.stage seen s

  -- The replies that were due were written, whole; or one is missing, first of the request at this place of the waiting
  -- block; or a write failed, and a proper prefix of them was written.
  abbrev pub RepliesSo : Turn → LedgerView → SessionState Item → Option Octets → Option Octets → Type 0
  RepliesSo turn.Fed seen s old new = (text : List ℕ) × (due seen s ≡ Some text) × Told (Sends {T = Unit {0}} {E = Failed} (Ok tt) text) old new
  RepliesSo (turn.Waiting place) seen s old new = IsFirstMissing (reply_at seen) s.places place
  RepliesSo (turn.Ended how) seen s old new =
      (how ≡ WriteFault) × ((failed : Failed) × (text : List ℕ) × (due seen s ≡ Some text) × Told (Sends {T = Unit {0}} {E = Failed} (Err failed) text) old new)

  -- how the session goes on behind its replies, or to which end it has come
  abbrev pub EndsReplying : Turn → SessionState Item → SessionState Item → Type 0
  EndsReplying turn.Fed old new = IsReading new
  EndsReplying (turn.Waiting place) old new = new ≡ old
  EndsReplying (turn.Ended how) old new = (ended new ≡ Some how) × (ended old ≡ None → how ≡ WriteFault)

-- what writing the replies came to
abbrev pub as_result : Turn → Result (Unit {0}) ConnEnd
as_result turn.Fed = Ok tt
as_result (turn.Waiting place) = Ok tt
as_result (turn.Ended how) = Err how

-- a block that waits and isn't refused has a place for each of its lines
abbrev pub AsManyPlaces : Stage → List Asked → List ℕ → Type 0
AsManyPlaces stage.Waiting lines places = is_refused lines ≡ false → length places ≡ length lines
AsManyPlaces stage.Reading lines places = Unit {0}
AsManyPlaces (stage.Ended how) lines places = Unit {0}

-- there is room for the places, the replies and the reply lines of the longest block, and each line that waits has its
-- place
pub record IsPrepared (at : Stage) (lines : List Asked) (places : List ℕ) (place_room reply_room : ℕ) (reply_lines : Buffer) : Type 0 where
  pub place_room_is : most_lines ≤ place_room
  pub reply_room_is : most_lines ≤ reply_room
  pub line_room_is : HoldsLines most_lines reply_lines
  pub as_many : AsManyPlaces at lines places
