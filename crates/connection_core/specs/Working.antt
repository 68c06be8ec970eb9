-- How a reader of blocks works: working definitions of private functions and of the type's invariant, and no part of
-- what it means.
use Rattle.std.specs.Prelude.{◌≡◌, ℕ, ◌+◌, ◌<◌, ◌≤◌, true, false, List, [], ◌∷◌, ◌++◌, length, drop, Option}
use Rattle.std.specs.List.{AllByRecursion}
use Rattle.cody_batches.specs.declared.intake.Step.{Step}
use Rattle.cody_batches.specs.declared.intake.Step.TheVariants as step
use Rattle.cody_batches.specs.Blocks.{blocks, has_long_block, most_lines, most_octets}
use Rattle.unit_registry.specs.Projects.{ProjectView}
use Rattle.unit_registry.specs.Acts.{act as act_by}
use Rattle.mapper_requests.specs.Requests.{request}
use Rattle.connection_core.specs.declared.asked.Asked.{Asked}
use Rattle.connection_core.specs.declared.asked.Asked.TheVariants.{Act, Malformed}
use Rattle.connection_core.specs.declared.asked.Note.{Note}
use Rattle.connection_core.specs.declared.asked.Note.TheVariants as note
use Rattle.connection_core.specs.declared.block_reader.Line.{Line}
use Rattle.connection_core.specs.declared.block_reader.Line.TheVariants as line
use Rattle.connection_core.specs.declared.block_reader.Stage.{Stage}
use Rattle.connection_core.specs.declared.block_reader.Stage.TheVariants as stage
use Rattle.connection_core.specs.declared.conn_end.ConnEnd.{ConnEnd}
use Rattle.connection_core.specs.declared.conn_end.ConnEnd.TheVariants.{Closed, Truncated, ReadFault, WriteFault, TooLong, BatchTooLong, HistoryFull}
use Rattle.connection_core.specs.declared.conn_end.Took.{Took}
use Rattle.connection_core.specs.declared.conn_end.Took.TheVariants as took
use Rattle.unit_registry.specs.declared.act.Act.{Act as Acts}
use Rattle.registry_core.specs.Desks.{DeskState}
use Rattle.connection_core.specs.declared.entering.Stash.{Stash}
use Rattle.connection_core.specs.Asking.{Block, asked_of, requests_of, stored_for}
use Rattle.connection_core.specs.Entering.{Enters, IsServing, LineCanAsk, stash_behind, unit_kept}
use Rattle.connection_core.specs.Standing.{ReaderState, ReaderStands}
use Rattle.connection_core.specs.Taking.{TakesAll, TakesBlock, PassesLines}

-- what a step of the intake brings, with the words that stand then
abbrev pub note_of : ProjectView → Step → List (List ℕ) → Note
note_of project step.More words = note.Nothing
note_of project (step.Message last) words = note.Line (Act (act_by project (request words) false)) last
note_of project (step.Malformed at reason last) words = note.Line (Malformed reason) last
note_of project step.BatchTooLong words = note.TooMany

-- the reader stands after some octets of a connection of the project
pub record StandsSomewhere (s : ReaderState) (project : ProjectView) : Type 0 where
  pub fed : List ℕ
  pub stands : ReaderStands s project fed

-- octets were taken, and no block ended in them
pub record GoesOn (project : ProjectView) (fed octets : List ℕ) (new : ReaderState) : Type 0 where
  pub stands : ReaderStands new project (fed ++ octets)
  pub none_ended : blocks (fed ++ octets) ≡ blocks fed

-- what a line brings to a reader that reads
abbrev pub TakesLine : ProjectView → List ℕ → List ℕ → Line → ReaderState → Type 0
TakesLine project fed octets line.More new = ReaderStands new project (fed ++ octets) × (new.stage ≡ stage.Reading) × (blocks (fed ++ octets) ≡ blocks fed)
TakesLine project fed octets line.Block new = ReaderStands new project (fed ++ octets) × (new.stage ≡ stage.Waiting) × ((block : Block) × (blocks (fed ++ octets) ≡ blocks fed ++ block ∷ []) × (new.asked ≡ asked_of project block))
TakesLine project fed octets line.TooMany new = (new.stage ≡ stage.Ended BatchTooLong) × (has_long_block (fed ++ octets) ≡ true)

-- the lines of a piece that were taken, where no octet behind it is too many
abbrev pub TakesLines : ProjectView → List ℕ → List ℕ → Took → ReaderState → Type 0
TakesLines project fed piece took.All new = TakesAll project fed piece new
TakesLines project fed piece (took.Block used) new = TakesBlock project fed piece used new
TakesLines project fed piece (took.Ended BatchTooLong) new = (more : List ℕ) → PassesLines fed (piece ++ more)
TakesLines project fed piece (took.Ended TooLong) new = ⊥
TakesLines project fed piece (took.Ended Closed) new = ⊥
TakesLines project fed piece (took.Ended (Truncated lines)) new = ⊥
TakesLines project fed piece (took.Ended ReadFault) new = ⊥
TakesLines project fed piece (took.Ended WriteFault) new = ⊥
TakesLines project fed piece (took.Ended (HistoryFull entries kept)) new = ⊥

-- an end that a limit of the input brings
abbrev pub IsReadLimit : ConnEnd → Type 0
IsReadLimit TooLong = Unit {0}
IsReadLimit BatchTooLong = Unit {0}
IsReadLimit (HistoryFull entries kept) = ⊥
IsReadLimit Closed = ⊥
IsReadLimit (Truncated lines) = ⊥
IsReadLimit ReadFault = ⊥
IsReadLimit WriteFault = ⊥

-- the stage of a reader that has taken a piece, where it read before
abbrev pub StageAfter : Took → Stage → Type 0
StageAfter took.All at = at ≡ stage.Reading
StageAfter (took.Block used) at = at ≡ stage.Waiting
StageAfter (took.Ended how) at = (at ≡ stage.Ended how) × IsReadLimit how

-- few octets were taken, and few lines are kept, with room for those of the longest block
pub record IsReady (taken kept lines : ℕ) : Type 0 where
  pub few_octets : taken ≤ most_octets
  pub few_lines : kept ≤ most_lines
  pub line_room : most_lines ≤ lines

-- a message has words
abbrev pub HasWords : Step → List (List ℕ) → Type 0
HasWords step.More words = Unit {0}
HasWords (step.Message last) words = 0 < length words
HasWords (step.Malformed at reason last) words = Unit {0}
HasWords step.BatchTooLong words = Unit {0}

-- how far the requests of lines were entered: the first k of them
pub record EntersSoFar {Item Held : Type 0} (conn : ℕ) (asked : List Asked) (k : ℕ) (kept left : Option (Stash Item)) (old new : List ℕ) (first desk : DeskState Held) : Type 0 where
  pub done : List Acts
  pub requested : List ℕ
  pub entered : Enters conn done requested first desk
  pub places : new ≡ old ++ requested
  pub acts : done ++ stored_for (unit_kept left) (requests_of (drop k asked)) ≡ stored_for (unit_kept kept) (requests_of asked)
  pub few : length done ≤ k
  pub few_places : length requested ≤ k
  pub as_many : length requested + length (requests_of (drop k asked)) ≡ length (requests_of asked)
  pub left_is : stash_behind left (requests_of (drop k asked)) ≡ stash_behind kept (requests_of asked)
  pub can : AllByRecursion (LineCanAsk first.seen.project) (drop k asked)
  pub serving : IsServing conn desk
