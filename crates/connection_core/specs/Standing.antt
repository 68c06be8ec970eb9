-- What a session keeps, and after which octets it stands.
use Rattle.std.specs.Prelude.{◌≡◌, ℕ, false, List, [], ◌∷◌, ◌++◌, Option, Some, None, length}
use Rattle.cody_batches.specs.Feeding.{Standing as IntakeStanding, StandsAfter as IntakeStandsAfter}
use Rattle.cody_batches.specs.Blocks.{blocks, begun_block, has_long_block}
use Rattle.unit_registry.specs.Projects.{ProjectView}
use Rattle.connection_core.specs.declared.asked.Asked.{Asked}
use Rattle.connection_core.specs.declared.conn_end.ConnEnd.{ConnEnd}
use Rattle.connection_core.specs.declared.block_reader.Stage.{Stage}
use Rattle.connection_core.specs.declared.block_reader.Stage.TheVariants as stage
use Rattle.connection_core.specs.Asking.{Block, asked_of}

-- What a reader of blocks keeps: the intake of its octets, their number, what the lines ask of the block that is begun
-- or has ended last, and how it goes on.
pub record ReaderState : Type 0 where
  pub intake : IntakeStanding
  pub taken : ℕ
  pub asked : List Asked
  pub stage : Stage

-- the end that a stage is
abbrev pub end_in : Stage → Option ConnEnd
end_in stage.Reading = None
end_in stage.Waiting = None
end_in (stage.Ended how) = Some how

-- the block that ended last is kept
pub record Waits (s : ReaderState) (project : ProjectView) (fed : List ℕ) : Type 0 where
  pub earlier : List Block
  pub block : Block
  pub whole : blocks fed ≡ earlier ++ block ∷ []
  pub nothing_begun : begun_block fed ≡ []
  pub kept : s.asked ≡ asked_of project block

-- the block that is begun is kept
pub record Reads (s : ReaderState) (project : ProjectView) (fed : List ℕ) : Type 0 where
  pub kept : s.asked ≡ asked_of project (begun_block fed)

-- what is kept in a stage, by a reader that goes on
abbrev pub Keeps : Stage → ReaderState → ProjectView → List ℕ → Type 0
Keeps stage.Reading s project fed = Reads s project fed
Keeps stage.Waiting s project fed = Waits s project fed
Keeps (stage.Ended how) s project fed = ⊥

-- The reader has taken these octets of a connection of this project, and goes on.
pub record ReaderStands (s : ReaderState) (project : ProjectView) (fed : List ℕ) : Type 0 where
  pub intake : IntakeStandsAfter s.intake fed
  pub fits : has_long_block fed ≡ false
  pub count : s.taken ≡ length fed
  pub keeps : Keeps s.stage s project fed
