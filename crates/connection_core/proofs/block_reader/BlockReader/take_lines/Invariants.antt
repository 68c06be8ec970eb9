use Rattle.std.proofs.Common.{◌≡◌, ℕ, ◌+◌, ◌-◌, ◌≤◌, List, length, take}
use Rattle.connection_core.specs.Standing.{ReaderStands}
use Rattle.connection_core.specs.Working.{GoesOn}
use Rattle.connection_core.specs.declared.block_reader.Stage.TheVariants as stage
use Rattle.connection_core.proofs.block_reader.BlockReader.take_lines.Given as goal

abbrev pub invariant-loop-line : goal.invariant-loop-line
invariant-loop-line l = record {
  within : l.used ≤ length l.piece;
  reading : l.self.stage ≡ stage.Reading;
  count : l.self.taken ≡ l.initial.self.taken + l.used;
  goes : (fed : List ℕ) → ReaderStands l.initial.self l.project fed → GoesOn l.project fed (take l.used l.piece) l.self;
}

abbrev pub decreases-loop-line : goal.decreases-loop-line
decreases-loop-line l = length l.piece - l.used
