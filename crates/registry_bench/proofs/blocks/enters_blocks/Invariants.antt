use Rattle.registry_bench.specs.Blocks.{StaysOpen}
use Rattle.registry_bench.proofs.blocks.enters_blocks.Given as goal

abbrev pub invariant-loop-entered : goal.invariant-loop-entered
invariant-loop-entered g l = StaysOpen l.conn (g.D.Desk.tells l.initial.desk) (g.D.Desk.tells l.desk)
