use Rattle.registry_bench.specs.Blocks.{StaysOpen}
use Rattle.registry_bench.proofs.blocks.enters.Given as goal

abbrev pub invariant-loop-asked : goal.invariant-loop-asked
invariant-loop-asked g l = StaysOpen l.conn (g.D.Desk.tells l.initial.desk) (g.D.Desk.tells l.desk)
