use Rattle.registry_bench.specs.Blocks.{StaysOpen}
use Rattle.registry_bench.proofs.blocks.hears.Given as goal

abbrev pub invariant-loop-place : goal.invariant-loop-place
invariant-loop-place g l = StaysOpen l.conn (g.D.Desk.tells l.initial.desk) (g.D.Desk.tells l.desk)
