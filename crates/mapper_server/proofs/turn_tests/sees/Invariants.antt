use Rattle.std.proofs.Common.{IsFalse}
use Rattle.registry_core.specs.Desks.{Stays}
use Rattle.mapper_server.specs.Sharing.{MayServe}
use Rattle.mapper_server.proofs.turn_tests.sees.Given as goal

abbrev pub invariant-loop-look : goal.invariant-loop-look
invariant-loop-look g l = record {
  may : MayServe l.project (g.D.Desk.tells l.desk);
  turn : IsFalse (g.D.Desk.holds l.desk);
  stays : Stays (g.D.Desk.tells l.initial.desk) (g.D.Desk.tells l.desk);
}
