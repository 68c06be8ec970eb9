use Rattle.registry_core.specs.Desks.{Stays}
use Rattle.mapper_server.specs.Sharing.{MayOpen}
use Rattle.mapper_server.proofs.turn_tests.visits.Given as goal

abbrev pub invariant-loop-visit : goal.invariant-loop-visit
invariant-loop-visit g l = record {
  may : MayOpen (g.D.Desk.tells l.desk);
  stays : Stays (g.D.Desk.tells l.initial.desk) (g.D.Desk.tells l.desk);
}
