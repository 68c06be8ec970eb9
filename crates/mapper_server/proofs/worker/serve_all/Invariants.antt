use Rattle.std.proofs.Common.{◌≡◌, ◌+◌, ◌<◌, ◌≤◌, IsFalse}
use Rattle.mm_outside.specs.Told.{Told}
use Rattle.registry_core.specs.Desks.{IsSound}
use Rattle.mapper_server.specs.Serving.{LeavesOthers}
use Rattle.mapper_server.specs.Headline.{ReturnsAll}
use Rattle.mapper_server.specs.Statuses.{IsServingStatus}
use Rattle.mapper_server.specs.Workers.{HasWorked}
use Rattle.mapper_server.proofs.worker.serve_all.Given as goal

abbrev pub invariant-loop : goal.invariant-loop
invariant-loop g l = record {
  project : (g.D.Desk.tells l.desk).seen.project ≡ l.project;
  loose : IsFalse (g.D.Desk.tells l.desk).metered;
  turn : IsFalse (g.D.Desk.holds l.desk);
  sound : IsSound (g.D.Desk.tells l.desk);
  worker : (g.D.Desk.tells l.desk).opened + (g.D.Desk.tells l.desk).dones < (g.D.Desk.tells l.desk).share;
  others : LeavesOthers (g.D.Desk.tells l.initial.desk) (g.D.Desk.tells l.desk);
  opened : (g.D.Desk.tells l.desk).opened ≡ (g.D.Desk.tells l.initial.desk).opened;
  dones : (g.D.Desk.tells l.desk).dones ≡ (g.D.Desk.tells l.initial.desk).dones;
  kind : IsServingStatus l.status;
  returned : ReturnsAll (g.H.Hall.counts l.initial.hall) (g.H.Hall.counts l.hall);
  given : (g.H.Hall.counts l.hall).back ≤ (g.H.Hall.counts l.hall).given;
  faults : g.H.Hall.faults l.hall ≡ g.H.Hall.faults l.initial.hall;
  worked : Told (HasWorked g.H.Link.Link.octets g.H.Link.Link.read_faults g.H.Link.Link.write_faults (g.D.Desk.tells l.desk).seen (g.D.Desk.tells l.desk).connections l.status) (g.H.Hall.links l.initial.hall) (g.H.Hall.links l.hall);
}
