use Rattle.std.proofs.Common.{◌≡◌, ◌<◌, ◌≤◌, length}
use Rattle.mm_outside.specs.Told.{Told}
use Rattle.mapper_server.specs.Steps.{AtDesk, Continues, IsGoing, Serving, TurnIn, rest_of}
use Rattle.mapper_server.proofs.connection.serve_in.Given as goal

abbrev pub invariant-loop : goal.invariant-loop
invariant-loop g l = record {
  at_desk : AtDesk l.project l.session.conn (g.D.Desk.tells l.desk);
  going : IsGoing l.project (g.D.Desk.tells l.desk).seen.entries l.session;
  turn : TurnIn l.session.reader.stage l.session (g.D.Desk.holds l.desk);
  continues : Continues l.initial.session.conn (g.D.Desk.tells l.initial.desk) (g.D.Desk.tells l.desk);
  conn : l.session.conn ≡ l.initial.session.conn;
  serving : Told (Serving l.project l.session (g.D.Desk.tells l.desk) (rest_of l.piece.at l.piece.end l.room)) (g.L.Link.octets l.initial.link) (g.L.Link.octets l.link);
  room : 0 < length l.room;
  order : l.piece.at ≤ l.piece.end;
  within : l.piece.end ≤ length l.room;
  read_faults : g.L.Link.read_faults l.link ≡ g.L.Link.read_faults l.initial.link;
  write_faults : g.L.Link.write_faults l.link ≡ g.L.Link.write_faults l.initial.link;
}
