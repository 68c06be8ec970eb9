use Rattle.std.proofs.Common.{◌≡◌, ◌+◌, ◌-◌, ◌<◌, ◌≤◌, length}
use Rattle.mm_outside.specs.Told.{Told}
use Rattle.cody_batches.specs.Blocks.{most_octets}
use Rattle.connection_core.specs.Sessions.{octets_taken}
use Rattle.mapper_server.specs.declared.step.Step.TheVariants as steps
use Rattle.mapper_server.specs.Steps.{AtDesk, Continues, IsGoing, Steps, TurnIn, rest_of}
use Rattle.mapper_server.proofs.step.serve_on.Given as goal

abbrev pub invariant-loop-place : goal.invariant-loop-place
invariant-loop-place g l = record {
  at_desk : AtDesk l.project l.session.conn (g.D.Desk.tells l.desk);
  going : IsGoing l.project (g.D.Desk.tells l.desk).seen.entries l.session;
  turn : TurnIn l.session.reader.stage l.session (g.D.Desk.holds l.desk);
  continues : Continues l.initial.session.conn (g.D.Desk.tells l.initial.desk) (g.D.Desk.tells l.desk);
  conn : l.session.conn ≡ l.initial.session.conn;
  steps : Told (Steps l.project steps.GoesOn l.initial.session l.session (g.D.Desk.tells l.initial.desk) (g.D.Desk.tells l.desk) (rest_of l.initial.piece.at l.initial.piece.end l.initial.room) (rest_of l.piece.at l.piece.end l.room)) (g.L.Link.octets l.initial.link) (g.L.Link.octets l.link);
  room : length l.room ≡ length l.initial.room;
  some : 0 < length l.room;
  order : l.piece.at ≤ l.piece.end;
  within : l.piece.end ≤ length l.room;
  read_faults : g.L.Link.read_faults l.link ≡ g.L.Link.read_faults l.initial.link;
  write_faults : g.L.Link.write_faults l.link ≡ g.L.Link.write_faults l.initial.link;
}

abbrev pub decreases-loop-place : goal.decreases-loop-place
decreases-loop-place g l = (most_octets + 1) - octets_taken l.session
