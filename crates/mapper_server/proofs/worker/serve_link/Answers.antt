use Rattle.std.proofs.Common.{◌∙◌}
use Rattle.mapper_server.proofs.Opening.{opens_anew}
use Rattle.mapper_server.proofs.Returning.{looks_leave, open_had_room, opens_counted, served_leave}
use Rattle.mapper_server.proofs.worker.serve_link.Goals as goal

pub serve_connection-how-requires-clause-session : goal.serve_connection-how-requires-clause-session
serve_connection-how-requires-clause-session g c = record {
  stands = c.reset.ensures.stands c.args.project.now;
  going = c.reset.ensures.going;
  idle = c.reset.ensures.idle;
  no_item = c.reset.ensures.stash;
  conn_is = c.reset.ensures.conn;
}

pub serve_connection-how-requires-clause-opened : goal.serve_connection-how-requires-clause-opened
serve_connection-how-requires-clause-opened g c =
    let adds = c.in-Ok.ensures.opened in
    opens_anew c.in-Ok.conn adds.0 (g.D.Desk.tells c.args.desk.now) (g.D.Desk.tells c.open.new.self) c.open.ensures.sound adds.1

pub returns-clause-room : goal.returns-clause-room
returns-clause-room g c =
    let adds = c.in-Ok.ensures.opened in
    open_had_room c.in-Ok.conn adds.0 (g.D.Desk.tells c.args.desk.now) (g.D.Desk.tells c.open.new.self) c.requires.sound c.open.ensures.sound adds.1

pub returns-clause-numbered : goal.returns-clause-numbered
returns-clause-numbered g c =
    let adds = c.in-Ok.ensures.opened in
    opens_counted c.in-Ok.conn adds.0 (g.D.Desk.tells c.args.desk.now) (g.D.Desk.tells c.open.new.self) (g.D.Desk.tells c.serve_connection-how.new.desk) adds.1 c.serve_connection-how.ensures.desk c.serve_connection-how.ensures.sound

pub returns-clause-own : goal.returns-clause-own
returns-clause-own g c = c.serve_connection-how.ensures.desk.connections ∙ c.in-Ok.ensures.opened.1.connections

pub returns-clause-others : goal.returns-clause-others
returns-clause-others g c =
    let adds = c.in-Ok.ensures.opened in
    served_leave c.in-Ok.conn adds.0 (g.D.Desk.tells c.args.desk.now) (g.D.Desk.tells c.open.new.self) (g.D.Desk.tells c.serve_connection-how.new.desk) c.requires.sound c.open.ensures.sound c.serve_connection-how.ensures.sound adds.1 c.serve_connection-how.ensures.desk

pub returns-in_default-clause-others : goal.returns-in_default-clause-others
returns-in_default-clause-others g c = looks_leave (g.D.Desk.tells c.args.desk.now) (g.D.Desk.tells c.open.new.self) c.requires.sound c.open.ensures.sound c.in_default.ensures.looked
