use Rattle.connection_core.proofs.Beside.{opens_serving}
use Rattle.mapper_server.proofs.turn_tests.visits_once.Goals as goal

pub leave-requires-clause-there : goal.leave-requires-clause-there
leave-requires-clause-there g c =
    let opens = c.in-Ok.ensures.opened in
    (opens_serving c.in-Ok.conn opens.0 (g.D.Desk.tells c.args.desk.now) (g.D.Desk.tells c.open.new.self) c.in-Ok.ensures.sound opens.1).there
