use Rattle.std.proofs.Common.{rules, IsTrue}
use Rattle.ruled_history.proofs.Rounds.{rounds}
use Rattle.ruled_history.proofs.two_threads.serve.Goals as goal

pub returns : goal.returns
returns g c =
    let asks : IsTrue c.asks_in_turn.result = search rules in
    let left = c.leave.ensures.left in
    rounds (g.D.Desk.tells c.args.desk.now) (g.D.Desk.tells c.opens_any.new.desk) (g.D.Desk.tells c.asks_in_turn.new.desk) (g.D.Desk.tells c.leave.new.self) c.in_ok-conn.conn c.args.count left.0 c.asks_in_turn.new.places.items c.in_ok-conn.ensures (c.asks_in_turn.ensures asks) left.1
