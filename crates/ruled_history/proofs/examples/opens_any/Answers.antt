use Rattle.ruled_history.proofs.Worked.{opened}
use Rattle.ruled_history.proofs.examples.opens_any.Goals as goal

pub returns-in-Ok : goal.returns-in-Ok
returns-in-Ok g c =
    let made = c.in-Ok.ensures.opened in
    opened (g.D.Desk.tells c.args.desk.now) (g.D.Desk.tells c.open.new.self) c.in-Ok.conn made.0 c.requires.fresh c.in-Ok.ensures.sound made.1
