use Rattle.ruled_history.proofs.Worked.{opened_in_room}
use Rattle.ruled_history.proofs.rooms.opens_in_room.Goals as goal

pub returns : goal.returns
returns g c =
    opened_in_room (g.D.Desk.tells c.args.desk.now) (g.D.Desk.tells c.«open».new.self) c.in-Ok.conn c.in-Ok.ensures.opened.0 c.in-Ok.ensures.sound c.requires c.in-Ok.ensures.opened.1
