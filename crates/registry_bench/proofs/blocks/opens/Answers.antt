use Rattle.registry_core.proofs.Desks.{looks_go_on}
use Rattle.registry_bench.proofs.Steps.{opened}
use Rattle.registry_bench.proofs.blocks.opens.Goals as goal

pub returns-in-Ok-clause-some : goal.returns-in-Ok-clause-some
returns-in-Ok-clause-some g c =
    opened (g.D.Desk.tells c.args.desk.now) (g.D.Desk.tells c.«open».new.self) c.in-Ok.conn c.in-Ok.ensures.opened.0 c.requires c.in-Ok.ensures.sound c.in-Ok.ensures.opened.1

pub returns-in-Err-clause-none : goal.returns-in-Err-clause-none
returns-in-Err-clause-none g c = looks_go_on (g.D.Desk.tells c.args.desk.now) (g.D.Desk.tells c.«open».new.self) c.in-Err.ensures.looked
