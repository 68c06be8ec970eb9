use Rattle.registry_bench.proofs.Steps.{looked}
use Rattle.registry_bench.proofs.blocks.enters_act.Goals as goal

pub returns-in-Err : goal.returns-in-Err
returns-in-Err g c = looked (g.D.Desk.tells c.args.desk.now) (g.D.Desk.tells c.ask.new.self) c.args.conn c.requires.has_open c.in-Err.ensures.sound c.in-Err.ensures.looked
