use Rattle.registry_bench.proofs.Steps.{looked}
use Rattle.registry_bench.proofs.blocks.hears_one.Goals as goal

pub returns : goal.returns
returns g c = looked (g.D.Desk.tells c.args.desk.now) (g.D.Desk.tells c.look.new.self) c.args._conn c.requires c.look.ensures.sound c.look.ensures.looked
