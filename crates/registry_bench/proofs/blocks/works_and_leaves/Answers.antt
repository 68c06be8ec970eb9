use Rattle.unit_registry.specs.declared.act.Act.TheVariants.{Left}
use Rattle.registry_bench.proofs.Steps.{leaves}
use Rattle.registry_bench.proofs.blocks.works_and_leaves.Goals as goal

pub returns : goal.returns
returns g c =
    let left = c.leave.ensures.left in
    leaves (g.D.Desk.tells c.args.desk.now) (g.D.Desk.tells c.works-worked.new.desk) (g.D.Desk.tells c.leave.new.self) c.args.conn left.0 Left c.works-worked.ensures left.1
