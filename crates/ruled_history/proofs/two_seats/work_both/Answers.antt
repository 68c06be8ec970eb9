use Rattle.std.proofs.Common.{sym, subst}
use Rattle.ruled_history.specs.Examples.{Finished}
use Rattle.ruled_history.specs.Seats.{Sitting}
use Rattle.ruled_history.proofs.Worked.{finished}
use Rattle.ruled_history.proofs.two_seats.work_both.Goals as goal

pub returns-clause-finished : goal.returns-clause-finished
returns-clause-finished g c =
    subst (λ (x : Sitting × Sitting). Finished c.args.registry.now x.0 x.1 c.join.result c.in_ok-one.reported.answer c.in_ok-two.imported.answer) (λ i. (sym c.of-first.ensures i, sym c.of-second.ensures i))
    (finished c.requires.0 c.args.registry.now c.args.one c.args.two c.in_ok-one.one c.in_ok-two.two c.join.result c.in_ok-one.reported.answer c.in_ok-two.imported.answer c.requires.1 c.in_ok-one.ensures.made c.in_ok-two.ensures.made c.join.ensures.both c.join.ensures.left c.join.ensures.right c.join.ensures.knows)
