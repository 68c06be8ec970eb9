use Rattle.mapper_commands.proofs.Gatherings.{one_failed, none_is_failed}
use Rattle.mapper_commands.proofs.list.is_good.Goals as goal

pub returns-then-has_failed : goal.returns-then-has_failed
returns-then-has_failed c = one_failed c.args.listing.now c.loop-unit.unit c.outcome.result.now c.outcome.ensures c.if-has_failed.ensures

pub loop-unit-preserved : goal.loop-unit-preserved
loop-unit-preserved c = none_is_failed c.args.listing.now c.loop-unit.unit c.outcome.result.now c.outcome.ensures c.if-has_failed.ensures c.loop-unit.invariant
