use Rattle.registry_tables.proofs.Settling.{in_at}
use Rattle.registry_tables.proofs.imports.list_ended.Goals as goal

pub fate-requires : goal.fate-requires
fate-requires c = c.requires.units _ (in_at c.args.waiting.now c.loop-waiter.waiter-index _ c.loop-waiter-test.true)
