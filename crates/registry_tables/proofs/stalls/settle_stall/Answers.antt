use Rattle.registry_tables.proofs.Scanning.{within_turned}
use Rattle.registry_tables.proofs.stalls.settle_stall.Goals as goal

pub give_up-requires : goal.give_up-requires
give_up-requires c = within_turned c.args.tables.now c.waiting.result.now c.args.imports.now.waiting c.waiting.ensures c.requires.within
