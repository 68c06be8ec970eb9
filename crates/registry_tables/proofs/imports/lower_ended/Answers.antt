use Rattle.std.proofs.Common.{◌∙◌, is_none, refl}
use Rattle.registry_tables.specs.Tabled.{fate_in}
use Rattle.registry_tables.proofs.Counted.{count_split}
use Rattle.registry_tables.proofs.Settling.{in_at}
use Rattle.registry_tables.proofs.imports.lower_ended.Goals as goal

pub loop-waiter-init : goal.loop-waiter-init
loop-waiter-init c = record {
  counted = λ conn. c.requires.counted conn ∙ count_split (λ w. is_none (fate_in c.args.tables.now w.unit)) c.args.waiting.now conn;
  capacity = refl;
}

pub fate-requires : goal.fate-requires
fate-requires c = c.requires.units _ (in_at c.args.waiting.now c.loop-waiter.waiter-index _ c.loop-waiter-test.true)
