use Rattle.std.proofs.Common.{arith, ◌∙◌, ap}
use Rattle.std.specs.Int.{from_bool}
use Rattle.export_lists.proofs.Listings.{built_next}
use Rattle.export_lists.proofs.slots.built_count.Goals as goal

pub loop-number-preserved : goal.loop-number-preserved
loop-number-preserved c = built_next c.args.project.now c.loop-number.number c.loop-number.count c.from-count.result (omega arith) c.loop-number.invariant (c.from-count.ensures ∙ ap from_bool c.is_built.ensures)
