use Rattle.std.proofs.Common.{arith}
use Rattle.export_lists.proofs.Names.{listed_more}
use Rattle.export_lists.proofs.types.Types.add_listed.Goals as goal

pub loop-entry-preserved : goal.loop-entry-preserved
loop-entry-preserved c = λ known h.
    listed_more c.args.entries.now c.loop-entry.entry-index c.entry-item.result known _ _ (omega arith) c.entry-item.is (c.loop-entry.invariant known h) (λ other k. (rw c.octets.ensures at (c.in_ok-add_type.ensures other k)))
