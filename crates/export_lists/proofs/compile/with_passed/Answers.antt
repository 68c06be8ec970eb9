use Rattle.std.proofs.Common.{arith}
use Rattle.export_lists.specs.Lists.{imported, passes_on}
use Rattle.export_lists.specs.Lent.{lent}
use Rattle.export_lists.proofs.Loops.{import_at, more, whole}
use Rattle.export_lists.proofs.compile.with_passed.Goals as goal

pub loop-k-preserved : goal.loop-k-preserved
loop-k-preserved c =
    more passes_on c.args.entries c.loop-k.entries c.in_ok-entries.entries (imported c.args.unit.now (lent c.args.cmis.now)) c.loop-k.k (c.get.result.now, c.index-cmis-k.result.now) c.passes_on-listed.result.now
    (import_at c.args.unit.now c.args.cmis.now c.loop-k.k c.get.result.now c.index-cmis-k.result c.requires (omega arith) c.get.ensures c.index-cmis-k.is)
    c.passes_on-listed.ensures c.loop-k.invariant c.in_ok-entries.ensures

pub returns : goal.returns
returns c = whole passes_on c.args.entries c.loop-k.entries c.args.unit.now (lent c.args.cmis.now) c.loop-k.k (omega arith) c.loop-k.invariant
