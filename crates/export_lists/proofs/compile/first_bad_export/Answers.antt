use Rattle.std.proofs.Common.{arith, sym}
use Rattle.export_lists.specs.Lists.{imported}
use Rattle.export_lists.specs.Lent.{lent}
use Rattle.export_lists.proofs.Loops.{import_at}
use Rattle.export_lists.proofs.Faults.{bad_here, good_here, no_bad}
use Rattle.export_lists.proofs.compile.first_bad_export.Goals as goal

pub returns-then-is_bad_export : goal.returns-then-is_bad_export
returns-then-is_bad_export c =
    bad_here (imported c.args.unit.now (lent c.args.cmis.now)) c.loop-k.k (c.get-import.result.now, c.index-cmis-k.result.now)
    (import_at c.args.unit.now c.args.cmis.now c.loop-k.k c.get-import.result.now c.index-cmis-k.result c.requires (omega arith) c.get-import.ensures c.index-cmis-k.is)
    (sym c.if-is_bad_export.ensures) c.loop-k.invariant

pub loop-k-preserved : goal.loop-k-preserved
loop-k-preserved c =
    good_here (imported c.args.unit.now (lent c.args.cmis.now)) c.loop-k.k (c.get-import.result.now, c.index-cmis-k.result.now)
    (import_at c.args.unit.now c.args.cmis.now c.loop-k.k c.get-import.result.now c.index-cmis-k.result c.requires (omega arith) c.get-import.ensures c.index-cmis-k.is)
    (sym c.if-is_bad_export.ensures) c.loop-k.invariant

pub returns : goal.returns
returns c = no_bad c.args.unit.now (lent c.args.cmis.now) c.loop-k.k (omega arith) c.loop-k.invariant
