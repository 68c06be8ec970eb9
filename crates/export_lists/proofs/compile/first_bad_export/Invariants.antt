use Rattle.std.proofs.Common.{◌≡◌, drop, slice_get}
use Rattle.export_lists.specs.Lists.{imported}
use Rattle.export_lists.specs.Compiling.{export_lines}
use Rattle.export_lists.specs.Lent.{lent}
use Rattle.export_lists.proofs.compile.first_bad_export.Given as goal

abbrev pub invariant-loop-k : goal.invariant-loop-k
invariant-loop-k l = slice_get (export_lines (imported l.unit (lent l.cmis))) 0 ≡ slice_get (export_lines (drop l.k (imported l.unit (lent l.cmis)))) 0
