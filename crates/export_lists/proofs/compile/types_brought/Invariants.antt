use Rattle.std.proofs.Common.{take}
use Rattle.std.specs.Prelude.{flat_map}
use Rattle.export_lists.specs.Lists.{imported, brings}
use Rattle.export_lists.specs.Compiling.{types_in}
use Rattle.export_lists.specs.Types.{Knows}
use Rattle.export_lists.specs.Lent.{lent}
use Rattle.export_lists.proofs.compile.types_brought.Given as goal

abbrev pub invariant-loop-k : goal.invariant-loop-k
invariant-loop-k l = Knows l.types (types_in (flat_map (brings l.unit) (take l.k (imported l.unit (lent l.cmis)))))
