use Rattle.std.proofs.Common.{◌-◌, length}
use Rattle.wait_graph.specs.Marks.{HasMark, AreLedFrom, mark_count}
use Rattle.wait_graph.proofs.marks.mark_from.Given as goal

abbrev pub invariant-loop : goal.invariant-loop
invariant-loop l = record {
  led : AreLedFrom l.pairs l.from l.marks;
  first : HasMark l.marks l.from;
}

abbrev pub decreases-loop : goal.decreases-loop
decreases-loop l = length l.marks - mark_count l.marks
