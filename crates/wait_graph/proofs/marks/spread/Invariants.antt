use Rattle.wait_graph.proofs.Spreading.{Spreads}
use Rattle.wait_graph.proofs.marks.spread.Given as goal

abbrev pub invariant-loop-first : goal.invariant-loop-first
invariant-loop-first l = Spreads l.pairs l.initial.marks l.marks l.made l.first-index
