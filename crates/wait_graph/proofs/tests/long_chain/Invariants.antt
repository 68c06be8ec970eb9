use Rattle.std.proofs.Common.{◌≡◌, ◌≤◌, length}
use Rattle.wait_graph.proofs.tests.long_chain.Given as goal

abbrev pub invariant-loop-unit : goal.invariant-loop-unit
invariant-loop-unit g l =
    (l.waits.units ≡ 1000) × (l.waits.edges ≡ 999) × (length l.waits.pairs ≤ l.unit)
