use Rattle.wait_graph.proofs.Spreading.{marks_all}
use Rattle.wait_graph.proofs.marks.mark_from.Goals as goal

pub returns-clause-all : goal.returns-clause-all
returns-clause-all c unit walk =
    marks_all c.args.pairs.now c.spread.new.marks (c.spread.ensures.closed c.loop-test.false) unit walk.0 c.args.from (c.spread.ensures.kept c.args.from c.loop.invariant.first) walk.1
