use Rattle.wait_graph.proofs.ShortWalks.{leads-true, leads-from}
use Rattle.wait_graph.proofs.laws.walk_test.Goals as goal

pub returns : goal.returns
returns c pairs from to = (leads-true pairs from to, leads-from pairs from to)
