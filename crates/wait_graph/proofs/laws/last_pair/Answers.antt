use Rattle.wait_graph.proofs.LastPairs.{has_last_pair}
use Rattle.wait_graph.proofs.laws.last_pair.Goals as goal

pub returns : goal.returns
returns c = has_last_pair
