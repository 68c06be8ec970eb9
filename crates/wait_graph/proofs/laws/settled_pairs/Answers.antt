use Rattle.std.proofs.Common.{◌==◌, not}
use Rattle.wait_graph.proofs.WalkLaws.{filter-among, none_to}
use Rattle.wait_graph.proofs.laws.settled_pairs.Goals as goal

pub returns-clause-fewer : goal.returns-clause-fewer
returns-clause-fewer c pairs unit = filter-among (λ pair. not (pair.1 == unit)) pairs

pub returns-clause-none : goal.returns-clause-none
returns-clause-none c pairs unit from walk = none_to pairs unit walk.0 from walk.1
