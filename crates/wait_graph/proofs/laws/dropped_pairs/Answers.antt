use Rattle.std.proofs.Common.{◌==◌, not}
use Rattle.wait_graph.proofs.WalkLaws.{filter-among, none_from}
use Rattle.wait_graph.proofs.laws.dropped_pairs.Goals as goal

pub returns-clause-fewer : goal.returns-clause-fewer
returns-clause-fewer c pairs unit = filter-among (λ pair. not (pair.0 == unit)) pairs

pub returns-clause-none : goal.returns-clause-none
returns-clause-none c pairs unit to walk = none_from pairs unit to walk.0 walk.1
