use Rattle.wait_graph.proofs.WalkLaws.{AreAmong-from_All, Leads-more, IsAcyclic-fewer}
use Rattle.wait_graph.proofs.laws.fewer_pairs.Goals as goal

pub returns-clause-walks : goal.returns-clause-walks
returns-clause-walks c few many from to all walk =
    Leads-more few many (AreAmong-from_All few many all) from to walk

pub returns-clause-acyclic : goal.returns-clause-acyclic
returns-clause-acyclic c few many all acyclic =
    IsAcyclic-fewer few many (AreAmong-from_All few many all) acyclic
