use Rattle.std.proofs.Common.{[], ◌∷◌, ◌++◌}
use Rattle.std.proofs.lemmas.List.Elements.{Contains-push}
use Rattle.wait_graph.proofs.WalkLaws.{Leads-push, Leads-more, AreAmong-push, IsAcyclic-push, IsAcyclic-fewer, no_return}
use Rattle.wait_graph.proofs.laws.one_more_pair.Goals as goal

pub returns-clause-walks : goal.returns-clause-walks
returns-clause-walks c pairs first second from to = Leads-push pairs first second from to

pub returns-clause-acyclic : goal.returns-clause-acyclic
returns-clause-acyclic c pairs first second = (
  λ acyclic. (
    IsAcyclic-fewer pairs (pairs ++ (first, second) ∷ []) (AreAmong-push pairs (first, second)) acyclic,
    λ walk. no_return (pairs ++ (first, second) ∷ []) first second acyclic (Contains-push pairs (first, second)) (Leads-more pairs (pairs ++ (first, second) ∷ []) (AreAmong-push pairs (first, second)) second first walk),
  ),
  λ both. IsAcyclic-push pairs first second both.1 both.0,
)
