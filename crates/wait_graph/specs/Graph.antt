-- A graph of waits, as its callers see it.
use Rattle.std.specs.Prelude.{ℕ, ◌≤◌, Bool, List, length, vec_capacity}
use Rattle.std.specs.Global.{Vec}
use Rattle.wait_graph.specs.Walks.{IsAcyclic}
use Rattle.wait_graph.specs.Marks.{AreWithin}

-- how many units there are, for how many pairs there is room, and the pairs in the order in which they were added
pub record Graph : Type 0 where
  pub units : ℕ
  pub edges : ℕ
  pub pairs : List (ℕ × ℕ)

-- what a graph keeps: each pair is of units that have a place for a mark, there is room for as many pairs as were
-- promised, and the pairs are in no circle
pub record IsGraph (pairs : Vec (ℕ × ℕ)) (marks : List Bool) (room : ℕ) : Type 0 where
  pub within : AreWithin pairs.items (length marks)
  pub has_room : room ≤ vec_capacity pairs
  pub acyclic : IsAcyclic pairs.items
