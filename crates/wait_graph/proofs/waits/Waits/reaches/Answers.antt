use Rattle.std.proofs.Common.{inl, inr, length, rules}
use Rattle.wait_graph.proofs.WalkLaws.{outside}
use Rattle.wait_graph.proofs.waits.Waits.reaches.Goals as goal
use Rattle.wait_graph.proofs.waits.Waits.reaches.Goals.{then-from-units-via-then-from-units, then-from-units-via-else-from-units+then-to-units}

pub returns-then-from-units-clause-walk : goal.returns-then-from-units-clause-walk
returns-then-from-units-clause-walk c = outside c.args.self.now.pairs (length c.self.inside.marks.items) (search rules) c.args.from c.args.to (elim c.then-from-units.branch [
  | then-from-units-via-then-from-units w ↦ inl (search rules)
  | then-from-units-via-else-from-units+then-to-units w ↦ inr (search rules)
])
