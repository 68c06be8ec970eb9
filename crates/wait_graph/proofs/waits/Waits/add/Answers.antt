use Rattle.std.proofs.Common.{rules, ◌<◌, [], ◌∷◌, ◌++◌, length, sym, subst}
use Rattle.std.proofs.lemmas.List.Elements.{All-push}
use Rattle.wait_graph.specs.Walks.{Leads, IsAcyclic}
use Rattle.wait_graph.specs.Graph.{Graph}
use Rattle.wait_graph.proofs.WalkLaws.{Pairs, IsAcyclic-push}
use Rattle.wait_graph.proofs.waits.Waits.add.Goals as goal

acyclic_now : (c : goal.After-push_reserved) → IsAcyclic (c.self.inside.pairs.items ++ (c.args.from, c.args.to) ∷ [])
acyclic_now c =
    IsAcyclic-push c.self.inside.pairs.items c.args.from c.args.to (subst (λ (graph : Graph). ¬ Leads graph.pairs c.args.to c.args.from) (sym c.self.view_is) c.requires.no_circle) c.self.invariant.acyclic

pub invariant_of-self : goal.invariant_of-self
invariant_of-self c = record {
  within = rw c.push_reserved.ensures.items (All-push (λ pair. (pair.0 < length c.self.inside.marks.items) × (pair.1 < length c.self.inside.marks.items)) c.self.inside.pairs.items (c.args.from, c.args.to) c.self.invariant.within (search rules));
  has_room = search rules;
  acyclic = subst (λ (pairs : Pairs). IsAcyclic pairs) (sym c.push_reserved.ensures.items) (acyclic_now c);
}

pub returns-clause-acyclic : goal.returns-clause-acyclic
returns-clause-acyclic c =
    subst (λ (pairs : Pairs). IsAcyclic pairs) (sym c.push_reserved.ensures.items) (acyclic_now c)
