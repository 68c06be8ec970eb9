use Rattle.std.proofs.Common.{rules, ◌≡◌, ◌<◌, ◌==◌, not, length, filter, refl, sym, subst}
use Rattle.std.proofs.lemmas.Fn.{filter_same}
use Rattle.std.proofs.lemmas.List.Elements.{All-filter}
use Rattle.wait_graph.specs.Walks.{IsAcyclic}
use Rattle.wait_graph.proofs.WalkLaws.{Pairs, IsAcyclic-filter}
use Rattle.wait_graph.proofs.waits.Waits.settle.Goals as goal

kept : (c : goal.After-retain) → c.retain.new.self.items ≡ filter (λ pair. not (pair.1 == c.args.to)) c.self.inside.pairs.items
kept c = filter_same _ _ _ (λ x b f' k. search rules) _ _ c.retain.ensures.filtered

pub invariant_of-self : goal.invariant_of-self
invariant_of-self c = record {
  within = rw (kept c) (All-filter (λ pair. not (pair.1 == c.args.to)) (λ pair. (pair.0 < length c.self.inside.marks.items) × (pair.1 < length c.self.inside.marks.items)) c.self.inside.pairs.items c.self.invariant.within);
  has_room = rw c.retain.ensures.capacity c.self.invariant.has_room;
  acyclic = subst (λ (pairs : Pairs). IsAcyclic pairs) (sym (kept c)) (IsAcyclic-filter (λ pair. not (pair.1 == c.args.to)) c.self.inside.pairs.items c.self.invariant.acyclic);
}

pub returns : goal.returns
returns c = rw (kept c, ← c.self.view_is) refl
