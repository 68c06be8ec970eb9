use Rattle.unit_registry.specs.Projects.{unit_count}
use Rattle.std.proofs.Common.{◌≡◌, ◌<◌, ◌≤◌, not, ◌∙◌, length, map, filter, reverse, rules, arith, sym, ap, subst, is_none, List}
use Rattle.histories.proofs.Members.{In-reverse}
use Rattle.wait_graph.specs.Graph.{Graph}
use Rattle.registry_tables.specs.declared.imports.Waiting.{Waiting}
use Rattle.registry_tables.specs.Imported.{Imported, count_of, AllWithin, pairs_in, is_ended_in, ended_places}
use Rattle.registry_tables.specs.Tabled.{Tabled, fate_in}
use Rattle.registry_tables.proofs.Openings.{reverse_filter}
use Rattle.registry_tables.proofs.Pairs.{pairs_settled}
use Rattle.registry_tables.proofs.Settling.{ended_turned}
use Rattle.registry_tables.proofs.imports.Imports.settle_all.Goals as goal

abbrev Fits : Tabled → Imported → Type 0
Fits t i = AllWithin i.waiting (unit_count t.project) (length i.replies)

forth : (t : Tabled) (ws : List Waiting) (places : Rattle.std.proofs.Common.ℕ) → AllWithin (reverse ws) (unit_count t.project) places → AllWithin ws (unit_count t.project) places
forth t ws places a = record { units = λ w there. a.units w (In-reverse w ws there); places = λ w there. a.places w (In-reverse w ws there) }

pub answer_ended-requires : goal.answer_ended-requires
answer_ended-requires c = rw c.deref-2.ensures.value (forth c.args.tables.now c.self.inside.waiting.items (length c.self.inside.replies.items) (subst (Fits c.args.tables.now) (sym c.self.view_is) c.requires))

pub list_ended-requires-clause-units : goal.list_ended-requires-clause-units
list_ended-requires-clause-units c = rw c.deref.ensures.value ((forth c.args.tables.now c.self.inside.waiting.items (length c.self.inside.replies.items) (subst (Fits c.args.tables.now) (sym c.self.view_is) c.requires)).units)

pub returns-clause-answered : goal.returns-clause-answered
returns-clause-answered c =
    c.list_ended.ensures.places
    ∙ ap (λ (ws : List Waiting). map (λ (w : Waiting). w.place) (filter (λ w. not (is_none (fate_in c.args.tables.now w.unit))) ws)) c.deref.ensures.value
    ∙ ended_turned c.args.tables.now c.self.inside.waiting.items
    ∙ ap (λ (i : Imported). ended_places c.args.tables.now i.waiting) c.self.view_is

pub settle_ended-requires : goal.settle_ended-requires
settle_ended-requires c = rw c.deref-3.ensures.value ((forth c.args.tables.now c.self.inside.waiting.items (length c.self.inside.replies.items) (subst (Fits c.args.tables.now) (sym c.self.view_is) c.requires)).units)

pub lower_ended-requires-clause-units : goal.lower_ended-requires-clause-units
lower_ended-requires-clause-units c = rw c.deref-4.ensures.value ((forth c.args.tables.now c.self.inside.waiting.items (length c.self.inside.replies.items) (subst (Fits c.args.tables.now) (sym c.self.view_is) c.requires)).units)

pub lower_ended-requires-clause-counted : goal.lower_ended-requires-clause-counted
lower_ended-requires-clause-counted c conn = c.self.invariant.counted conn ∙ sym (ap (λ (ws : List Waiting). count_of ws conn) c.deref-4.ensures.value)

pub drop_ended-requires : goal.drop_ended-requires
drop_ended-requires c = (forth c.args.tables.now c.self.inside.waiting.items (length c.self.inside.replies.items) (subst (Fits c.args.tables.now) (sym c.self.view_is) c.requires)).units

pub invariant_of-self : goal.invariant_of-self
invariant_of-self c = record {
  pairs = ap (λ (g : Graph). g.pairs) c.settle_ended.ensures
      ∙ ap (λ (ws : List Waiting). filter (λ p. not (is_ended_in c.args.tables.now (reverse ws) p.1)) c.self.inside.graph.pairs) c.deref-3.ensures.value
      ∙ ap (λ ps. filter (λ p. not (is_ended_in c.args.tables.now (reverse c.self.inside.waiting.items) p.1)) ps) c.self.invariant.pairs
      ∙ pairs_settled c.args.tables.now (reverse c.self.inside.waiting.items) c.self.inside.waiting.items (λ w there. In-reverse w c.self.inside.waiting.items there)
      ∙ sym (ap pairs_in c.drop_ended.ensures.kept);
  has_room = search rules;
  has_reply_room = search rules;
  has_answered_room = search rules;
  has_count_room = search rules;
  counted = λ conn. c.lower_ended.ensures.counted conn ∙ ap (λ (ws : List Waiting). count_of (filter (λ w. is_none (fate_in c.args.tables.now w.unit)) ws) conn) c.deref-4.ensures.value ∙ sym (ap (λ (ws : List Waiting). count_of ws conn) c.drop_ended.ensures.kept);
  few = search rules;
}

pub returns-clause-waiting : goal.returns-clause-waiting
returns-clause-waiting c =
    ap reverse c.drop_ended.ensures.kept
    ∙ reverse_filter (λ w. is_none (fate_in c.args.tables.now w.unit)) c.self.inside.waiting.items
    ∙ ap (λ (i : Imported). filter (λ w. is_none (fate_in c.args.tables.now w.unit)) i.waiting) c.self.view_is
