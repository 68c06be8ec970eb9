use Rattle.std.proofs.Common.{◌≡◌, ℕ, ◌<◌, ◌≤◌, ◌+◌, ◌^◌, ◌==◌, ◌∙◌, ◌++◌, ◌∷◌, [], List, Option, Some, None, IfSome, length, reverse, rules, arith, sym, ap, subst}
use Rattle.std.proofs.lemmas.List.{length_push, length-reverse, reverse-reverse}
use Rattle.wait_graph.specs.Walks.{Leads}
use Rattle.registry_tables.specs.declared.imports.Waiting.{Waiting}
use Rattle.registry_tables.specs.Imported.{Imported, count_of, pairs_in, ClosesNone}
use Rattle.std.specs.Prelude.{if◌then◌else◌}
use Rattle.registry_tables.proofs.Counted.{count_few, count_push}
use Rattle.registry_tables.proofs.Pairs.{pairs_few, pairs_push}
use Rattle.registry_tables.proofs.imports.Imports.push_waiting.Goals as goal

pub add_pair-requires-clause-room : goal.add_pair-requires-clause-room
add_pair-requires-clause-room c =
    let room : length (reverse c.self.inside.waiting.items) < c.self.inside.graph.edges = subst (λ (i : Imported). length i.waiting < i.room) (sym c.self.view_is) c.requires.room in
    let r : length (reverse c.self.inside.waiting.items) ≡ length c.self.inside.waiting.items = length-reverse c.self.inside.waiting.items in
    let f : length (pairs_in c.self.inside.waiting.items) ≤ length c.self.inside.waiting.items = pairs_few c.self.inside.waiting.items in
    let e : length c.self.inside.graph.pairs ≡ length (pairs_in c.self.inside.waiting.items) = ap length c.self.invariant.pairs in
    omega arith

no_walk : (waiting : List Waiting) (holder : Option ℕ) (unit : ℕ) → ClosesNone waiting holder unit → IfSome holder (λ held. ¬ Leads (pairs_in waiting) unit held)
no_walk waiting None unit h = tt
no_walk waiting (Some held) unit h = h

pub raise-requires-clause-room : goal.raise-requires-clause-room
raise-requires-clause-room c =
    let conn : c.args.waiter.conn < c.self.inside.conns = subst (λ (i : Imported). c.args.waiter.conn < i.conns) (sym c.self.view_is) c.requires.conn in
    let room = c.self.invariant.has_count_room in
    omega arith

pub raise-requires-clause-small : goal.raise-requires-clause-small
raise-requires-clause-small c =
    let counted = c.self.invariant.counted c.args.waiter.conn in
    let few = count_few c.self.inside.waiting.items c.args.waiter.conn in
    let below = c.self.invariant.few in
    let small : c.self.inside.graph.edges < 2 ^ 31 = subst (λ (i : Imported). i.room < 2 ^ 31) (sym c.self.view_is) c.requires.small in
    omega arith

pub add_pair-requires-clause-no_circle : goal.add_pair-requires-clause-no_circle
add_pair-requires-clause-no_circle c =
    let items : List Waiting = c.self.inside.waiting.items in
    let none : ClosesNone (reverse (reverse items)) c.args.waiter.holder c.args.waiter.unit = subst (λ (i : Imported). ClosesNone (reverse i.waiting) c.args.waiter.holder c.args.waiter.unit) (sym c.self.view_is) c.requires.no_circle in
    subst (λ (pairs : List (ℕ × ℕ)). IfSome c.args.waiter.holder (λ held. ¬ Leads pairs c.args.waiter.unit held)) (ap pairs_in (reverse-reverse items) ∙ sym c.self.invariant.pairs) (no_walk (reverse (reverse items)) c.args.waiter.holder c.args.waiter.unit none)

pub invariant_of-self : goal.invariant_of-self
invariant_of-self c = record {
  pairs = ap (λ g. g.pairs) c.add_pair.ensures ∙ ap (λ ps. ps ++ pairs_in (c.args.waiter ∷ [])) c.self.invariant.pairs ∙ sym (pairs_push c.self.inside.waiting.items c.args.waiter) ∙ sym (ap pairs_in c.push_reserved.ensures.items);
  has_room = search rules;
  has_reply_room = search rules;
  has_answered_room = search rules;
  has_count_room = search rules;
  counted = λ conn. c.raise.ensures.counts conn ∙ ap (λ (n : ℕ). (if c.args.waiter.conn == conn then 1 else 0) + n) (c.self.invariant.counted conn) ∙ sym (ap (λ (ws : List Waiting). count_of ws conn) c.push_reserved.ensures.items ∙ count_push c.self.inside.waiting.items c.args.waiter conn);
  few = (let room : length (reverse c.self.inside.waiting.items) < c.self.inside.graph.edges = subst (λ (i : Imported). length i.waiting < i.room) (sym c.self.view_is) c.requires.room in
      let r : length (reverse c.self.inside.waiting.items) ≡ length c.self.inside.waiting.items = length-reverse c.self.inside.waiting.items in
      let more : length c.push_reserved.new.self.items ≡ length c.self.inside.waiting.items + 1 = ap length c.push_reserved.ensures.items ∙ length_push c.self.inside.waiting.items c.args.waiter in
      let edges : c.add_pair.new.graph.edges ≡ c.self.inside.graph.edges = ap (λ g. g.edges) c.add_pair.ensures in
      omega arith);
}
