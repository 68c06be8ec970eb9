use Rattle.std.proofs.Common.{◌==◌, not, ◌∙◌, filter, reverse, rules, sym, ap, ap₂, subst, List, ℕ, Option}
use Rattle.histories.specs.declared.answer.Answer.{Answer}
use Rattle.histories.proofs.Members.{In}
use Rattle.histories.proofs.Members.{In-reverse}
use Rattle.wait_graph.specs.Graph.{Graph}
use Rattle.registry_tables.specs.declared.imports.Waiting.{Waiting}
use Rattle.registry_tables.specs.Imported.{Imported, count_of, IsTied, pairs_in, without}
use Rattle.registry_tables.proofs.Openings.{reverse_filter}
use Rattle.std.specs.Prelude.{if◌then◌else◌}
use Rattle.registry_tables.proofs.Counted.{count_without}
use Rattle.registry_tables.proofs.Pairs.{pairs_without}
use Rattle.registry_tables.proofs.imports.Imports.drop_conn.Goals as goal

abbrev made : ℕ → ℕ → ℕ → List Waiting → List (Option Answer) → List ℕ → Imported
made units conns room waiting replies answered = record { units = units; conns = conns; room = room; waiting = waiting; replies = replies; answered = answered }

pub invariant_of-self : goal.invariant_of-self
invariant_of-self c =
    let tied : (w : Waiting) → In w (reverse c.self.inside.waiting.items) → IsTied c.args.conn c.args.holder w = subst (λ (i : Imported). (w : Waiting) → In w i.waiting → IsTied c.args.conn c.args.holder w) (sym c.self.view_is) c.requires in
    record {
      pairs = ap (λ g. g.pairs) c.drop_pairs.ensures ∙ ap (λ ps. without c.args.holder ps) c.self.invariant.pairs ∙ pairs_without c.args.conn c.args.holder c.self.inside.waiting.items (λ w there. tied w (In-reverse w c.self.inside.waiting.items there)) ∙ sym (ap pairs_in c.drop_of.ensures.kept);
      has_room = search rules;
      has_reply_room = search rules;
      has_answered_room = search rules;
      has_count_room = search rules;
      counted = λ conn. c.clear.ensures.counts conn ∙ ap (λ (n : ℕ). if c.args.conn == conn then 0 else n) (c.self.invariant.counted conn) ∙ sym (ap (λ (ws : List Waiting). count_of ws conn) c.drop_of.ensures.kept ∙ count_without c.args.conn c.self.inside.waiting.items conn);
      few = search rules;
    }

pub returns : goal.returns
returns c =
    ap₂ (λ (g : Graph) (ws : List Waiting). made g.units c.self.inside.conns g.edges (reverse ws) c.self.inside.replies.items c.self.inside.answered.items) c.drop_pairs.ensures c.drop_of.ensures.kept
    ∙ ap (λ (ws : List Waiting). made c.self.inside.graph.units c.self.inside.conns c.self.inside.graph.edges ws c.self.inside.replies.items c.self.inside.answered.items) (reverse_filter (λ w. not (w.conn == c.args.conn)) c.self.inside.waiting.items)
    ∙ ap (λ (i : Imported). made i.units i.conns i.room (filter (λ w. not (w.conn == c.args.conn)) i.waiting) i.replies i.answered) c.self.view_is
