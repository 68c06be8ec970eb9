use Rattle.std.proofs.Common.{◌<◌, ◌==◌, not, ℕ, reverse, ap, ◌∙◌, sym}
use Rattle.std.proofs.lemmas.List.Elements.{All-push, All-filter}
use Rattle.registry_tables.proofs.Openings.{opens, goes_away}
use Rattle.registry_tables.proofs.tables.note_open.Goals as goal

pub returns-then-is_open_act-clause-open : goal.returns-then-is_open_act-clause-open
returns-then-is_open_act-clause-open c answered was fresh =
    let is_open = sym c.is_open_act.ensures ∙ c.if-is_open_act.true in
    ap reverse c.push_reserved.ensures.items ∙ opens c.args.live.now.items answered c.args.newest is_open (fresh is_open) was

pub returns-then-goes-clause-open : goal.returns-then-goes-clause-open
returns-then-goes-clause-open c answered was fresh =
    ap reverse c.remove.ensures.kept ∙ goes_away c.args.live.now.items answered c.args.newest (sym c.is_open_act.ensures ∙ c.if-is_open_act.false) (sym c.goes.ensures ∙ c.if-goes.true) was

pub returns-then-is_open_act-clause-within : goal.returns-then-is_open_act-clause-within
returns-then-is_open_act-clause-within c room below before =
    rw c.push_reserved.ensures.items (All-push (λ (x : ℕ). x < room) c.args.live.now.items c.args.newest.conn before (below (sym c.is_open_act.ensures ∙ c.if-is_open_act.true)))

pub returns-then-goes-clause-within : goal.returns-then-goes-clause-within
returns-then-goes-clause-within c room below before =
    rw c.remove.ensures.kept (All-filter (λ (x : ℕ). not (x == c.args.newest.conn)) (λ (x : ℕ). x < room) c.args.live.now.items before)
