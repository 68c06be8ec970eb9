use Rattle.std.proofs.Common.{rules, ap, ◌∙◌}
use Rattle.ruled_history.proofs.Turns.{draws_at, looks_at, came}
use Rattle.ruled_history.proofs.turn.wait_for_turn.Goals as goal

pub fetch_add-ticket-requires : goal.fetch_add-ticket-requires
fetch_add-ticket-requires g c = (search rules, search rules, draws_at _ _ _ _ _ _ c.requires.idle.1 c.requires.idle.2)

pub load-requires : goal.load-requires
load-requires g c = let waits = c.loop.invariant.2 in (search rules, search rules, looks_at _ _ _ _ _ waits.0 _ g.J.Telling.tells c.requires.telling (ap (λ v. v.stage) waits.1))

pub returns-then-load-ticket-clause-told : goal.returns-then-load-ticket-clause-told
returns-then-load-ticket-clause-told g c =
    let waits = c.loop.invariant.2 in
    let h = (c.load.ensures.2 waits.0 (ap (λ v. v.stage) waits.1)).0 (c.if-load-ticket.true ∙ waits.2) in
    let did = came g.J.Telling.tells c.args.place.now.me.0 waits.0 _ _ waits.1 c.loop.invariant.1 h in
    (did.book, did.hand, did.told)
