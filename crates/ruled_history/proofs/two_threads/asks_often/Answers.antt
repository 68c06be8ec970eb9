use Rattle.std.proofs.Common.{rules, ◌+◌, ℕ, List, IsTrue, sym, subst}
use Rattle.ruled_history.specs.Examples.{Asked}
use Rattle.ruled_history.proofs.Rounds.{asked_more}
use Rattle.ruled_history.proofs.two_threads.asks_often.Goals as goal

pub loop-round-preserved : goal.loop-round-preserved
loop-round-preserved g c =
    let first = g.D.Desk.tells c.args.desk.now in
    let second = g.D.Desk.tells c.loop-round.desk in
    let third = g.D.Desk.tells c.asks_once.new.desk in
    let asks : IsTrue c.asks_once.result = search rules in
    let more = c.asks_once.ensures asks in
    subst (λ (told : List ℕ). Asked c.args.conn (c.loop-round._round + 1) told first third) (sym more.1) (asked_more first second third c.args.conn c.loop-round._round more.0 c.loop-round.places.items c.loop-round.invariant more.2)
