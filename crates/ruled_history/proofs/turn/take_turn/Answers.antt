use Rattle.std.proofs.Common.{ap}
use Rattle.ruled_history.specs.declared.board.View.{View}
use Rattle.ruled_history.proofs.Turns.{in_turn}
use Rattle.ruled_history.proofs.turn.take_turn.Goals as goal

pub returns-clause-served : goal.returns-clause-served
returns-clause-served g c =
    let told = c.wait_for_turn.ensures.told in
    let serving = c.wait_for_turn.ensures.serving in
    in_turn _ _ told.0 c.args.place.now.me.0.seen serving.0 _ (ap (λ (v : View). v.stage) serving.1) told.1 told.2
