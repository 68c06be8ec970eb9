use Rattle.connection_core.proofs.Enterings.{block_ends, block_part, ok_places, pause_room, same_metered}
use Rattle.connection_core.proofs.entering.enter_and_pause.Goals as goal

pub enter_pause-requires-clause-room : goal.enter_pause-requires-clause-room
enter_pause-requires-clause-room g c = λ metered.
    let entered = c.in-Ok.ensures.entered in
    pause_room c.args.conn _ c.args.asked.now _ _ _ entered.1 (c.requires.room (same_metered c.args.conn _ _ _ _ entered.1 metered))

pub returns-in-Ok-clause-entered : goal.returns-in-Ok-clause-entered
returns-in-Ok-clause-entered g c =
    let entered = c.in-Ok.ensures.entered in
    (block_ends _ c.args.conn _ c.args.asked.now _ _ _ _ _ _ entered.1 entered.2 c.in-Ok.ensures.serving c.enter_pause.ensures.sound c.enter_pause.ensures.entered c.enter_pause.ensures.looked c.enter_pause.ensures.full).0

pub returns-in-Ok-clause-serving : goal.returns-in-Ok-clause-serving
returns-in-Ok-clause-serving g c =
    let entered = c.in-Ok.ensures.entered in
    (block_ends _ c.args.conn _ c.args.asked.now _ _ _ _ _ _ entered.1 entered.2 c.in-Ok.ensures.serving c.enter_pause.ensures.sound c.enter_pause.ensures.entered c.enter_pause.ensures.looked c.enter_pause.ensures.full).1

pub returns-in-Ok-clause-roomy : goal.returns-in-Ok-clause-roomy
returns-in-Ok-clause-roomy g c = λ room. c.enter_pause.ensures.roomy (pause_room c.args.conn _ c.args.asked.now _ _ _ c.in-Ok.ensures.entered.1 room)

pub returns-in-Err-clause-entered : goal.returns-in-Err-clause-entered
returns-in-Err-clause-entered g c =
    let entered = c.in-Err.ensures.entered in
    (entered.0, block_part c.args.conn _ c.args.asked.now _ (g.D.Desk.tells c.args.desk.now) _ _ entered.1, entered.2)

pub returns-in-Ok-clause-count : goal.returns-in-Ok-clause-count
returns-in-Ok-clause-count g c = ok_places _ c.args.asked.now _ _ c.in-Ok.ensures.count
