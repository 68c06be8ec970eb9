use Rattle.std.proofs.Common.{false}
use Rattle.ruled_history.specs.declared.board.Stage.TheVariants.{Idle}
use Rattle.ruled_history.specs.Seats.{Seated}
use Rattle.ruled_history.specs.Views.{at_stage}
use Rattle.ruled_history.proofs.Telling.{told_sound}
use Rattle.ruled_history.proofs.shared.SharedDeskDesk.look.Goals as goal

pub returns-clause-sound : goal.returns-clause-sound
returns-clause-sound g c =
    let key = c.self.inside.board.now.table.shared.key in
    let desk : Seated g.row.S.Denot = record { opening = key.opening.value; metered = key.metered; holds = false; seat = record { registry = c.end_turn.new.place.table_id; knows = at_stage Idle c.end_turn.new.place.me.0 } } in
    told_sound g.S.Shelf.kept g.S.Shelf.held desk c.end_turn.ensures.knows
