use Rattle.std.proofs.Common.{ap, ◌∙◌}
use Rattle.std.specs.Prelude.{Option}
use Rattle.atomic_table.specs.Table.{Me}
use Rattle.registry_core.specs.Books.{BookView}
use Rattle.ruled_history.specs.declared.board.View.{View}
use Rattle.ruled_history.proofs.Turns.{in_turn}
use Rattle.ruled_history.proofs.turn.record.Goals as goal

pub returns-clause-served : goal.returns-clause-served
returns-clause-served g c =
    let told = c.record_told.ensures.told in
    in_turn _ _ told.0 c.record_told.new.place.me.0.seen c.requires.entering.ticket _ (ap (λ (m : Me (Option (BookView g.row.S.Denot)) View). m.0.stage) c.record_told.ensures.added ∙ c.requires.entering.serves) told.1 told.2
