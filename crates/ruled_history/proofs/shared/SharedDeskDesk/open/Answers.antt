use Rattle.std.proofs.Common.{false, ◌||◌, ◌≡◌, length, refl, ap, subst, ◌∙◌, arith}
use Rattle.std.specs.Prelude.{Option}
use Rattle.atomic_table.specs.Table.{Me}
use Rattle.registry_core.specs.Books.{BookView}
use Rattle.unit_registry.specs.declared.act.Act.TheVariants.{Open}
use Rattle.histories.specs.declared.entry.Entry.{Entry}
use Rattle.registry_core.specs.Ledgers.{entry}
use Rattle.registry_core.specs.Desks.{Adds}
use Rattle.ruled_history.specs.declared.board.Stage.TheVariants.{Idle}
use Rattle.ruled_history.specs.declared.board.View.{View}
use Rattle.ruled_history.specs.Seats.{Seated, told_seated}
use Rattle.ruled_history.specs.Views.{at_stage, adds}
use Rattle.ruled_history.proofs.Telling.{knowing, told_sound, told_adds, if_ok}
use Rattle.ruled_history.proofs.shared.SharedDeskDesk.open.Goals as goal

pub returns-clause-opened : goal.returns-clause-opened
returns-clause-opened g c =
    let key = c.self.inside.board.now.table.shared.key in
    let served : View = c.begin_turn.new.place.me.0 in
    let before : Seated g.row.S.Denot = record { opening = key.opening.value; metered = key.metered; holds = c.self.inside.keeps || c.self.inside.serving; seat = record { registry = c.self.inside.place.table_id; knows = at_stage Idle c.self.inside.place.me.0 } } in
    let after : Seated g.row.S.Denot = record { opening = key.opening.value; metered = key.metered; holds = false; seat = record { registry = c.end_turn.new.place.table_id; knows = at_stage Idle c.end_turn.new.place.me.0 } } in
    let name : c.end_turn.new.place.table_id ≡ c.self.inside.place.table_id = c.end_turn.ensures.seat.0 ∙ (c.has_answered-heard.ensures.seat.0 ∙ (c.open_served-opened.ensures.seat.0 ∙ c.begin_turn.ensures.seat.0)) in
    if_ok _ _ c.open_served-opened.result c.open_served-opened.ensures.opened (λ conn added.
    let newest : Entry = entry conn Open in
    let knows : at_stage Idle c.end_turn.new.place.me.0 ≡ at_stage Idle (adds newest served) = c.end_turn.ensures.same ∙ (ap (λ (m : Me (Option (BookView g.row.S.Denot)) View). at_stage Idle m.0) c.has_answered-heard.ensures.same ∙ ap (λ (v : View). at_stage Idle v) added) in
    let now : after ≡ knowing before false (at_stage Idle (adds newest served)) = λ i. record { opening = key.opening.value; metered = key.metered; holds = false; seat = record { registry = name i; knows = knows i } } in (
      length served.seen,
      subst (λ (d : Seated g.row.S.Denot). Adds (told_seated g.S.Shelf.kept g.S.Shelf.held d) newest (length served.seen) (told_seated g.S.Shelf.kept g.S.Shelf.held after)) c.self.view_is
          (told_adds g.S.Shelf.kept g.S.Shelf.held before after served c.begin_turn.ensures.serving c.begin_turn.ensures.seen false newest (length served.seen) refl (omega arith) now),
    ))

pub returns-clause-sound : goal.returns-clause-sound
returns-clause-sound g c =
    let key = c.self.inside.board.now.table.shared.key in
    let desk : Seated g.row.S.Denot = record { opening = key.opening.value; metered = key.metered; holds = false; seat = record { registry = c.end_turn.new.place.table_id; knows = at_stage Idle c.end_turn.new.place.me.0 } } in
    told_sound g.S.Shelf.kept g.S.Shelf.held desk c.end_turn.ensures.knows
