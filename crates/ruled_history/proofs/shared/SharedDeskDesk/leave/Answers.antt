use Rattle.std.proofs.Common.{rules, false, ◌||◌, ◌≡◌, ◌≤◌, length, Contains, refl, sym, ap, subst, ◌∙◌, true}
use Rattle.std.specs.Prelude.{Option}
use Rattle.atomic_table.specs.Table.{Me}
use Rattle.registry_core.specs.Books.{BookView}
use Rattle.histories.specs.declared.entry.Entry.{Entry}
use Rattle.histories.specs.Counts.{Effect, effect_of}
use Rattle.registry_core.specs.Ledgers.{entry, leaving, is_open_in}
use Rattle.registry_core.specs.Desks.{Adds}
use Rattle.ruled_history.specs.declared.board.Stage.TheVariants.{Idle}
use Rattle.ruled_history.specs.declared.board.View.{View}
use Rattle.ruled_history.specs.Runs.{Has}
use Rattle.ruled_history.specs.Seats.{Seated, told_seated}
use Rattle.ruled_history.specs.Views.{with_entries, at_stage, adds}
use Rattle.ruled_history.proofs.Counts.{has_contained}
use Rattle.ruled_history.proofs.Histories.{goes}
use Rattle.ruled_history.proofs.Telling.{knowing, told_sound, told_adds, one_open, leaving_goes}
use Rattle.ruled_history.proofs.shared.SharedDeskDesk.leave.Goals as goal

pub returns-clause-left : goal.returns-clause-left
returns-clause-left g c =
    let key = c.self.inside.board.now.table.shared.key in
    let served : View = c.begin_turn.new.place.me.0 in
    let before : Seated g.row.S.Denot = record { opening = key.opening.value; metered = key.metered; holds = c.self.inside.keeps || c.self.inside.serving; seat = record { registry = c.self.inside.place.table_id; knows = at_stage Idle c.self.inside.place.me.0 } } in
    let after : Seated g.row.S.Denot = record { opening = key.opening.value; metered = key.metered; holds = false; seat = record { registry = c.end_turn.new.place.table_id; knows = at_stage Idle c.end_turn.new.place.me.0 } } in
    let name : c.end_turn.new.place.table_id ≡ c.self.inside.place.table_id = c.end_turn.ensures.seat.0 ∙ (c.has_answered-heard.ensures.seat.0 ∙ (c.leave_served.ensures.seat.0 ∙ c.begin_turn.ensures.seat.0)) in
    let view : View = c.self.inside.place.me.0 in
    let own : Contains view.connections c.args.conn = search rules in
    let there : is_open_in (with_entries key.opening.value.ledger view.seen) c.args.conn ≡ true = search rules in
    let has : Has c.args.conn served.connections = subst (λ (v : View). Has c.args.conn v.connections) (sym c.begin_turn.ensures.serving.1) (has_contained c.args.conn view.connections own) in
    let one : 1 ≤ served.opened = one_open key.opening.value.ledger served c.args.conn c.begin_turn.ensures.served.told.knows has (c.begin_turn.ensures.still c.args.conn has ∙ there) in
    let some_open : goes (effect_of (leaving c.args.how)) ≤ served.opened = subst (λ (x : Effect). goes x ≤ served.opened) (sym (leaving_goes c.args.how)) one in
    let newest : Entry = entry c.args.conn (leaving c.args.how) in
    let knows : at_stage Idle c.end_turn.new.place.me.0 ≡ at_stage Idle (adds newest served) = c.end_turn.ensures.same ∙ (ap (λ (m : Me (Option (BookView g.row.S.Denot)) View). at_stage Idle m.0) c.has_answered-heard.ensures.same ∙ ap (λ (v : View). at_stage Idle v) c.leave_served.ensures.left) in
    let now : after ≡ knowing before false (at_stage Idle (adds newest served)) = λ i. record { opening = key.opening.value; metered = key.metered; holds = false; seat = record { registry = name i; knows = knows i } } in (
      length served.seen,
      subst (λ (d : Seated g.row.S.Denot). Adds (told_seated g.S.Shelf.kept g.S.Shelf.held d) newest (length served.seen) (told_seated g.S.Shelf.kept g.S.Shelf.held after)) c.self.view_is
          (told_adds g.S.Shelf.kept g.S.Shelf.held before after served c.begin_turn.ensures.serving c.begin_turn.ensures.seen false newest (length served.seen) refl some_open now),
    )

pub returns-clause-sound : goal.returns-clause-sound
returns-clause-sound g c =
    let key = c.self.inside.board.now.table.shared.key in
    let desk : Seated g.row.S.Denot = record { opening = key.opening.value; metered = key.metered; holds = false; seat = record { registry = c.end_turn.new.place.table_id; knows = at_stage Idle c.end_turn.new.place.me.0 } } in
    told_sound g.S.Shelf.kept g.S.Shelf.held desk c.end_turn.ensures.knows
