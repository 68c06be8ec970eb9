use Rattle.std.proofs.Common.{sym, ap, subst}
use Rattle.std.specs.Prelude.{Option}
use Rattle.atomic_table.specs.Table.{Me}
use Rattle.registry_core.specs.Books.{BookView}
use Rattle.ruled_history.specs.declared.board.Stage.TheVariants.{Idle}
use Rattle.ruled_history.specs.declared.board.View.{View}
use Rattle.ruled_history.specs.Views.{at_stage, Knows}
use Rattle.ruled_history.proofs.Telling.{known_at}
use Rattle.ruled_history.proofs.shared.end_turn.Goals as goal

pub returns-then-rings-clause-knows : goal.returns-then-rings-clause-knows
returns-then-rings-clause-knows g c =
    let ledger = c.args.board.now.table.shared.key.opening.value.ledger in
    subst (Knows ledger) (sym (ap (λ (m : Me (Option (BookView g.row.S.Denot)) View). at_stage Idle m.0) c.pass_turn.ensures.out)) (known_at ledger Idle c.args.place.now.me.0 c.requires.served.told.knows)

pub returns-else-rings-clause-knows : goal.returns-else-rings-clause-knows
returns-else-rings-clause-knows g c =
    let ledger = c.args.board.now.table.shared.key.opening.value.ledger in
    subst (Knows ledger) (sym (ap (λ (m : Me (Option (BookView g.row.S.Denot)) View). at_stage Idle m.0) c.pass_turn.ensures.out)) (known_at ledger Idle c.args.place.now.me.0 c.requires.served.told.knows)
