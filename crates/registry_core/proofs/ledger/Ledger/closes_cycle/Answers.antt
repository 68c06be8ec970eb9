use Rattle.std.proofs.Common.{List, ◌∙◌, ap}
use Rattle.histories.specs.declared.answered.Answered.{Answered}
use Rattle.histories.specs.Answered.{who}
use Rattle.histories.specs.Answers.{closes_cycle, leads_to_held}
use Rattle.histories.specs.Noted.{Noted, waits}
use Rattle.histories.specs.Histories.{noted_of}
use Rattle.registry_core.specs.Ledgers.{LedgerView, noted_in}
use Rattle.registry_core.proofs.Circles.{circle_is}
use Rattle.registry_core.proofs.ledger.Ledger.closes_cycle.Goals as goal

pub returns-in-Holder-clause-circle : goal.returns-in-Holder-clause-circle
returns-in-Holder-clause-circle c =
    let i = c.self.inside in
    let noted : List Noted = noted_of i.tables.project i.workers i.entries.items in
    circle_is i.tables.project noted i.imports.waiting c.args.unit c.in-Holder.held c.reaches.result c.self.invariant.is_waiting c.reaches.ensures.walk
    ∙ ap (λ w. leads_to_held (waits i.tables.project noted) c.args.unit w) (c.in-Holder.ensures.who ∙ ap (λ (a : List Answered). who a c.args.conn) c.self.invariant.is_answered)
    ∙ ap (λ (b : LedgerView). closes_cycle b.project (noted_in b) c.args.conn c.args.unit) c.self.view_is
