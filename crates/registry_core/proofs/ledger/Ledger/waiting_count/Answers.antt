use Rattle.std.proofs.Common.{◌∙◌, List, length, ap, arith}
use Rattle.std.proofs.lemmas.List.{length-map}
use Rattle.histories.specs.Noted.{Noted, pending}
use Rattle.histories.specs.Histories.{noted_of}
use Rattle.registry_core.specs.Ledgers.{LedgerView, IsLedger, waiting_in}
use Rattle.registry_core.specs.Standing.{waiting_of}
use Rattle.registry_core.proofs.OneMore.{waiting_few}
use Rattle.registry_core.proofs.Ready.{fits_in}
use Rattle.registry_core.proofs.ledger.Ledger.waiting_count.Goals as goal

pub waiting_count-requires : goal.waiting_count-requires
waiting_count-requires c =
    let i = c.self.inside in
    let b : LedgerView = record { project = i.tables.project; workers = i.workers; limit = i.limit; entries = i.entries.items } in
    let l : IsLedger b = record { legal = c.self.invariant.legal; each = c.self.invariant.each; some = c.self.invariant.some; few = c.self.invariant.few; small = c.self.invariant.small } in
    let few = waiting_few i.tables i.imports i.entries i.workers i.limit (noted_of i.tables.project i.workers i.entries.items) c.self.invariant in
    let fits = fits_in b l in
    let small = c.self.invariant.small in
    omega arith

pub returns : goal.returns
returns c =
    let noted : List Noted = noted_of c.self.inside.tables.project c.self.inside.workers c.self.inside.entries.items in
    c.waiting_count.ensures
    ∙ ap length c.self.invariant.is_waiting
    ∙ length-map (pending c.self.inside.tables.project noted) (waiting_of noted)
    ∙ ap waiting_in c.self.view_is
