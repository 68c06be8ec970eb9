use Rattle.std.proofs.Common.{◌≡◌, ℕ, List, ◌≤◌, ◌+◌, ◌-◌, ◌∙◌, length, ap, subst, arith, rules}
use Rattle.unit_registry.specs.Projects.{ProjectView}
use Rattle.histories.specs.declared.answered.Answered.{Answered}
use Rattle.histories.specs.declared.entry.Entry.{Entry}
use Rattle.histories.specs.Answered.{open_count, done_count}
use Rattle.registry_core.specs.Ledgers.{LedgerView, IsLedger, reserved_in, open_in, done_in}
use Rattle.registry_core.proofs.Ready.{workers_in, fits_in}
use Rattle.registry_core.proofs.ledger.Ledger.room_taken.Goals as goal

abbrev made : ProjectView → ℕ → ℕ → List Entry → LedgerView
made project workers limit entries = record { project = project; workers = workers; limit = limit; entries = entries }

pub overflow_cast-result : goal.overflow_cast-result
overflow_cast-result c =
    let i = c.self.inside in
    let b = made i.tables.project i.workers i.limit i.entries.items in
    let l : IsLedger b = record { legal = c.self.invariant.legal; each = c.self.invariant.each; some = c.self.invariant.some; few = c.self.invariant.few; small = c.self.invariant.small } in
    let f = fits_in b l in
    let m = c.self.invariant.small in
    search rules

pub overflow_sub-result : goal.overflow_sub-result
overflow_sub-result c =
    let i = c.self.inside in
    let b = made i.tables.project i.workers i.limit i.entries.items in
    let l : IsLedger b = record { legal = c.self.invariant.legal; each = c.self.invariant.each; some = c.self.invariant.some; few = c.self.invariant.few; small = c.self.invariant.small } in
    let s = workers_in b l in
    let d : c.done_count.result ≡ done_in b = c.done_count.ensures.count ∙ ap (λ (a : List Answered). done_count a) c.self.invariant.is_answered in
    omega arith

pub returns-clause-reserved : goal.returns-clause-reserved
returns-clause-reserved c =
    let i = c.self.inside in
    let b = made i.tables.project i.workers i.limit i.entries.items in
    let l : IsLedger b = record { legal = c.self.invariant.legal; each = c.self.invariant.each; some = c.self.invariant.some; few = c.self.invariant.few; small = c.self.invariant.small } in
    let s = workers_in b l in
    let d : c.done_count.result ≡ done_in b = c.done_count.ensures.count ∙ ap (λ (a : List Answered). done_count a) c.self.invariant.is_answered in
    let o : c.open_count.result ≡ open_in b = c.open_count.ensures.count ∙ ap (λ (a : List Answered). open_count a) c.self.invariant.is_answered in
    let r : c.open_count.result + (i.workers - c.done_count.result) ≡ reserved_in b = omega arith in
    r ∙ ap reserved_in c.self.view_is

pub returns-clause-fits : goal.returns-clause-fits
returns-clause-fits c =
    let i = c.self.inside in
    let b = made i.tables.project i.workers i.limit i.entries.items in
    let l : IsLedger b = record { legal = c.self.invariant.legal; each = c.self.invariant.each; some = c.self.invariant.some; few = c.self.invariant.few; small = c.self.invariant.small } in
    let f = fits_in b l in
    let s = workers_in b l in
    let d : c.done_count.result ≡ done_in b = c.done_count.ensures.count ∙ ap (λ (a : List Answered). done_count a) c.self.invariant.is_answered in
    let o : c.open_count.result ≡ open_in b = c.open_count.ensures.count ∙ ap (λ (a : List Answered). open_count a) c.self.invariant.is_answered in
    let m : c.len.result ≡ length i.entries.items = search rules in
    subst (λ (k : LedgerView). c.len.result + (c.open_count.result + (i.workers - c.done_count.result)) ≤ k.limit) c.self.view_is (omega arith)
