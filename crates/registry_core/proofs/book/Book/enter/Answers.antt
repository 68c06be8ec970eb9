use Rattle.std.proofs.Common.{◌≡◌, ◌∙◌, ◌&&◌, ℕ, is_some, length, sym, ap, subst}
use Rattle.std.proofs.lemmas.Option.{IfSome_then}
use Rattle.std.specs.Prelude.{if◌then◌else◌}
use Rattle.unit_registry.specs.Acts.{names}
use Rattle.histories.specs.declared.entry.Entry.{Entry}
use Rattle.histories.specs.Answered.{stored_unit}
use Rattle.histories.specs.Noted.{answer_in}
use Rattle.histories.specs.Histories.{with_said}
use Rattle.registry_core.specs.Ledgers.{LedgerView, with_entry, noted_in, said_to, reply_at}
use Rattle.registry_core.specs.Books.{BookView, KeepsItems}
use Rattle.registry_core.specs.Shelves.{is_done_answer, kept_after}
use Rattle.registry_core.proofs.Keeping.{accepted_is, free_of, none_of, own_answer, keeps_more}
use Rattle.registry_core.proofs.book.Book.enter.Goals as goal

pub keep-requires-clause-free : goal.keep-requires-clause-free
keep-requires-clause-free g c accepted =
    let i = c.self.inside in
    let newest : Entry = c.args.newest in
    let appended : c.enter-place.new.self ≡ with_entry i.ledger newest = c.enter-place.ensures.entered.appended in
    let place : c.enter-place.result ≡ length i.ledger.entries = c.enter-place.ensures.place in
    let done : c.is_done_answer-accepted.result ≡ is_done_answer (answer_in (said_to i.ledger c.args.newest.conn c.args.newest.act)) = c.is_done_answer-accepted.ensures ∙ ap is_done_answer (c.look-reply.ensures ∙ (λ j. reply_at (appended j) (place j)) ∙ own_answer i.ledger c.args.newest.conn c.args.newest.act) in
    IfSome_then (stored_unit c.args.newest.act) (free_of i.ledger (g.S.Shelf.units i.shelf) (λ unit. is_some (g.S.Shelf.kept i.shelf unit)) c.self.invariant c.args.newest.conn c.args.newest.act (sym done ∙ accepted)) (λ unit none. none_of (g.S.Shelf.kept i.shelf unit) none)

pub invariant_of-self : goal.invariant_of-self
invariant_of-self g c =
    let i = c.self.inside in
    let newest : Entry = c.args.newest in
    let appended : c.enter-place.new.self ≡ with_entry i.ledger newest = c.enter-place.ensures.entered.appended in
    let place : c.enter-place.result ≡ length i.ledger.entries = c.enter-place.ensures.place in
    let done : c.is_done_answer-accepted.result ≡ is_done_answer (answer_in (said_to i.ledger c.args.newest.conn c.args.newest.act)) = c.is_done_answer-accepted.ensures ∙ ap is_done_answer (c.look-reply.ensures ∙ (λ j. reply_at (appended j) (place j)) ∙ own_answer i.ledger c.args.newest.conn c.args.newest.act) in
    let kept : (unit : ℕ) → g.S.Shelf.kept c.keep.new.shelf unit ≡ kept_after (g.S.Shelf.kept i.shelf) (with_said newest (said_to i.ledger c.args.newest.conn c.args.newest.act)) c.args.item unit = λ unit. c.keep.ensures.kept unit ∙ ap (λ b. if b then c.args.item else g.S.Shelf.kept i.shelf unit) (ap (λ b. b && names (stored_unit c.args.newest.act) unit) done ∙ accepted_is i.ledger.project (noted_in i.ledger) c.args.newest.conn c.args.newest.act unit) in
    subst (λ (l : LedgerView). KeepsItems l (g.S.Shelf.units c.keep.new.shelf) (λ unit. is_some (g.S.Shelf.kept c.keep.new.shelf unit))) (sym appended)
    (subst (λ (n : ℕ). KeepsItems (with_entry i.ledger newest) n (λ unit. is_some (g.S.Shelf.kept c.keep.new.shelf unit))) (sym c.keep.ensures.units)
    (keeps_more (g.S.Shelf.fits (g.S.Shelf.held c.args.self.now.shelf)) i.ledger newest (g.S.Shelf.units i.shelf) (g.S.Shelf.kept i.shelf) (g.S.Shelf.kept c.keep.new.shelf) c.args.item c.self.invariant c.requires.item kept))

pub returns-clause-kept : goal.returns-clause-kept
returns-clause-kept g c unit =
    let i = c.self.inside in
    let newest : Entry = c.args.newest in
    let appended : c.enter-place.new.self ≡ with_entry i.ledger newest = c.enter-place.ensures.entered.appended in
    let place : c.enter-place.result ≡ length i.ledger.entries = c.enter-place.ensures.place in
    let done : c.is_done_answer-accepted.result ≡ is_done_answer (answer_in (said_to i.ledger c.args.newest.conn c.args.newest.act)) = c.is_done_answer-accepted.ensures ∙ ap is_done_answer (c.look-reply.ensures ∙ (λ j. reply_at (appended j) (place j)) ∙ own_answer i.ledger c.args.newest.conn c.args.newest.act) in
    let kept : (unit : ℕ) → g.S.Shelf.kept c.keep.new.shelf unit ≡ kept_after (g.S.Shelf.kept i.shelf) (with_said newest (said_to i.ledger c.args.newest.conn c.args.newest.act)) c.args.item unit = λ unit. c.keep.ensures.kept unit ∙ ap (λ b. if b then c.args.item else g.S.Shelf.kept i.shelf unit) (ap (λ b. b && names (stored_unit c.args.newest.act) unit) done ∙ accepted_is i.ledger.project (noted_in i.ledger) c.args.newest.conn c.args.newest.act unit) in
    kept unit ∙ ap (λ (b : BookView _). kept_after (g.S.Shelf.kept b.shelf) (with_said newest (said_to b.ledger c.args.newest.conn c.args.newest.act)) c.args.item unit) c.self.view_is
