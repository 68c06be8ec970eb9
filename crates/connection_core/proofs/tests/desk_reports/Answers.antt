use Rattle.std.proofs.Common.{◌≡◌, refl, sym, ap, subst, ◌∙◌, arith}
use Rattle.registry_core.specs.Ledgers.{open_in, done_in}
use Rattle.connection_core.proofs.tests.desk_reports.Goals as goal

pub session_reports-requires : goal.session_reports-requires
session_reports-requires g c =
    let ledger = ap (λ b. b.ledger) c.new-desk.ensures.book ∙ c.requires.anew in
    let opened : open_in c.new-desk.result.book.ledger ≡ 0 = ap open_in ledger in
    let dones : done_in c.new-desk.result.book.ledger ≡ 0 = ap done_in ledger in
    let share = ap (λ l. l.workers) ledger in
    record {
      fits = subst (λ b. g.S.Shelf.fits (g.S.Shelf.held b.shelf) 0 tt) (sym c.new-desk.ensures.book) c.requires.fits;
      worker = omega (arith, opened, dones, share);
      room = refl;
      project = sym (ap (λ l. l.project) ledger);
      unit = c.requires.unit;
    }
