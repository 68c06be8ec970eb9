use Rattle.std.proofs.Common.{IfOk, IfSome, subst}
use Rattle.registry_core.specs.Books.{BookView}
use Rattle.registry_core.proofs.Keeping.{copied_fits}
use Rattle.registry_core.proofs.book.Book.fetch.Goals as goal

pub returns-clause-fits : goal.returns-clause-fits
returns-clause-fits g c =
    subst (λ (b : BookView _). IfOk c.copy.result (λ item. IfSome item (λ item. g.S.Shelf.fits (g.S.Shelf.held b.shelf) c.args.unit item))) c.self.view_is
    (copied_fits c.copy.result (g.S.Shelf.kept c.self.inside.shelf c.args.unit) (g.S.Shelf.fits (g.S.Shelf.held c.self.inside.shelf) c.args.unit) c.copy.ensures (λ item kept. g.met.S.Shelf.kept_fits c.self.inside.shelf c.args.unit item kept))
