use Rattle.std.proofs.Common.{◌≡◌, is_some, IfOk, subst}
use Rattle.registry_core.specs.Desks.{IsSound, is_kept}
use Rattle.registry_core.specs.Alone.{Alone, told_alone}
use Rattle.registry_core.proofs.Alone.{looks, is_sound, fetched}
use Rattle.registry_core.proofs.solo.SoloDeskDesk.fetch.Goals as goal

pub returns-clause-looked : goal.returns-clause-looked
returns-clause-looked g c =
    looks g.S.Shelf.kept g.S.Shelf.held c.args.self.now.opening c.args.self.now.book

pub returns-clause-kept : goal.returns-clause-kept
returns-clause-kept g c =
    subst (λ (was : Alone _). IfOk c.fetch.result (λ item. is_some item ≡ is_kept (told_alone g.S.Shelf.kept g.S.Shelf.held was) c.args.unit)) c.self.view_is (fetched c.fetch.result (g.S.Shelf.kept c.self.inside.book.shelf c.args.unit) _ c.fetch.ensures.kept (c.self.invariant.kept c.args.unit))

pub returns-clause-sound : goal.returns-clause-sound
returns-clause-sound g c =
    subst (λ (was : Alone _). IsSound (told_alone g.S.Shelf.kept g.S.Shelf.held was)) c.self.view_is (is_sound g.S.Shelf.kept g.S.Shelf.held c.self.inside.opening.value c.self.inside.book c.is_legal.ensures.legal)
