use Rattle.std.proofs.Common.{subst}
use Rattle.registry_core.specs.Desks.{IsSound}
use Rattle.registry_core.specs.Alone.{Alone, told_alone}
use Rattle.registry_core.proofs.Alone.{looks, is_sound}
use Rattle.registry_core.proofs.solo.SoloDeskDesk.look.Goals as goal

pub returns-clause-looked : goal.returns-clause-looked
returns-clause-looked g c =
    looks g.S.Shelf.kept g.S.Shelf.held c.args.self.now.opening c.args.self.now.book

pub returns-clause-sound : goal.returns-clause-sound
returns-clause-sound g c =
    subst (λ (was : Alone _). IsSound (told_alone g.S.Shelf.kept g.S.Shelf.held was)) c.self.view_is (is_sound g.S.Shelf.kept g.S.Shelf.held c.self.inside.opening.value c.self.inside.book c.is_legal.ensures.legal)
