use Rattle.std.proofs.Common.{◌≤◌, IfOk, IfErr, sym, subst}
use Rattle.registry_core.specs.Ledgers.{entry}
use Rattle.registry_core.specs.Desks.{Adds, Looks}
use Rattle.registry_core.specs.Alone.{Alone, told_alone}
use Rattle.registry_core.proofs.Alone.{keeps_asked, asked_adds, refused_looks, refused_full, is_sound, roomy}
use Rattle.registry_core.proofs.solo.SoloDeskDesk.ask.Goals as goal

pub invariant_of-self : goal.invariant_of-self
invariant_of-self g c =
    keeps_asked g.S.Shelf.kept g.S.Shelf.held c.self.inside.opening.value (g.S.Shelf.fits (g.S.Shelf.held c.args.self.now.book.shelf)) c.ask-asked.result c.self.inside.book c.ask-asked.new.self c.args.conn c.args.act c.args.item c.self.invariant c.requires.item c.ask-asked.ensures.entered c.ask-asked.ensures.kept c.ask-asked.ensures.same

pub returns-clause-asked : goal.returns-clause-asked
returns-clause-asked g c =
    subst (λ (was : Alone _). IfOk c.ask-asked.result (λ place. Adds (told_alone g.S.Shelf.kept g.S.Shelf.held was) (entry c.args.conn c.args.act) place (told_alone g.S.Shelf.kept g.S.Shelf.held (record { opening = c.self.inside.opening.value; book = c.ask-asked.new.self })))) c.self.view_is (asked_adds g.S.Shelf.kept g.S.Shelf.held c.self.inside.opening.value c.ask-asked.result c.self.inside.book c.ask-asked.new.self c.args.conn c.args.act c.ask-asked.ensures.held c.ask-asked.ensures.place c.ask-asked.ensures.entered)

pub returns-clause-looked : goal.returns-clause-looked
returns-clause-looked g c =
    subst (λ (was : Alone _). IfErr c.ask-asked.result (λ full. Looks (told_alone g.S.Shelf.kept g.S.Shelf.held was) (told_alone g.S.Shelf.kept g.S.Shelf.held (record { opening = c.self.inside.opening.value; book = c.ask-asked.new.self })))) c.self.view_is (refused_looks g.S.Shelf.kept g.S.Shelf.held c.self.inside.opening.value c.ask-asked.result c.self.inside.book c.ask-asked.new.self c.ask-asked.ensures.same)

pub returns-clause-full : goal.returns-clause-full
returns-clause-full g c =
    refused_full g.S.Shelf.kept g.S.Shelf.held c.self.inside.opening.value c.ask-asked.result c.self.inside.book c.ask-asked.new.self 0 c.ask-asked.ensures.same c.ask-asked.ensures.full

pub returns-clause-roomy : goal.returns-clause-roomy
returns-clause-roomy g c room =
    roomy c.ask-asked.result c.self.inside.book.ledger 0 c.ask-asked.ensures.full (subst (λ (was : Alone _). 1 ≤ (told_alone g.S.Shelf.kept g.S.Shelf.held was).room) (sym c.self.view_is) room)

pub returns-clause-sound : goal.returns-clause-sound
returns-clause-sound g c =
    is_sound g.S.Shelf.kept g.S.Shelf.held c.self.inside.opening.value c.ask-asked.new.self c.is_legal.ensures.legal
