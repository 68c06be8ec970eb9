use Rattle.std.proofs.Common.{◌≤◌, ℕ, IfOk, IfErr, sym, ap, subst}
use Rattle.unit_registry.specs.declared.act.Act.TheVariants.{Open}
use Rattle.registry_core.specs.Ledgers.{entry}
use Rattle.registry_core.specs.Desks.{Adds, Looks}
use Rattle.registry_core.specs.Alone.{Alone, told_alone}
use Rattle.registry_core.proofs.Alone.{keeps_opened, opened_adds, refused_looks, refused_full, is_sound, roomy}
use Rattle.registry_core.proofs.solo.SoloDeskDesk.open.Goals as goal

pub invariant_of-self : goal.invariant_of-self
invariant_of-self g c =
    keeps_opened g.S.Shelf.kept g.S.Shelf.held c.self.inside.opening.value c.open-opened.result c.self.inside.book c.open-opened.new.self c.self.invariant c.open-opened.ensures.entered c.open-opened.ensures.same c.open-opened.ensures.shelf

pub returns-clause-opened : goal.returns-clause-opened
returns-clause-opened g c =
    subst (λ (was : Alone _). IfOk c.open-opened.result (λ conn. (place : ℕ) × Adds (told_alone g.S.Shelf.kept g.S.Shelf.held was) (entry conn Open) place (told_alone g.S.Shelf.kept g.S.Shelf.held (record { opening = c.self.inside.opening.value; book = c.open-opened.new.self })))) c.self.view_is (opened_adds g.S.Shelf.kept g.S.Shelf.held c.self.inside.opening.value c.open-opened.result c.self.inside.book c.open-opened.new.self (ap g.S.Shelf.held c.open-opened.ensures.shelf) c.open-opened.ensures.entered)

pub returns-clause-looked : goal.returns-clause-looked
returns-clause-looked g c =
    subst (λ (was : Alone _). IfErr c.open-opened.result (λ full. Looks (told_alone g.S.Shelf.kept g.S.Shelf.held was) (told_alone g.S.Shelf.kept g.S.Shelf.held (record { opening = c.self.inside.opening.value; book = c.open-opened.new.self })))) c.self.view_is (refused_looks g.S.Shelf.kept g.S.Shelf.held c.self.inside.opening.value c.open-opened.result c.self.inside.book c.open-opened.new.self c.open-opened.ensures.same)

pub returns-clause-full : goal.returns-clause-full
returns-clause-full g c =
    refused_full g.S.Shelf.kept g.S.Shelf.held c.self.inside.opening.value c.open-opened.result c.self.inside.book c.open-opened.new.self 1 c.open-opened.ensures.same c.open-opened.ensures.full

pub returns-clause-roomy : goal.returns-clause-roomy
returns-clause-roomy g c room =
    roomy c.open-opened.result c.self.inside.book.ledger 1 c.open-opened.ensures.full (subst (λ (was : Alone _). 2 ≤ (told_alone g.S.Shelf.kept g.S.Shelf.held was).room) (sym c.self.view_is) room)

pub returns-clause-sound : goal.returns-clause-sound
returns-clause-sound g c =
    is_sound g.S.Shelf.kept g.S.Shelf.held c.self.inside.opening.value c.open-opened.new.self c.is_legal.ensures.legal
