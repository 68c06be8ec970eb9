use Rattle.std.proofs.Common.{ℕ, refl, ap, subst}
use Rattle.unit_registry.specs.declared.act.Act.TheVariants.{Done}
use Rattle.registry_core.specs.Ledgers.{entry}
use Rattle.registry_core.specs.Desks.{Adds}
use Rattle.registry_core.specs.Alone.{Alone, told_alone}
use Rattle.registry_core.proofs.Alone.{keeps_entry, adds, is_sound}
use Rattle.registry_core.proofs.solo.SoloDeskDesk.done.Goals as goal

pub invariant_of-self : goal.invariant_of-self
invariant_of-self g c =
    keeps_entry g.S.Shelf.kept g.S.Shelf.held c.self.inside.opening.value c.self.inside.book c.done.new.self (entry 4294967295 Done) refl c.self.invariant c.done.ensures.done c.done.ensures.shelf

pub returns-clause-done : goal.returns-clause-done
returns-clause-done g c =
    subst (λ (was : Alone _). (place : ℕ) × Adds (told_alone g.S.Shelf.kept g.S.Shelf.held was) (entry 4294967295 Done) place (told_alone g.S.Shelf.kept g.S.Shelf.held (record { opening = c.self.inside.opening.value; book = c.done.new.self }))) c.self.view_is (adds g.S.Shelf.kept g.S.Shelf.held c.self.inside.opening.value c.self.inside.book c.done.new.self (entry 4294967295 Done) (ap g.S.Shelf.held c.done.ensures.shelf) c.done.ensures.done)

pub returns-clause-sound : goal.returns-clause-sound
returns-clause-sound g c =
    is_sound g.S.Shelf.kept g.S.Shelf.held c.self.inside.opening.value c.done.new.self c.is_legal.ensures.legal
