use Rattle.std.proofs.Common.{ℕ, ap, subst}
use Rattle.registry_core.specs.Ledgers.{entry, leaving}
use Rattle.registry_core.specs.Desks.{Adds}
use Rattle.registry_core.specs.Alone.{Alone, told_alone}
use Rattle.registry_core.proofs.Alone.{keeps_entry, adds, is_sound}
use Rattle.registry_core.proofs.Keeping.{leaving_stores}
use Rattle.registry_core.proofs.solo.SoloDeskDesk.leave.Goals as goal

pub invariant_of-self : goal.invariant_of-self
invariant_of-self g c =
    keeps_entry g.S.Shelf.kept g.S.Shelf.held c.self.inside.opening.value c.self.inside.book c.leave.new.self (entry c.args.conn (leaving c.args.how)) (leaving_stores c.args.how) c.self.invariant c.leave.ensures.left c.leave.ensures.shelf

pub returns-clause-left : goal.returns-clause-left
returns-clause-left g c =
    subst (λ (was : Alone _). (place : ℕ) × Adds (told_alone g.S.Shelf.kept g.S.Shelf.held was) (entry c.args.conn (leaving c.args.how)) place (told_alone g.S.Shelf.kept g.S.Shelf.held (record { opening = c.self.inside.opening.value; book = c.leave.new.self }))) c.self.view_is (adds g.S.Shelf.kept g.S.Shelf.held c.self.inside.opening.value c.self.inside.book c.leave.new.self (entry c.args.conn (leaving c.args.how)) (ap g.S.Shelf.held c.leave.ensures.shelf) c.leave.ensures.left)

pub returns-clause-sound : goal.returns-clause-sound
returns-clause-sound g c =
    is_sound g.S.Shelf.kept g.S.Shelf.held c.self.inside.opening.value c.leave.new.self c.is_legal.ensures.legal
