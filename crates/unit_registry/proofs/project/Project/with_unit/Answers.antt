use Rattle.std.proofs.Common.{[], ◌∷◌, ◌++◌, ap, ◌∙◌, arith}
use Rattle.unit_registry.specs.Projects.{ProjectView}
use Rattle.unit_registry.specs.Drafts.{unit_fault}
use Rattle.unit_registry.specs.Lines.{declared_by}
use Rattle.unit_registry.proofs.Keeping.{kept_with}
use Rattle.unit_registry.proofs.project.Project.with_unit.Goals as goal

pub invariant_of-result : goal.invariant_of-result
invariant_of-result c = kept_with c.self.inside.units.items c.push.new.self.items (declared_by c.args.line.now)
    c.self.inside.names c.self.inside.idents c.add.new.self c.add-2.new.self c.len-number.result
    c.self.invariant
    (ap (λ (p : ProjectView). unit_fault p.units (declared_by c.args.line.now)) c.self.view_is ∙ c.requires)
    (omega (arith, c.self.inside.units.ok.0, c.len-number.ensures))
    (c.in_ok-push.ensures.items ∙ ap (λ unit. c.self.inside.units.items ++ unit ∷ []) c.in_ok-declared.ensures)
    c.in_ok-add.ensures.ok
    c.in_ok-add-2.ensures.ok
