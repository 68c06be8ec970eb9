use Rattle.std.proofs.Common.{ap, subst, ◌∙◌}
use Rattle.unit_registry.specs.Projects.{ProjectView, find_by, own_name}
use Rattle.unit_registry.specs.Kept.{IsKept}
use Rattle.unit_registry.proofs.Keeping.{found_named}
use Rattle.unit_registry.proofs.Found.{find_by-bound}
use Rattle.unit_registry.proofs.project.Project.find_unit.Goals as goal

pub returns-clause-bound : goal.returns-clause-bound
returns-clause-bound c = find_by-bound own_name c.args.self.now.units c.args.name.now c.find.result
    (c.find.ensures ∙ (c.self.invariant.name_numbers c.args.name.now ∙ ap (λ (p : ProjectView). find_by own_name p.units c.args.name.now) c.self.view_is))

pub returns-clause-named : goal.returns-clause-named
returns-clause-named c = found_named c.args.self.now c.self.inside.names c.self.inside.idents
    (subst (λ (p : ProjectView). IsKept p.units c.self.inside.names c.self.inside.idents) c.self.view_is c.self.invariant)
    c.args.name.now c.find.result
    (c.find.ensures ∙ (c.self.invariant.name_numbers c.args.name.now ∙ ap (λ (p : ProjectView). find_by own_name p.units c.args.name.now) c.self.view_is))
