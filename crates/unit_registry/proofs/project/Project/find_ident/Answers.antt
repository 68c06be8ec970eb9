use Rattle.std.proofs.Common.{ap, ◌∙◌}
use Rattle.unit_registry.specs.Projects.{ProjectView, find_by, own_ident}
use Rattle.unit_registry.proofs.Found.{find_by-bound}
use Rattle.unit_registry.proofs.project.Project.find_ident.Goals as goal

pub returns-clause-bound : goal.returns-clause-bound
returns-clause-bound c = find_by-bound own_ident c.args.self.now.units c.args.ident.now c.find.result
    (c.find.ensures ∙ (c.self.invariant.ident_numbers c.args.ident.now ∙ ap (λ (p : ProjectView). find_by own_ident p.units c.args.ident.now) c.self.view_is))
