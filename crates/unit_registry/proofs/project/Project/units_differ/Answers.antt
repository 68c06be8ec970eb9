use Rattle.std.proofs.Common.{subst}
use Rattle.unit_registry.specs.Projects.{ProjectView}
use Rattle.unit_registry.specs.Kept.{IsKept}
use Rattle.unit_registry.proofs.Keeping.{idents_differ, names_differ, names_fit}
use Rattle.unit_registry.proofs.project.Project.units_differ.Goals as goal

pub returns-clause-names : goal.returns-clause-names
returns-clause-names c = names_differ c.args.self.now c.self.inside.names c.self.inside.idents (subst (λ (p : ProjectView). IsKept p.units c.self.inside.names c.self.inside.idents) c.self.view_is c.self.invariant)

pub returns-clause-idents : goal.returns-clause-idents
returns-clause-idents c = idents_differ c.args.self.now c.self.inside.names c.self.inside.idents (subst (λ (p : ProjectView). IsKept p.units c.self.inside.names c.self.inside.idents) c.self.view_is c.self.invariant)

pub returns-clause-kinds : goal.returns-clause-kinds
returns-clause-kinds c = names_fit c.args.self.now c.self.inside.names c.self.inside.idents (subst (λ (p : ProjectView). IsKept p.units c.self.inside.names c.self.inside.idents) c.self.view_is c.self.invariant)
