use Rattle.std.proofs.Common.{◌≡◌, ◌<◌, length, get_or, rules}
use Rattle.unit_registry.proofs.Keeping.{short_at}
use Rattle.unit_registry.proofs.project.Project.entry.Goals as goal

pub returns-clause-short : goal.returns-clause-short
returns-clause-short c =
    let at : c.index.result.now ≡ get_or c.self.inside.units.items c.args.unit c.index.result.now = search rules in
    let within : c.args.unit < length c.self.inside.units.items = search rules in
    short_at c.self.inside.units.items c.self.inside.names c.self.inside.idents c.self.invariant c.args.unit c.index.result.now within at
