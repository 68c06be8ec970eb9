use Rattle.std.proofs.Common.{ap, ◌∙◌}
use Rattle.unit_registry.specs.Numbers.{number_in}
use Rattle.unit_registry.proofs.Found.{lookup-number}
use Rattle.unit_registry.proofs.numbers.Numbers.find.Goals as goal

pub returns : goal.returns
returns c =
    c.copied.ensures
    ∙ (c.get.ensures.value
    ∙ (lookup-number c.args.word.now c.self.inside.numbers.entries
    ∙ ap (λ entries. number_in entries c.args.word.now) c.self.view_is))
