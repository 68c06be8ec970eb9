use Rattle.std.proofs.Common.{refl, rules}
use Rattle.mapper_commands.specs.Addresses.{IsAddress}
use Rattle.mapper_commands.proofs.Spellings.{spelled, unspelled}
use Rattle.mapper_commands.proofs.address.is_address.Goals as goal

pub returns-in-Some : goal.returns-in-Some
returns-in-Some c =
    let spells : IsAddress c.args.text.now = spelled c.args.text.now c.in-Some.field-0 c.in-Some.ensures.address in
    search rules

pub returns-in-None : goal.returns-in-None
returns-in-None c =
    let none : IsAddress c.args.text.now → ⊥ = unspelled c.args.text.now (c.in-None.ensures.none refl) in
    search rules
