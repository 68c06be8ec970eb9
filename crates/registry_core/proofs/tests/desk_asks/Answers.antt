use Rattle.std.proofs.Common.{◌≡◌, rules}
use Rattle.histories.specs.Counts.{Asks, effect_of}
use Rattle.registry_core.proofs.AtDesk.{asked_open}
use Rattle.registry_core.proofs.tests.desk_asks.Goals as goal

pub returns-clause-there : goal.returns-clause-there
returns-clause-there c = λ right.
    let kind : effect_of c.args.act ≡ Asks = c.is_asked.ensures.kind (search rules) in
    asked_open _ _ _ _ _ c.in-Ok.ensures.sound c.look.ensures.sound c.in-Ok.ensures.asked c.look.ensures.looked kind c.requires.own
