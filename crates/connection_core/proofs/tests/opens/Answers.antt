use Rattle.std.proofs.Common.{subst, ◌∙◌, eqb-true}
use Rattle.unit_registry.specs.declared.act.Act.TheVariants.{Open}
use Rattle.registry_core.specs.Ledgers.{entry}
use Rattle.connection_core.specs.Entering.{IsServing}
use Rattle.connection_core.proofs.Beside.{adds_beside, opens_serving}
use Rattle.connection_core.proofs.tests.opens.Goals as goal

pub returns-in-Ok-clause-serving : goal.returns-in-Ok-clause-serving
returns-in-Ok-clause-serving g c = λ same.
    let adds = c.in-Ok.ensures.opened in
    subst (λ conn. IsServing conn (g.D.Desk.tells c.open.new.self)) (eqb-true c.in-Ok.opened c.args.conn same) (opens_serving c.in-Ok.opened adds.0 _ _ c.in-Ok.ensures.sound adds.1)

pub returns-in-Ok-clause-beside : goal.returns-in-Ok-clause-beside
returns-in-Ok-clause-beside g c = λ other same different serving.
    let adds = c.in-Ok.ensures.opened in
    adds_beside (entry c.in-Ok.opened Open) adds.0 _ _ c.in-Ok.ensures.sound adds.1 other serving (λ is. different (is ∙ eqb-true c.in-Ok.opened c.args.conn same))
