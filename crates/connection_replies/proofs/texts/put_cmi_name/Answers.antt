use Rattle.std.proofs.Common.{ap}
use Rattle.connection_replies.proofs.UnitNames.{ending_alone}
use Rattle.connection_replies.proofs.texts.put_cmi_name.Goals as goal

pub returns-in-Err-clause-text : goal.returns-in-Err-clause-text
returns-in-Err-clause-text c =
    ending_alone c.args.project.now c.args.unit _ _ _ c.units_differ.ensures.kinds c.unit_name.ensures c.in-Err.ensures.bad (ap (λ b. b.octets) c.clear.ensures) c.extend.ensures.octets
