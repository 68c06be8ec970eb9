use Rattle.std.proofs.Common.{◌∙◌}
use Rattle.mapper_commands.proofs.Gatherings.{cmi_refused, cmi_so}
use Rattle.mapper_commands.proofs.unit_files.read_cmi.Goals as goal

pub returns-in-Err-clause-file : goal.returns-in-Err-clause-file
returns-in-Err-clause-file g c = cmi_refused _ c.args.project.now c.args.unit c.in-Err.fault c.octets.result.now _ _ c.requires.built (c.octets.ensures ∙ c.in_ok-name.ensures) c.in-Err.ensures.file

pub returns-clause-file : goal.returns-clause-file
returns-clause-file g c =
    cmi_so _ c.args.project.now c.args.unit c.parse_cmi.result c.octets.result.now c.name-2.result.now c.in-Ok.text c.octets-2.result.now _ _ c.requires.built
    (c.octets.ensures ∙ c.in_ok-name.ensures) c.name-2.ensures c.octets-2.ensures c.in-Ok.ensures.file c.parse_cmi.ensures
