use Rattle.std.proofs.Common.{subst}
use Rattle.export_lists.specs.CmiFaults.{TellsCmiFault}
use Rattle.mapper_commands.proofs.Gatherings.{checked}
use Rattle.mapper_commands.proofs.unit_files.parse_cmi.Goals as goal

pub returns-in-Ok : goal.returns-in-Ok
returns-in-Ok c = checked c.check_unit.result c.args.declared.now c.args.octets.now c.in-Ok.cmi c.in-Ok.ensures.cmi c.check_unit.ensures.taken c.check_unit.ensures.refused

pub returns-in-Err-Text : goal.returns-in-Err-Text
returns-in-Err-Text c = subst (TellsCmiFault c.args.octets.now) c.in-Err-Text.field-0-is c.in-Err-Text.ensures.fault
