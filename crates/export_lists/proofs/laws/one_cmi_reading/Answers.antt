use Rattle.export_lists.proofs.CmiLaws.{one_cmi, one_line, no_fault}
use Rattle.export_lists.proofs.laws.one_cmi_reading.Goals as goal

pub returns-clause-cmi : goal.returns-clause-cmi
returns-clause-cmi c = one_cmi

pub returns-clause-line : goal.returns-clause-line
returns-clause-line c = one_line

pub returns-clause-either : goal.returns-clause-either
returns-clause-either c = no_fault
