use Rattle.export_lists.proofs.CmiLaws.{written_back, written_well}
use Rattle.export_lists.proofs.laws.written_cmi_is_read.Goals as goal

pub returns-clause-same : goal.returns-clause-same
returns-clause-same c = written_back

pub returns-clause-sound : goal.returns-clause-sound
returns-clause-sound c = written_well
