use Rattle.export_lists.proofs.OneSource.{one_source}
use Rattle.export_lists.proofs.laws.one_source.Goals as goal

pub returns : goal.returns
returns c = one_source
