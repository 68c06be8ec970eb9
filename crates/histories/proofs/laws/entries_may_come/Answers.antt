use Rattle.histories.proofs.Coming.{may_come}
use Rattle.histories.proofs.laws.entries_may_come.Goals as goal

pub returns : goal.returns
returns c = may_come
