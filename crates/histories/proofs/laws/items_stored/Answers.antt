use Rattle.histories.proofs.Reports.{stored_more, stored_reported}
use Rattle.histories.proofs.laws.items_stored.Goals as goal

pub returns-clause-more : goal.returns-clause-more
returns-clause-more c = stored_more

pub returns-clause-reported : goal.returns-clause-reported
returns-clause-reported c = λ answered unit stored. stored_reported unit answered stored
