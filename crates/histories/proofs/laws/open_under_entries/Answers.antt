use Rattle.histories.proofs.Passing.{other_open}
use Rattle.histories.proofs.LegalCounts.{own_with, open_since}
use Rattle.histories.proofs.laws.open_under_entries.Goals as goal

pub returns-clause-other : goal.returns-clause-other
returns-clause-other c = other_open

pub returns-clause-own : goal.returns-clause-own
returns-clause-own c = own_with

pub returns-clause-others : goal.returns-clause-others
returns-clause-others c = open_since
