use Rattle.histories.proofs.LegalCounts.{open_members, counted_over}
use Rattle.histories.proofs.laws.open_connections_counted.Goals as goal

pub returns-clause-members : goal.returns-clause-members
returns-clause-members c = open_members

pub returns-clause-counted : goal.returns-clause-counted
returns-clause-counted c = counted_over
