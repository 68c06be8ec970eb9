use Rattle.histories.proofs.LegalCounts.{opened_over, done_over}
use Rattle.histories.proofs.laws.entries_counted.Goals as goal

pub returns-clause-opened : goal.returns-clause-opened
returns-clause-opened c = opened_over

pub returns-clause-done : goal.returns-clause-done
returns-clause-done c = done_over
