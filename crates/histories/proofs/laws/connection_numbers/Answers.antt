use Rattle.histories.proofs.LegalCounts.{numbers_below, next_is_fresh, next_is_nobody}
use Rattle.histories.proofs.laws.connection_numbers.Goals as goal

pub returns-clause-below : goal.returns-clause-below
returns-clause-below c = numbers_below

pub returns-clause-unopened : goal.returns-clause-unopened
returns-clause-unopened c = λ project workers limit history legal conn past. (next_is_fresh project workers limit history legal conn past).0

pub returns-clause-not_gone : goal.returns-clause-not_gone
returns-clause-not_gone c = λ project workers limit history legal conn past. (next_is_fresh project workers limit history legal conn past).1

pub returns-clause-nobody : goal.returns-clause-nobody
returns-clause-nobody c = next_is_nobody
