use Rattle.histories.proofs.Unanswered.{unanswered_waits, unanswered_conn}
use Rattle.histories.proofs.laws.unanswered_wait.Goals as goal

pub returns-clause-request : goal.returns-clause-request
returns-clause-request c = unanswered_waits

pub returns-clause-conn : goal.returns-clause-conn
returns-clause-conn c = unanswered_conn
