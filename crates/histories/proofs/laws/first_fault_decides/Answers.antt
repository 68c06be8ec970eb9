use Rattle.histories.proofs.Legality.{none_if_legal, some_if_illegal}
use Rattle.histories.proofs.laws.first_fault_decides.Goals as goal

pub returns-clause-legal : goal.returns-clause-legal
returns-clause-legal c = none_if_legal

pub returns-clause-illegal : goal.returns-clause-illegal
returns-clause-illegal c = some_if_illegal
