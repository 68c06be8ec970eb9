use Rattle.ruled_history.specs.Views.{Knows}
use Rattle.ruled_history.proofs.shared.SharedDesk.new.Given as goal

abbrev pub ghosts-learn : goal.ghosts-learn
ghosts-learn g a = record { learns = Knows a.board.now.table.shared.key.opening.value.ledger }
