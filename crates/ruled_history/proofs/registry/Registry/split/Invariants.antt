use Rattle.ruled_history.specs.Views.{Knows}
use Rattle.ruled_history.proofs.registry.Registry.split.Given as goal

abbrev pub ghosts-learn : goal.ghosts-learn
ghosts-learn g a = record { learns = Knows a.board.now.table.shared.key.opening.value.ledger }

abbrev pub ghosts-cut : goal.ghosts-cut
ghosts-cut g a = record { share = a.share; room = a.room }
