use Rattle.ruled_history.specs.Seats.{StandsAfter}
use Rattle.ruled_history.specs.Steps.{AtTurn}
use Rattle.ruled_history.proofs.turn.take_turn.Given as goal

abbrev pub ghosts-wait_for_turn : goal.ghosts-wait_for_turn
ghosts-wait_for_turn g a = let opening = a.board.now.table.shared.key.opening.value in record { tells = AtTurn (StandsAfter g.S.Shelf.kept g.S.Shelf.held opening) opening.ledger }
