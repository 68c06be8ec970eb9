use Rattle.ruled_history.specs.Seats.{StandsAfter}
use Rattle.ruled_history.specs.Steps.{AtTurn}
use Rattle.ruled_history.proofs.turn.record.Given as goal

abbrev pub ghosts-record_told : goal.ghosts-record_told
ghosts-record_told g a = let opening = a.board.now.table.shared.key.opening.value in record { tells = AtTurn (StandsAfter g.S.Shelf.kept g.S.Shelf.held opening) opening.ledger }
