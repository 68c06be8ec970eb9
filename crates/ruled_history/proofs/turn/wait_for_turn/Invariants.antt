use Rattle.std.proofs.Common.{◌≡◌, ℕ, ◌%◌, ◌^◌, []}
use Rattle.ruled_history.specs.declared.board.Stage.TheVariants.{Waits}
use Rattle.ruled_history.specs.Views.{at_stage}
use Rattle.ruled_history.specs.Seats.{IsSame}
use Rattle.ruled_history.proofs.turn.wait_for_turn.Given as goal

-- the seat waits with its ticket
abbrev pub invariant-loop : goal.invariant-loop
invariant-loop g l = IsSame l.fn.place l.place × (l.place.me.1 ≡ []) × ((t : ℕ) × (l.place.me.0 ≡ at_stage (Waits t) l.fn.place.me.0) × (l.ticket ≡ t % 2 ^ 64))
