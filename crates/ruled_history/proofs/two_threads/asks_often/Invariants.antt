use Rattle.ruled_history.specs.Examples.{Asked}
use Rattle.ruled_history.proofs.two_threads.asks_often.Given as goal

abbrev pub invariant-loop-round : goal.invariant-loop-round
invariant-loop-round g l = Asked l.conn l._round l.places.items (g.D.Desk.tells l.initial.desk) (g.D.Desk.tells l.desk)
