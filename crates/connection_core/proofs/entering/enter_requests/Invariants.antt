use Rattle.std.proofs.Common.{◌≡◌}
use Rattle.std.specs.Vec.{vec_capacity}
use Rattle.connection_core.specs.Entering.{Fits}
use Rattle.connection_core.specs.Working.{EntersSoFar}
use Rattle.connection_core.proofs.entering.enter_requests.Given as goal

abbrev pub invariant-loop-line : goal.invariant-loop-line
invariant-loop-line g l = record {
  so_far : EntersSoFar l.conn l.asked l.line-index l.initial.stash l.stash l.initial.places.items l.places.items (g.D.Desk.tells l.initial.desk) (g.D.Desk.tells l.desk);
  fits : Fits (g.D.Desk.fits (g.D.Desk.tells l.initial.desk).held) l.stash;
  capacity : vec_capacity l.places ≡ vec_capacity l.initial.places;
}
