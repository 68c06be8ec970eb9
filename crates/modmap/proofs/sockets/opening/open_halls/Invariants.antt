use Rattle.std.proofs.Common.{◌≡◌, ◌≤◌, ◌+◌, All, vec_len, vec_capacity}
use Rattle.modmap.specs.Sockets.{IsReady}
use Rattle.modmap.proofs.sockets.opening.open_halls.Given as goal

abbrev pub invariant-loop-added : goal.invariant-loop-added
invariant-loop-added g l = record {
  len : vec_len l.halls ≡ l._added;
  room : l.workers ≤ vec_capacity l.halls;
  workers : l.workers ≡ l.others + 1;
  ready : All (IsReady l.links) l.halls.items;
  last : IsReady l.links l.last;
}
