use Rattle.std.proofs.Common.{◌≡◌, ◌+◌, ◌++◌, List, take, length, Some}
use Rattle.std.specs.Vec.{vec_capacity}
use Rattle.registry_core.specs.Ledgers.{reply_at}
use Rattle.registry_core.specs.Desks.{Looks, IsSound}
use Rattle.connection_replies.specs.declared.line_reply.LineReply.{LineReply}
use Rattle.connection_core.specs.Replying.{looked}
use Rattle.connection_core.proofs.replying.look_at.Given as goal

abbrev pub invariant-loop-place : goal.invariant-loop-place
invariant-loop-place g l = record {
  so_far : (given : List LineReply) × (looked (reply_at (g.D.Desk.tells l.desk).seen) (take l.place-index l.places) ≡ Some given) × (l.replies.items ≡ l.initial.replies.items ++ given);
  looks : Looks (g.D.Desk.tells l.initial.desk) (g.D.Desk.tells l.desk);
  sound : IsSound (g.D.Desk.tells l.desk);
  count : length l.replies.items ≡ length l.initial.replies.items + l.place-index;
  capacity : vec_capacity l.replies ≡ vec_capacity l.initial.replies;
}
