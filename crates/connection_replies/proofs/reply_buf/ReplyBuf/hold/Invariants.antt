use Rattle.std.proofs.Common.{◌≡◌, ◌+◌, ◌*◌, ◌≤◌, ◌++◌, length, drop}
use Rattle.connection_replies.specs.ReplyLines.{line_room, reply_lines}
use Rattle.connection_replies.specs.Rooms.{HasSameRoom}
use Rattle.connection_replies.proofs.reply_buf.ReplyBuf.hold.Given as goal

-- what is held and what is still to come are the lines, and what is still to come has room
abbrev pub invariant-loop-k : goal.invariant-loop-k
invariant-loop-k l = record {
  lines : l.self.octets ++ reply_lines l.project (drop l.k l.replies) ≡ reply_lines l.project l.replies;
  room : length l.replies * line_room ≤ l.self.spare + l.k * line_room;
  same : HasSameRoom l.initial.self l.self;
}
