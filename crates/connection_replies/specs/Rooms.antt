-- The room of buffers.
use Rattle.std.specs.Prelude.{◌≡◌, ℕ, ◌+◌, ◌*◌, ◌≤◌, length}
use Rattle.cody_words.specs.Buffers.{Buffer}
use Rattle.connection_replies.specs.ReplyLines.{line_room}

-- the room of the buffer of texts: that of the longest CMI name
abbrev pub text_room : ℕ
text_room = 2100

-- at most so many octets of the spare room were used
pub record UsesRoom (most : ℕ) (old new : Buffer) : Type 0 where
  pub most_used : old.spare ≤ new.spare + most

-- the buffer has room for as many octets as before, those that stand in it counted
pub record HasSameRoom (old new : Buffer) : Type 0 where
  pub same : length new.octets + new.spare ≡ length old.octets + old.spare

-- the buffer has room for so many lines, where it is cleared
pub record HoldsLines (count : ℕ) (buffer : Buffer) : Type 0 where
  pub room : count * line_room ≤ length buffer.octets + buffer.spare
