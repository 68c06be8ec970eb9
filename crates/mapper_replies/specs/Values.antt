-- What is seen of a reply: its texts themselves, and not where they stand.
use Rattle.std.specs.Prelude.{ℕ, ◌+◌, ◌*◌, Bool, List, length}
use Rattle.mapper_replies.specs.declared.reply.Reply.{Reply}
use Rattle.mapper_replies.specs.declared.reply.Reply.TheVariants as reply
use Rattle.mapper_requests.specs.Numbers.{IsNumber}

-- A reply: a greeting with the builder and its flags, a path, an assent, a truth value, or an error message.
pub data ReplyValue : Type 0 where
  Hello : List ℕ → ℕ → ReplyValue
  Pathname : List ℕ → ReplyValue
  Done : ReplyValue
  Truth : Bool → ReplyValue
  Error : List ℕ → ReplyValue

-- the value of a reply
abbrev pub value_of : Reply → ReplyValue
value_of (reply.Hello builder flags) = Hello builder.now flags
value_of (reply.Pathname path) = Pathname path.now
value_of reply.Done = Done
value_of (reply.Bool truth) = Truth truth
value_of (reply.Error message) = Error message.now

-- the octets of a reply's texts
abbrev pub text_octets : ReplyValue → ℕ
text_octets (Hello builder flags) = length builder
text_octets (Pathname path) = length path
text_octets Done = 0
text_octets (Truth truth) = 0
text_octets (Error message) = length message

-- room for the line of a reply
abbrev pub reply_room : ReplyValue → ℕ
reply_room value = 3 * text_octets value + 64

-- the flags are a number
abbrev pub HasNumber : ReplyValue → Type 0
HasNumber (Hello builder flags) = IsNumber flags
HasNumber (Pathname path) = Unit {0}
HasNumber Done = Unit {0}
HasNumber (Truth truth) = Unit {0}
HasNumber (Error message) = Unit {0}
