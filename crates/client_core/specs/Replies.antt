-- What is told by the octets that a client reads: the replies to the requests of a block, or the first line that is none.
use Rattle.std.specs.Prelude.{◌≡◌, ℕ, suc, Bool, true, false, not, ◌==◌, ◌||◌, if◌then◌else◌, List, [], ◌∷◌, length, drop, Option, Some, None, ⊤}
use Rattle.cody_words.specs.Lines.{Meaning, Blank, Words, Malformed}
use Rattle.cody_words.specs.Meanings.{meaning, is_marked}
use Rattle.cody_batches.specs.Blocks.{counted_lines}
use Rattle.mapper_requests.specs.Asked.{Asked}
use Rattle.mapper_requests.specs.Asked as asked
use Rattle.mapper_replies.specs.Values.{ReplyValue}
use Rattle.mapper_replies.specs.Values as reply
use Rattle.mapper_replies.specs.Working.{reply_of}

-- ---- one line

-- whether the reply is an error
abbrev pub is_error : ReplyValue → Bool
is_error (reply.Error message) = true
is_error _ = false

-- whether the reply is of the kind that the request is for
abbrev pub is_for : Asked → ReplyValue → Bool
is_for (asked.Hello version compiler ident) (reply.Hello builder flags) = true
is_for asked.Repo (reply.Pathname path) = true
is_for (asked.Export name flags) (reply.Pathname path) = true
is_for (asked.Import name flags) (reply.Pathname path) = true
is_for (asked.Compiled name flags) reply.Done = true
is_for _ _ = false

-- whether a request may have the reply
abbrev pub may_have : Asked → ReplyValue → Bool
may_have request value = is_error value || is_for request value

-- the reply that a line with this meaning is, if it is one
abbrev pub reply_in : Meaning → Option ReplyValue
reply_in Blank = None
reply_in (Words words) = reply_of words
reply_in (Malformed place reason) = None

-- the reply, if it is one that the request may have
abbrev pub allowed : Asked → Option ReplyValue → Option ReplyValue
allowed request None = None
allowed request (Some value) = if may_have request value then Some value else None

-- whether a line has the mark where more of its block is to follow, and only there
abbrev pub ends_right : Bool → List ℕ → Bool
ends_right true line = is_marked line
ends_right false line = not (is_marked line)

-- the reply to a request that a line is, where more of its block is to follow or not. There is none where the line is no
-- reply that the request may have, and where its block ends too early or too late with it.
abbrev pub line_reply : Asked → Bool → List ℕ → Option ReplyValue
line_reply request more line = if ends_right more line then allowed request (reply_in (meaning line)) else None

-- ---- a block

-- The lines are replies to the first of these requests, one line each, and these are the replies. What isn't read yet may
-- be missing after them.
abbrev pub AreReplies : List Asked → List (List ℕ) → List ReplyValue → Type 0
AreReplies requests [] [] = ⊤
AreReplies (request ∷ rest) (line ∷ lines) (value ∷ values) = (line_reply request (not (length rest == 0)) line ≡ Some value) × AreReplies rest lines values
AreReplies _ _ _ = ⊥

-- What lines tell: a reply is awaited still; or all replies are there, and what they are; or a line is at fault, counted
-- from 1 among these.
pub data Telling : Type 0 where
  Awaited : Telling
  All : List ReplyValue → Telling
  Faulty : ℕ → Telling

-- what is told by a line that is this reply, or none, and by those after it, which tell this
abbrev pub with_first : Option ReplyValue → Telling → Telling
with_first None rest = Faulty 1
with_first (Some value) Awaited = Awaited
with_first (Some value) (All values) = All (value ∷ values)
with_first (Some value) (Faulty line) = Faulty (suc line)

-- what lines tell of requests: each line is to be the reply to the next of them, and the first that isn't is at fault
abbrev pub told_by : List Asked → List (List ℕ) → Telling
told_by [] lines = All []
told_by (request ∷ rest) [] = Awaited
told_by (request ∷ rest) (line ∷ lines) = with_first (line_reply request (not (length rest == 0)) line) (told_by rest lines)

-- What the octets tell of requests whose replies stand after so many lines. Blank lines don't count, and a line that has
-- no NEWLINE yet tells nothing.
abbrev pub told : ℕ → List Asked → List ℕ → Telling
told before requests got = told_by requests (drop before (counted_lines got))
