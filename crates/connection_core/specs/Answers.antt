-- The octets in which the blocks of a connection are answered.
use Rattle.std.specs.Prelude.{◌≡◌, ℕ, ◌+◌, ◌&&◌, ◌==◌, Bool, true, false, if◌then◌else◌, List, [], ◌∷◌, ◌++◌, length, drop, position, Option, Some, None, is_some, unwrap_or, All, IsTrue}
use Rattle.std.specs.Option.{option_map}
use Rattle.unit_registry.specs.declared.act.Act.{Act as Acts}
use Rattle.unit_registry.specs.declared.act.Act.TheVariants.{Open, Pause, Left, Lost, Done}
use Rattle.unit_registry.specs.Projects.{ProjectView}
use Rattle.histories.specs.declared.answer.Answer.{Answer}
use Rattle.histories.specs.declared.entry.Entry.{Entry}
use Rattle.histories.specs.Histories.{reply}
use Rattle.connection_replies.specs.declared.line_reply.LineReply.{LineReply}
use Rattle.connection_replies.specs.declared.line_reply.LineReply.TheVariants as line
use Rattle.connection_replies.specs.ReplyLines.{reply_lines}
use Rattle.connection_core.specs.declared.asked.Asked.{Asked}
use Rattle.connection_core.specs.declared.asked.Asked.TheVariants.{Act, Malformed}
use Rattle.connection_core.specs.Asking.{Block, asked_of, is_malformed, is_refused}

-- ---- the acts and the requests of a connection

-- the acts of a connection, in order
abbrev pub acts_of : ℕ → List Entry → List Acts
acts_of conn [] = []
acts_of conn (entry ∷ history) = if entry.conn == conn then entry.act ∷ acts_of conn history else acts_of conn history

-- whether an act is a request, which has a reply
abbrev pub is_request : Acts → Bool
is_request Open = false
is_request Pause = false
is_request Left = false
is_request Lost = false
is_request Done = false
is_request _ = true

-- the places of a connection's requests, in a history whose first entry has this place
abbrev pub request_places : ℕ → ℕ → List Entry → List ℕ
request_places first conn [] = []
request_places first conn (entry ∷ history) =
    if entry.conn == conn && is_request entry.act then first ∷ request_places (first + 1) conn history
    else request_places (first + 1) conn history

-- ---- one block

-- the number of the first malformed line, counted from 1
abbrev pub first_malformed : List Asked → ℕ
first_malformed lines = unwrap_or (position is_malformed lines) 0 + 1

-- how a line of a refused block is answered, by the number of the first malformed line and by its own
abbrev pub refusal : ℕ → ℕ → Asked → LineReply
refusal first number (Act asked) = line.Refused first
refusal first number (Malformed reason) = line.Malformed number reason

-- how the lines from this number on are answered
abbrev pub refusals_from : ℕ → ℕ → List Asked → List LineReply
refusals_from first number [] = []
refusals_from first number (asked ∷ rest) = refusal first number asked ∷ refusals_from first (number + 1) rest

-- how the lines of a refused block are answered
abbrev pub refusals : List Asked → List LineReply
refusals lines = refusals_from (first_malformed lines) 1 lines

-- an answer in front of others, where all are there
abbrev pub answer_first : Option Answer → Option (List LineReply) → Option (List LineReply)
answer_first (Some answer) (Some replies) = Some (line.Answer answer ∷ replies)
answer_first (Some answer) None = None
answer_first None replies = None

-- The answers to lines whose requests are dealt these places: to each the next one. There are none while an answer or a
-- request is missing.
abbrev pub dealt : (ℕ → Option Answer) → List Asked → List ℕ → Option (List LineReply)
dealt answer_at [] places = Some []
dealt answer_at (asked ∷ rest) [] = None
dealt answer_at (asked ∷ rest) (place ∷ places) = answer_first (answer_at place) (dealt answer_at rest places)

-- how the lines of a block are answered
abbrev pub replies_to : (ℕ → Option Answer) → List Asked → List ℕ → Option (List LineReply)
replies_to answer_at lines places = if is_refused lines then Some (refusals lines) else dealt answer_at lines places

-- the octets in which the lines of a block are answered
abbrev pub block_answer : ProjectView → (ℕ → Option Answer) → List Asked → List ℕ → Option (List ℕ)
block_answer project answer_at lines places = option_map (reply_lines project) (replies_to answer_at lines places)

-- how many requests a block enters
abbrev pub request_count : List Asked → ℕ
request_count lines = if is_refused lines then 0 else length lines

-- how many requests blocks enter
abbrev pub all_requests : ProjectView → List Block → ℕ
all_requests project [] = 0
all_requests project (block ∷ blocks) = request_count (asked_of project block) + all_requests project blocks

-- the place is the first of these that has no answer yet
pub record IsFirstMissing (answer_at : ℕ → Option Answer) (places : List ℕ) (place : ℕ) : Type 0 where
  pub front : List ℕ
  pub rest : List ℕ
  pub places_are : places ≡ front ++ place ∷ rest
  pub answered : All (λ earlier. IsTrue (is_some (answer_at earlier))) front
  pub missing : answer_at place ≡ None

-- ---- all blocks

-- two texts, one behind the other, where both are there
abbrev pub joined : Option (List ℕ) → Option (List ℕ) → Option (List ℕ)
joined (Some first) (Some second) = Some (first ++ second)
joined (Some first) None = None
joined None second = None

-- block by block its answers, to each well-formed one as many of the places as it has lines
abbrev pub answers_at : ProjectView → (ℕ → Option Answer) → List Block → List ℕ → Option (List ℕ)
answers_at project answer_at [] places = Some []
answers_at project answer_at (block ∷ blocks) places =
    joined (block_answer project answer_at (asked_of project block) places)
    (answers_at project answer_at blocks (drop (request_count (asked_of project block)) places))

-- The octets that a history answers to a connection's blocks. There are none while a reply or a request is missing.
abbrev pub answers : ProjectView → ℕ → List Entry → ℕ → List Block → Option (List ℕ)
answers project workers history conn blocks =
    answers_at project (reply project workers history) blocks (request_places 0 conn history)
