-- Laws of scripts and replies, which the functions of `laws.rt` keep.
use Rattle.std.specs.Prelude.{◌≡◌, ◌≢◌, ◌↔◌, Bool, ℕ, suc, ◌<◌, ◌≤◌, ◌⊎◌, not, ◌==◌, List, [], ◌∷◌, ◌++◌, length, take, drop, slice_get, Some, None}
use Rattle.std.specs.List.{AllByRecursion}
use Rattle.cody_words.specs.Lines.{longest_line}
use Rattle.cody_words.specs.Canonical.{canonical_text}
use Rattle.cody_batches.specs.Blocks.{blocks, held}
use Rattle.mapper_requests.specs.Asked.{Asked, IsGood}
use Rattle.mapper_requests.specs.Writing.{request_words}
use Rattle.client_core.specs.Scripts.{block_lines, block_text}
use Rattle.mapper_replies.specs.Values.{ReplyValue}
use Rattle.mapper_replies.specs.Replies.{IsReply}
use Rattle.mapper_replies.specs.Working.{reply_of}
use Rattle.client_core.specs.Replies.{AreReplies, Awaited, All, Faulty, told_by, told, line_reply}

-- the table of replies as a function is the table of replies
abbrev pub RepliesAreRead : Type 0
RepliesAreRead = (words : List (List ℕ)) (value : ReplyValue) → (reply_of words ≡ Some value) ↔ IsReply words value

-- all replies are told exactly where the first lines are a reply to each of the requests
abbrev pub AllAreTold : Type 0
AllAreTold = (requests : List Asked) (lines : List (List ℕ)) (values : List ReplyValue)
    → (told_by requests lines ≡ All values) ↔ (AreReplies requests (take (length requests) lines) values × (length values ≡ length requests))

-- a reply is awaited exactly where there are fewer lines than requests, each of them a reply
abbrev pub MoreIsAwaited : Type 0
MoreIsAwaited = (requests : List Asked) (lines : List (List ℕ))
    → (told_by requests lines ≡ Awaited) ↔ ((values : List ReplyValue) × AreReplies requests lines values × (length lines < length requests))

-- a line is at fault exactly where those before it are replies and it isn't the one that is due
abbrev pub FirstIsFaulty : Type 0
FirstIsFaulty = (requests : List Asked) (lines : List (List ℕ)) (before : ℕ)
    → (told_by requests lines ≡ Faulty (suc before))
    ↔ ((values : List ReplyValue) × (request : Asked) × (line : List ℕ)
    × AreReplies requests (take before lines) values × (slice_get requests before ≡ Some request) × (slice_get lines before ≡ Some line)
    × (line_reply request (not (length (drop (suc before) requests) == 0)) line ≡ None))

-- more octets take nothing back of what was told
abbrev pub TellingsStay : Type 0
TellingsStay = (before : ℕ) (requests : List Asked) (got more : List ℕ)
    → (told before requests got ≡ Awaited) ⊎ (told before requests (got ++ more) ≡ told before requests got)

-- a request, whose canonical line is no longer than a line may be
abbrev pub FitsLine : Asked → Type 0
FitsLine request = IsGood request × ((more : Bool) → length (canonical_text (request_words request) more) ≤ longest_line)

-- the octets of a block are one block, whose lines are those of its requests, and nothing is held after it
abbrev pub BlockIsOne : Type 0
BlockIsOne = (requests : List Asked) → requests ≢ [] → AllByRecursion FitsLine requests → (blocks (block_text requests) ≡ block_lines requests ∷ []) × (held (block_text requests) ≡ 0)
