-- The lines in which a block is answered.
use Rattle.std.specs.Prelude.{ℕ, ◌==◌, Bool, not, List, [], ◌∷◌, ◌++◌, length, codes, decimal}
use Rattle.cody_words.specs.declared.reason.Reason.{Reason}
use Rattle.cody_words.specs.Reasons.{reason_text}
use Rattle.cody_words.specs.Canonical.{canonical_line}
use Rattle.header_units.specs.CmiNames.{cmi_name}
use Rattle.mapper_replies.specs.Refusals.{refusal_text}
use Rattle.mapper_replies.specs.Values.{ReplyValue, Hello, Pathname, Done, Truth, Error}
use Rattle.mapper_replies.specs.Replies.{reply_words}
use Rattle.unit_registry.specs.Projects.{ProjectView, name_of}
use Rattle.histories.specs.declared.answer.Answer.{Answer}
use Rattle.histories.specs.declared.answer.Answer.TheVariants as answer
use Rattle.connection_replies.specs.declared.line_reply.LineReply.{LineReply}
use Rattle.connection_replies.specs.declared.line_reply.LineReply.TheVariants as line

-- the reply that an answer is: a repository is written as its path, and a unit's path as its CMI name
abbrev pub answer_value : ProjectView → Answer → ReplyValue
answer_value project answer.Hello = Hello (codes "modmap") 0
answer_value project answer.Repo = Pathname project.repo
answer_value project (answer.Path unit) = Pathname (cmi_name (name_of project unit))
answer_value project answer.Done = Done
answer_value project (answer.Bool truth) = Truth truth
answer_value project (answer.Refused refusal) = Error (refusal_text refusal)

-- what a malformed line is answered, by its number in its block
abbrev pub malformed_text : ℕ → Reason → List ℕ
malformed_text number reason = codes "line " ++ decimal number ++ codes ": " ++ reason_text reason

-- what every other line of its block is answered, by the number of the first malformed line
abbrev pub refused_text : ℕ → List ℕ
refused_text first = codes "batch refused: line " ++ decimal first

-- the reply to a line
abbrev pub reply_value : ProjectView → LineReply → ReplyValue
reply_value project (line.Answer answer) = answer_value project answer
reply_value project (line.Malformed number reason) = Error (malformed_text number reason)
reply_value project (line.Refused first) = Error (refused_text first)

-- the line of a reply, with the mark or without
abbrev pub value_line : ReplyValue → Bool → List ℕ
value_line value more = canonical_line (reply_words value) more

-- the line in which a line is answered
abbrev pub reply_line : ProjectView → LineReply → Bool → List ℕ
reply_line project reply more = value_line (reply_value project reply) more

-- the lines in which a block is answered, with the mark on all but the last
abbrev pub reply_lines : ProjectView → List LineReply → List ℕ
reply_lines project [] = []
reply_lines project (reply ∷ rest) = reply_line project reply (not (length rest == 0)) ++ reply_lines project rest

-- the room that a line is given: three times the octets of the longest path, 2,100, and 64 more
abbrev pub line_room : ℕ
line_room = 6364
