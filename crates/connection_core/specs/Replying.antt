-- The answers at places: working definitions of private functions.
use Rattle.std.specs.Prelude.{ℕ, List, [], ◌∷◌, Option, Some}
use Rattle.histories.specs.declared.answer.Answer.{Answer}
use Rattle.connection_replies.specs.declared.line_reply.LineReply.{LineReply}
use Rattle.connection_core.specs.Answers.{answer_first}

-- the answers at these places, if all are there
abbrev pub looked : (ℕ → Option Answer) → List ℕ → Option (List LineReply)
looked answer_at [] = Some []
looked answer_at (place ∷ places) = answer_first (answer_at place) (looked answer_at places)
