-- The table of replies and its function agree, and what was read by the function is in the table.
use Rattle.std.proofs.Common.{◌≡◌, ℕ, List, sym, ◌∙◌, rules}
use Rattle.std.specs.Prelude.{Some, Result, Ok, Err, IfOk}
use Rattle.mapper_replies.specs.declared.reply.Reply.{Reply}
use Rattle.mapper_replies.specs.declared.reply.NotAReply.{NotAReply}
use Rattle.mapper_replies.specs.Values.{ReplyValue, value_of}
use Rattle.mapper_replies.specs.Replies.{IsReply}
use Rattle.mapper_replies.specs.Working.{read_value, reply_of}

-- what the function gives is in the table
pub reply_of-is : (words : List (List ℕ)) (value : ReplyValue) → reply_of words ≡ Some value → IsReply words value
reply_of-is words value e = search rules

-- and what is in the table, the function gives
pub is_reply_of : (words : List (List ℕ)) (value : ReplyValue) → IsReply words value → reply_of words ≡ Some value
is_reply_of words value h = search rules

some_same : (one other : ReplyValue) → Some one ≡ Some other → one ≡ other
some_same one other e = cc

-- so words are one reply at most
pub one_reply : (words : List (List ℕ)) (one other : ReplyValue) → IsReply words one → IsReply words other → one ≡ other
one_reply words one other first second = some_same one other (sym (is_reply_of words one first) ∙ is_reply_of words other second)

-- and what is read by the function is in the table
pub read_is : (words : List (List ℕ)) (result : Result Reply NotAReply) → read_value result ≡ reply_of words → IfOk result (λ reply. IsReply words (value_of reply))
read_is words (Ok reply) e = reply_of-is words (value_of reply) (sym e)
read_is words (Err none) e = tt
