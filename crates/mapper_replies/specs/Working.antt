-- How the code goes over the table: working definitions of private functions, and no part of what a reply is.
use Rattle.std.specs.Prelude.{ℕ, Bool, true, false, ◌&&◌, if◌then◌else◌, List, [], ◌∷◌, Option, Some, None, Result, Ok, Err, codes}
use Rattle.std.specs.Option.{option_map}
use Rattle.std.specs.Str.{bytes_eq}
use Rattle.mapper_requests.specs.Numbers.{number_of}
use Rattle.mapper_replies.specs.declared.reply.Reply.{Reply}
use Rattle.mapper_replies.specs.declared.reply.NotAReply.{NotAReply}
use Rattle.mapper_replies.specs.Values.{ReplyValue, Hello, Pathname, Done, Truth, Error, value_of}

-- the truth value of a word
abbrev pub truth_of : List ℕ → Option Bool
truth_of word = if bytes_eq word (codes "TRUE") then Some true else if bytes_eq word (codes "FALSE") then Some false else None

-- a greeting of version 1 begins with these words
abbrev pub is_hello : List ℕ → List ℕ → Bool
is_hello verb version = bytes_eq verb (codes "HELLO") && bytes_eq version (codes "1")

-- the table of replies as a function: the reply that the words are, if they are one
abbrev pub reply_of : List (List ℕ) → Option ReplyValue
reply_of [] = None
reply_of (verb ∷ []) = if bytes_eq verb (codes "OK") then Some Done else None
reply_of (verb ∷ word ∷ []) =
    if bytes_eq verb (codes "PATHNAME") then Some (Pathname word)
    else if bytes_eq verb (codes "BOOL") then option_map Truth (truth_of word)
    else if bytes_eq verb (codes "ERROR") then Some (Error word)
    else None
reply_of (verb ∷ version ∷ builder ∷ []) =
    if is_hello verb version then Some (Hello builder 0) else None
reply_of (verb ∷ version ∷ builder ∷ number ∷ []) =
    if is_hello verb version then option_map (Hello builder) (number_of number) else None
reply_of (verb ∷ version ∷ builder ∷ number ∷ other ∷ words) = None

-- the value that was read, if one was
abbrev pub read_value : Result Reply NotAReply → Option ReplyValue
read_value (Ok reply) = Some (value_of reply)
read_value (Err none) = None
