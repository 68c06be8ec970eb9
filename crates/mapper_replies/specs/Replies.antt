-- The table of replies: which words are which reply, and the words in which a reply is written.
use Rattle.std.specs.Prelude.{◌≡◌, ◌⊎◌, ℕ, Bool, true, false, List, [], ◌∷◌, Some, codes}
use Rattle.cody_words.specs.Lines.{Words, Says}
use Rattle.mapper_requests.specs.Numbers.{number_of}
use Rattle.mapper_requests.specs.Writing.{given_flags}
use Rattle.mapper_replies.specs.Values.{ReplyValue, Hello, Pathname, Done, Truth, Error}

-- the word of a truth value
abbrev pub truth_word : Bool → List ℕ
truth_word true = codes "TRUE"
truth_word false = codes "FALSE"

-- The table of replies: the words are this reply. Missing flags are 0.
abbrev pub IsReply : List (List ℕ) → ReplyValue → Type 0
IsReply words (Hello builder flags) =
    ((words ≡ codes "HELLO" ∷ codes "1" ∷ builder ∷ []) × (flags ≡ 0))
    ⊎ ((number : List ℕ) × (words ≡ codes "HELLO" ∷ codes "1" ∷ builder ∷ number ∷ []) × (number_of number ≡ Some flags))
IsReply words (Pathname path) = words ≡ codes "PATHNAME" ∷ path ∷ []
IsReply words Done = words ≡ codes "OK" ∷ []
IsReply words (Truth truth) = words ≡ codes "BOOL" ∷ truth_word truth ∷ []
IsReply words (Error message) = words ≡ codes "ERROR" ∷ message ∷ []

-- the words in which a reply is written; flags 0 are left out
abbrev pub reply_words : ReplyValue → List (List ℕ)
reply_words (Hello builder flags) = codes "HELLO" ∷ codes "1" ∷ builder ∷ given_flags flags
reply_words (Pathname path) = codes "PATHNAME" ∷ path ∷ []
reply_words Done = codes "OK" ∷ []
reply_words (Truth truth) = codes "BOOL" ∷ truth_word truth ∷ []
reply_words (Error message) = codes "ERROR" ∷ message ∷ []

-- The line says words that are this reply, and whether it has the mark.
pub record SaysReply (line : List ℕ) (value : ReplyValue) (more : Bool) : Type 0 where
  pub words : List (List ℕ)
  pub says : Says line (Words words) more
  pub are : IsReply words value
