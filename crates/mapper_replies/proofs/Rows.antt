-- Worked rows, which the definitions compute.
use Rattle.std.proofs.Common.{◌≡◌, [], ◌∷◌, ◌++◌, refl, true, false}
use Rattle.std.specs.Prelude.{codes, Some, None}
use Rattle.cody_words.specs.Canonical.{is_bare_letter, quoted_octet, canonical_line}
use Rattle.mapper_requests.specs.Numbers as numbers
use Rattle.mapper_replies.specs.Values.{Hello, Pathname, Done, Truth, Error}
use Rattle.mapper_replies.specs.Replies.{reply_words}
use Rattle.mapper_replies.specs.Working.{reply_of}

hello : reply_of (codes "HELLO" ∷ codes "1" ∷ codes "modmap" ∷ []) ≡ Some (Hello (codes "modmap") 0)
hello = refl

-- leading zeros of flags
flags : reply_of (codes "HELLO" ∷ codes "1" ∷ codes "b" ∷ codes "0000000007" ∷ []) ≡ Some (Hello (codes "b") 7)
unfolding numbers.number_of
flags = refl

pathname : reply_of (codes "PATHNAME" ∷ codes "gcm.cache" ∷ []) ≡ Some (Pathname (codes "gcm.cache"))
pathname = refl

done : reply_of (codes "OK" ∷ []) ≡ Some Done
done = refl

truth : reply_of (codes "BOOL" ∷ codes "TRUE" ∷ []) ≡ Some (Truth true)
truth = refl

message : reply_of (codes "ERROR" ∷ codes "unknown request" ∷ []) ≡ Some (Error (codes "unknown request"))
message = refl

-- the version is the word 1
version : reply_of (codes "HELLO" ∷ codes "01" ∷ codes "x" ∷ []) ≡ None
version = refl

second_word : reply_of (codes "OK" ∷ codes "x" ∷ []) ≡ None
second_word = refl

letter_case : reply_of (codes "BOOL" ∷ codes "true" ∷ []) ≡ None
letter_case = refl

two_paths : reply_of (codes "PATHNAME" ∷ codes "a" ∷ codes "b" ∷ []) ≡ None
two_paths = refl

no_words : reply_of [] ≡ None
no_words = refl

-- flags are written where they aren't 0
written : reply_words (Hello (codes "modmap") 0) ≡ codes "HELLO" ∷ codes "1" ∷ codes "modmap" ∷ []
written = refl

-- canonical lines of replies
error_line : canonical_line (reply_words (Error (codes "unknown request"))) false ≡ codes "ERROR 'unknown request'" ++ 10 ∷ []
unfolding is_bare_letter quoted_octet
error_line = refl

marked_line : canonical_line (reply_words (Hello (codes "modmap") 0)) true ≡ codes "HELLO 1 modmap ;" ++ 10 ∷ []
unfolding is_bare_letter quoted_octet
marked_line = refl
