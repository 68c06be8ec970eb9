-- The one thing that a line says, as functions. The laws tie them to what a line says.
use Rattle.std.specs.Prelude.{ℕ, Bool, ◌&&◌, ◌==◌, nat_lt, if◌then◌else◌, List, [], ◌∷◌, length, Option, Some, None, is_some, unwrap_or}
use Rattle.std.specs.Option.{option_map}
use Rattle.cody_words.specs.declared.reason.Reason.TheVariants.{LineTooLong}
use Rattle.cody_words.specs.Octets.{semicolon}
use Rattle.cody_words.specs.Lines.{Meaning, Malformed, longest_line}
use Rattle.cody_words.specs.Scan.{is_white, body_verdict}

-- the body of a line that has the mark
unfoldable pub marked_body : List ℕ → Option (List ℕ)
marked_body [] = None
marked_body (c ∷ []) = if c == semicolon then Some [] else None
marked_body (c ∷ d ∷ []) = if is_white c && d == semicolon then Some [] else None
marked_body (c ∷ d ∷ e ∷ rest) = option_map (λ body. c ∷ body) (marked_body (d ∷ e ∷ rest))

-- whether more of the block follows
unfoldable pub is_marked : List ℕ → Bool
is_marked line = is_some (marked_body line)

-- what the line says
unfoldable pub meaning : List ℕ → Meaning
meaning line =
    if nat_lt longest_line (length line) then Malformed longest_line LineTooLong
    else body_verdict (unwrap_or (marked_body line) line)
