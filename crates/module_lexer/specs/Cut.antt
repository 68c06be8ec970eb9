-- A text is cut from its front into pieces: white space, comments, words, punctuators and strings.
use Rattle.std.specs.Prelude.{ℕ, Bool, true, false, ◌&&◌, ◌||◌, ◌==◌, not, nat_le, List, [], ◌∷◌, ◌++◌, length, IsTrue, codes}
use Rattle.std.specs.List.{list_all, flat_map}
use Rattle.module_lexer.specs.Octets.{is_newline, is_white, is_letter, is_letter_or_digit, is_punctuator, is_string_octet}

-- the most octets of an identifier
abbrev pub longest_identifier : ℕ
longest_identifier = 255

-- what a text is cut into, with its octets, or with those between its marks
pub data Piece : Type 0 where
  WhiteSpace : (octet : ℕ) → Piece
  LineComment : (body : List ℕ) → Piece
  BlockComment : (body : List ℕ) → Piece
  Word : (octets : List ℕ) → Piece
  Mark : (octet : ℕ) → Piece
  Literal : (body : List ℕ) → Piece

-- the octets of a piece
abbrev pub spelling : Piece → List ℕ
spelling (WhiteSpace octet) = octet ∷ []
spelling (LineComment body) = codes "//" ++ body
spelling (BlockComment body) = codes "/*" ++ body ++ codes "*/"
spelling (Word octets) = octets
spelling (Mark octet) = octet ∷ []
spelling (Literal body) = 34 ∷ body ++ 34 ∷ []

-- an octet that doesn't end a line
abbrev pub is_in_line : ℕ → Bool
is_in_line octet = not (is_newline octet)

-- a run of octets that pass the test goes no further, where these octets stand behind it
abbrev pub ends_run : (ℕ → Bool) → List ℕ → Bool
ends_run passes [] = true
ends_run passes (octet ∷ after) = not (passes octet)

-- a star and then a slash stand somewhere in the octets
abbrev pub has_close : List ℕ → Bool
has_close [] = false
has_close (octet ∷ []) = false
has_close (octet ∷ next ∷ more) = (octet == 42 && next == 47) || has_close (next ∷ more)

-- a letter or '_', and then letters, digits and '_'
abbrev pub is_word : List ℕ → Bool
is_word [] = false
is_word (first ∷ more) = is_letter first && list_all is_letter_or_digit more

-- the piece is one of the subset, and it goes as far as it can, where these octets stand behind it
abbrev pub fits : Piece → List ℕ → Bool
fits (WhiteSpace octet) after = is_white octet
fits (LineComment body) after = list_all is_in_line body && ends_run is_in_line after
fits (BlockComment body) after = not (has_close body)
fits (Word octets) after = is_word octets && nat_le (length octets) longest_identifier && ends_run is_letter_or_digit after
fits (Mark octet) after = is_punctuator octet
fits (Literal body) after = list_all is_string_octet body

-- the octets of these pieces, one piece behind the other
abbrev pub joined : List Piece → List ℕ
joined pieces = flat_map spelling pieces

-- each piece fits what stands behind it, where these octets stand behind the last
abbrev pub Fit : List Piece → List ℕ → Type 0
Fit [] rest = Unit {0}
Fit (piece ∷ pieces) rest = IsTrue (fits piece (joined pieces ++ rest)) × Fit pieces rest
