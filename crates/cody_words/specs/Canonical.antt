-- The one canonical way of writing a word and a line.
use Rattle.std.specs.Prelude.{ℕ, ◌+◌, ◌*◌, ◌/◌, ◌%◌, Bool, true, false, ◌||◌, ◌&&◌, not, ◌==◌, nat_lt, nat_le, if◌then◌else◌, List, [], ◌∷◌, ◌++◌, length, map}
use Rattle.std.specs.Borrow.{Bor}
use Rattle.std.specs.List.{flat_map, list_all}
use Rattle.cody_words.specs.Octets.{newline, space, apostrophe, semicolon, backslash, hex_digit}

-- between two octets, both included
abbrev pub within : ℕ → ℕ → ℕ → Bool
within low high c = nat_le low c && nat_le c high

-- one of -+_/%. A to Z a to z 0 to 9
unfoldable pub is_bare_letter : ℕ → Bool
is_bare_letter c = c == 45 || c == 43 || c == 95 || c == 47 || c == 37 || c == 46 || within 65 90 c || within 97 122 c || within 48 57 c

-- an octet between quotes
unfoldable pub quoted_octet : ℕ → List ℕ
quoted_octet c =
    if c == 10 then backslash ∷ 110 ∷ []
    else if c == 9 then backslash ∷ 116 ∷ []
    else if c == 39 then backslash ∷ 39 ∷ []
    else if c == 92 then backslash ∷ 92 ∷ []
    else if nat_lt c 32 || c == 127 then backslash ∷ hex_digit (c / 16) ∷ hex_digit (c % 16) ∷ []
    else c ∷ []

-- a word that is written without quotes
abbrev pub is_bare : List ℕ → Bool
is_bare word = not (length word == 0) && list_all is_bare_letter word

-- the one canonical spelling of a word
abbrev pub quote : List ℕ → List ℕ
quote word = if is_bare word then word else apostrophe ∷ flat_map quoted_octet word ++ apostrophe ∷ []

-- words with one space between them
abbrev pub spaced : List (List ℕ) → List ℕ
spaced [] = []
spaced (word ∷ []) = quote word
spaced (word ∷ other ∷ words) = quote word ++ space ∷ spaced (other ∷ words)

-- the mark, where more follows
abbrev pub mark : Bool → List ℕ
mark true = space ∷ semicolon ∷ []
mark false = []

-- a canonical line without its end
abbrev pub canonical_text : List (List ℕ) → Bool → List ℕ
canonical_text words more = spaced words ++ mark more

-- a whole canonical line
abbrev pub canonical_line : List (List ℕ) → Bool → List ℕ
canonical_line words more = spaced words ++ (mark more ++ newline ∷ [])

-- a word of a line, behind a space where it isn't the first
abbrev pub next_word : List ℕ → Bool → List ℕ
next_word word true = quote word
next_word word false = space ∷ quote word

-- the words that are lent
abbrev pub words_of : List (Bor (List ℕ)) → List (List ℕ)
words_of lent = map (λ word. word.now) lent

-- room for any spelling of a word
abbrev pub word_room : List ℕ → ℕ
word_room word = 3 * length word + 2

-- room for a line of these words
abbrev pub line_room : List (List ℕ) → ℕ
line_room [] = 3
line_room (word ∷ words) = word_room word + 1 + line_room words

-- the most room that the words of any line need
abbrev pub most_line_room : ℕ
most_line_room = 49155
