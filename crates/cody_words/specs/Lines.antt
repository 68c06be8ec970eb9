-- What a line says.
use Rattle.std.specs.Prelude.{◌≡◌, ◌≢◌, ℕ, ◌≤◌, ◌⊎◌, Bool, true, false, nat_lt, List, [], ◌∷◌, ◌++◌, length}
use Rattle.std.specs.Bool.{MatchBool}
use Rattle.std.specs.List.{flat_map, AllByRecursion}
use Rattle.cody_words.specs.declared.reason.Reason.{Reason}
use Rattle.cody_words.specs.declared.reason.Reason.TheVariants.{ControlOctet, BackslashOutside, UnknownEscape, StraySemicolon, UnclosedQuote, LineTooLong}
use Rattle.cody_words.specs.Octets.{semicolon, backslash, apostrophe, IsWhite, IsControl}
use Rattle.cody_words.specs.Spelling.{Item, item_raw, items_raw, IsItem, Part, part_raw, IsPart, Spells}

-- What a line says, whether it has the mark or not.
pub data Meaning : Type 0 where
  Blank : Meaning
  Words : List (List ℕ) → Meaning
  Malformed : ℕ → Reason → Meaning

-- The line is one semicolon, or its last two octets are white space and a semicolon.
abbrev pub Marked : List ℕ → List ℕ → Type 0
Marked line body =
    ((line ≡ semicolon ∷ []) × (body ≡ []))
    ⊎ ((c : ℕ) × IsWhite c × (line ≡ body ++ c ∷ semicolon ∷ []))

-- The body is the line without its mark.
abbrev pub HasBody : List ℕ → Bool → List ℕ → Type 0
HasBody line true body = Marked line body
HasBody line false body = ((other : List ℕ) → Marked line other → ⊥) × (body ≡ line)

-- nothing, or white space first
abbrev pub IsApart : List ℕ → Type 0
IsApart [] = Unit {0}
IsApart (c ∷ rest) = IsWhite c

-- nothing, or white space last
abbrev pub IsApartBehind : List ℕ → Type 0
IsApartBehind front = (front ≡ []) ⊎ ((before : List ℕ) × (c : ℕ) × IsWhite c × (front ≡ before ++ c ∷ []))

-- A word at the front of a body, behind white space, and what stands behind it.
pub record WordFirst (body word rest : List ℕ) : Type 0 where
  pub gap : List ℕ
  pub raw : List ℕ
  pub white : AllByRecursion IsWhite gap
  pub spells : Spells raw word
  pub quoted_semicolon : raw ≢ semicolon ∷ []
  pub apart : IsApart rest
  pub whole : body ≡ gap ++ (raw ++ rest)

-- The body is raw words apart by white space, which spell these words, and none is a semicolon without quotes.
abbrev pub SaysWords : List ℕ → List (List ℕ) → Type 0
SaysWords body [] = AllByRecursion IsWhite body
SaysWords body (word ∷ words) = (rest : List ℕ) × WordFirst body word rest × SaysWords rest words

-- White space or a part.
pub data Piece : Type 0 where
  gap : ℕ → Piece
  part : Part → Piece

-- the octets of a piece
abbrev pub piece_raw : Piece → List ℕ
piece_raw (gap c) = c ∷ []
piece_raw (part p) = part_raw p

-- what a piece may be
abbrev pub IsPiece : Piece → Type 0
IsPiece (gap c) = IsWhite c
IsPiece (part p) = IsPart p

-- The front of a body ends outside quotes: it is white space and parts.
pub record EndsOutside (front : List ℕ) : Type 0 where
  pub pieces : List Piece
  pub each : AllByRecursion IsPiece pieces
  pub written : front ≡ flat_map piece_raw pieces

-- The front of a body ends between quotes: a quote was opened outside, and items follow it.
pub record EndsInside (front : List ℕ) : Type 0 where
  pub before : List ℕ
  pub items : List Item
  pub outside : EndsOutside before
  pub each : AllByRecursion IsItem items
  pub written : front ≡ before ++ apostrophe ∷ items_raw items

-- What begins with a backslash and with no item.
pub record BeginsNoItem (back : List ℕ) : Type 0 where
  pub rest : List ℕ
  pub escape : back ≡ backslash ∷ rest
  pub none : (item : Item) (behind : List ℕ) → IsItem item → back ≡ item_raw item ++ behind → ⊥

-- The offence that stands between the front of a body and its back.
abbrev pub Offends : List ℕ → List ℕ → Reason → Type 0
Offends front back ControlOctet = (c : ℕ) × (rest : List ℕ) × IsControl c × (back ≡ c ∷ rest)
Offends front back BackslashOutside = EndsOutside front × ((rest : List ℕ) × (back ≡ backslash ∷ rest))
Offends front back UnknownEscape = EndsInside front × BeginsNoItem back
Offends front back StraySemicolon = EndsOutside front × IsApartBehind front × ((rest : List ℕ) × IsApart rest × (back ≡ semicolon ∷ rest))
Offends front back UnclosedQuote = EndsInside front × (back ≡ [])
Offends front back LineTooLong = ⊥

-- the offence of this reason stands at this place
pub record IsOffence (body : List ℕ) (place : ℕ) (reason : Reason) : Type 0 where
  pub front : List ℕ
  pub back : List ℕ
  pub whole : body ≡ front ++ back
  pub place_is : length front ≡ place
  pub offends : Offends front back reason

-- the offence with the least place
pub record IsFirstOffence (body : List ℕ) (place : ℕ) (reason : Reason) : Type 0 where
  pub offence : IsOffence body place reason
  pub least : (other : ℕ) (why : Reason) → IsOffence body other why → place ≤ other

-- What a body says: nothing but white space, words, or its first offence.
abbrev pub BodySays : List ℕ → Meaning → Type 0
BodySays body Blank = AllByRecursion IsWhite body
BodySays body (Words words) = (words ≢ []) × SaysWords body words
BodySays body (Malformed place reason) = IsFirstOffence body place reason

-- the most octets of a line, without its NEWLINE
abbrev pub longest_line : ℕ
longest_line = 8192

-- What the line says, and whether it has the mark. A line that is too long says that alone.
pub record Says (line : List ℕ) (meaning : Meaning) (more : Bool) : Type 0 where
  pub body : List ℕ
  pub has_body : HasBody line more body
  pub says : MatchBool (nat_lt longest_line (length line))
      (meaning ≡ Malformed longest_line LineTooLong)
      (BodySays body meaning)
