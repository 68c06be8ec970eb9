-- The fault of a text stands where its cut can't go on.
use Rattle.std.specs.Prelude.{◌≡◌, ℕ, ◌+◌, ◌<◌, Bool, false, ◌&&◌, ◌||◌, ◌==◌, not, List, [], ◌∷◌, ◌++◌, length, IsTrue, ◌⊎◌, codes}
use Rattle.std.specs.List.{list_all}
use Rattle.module_lexer.specs.Octets.{is_white, is_letter, is_letter_or_digit, is_punctuator, is_string_octet}
use Rattle.module_lexer.specs.Cut.{Piece, longest_identifier, ends_run, has_close, is_word, joined, Fit}
use Rattle.module_lexer.specs.Tokens.{line_of}
use Rattle.module_lexer.specs.declared.reason.SourceReason.{SourceReason}
use Rattle.module_lexer.specs.declared.reason.SourceReason.TheVariants.{OctetOutside, UnclosedComment, UnclosedString, IdentifierTooLong}
use Rattle.module_lexer.specs.declared.lexed.LexFault.{LexFault}
use Rattle.module_lexer.specs.declared.lexed.LexFault.TheVariants as fault

-- a slash before a slash or a star
abbrev pub begins_comment : ℕ → List ℕ → Bool
begins_comment octet [] = false
begins_comment octet (next ∷ more) = octet == 47 && (next == 47 || next == 42)

-- an octet that begins white space, a word, a punctuator, a string or a comment, where these stand behind it
abbrev pub begins_piece : ℕ → List ℕ → Bool
begins_piece octet after = is_white octet || is_letter octet || is_punctuator octet || octet == 34 || begins_comment octet after

-- the octet at the front of the rest begins no piece
pub record BeginsNoPiece (rest : List ℕ) (ahead : ℕ) : Type 0 where
  pub octet : ℕ
  pub after : List ℕ
  pub begins : rest ≡ octet ∷ after
  pub none : IsTrue (not (begins_piece octet after))
  pub there : ahead ≡ 0

-- the rest begins with a string in which, so many octets ahead, a forbidden octet stands, the first such
pub record HasForbiddenOctet (rest : List ℕ) (ahead : ℕ) : Type 0 where
  pub body : List ℕ
  pub octet : ℕ
  pub after : List ℕ
  pub begins : rest ≡ 34 ∷ body ++ octet ∷ after
  pub first : IsTrue (list_all is_string_octet body)
  pub forbidden : IsTrue (not (is_string_octet octet) && not (octet == 34))
  pub there : ahead ≡ 1 + length body

-- the rest begins with a comment that no star and slash close
pub record IsUnclosedComment (rest : List ℕ) (ahead : ℕ) : Type 0 where
  pub body : List ℕ
  pub begins : rest ≡ codes "/*" ++ body
  pub unclosed : IsTrue (not (has_close body))
  pub there : ahead ≡ 0

-- the rest is the beginning of a string, and no octet in it is forbidden
pub record IsUnclosedString (rest : List ℕ) (ahead : ℕ) : Type 0 where
  pub body : List ℕ
  pub begins : rest ≡ 34 ∷ body
  pub unclosed : IsTrue (list_all is_string_octet body)
  pub there : ahead ≡ 0

-- the rest begins with a word of too many octets
pub record IsLongIdentifier (rest : List ℕ) (ahead : ℕ) : Type 0 where
  pub word : List ℕ
  pub after : List ℕ
  pub begins : rest ≡ word ++ after
  pub whole : IsTrue (is_word word && ends_run is_letter_or_digit after)
  pub long : longest_identifier < length word
  pub there : ahead ≡ 0

-- the rest begins with no piece, for this reason, and the place at fault is so many octets behind its front
abbrev pub Breaks : SourceReason → ℕ → List ℕ → Type 0
Breaks OctetOutside ahead rest = BeginsNoPiece rest ahead ⊎ HasForbiddenOctet rest ahead
Breaks UnclosedComment ahead rest = IsUnclosedComment rest ahead
Breaks UnclosedString ahead rest = IsUnclosedString rest ahead
Breaks IdentifierTooLong ahead rest = IsLongIdentifier rest ahead
Breaks _ ahead rest = ⊥

-- the cut of the text ends at a fault, for this reason and on this line
pub record HasLexFault (text : List ℕ) (line : ℕ) (reason : SourceReason) : Type 0 where
  pub pieces : List Piece
  pub rest : List ℕ
  pub ahead : ℕ
  pub cut : text ≡ joined pieces ++ rest
  pub fit : Fit pieces rest
  pub breaks : Breaks reason ahead rest
  pub on : line ≡ line_of text (length (joined pieces) + ahead)

-- what may be answered where no tokens are: the text's fault, or want of memory
abbrev pub Refuses : List ℕ → LexFault → Type 0
Refuses text (fault.Text line reason) = HasLexFault text line reason
Refuses text fault.Memory = Unit {0}
