-- The tokens of a text are the words, punctuators and strings of its cut, in order.
use Rattle.std.specs.Prelude.{◌≡◌, ℕ, ◌+◌, ◌-◌, ◌<◌, ◌≤◌, List, [], ◌∷◌, ◌++◌, length, take, drop, IsTrue, count_by, if◌then◌else◌, Option, Some, None}
use Rattle.module_lexer.specs.Octets.{is_newline, is_reserved}
use Rattle.module_lexer.specs.Cut.{Piece, Word, Mark, Literal, spelling, fits, joined, Fit}
use Rattle.module_lexer.specs.declared.token.TokenKind.{TokenKind}
use Rattle.module_lexer.specs.declared.token.TokenKind.TheVariants.{Identifier, Reserved, Punctuator, Quoted}
use Rattle.module_lexer.specs.declared.token.Token.{Token}

-- the line of a place
abbrev pub line_of : List ℕ → ℕ → ℕ
line_of text place = 1 + count_by is_newline (take place text)

-- the kind of token that a piece is, if it is one
abbrev pub token_kind : Piece → Option TokenKind
token_kind (Word octets) = Some (if is_reserved octets then Reserved else Identifier)
token_kind (Mark octet) = Some Punctuator
token_kind (Literal body) = Some Quoted
token_kind _ = None

-- the token of this kind at a place, of so many octets, on a line; none where there is no kind
abbrev pub tokens_at : Option TokenKind → ℕ → ℕ → ℕ → List Token
tokens_at None place len line = []
tokens_at (Some kind) place len line = record { kind = kind; start = place; end = place + len; line = line } ∷ []

-- the tokens among pieces, of which the first stands at a place of the text
abbrev pub tokens_from : List ℕ → ℕ → List Piece → List Token
tokens_from text place [] = []
tokens_from text place (piece ∷ pieces) =
    tokens_at (token_kind piece) place (length (spelling piece)) (line_of text place)
    ++ tokens_from text (place + length (spelling piece)) pieces

-- the text is cut whole, and these are its tokens
pub record HasTokens (text : List ℕ) (tokens : List Token) : Type 0 where
  pub pieces : List Piece
  pub whole : text ≡ joined pieces
  pub fit : Fit pieces []
  pub are : tokens ≡ tokens_from text 0 pieces

-- the token's text is its slice of the source, a piece of its kind that goes as far as it can
pub record IsTokenOf (text : List ℕ) (token : Token) : Type 0 where
  pub piece : Piece
  pub kind : token_kind piece ≡ Some token.kind
  pub slice : take (token.end - token.start) (drop token.start text) ≡ spelling piece
  pub fit : IsTrue (fits piece (drop token.end text))
  pub line : token.line ≡ line_of text token.start

-- the spans aren't empty, stand one behind the other, and lie between two places
abbrev pub InOrder : ℕ → ℕ → List Token → Type 0
InOrder from to [] = from ≤ to
InOrder from to (token ∷ tokens) = (from ≤ token.start) × (token.start < token.end) × InOrder token.end to tokens
