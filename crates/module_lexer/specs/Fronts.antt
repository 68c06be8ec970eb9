-- The piece at the front of what is left of a text.
use Rattle.std.specs.Prelude.{◌≡◌, ℕ, ◌<◌, List, ◌++◌, length, drop, IsTrue, Option, Result, Ok, Err}
use Rattle.module_lexer.specs.Cut.{Piece, spelling, fits}
use Rattle.module_lexer.specs.Tokens.{token_kind}
use Rattle.module_lexer.specs.Faults.{Breaks}
use Rattle.module_lexer.specs.declared.token.TokenKind.{TokenKind}
use Rattle.module_lexer.specs.declared.front.Front.{Front}
use Rattle.module_lexer.specs.declared.front.Stop.{Stop}

-- the first `len` octets of the rest are a piece, and it is a token of this kind, or none
pub record IsFront (rest : List ℕ) (kind : Option TokenKind) (len : ℕ) : Type 0 where
  pub piece : Piece
  pub split : rest ≡ spelling piece ++ drop len rest
  pub length_is : length (spelling piece) ≡ len
  pub fits_there : IsTrue (fits piece (drop len rest))
  pub kind_is : kind ≡ token_kind piece
  pub positive : 0 < len

-- what is told of the front of the rest: the piece there, or why none begins there
abbrev pub FrontAnswer : Result Front Stop → List ℕ → Type 0
FrontAnswer (Ok front) rest = IsFront rest front.kind front.len
FrontAnswer (Err stop) rest = Breaks stop.reason stop.ahead rest
