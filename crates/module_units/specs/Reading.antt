-- What a source reads as.
use Rattle.std.specs.Prelude.{◌≡◌, ℕ, Bool, zero, suc, ◌-◌, List, [], ◌∷◌, length, map, if◌then◌else◌, ◌⊎◌, slice_range, codes}
use Rattle.std.specs.Str.{bytes_eq}
use Rattle.std.specs.List.{list_any}
use Rattle.module_units.specs.Terminals.{Key, Terminal, Name, Quoted, Export, Module, Import, Colon, Struct, Class, Using, Const, BuiltIn, Semicolon, Dot, Comma, LeftParen, RightParen, LeftBrace, RightBrace, Star, Ampersand, Equals}
use Rattle.module_units.specs.Terminals as terminals
use Rattle.module_units.specs.Grammar.{UnitTree, unit_tree, IsSyntaxFault}
use Rattle.module_units.specs.Unit.{UnitOf, unit_of}
use Rattle.module_units.specs.Rules.{Fault, faults_of}
use Rattle.module_lexer.specs.declared.token.Token.{Token}
use Rattle.module_lexer.specs.declared.token.TokenKind.{TokenKind}
use Rattle.module_lexer.specs.declared.token.TokenKind.TheVariants as lexed
use Rattle.module_lexer.specs.declared.reason.SourceReason.{SourceReason}
use Rattle.module_lexer.specs.declared.reason.SourceReason.TheVariants.{Syntax}
use Rattle.module_units.specs.declared.unit.SourceError.{SourceError}
use Rattle.module_units.specs.declared.unit.SourceError.TheVariants as errors
use Rattle.module_lexer.specs.declared.lexed.LexFault.{LexFault}
use Rattle.module_lexer.specs.declared.lexed.LexFault.TheVariants as lexical
use Rattle.module_lexer.specs.Tokens.{HasTokens, line_of}
use Rattle.module_lexer.specs.Faults.{HasLexFault}

-- octets, and the terminal that they are on a line
abbrev pub Spelled : Type 0
Spelled = List ℕ × (ℕ → Terminal)

-- the reserved words; those that name a type are one terminal
abbrev pub words : List Spelled
words =
    (codes "export", Export) ∷ (codes "module", Module) ∷ (codes "import", Import) ∷ (codes "struct", λ line. terminals.Plain Struct)
    ∷ (codes "class", λ line. terminals.Plain Class) ∷ (codes "using", λ line. terminals.Plain Using) ∷ (codes "const", λ line. terminals.Plain Const)
    ∷ (codes "void", λ line. terminals.Plain BuiltIn) ∷ (codes "bool", λ line. terminals.Plain BuiltIn) ∷ (codes "char", λ line. terminals.Plain BuiltIn)
    ∷ (codes "int", λ line. terminals.Plain BuiltIn) ∷ (codes "unsigned", λ line. terminals.Plain BuiltIn) ∷ (codes "long", λ line. terminals.Plain BuiltIn) ∷ []

-- the punctuators
abbrev pub marks : List Spelled
marks =
    (codes ";", λ line. terminals.Plain Semicolon) ∷ (codes ":", Colon) ∷ (codes ".", λ line. terminals.Plain Dot) ∷ (codes ",", λ line. terminals.Plain Comma)
    ∷ (codes "(", λ line. terminals.Plain LeftParen) ∷ (codes ")", λ line. terminals.Plain RightParen) ∷ (codes "{", λ line. terminals.Plain LeftBrace)
    ∷ (codes "}", λ line. terminals.Plain RightBrace) ∷ (codes "*", λ line. terminals.Plain Star) ∷ (codes "&", λ line. terminals.Plain Ampersand)
    ∷ (codes "=", λ line. terminals.Plain Equals) ∷ []

-- the octets are spelled in the table
abbrev pub is_spelled : List Spelled → List ℕ → Bool
is_spelled table octets = list_any (λ row. bytes_eq octets row.0) table

-- the terminal that octets are on a line; the other one is for octets outside the table, which no token of a text has
abbrev pub spelled_as : List Spelled → Key → List ℕ → ℕ → Terminal
spelled_as [] other octets line = terminals.Plain other
spelled_as (row ∷ rows) other octets line = if bytes_eq octets row.0 then row.1 line else spelled_as rows other octets line

-- the terminal that a token of a kind is; of a string, the octets between its marks
abbrev pub seen : TokenKind → List ℕ → ℕ → Terminal
seen lexed.Identifier octets line = Name octets line
seen lexed.Reserved octets line = spelled_as words BuiltIn octets line
seen lexed.Punctuator octets line = spelled_as marks Equals octets line
seen lexed.Quoted octets line = Quoted (slice_range octets 1 (length octets - 1)) line

-- the terminals that the tokens of a text are
abbrev pub seen_all : List ℕ → List Token → List Terminal
seen_all text tokens = map (λ token. seen token.kind (slice_range text token.start token.end) token.line) tokens

-- the line of the token behind so many, or of the end of the text
abbrev pub token_line : List ℕ → List Token → ℕ → ℕ
token_line text [] count = line_of text (length text)
token_line text (token ∷ more) zero = token.line
token_line text (token ∷ more) (suc count) = token_line text more count

-- what a source reads as: a unit, or a fault on a line
pub data SourceReading : Type 0 where
  Good : (unit : UnitOf) → SourceReading
  Bad : (line : ℕ) → (reason : SourceReason) → SourceReading

-- the tokens of the text are those of a tree that breaks no rule
pub record ReadsUnit (text : List ℕ) (unit : UnitOf) : Type 0 where
  pub tokens : List Token
  pub tree : UnitTree
  pub cut : HasTokens text tokens
  pub generated : unit_tree tree ≡ seen_all text tokens
  pub lawful : faults_of tree ≡ []
  pub unit_is : unit_of tree ≡ unit

-- the tokens of the text have a syntax fault, on this line
pub record HasSyntaxFault (text : List ℕ) (line : ℕ) (reason : SourceReason) : Type 0 where
  pub tokens : List Token
  pub place : ℕ
  pub cut : HasTokens text tokens
  pub at : IsSyntaxFault (seen_all text tokens) place
  pub line_is : line ≡ token_line text tokens place
  pub reason_is : reason ≡ Syntax

-- the tokens of the text are those of a tree that breaks a rule, first on this line for this reason
pub record BreaksRule (text : List ℕ) (line : ℕ) (reason : SourceReason) : Type 0 where
  pub tokens : List Token
  pub tree : UnitTree
  pub others : List Fault
  pub cut : HasTokens text tokens
  pub generated : unit_tree tree ≡ seen_all text tokens
  pub first : faults_of tree ≡ record { line = line; reason = reason } ∷ others

-- what the text reads as: a unit, or the first fault
abbrev pub Reads : List ℕ → SourceReading → Type 0
Reads text (Good unit) = ReadsUnit text unit
Reads text (Bad line reason) = HasLexFault text line reason ⊎ (HasSyntaxFault text line reason ⊎ BreaksRule text line reason)

-- a lexical fault, as a source's
abbrev pub of_lexical : LexFault → SourceError
of_lexical (lexical.Text line reason) = errors.Text line reason
of_lexical lexical.Memory = errors.Memory

-- what may be answered where no unit is: the text's first fault, or want of memory
abbrev pub RefusesSource : List ℕ → SourceError → Type 0
RefusesSource text (errors.Text line reason) = Reads text (Bad line reason)
RefusesSource text errors.Memory = Unit {0}
