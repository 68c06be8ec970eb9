-- What is answered octet by octet, and after which octets an intake stands.
use Rattle.std.specs.Prelude.{◌≡◌, ℕ, ◌<◌, ◌≤◌, Bool, true, false, not, List, [], ◌∷◌, ◌++◌, length}
use Rattle.std.specs.Bool.{MatchBool}
use Rattle.std.specs.List.{fold}
use Rattle.cody_words.specs.Scan.{Scan, step as scan_step, start}
use Rattle.cody_words.specs.Lines.{Meaning, Blank, Words, Malformed, longest_line}
use Rattle.cody_words.specs.Meanings.{meaning, is_marked}
use Rattle.cody_batches.specs.declared.intake.Step.{Step}
use Rattle.cody_batches.specs.declared.intake.Step.TheVariants as step
use Rattle.cody_batches.specs.Blocks.{begun_line, begun_block, has_long_block, is_newline}

-- What an intake keeps: the scan of the begun line without its last octets, these octets, two at most,
-- whether the line is too long already, the lines of the begun block, and whether a block was too long.
-- This is how the intake works, and no part of what it means: nothing outside this crate asks for a field.
pub record Standing : Type 0 where
  pub scan : Scan
  pub tail : List ℕ
  pub too_long : Bool
  pub lines : ℕ
  pub over : Bool

-- the words that an intake lends
abbrev pub words_of : Standing → List (List ℕ)
words_of standing = standing.scan.words

-- the answer to the end of a line of this meaning, and the words that stand then
abbrev pub AnswersLine : Meaning → Bool → Step → List (List ℕ) → Type 0
AnswersLine Blank more answer words = answer ≡ step.More
AnswersLine (Words said) more answer words = (answer ≡ step.Message (not more)) × (words ≡ said)
AnswersLine (Malformed at reason) more answer words = answer ≡ step.Malformed at reason (not more)

-- The answer to an octet behind the octets that were fed, and what stands then: a line's answer at its NEWLINE,
-- More at every other octet, and that the block is too long from the octet on that ends its line 1,025.
abbrev pub Answers : List ℕ → ℕ → Step → Standing → Type 0
Answers fed octet answer standing = MatchBool (has_long_block (fed ++ octet ∷ [])) (answer ≡ step.BatchTooLong)
    (MatchBool (is_newline octet) (AnswersLine (meaning (begun_line fed)) (is_marked (begun_line fed)) answer (words_of standing)) (answer ≡ step.More))

-- the last octets of a line: two, or all of it
abbrev pub IsTail : List ℕ → List ℕ → Type 0
IsTail front [] = front ≡ []
IsTail front (last ∷ []) = front ≡ []
IsTail front (before ∷ last ∷ []) = Unit {0}
IsTail front (first ∷ second ∷ third ∷ rest) = ⊥

-- the begun line is scanned but for its last octets, or it is too long
pub record KeepsLine (standing : Standing) (line : List ℕ) : Type 0 where
  pub front : List ℕ
  pub whole : line ≡ front ++ standing.tail
  pub tail : IsTail front standing.tail
  pub scanned : standing.too_long ≡ false → 0 < length standing.tail → standing.scan ≡ fold scan_step start front
  pub short : standing.too_long ≡ false → length line ≤ longest_line
  pub long : standing.too_long ≡ true → longest_line < length line

-- The intake stands after these octets, the ones that were fed since it was new or was reset.
-- Behind a block that was too long it keeps nothing but that.
pub record StandsAfter (standing : Standing) (fed : List ℕ) : Type 0 where
  pub over : standing.over ≡ has_long_block fed
  pub line : standing.over ≡ false → KeepsLine standing (begun_line fed)
  pub lines : standing.over ≡ false → standing.lines ≡ length (begun_block fed)
