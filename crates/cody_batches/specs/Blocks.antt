-- The lines and the blocks of octets.
use Rattle.std.specs.Prelude.{◌≡◌, ◌<◌, ℕ, ◌+◌, ◌-◌, ◌⊎◌, Bool, true, false, not, ◌||◌, ◌==◌, nat_lt, if◌then◌else◌, List, [], ◌∷◌, ◌++◌, length, map, take, filter, take_while}
use Rattle.std.specs.List.{AllByRecursion, list_any}
use Rattle.cody_words.specs.Octets.{newline}
use Rattle.cody_words.specs.Lines.{Meaning, Blank, Words, Malformed}
use Rattle.cody_words.specs.Meanings.{meaning, is_marked}
use Rattle.cody_batches.specs.Cutting.{Cut, cut_behind}

-- ---- lines

-- the octet is NEWLINE, which ends a line
abbrev pub is_newline : ℕ → Bool
is_newline octet = octet == newline

-- the octets, cut behind each NEWLINE
abbrev pub by_newline : List ℕ → Cut ℕ
by_newline octets = cut_behind is_newline octets

-- the whole lines, each without its NEWLINE
abbrev pub lines : List ℕ → List (List ℕ)
lines octets = map (λ line. take (length line - 1) line) (by_newline octets).pieces

-- the line that has no NEWLINE yet
abbrev pub begun_line : List ℕ → List ℕ
begun_line octets = (by_newline octets).rest

-- a line with its NEWLINE
abbrev pub ended : List ℕ → List ℕ
ended line = line ++ newline ∷ []

-- the meaning is that of a blank line: no words, and nothing at fault
abbrev pub says_nothing : Meaning → Bool
says_nothing Blank = true
says_nothing (Words words) = false
says_nothing (Malformed place reason) = false

-- a line that is ignored, with the mark or without
abbrev pub is_blank : List ℕ → Bool
is_blank line = says_nothing (meaning line)

-- ---- blocks

-- the whole lines that count
abbrev pub counted_lines : List ℕ → List (List ℕ)
counted_lines octets = filter (λ line. not (is_blank line)) (lines octets)

-- the lines that count, cut behind each one without the mark
abbrev pub by_block : List ℕ → Cut (List ℕ)
by_block octets = cut_behind (λ line. not (is_marked line)) (counted_lines octets)

-- the whole blocks, each the list of its lines
abbrev pub blocks : List ℕ → List (List (List ℕ))
blocks octets = (by_block octets).pieces

-- the whole lines of the block that is begun
abbrev pub begun_block : List ℕ → List (List ℕ)
begun_block octets = (by_block octets).rest

-- the lines of the block that is begun, an unfinished one counted
abbrev pub held : List ℕ → ℕ
held octets = length (begun_block octets) + (if length (begun_line octets) == 0 then 0 else 1)

-- a line that isn't blank, with the mark: its block goes on behind it
abbrev pub GoesOn : List ℕ → Type 0
GoesOn line = (is_blank line ≡ false) × (is_marked line ≡ true)

-- a line that isn't blank, without the mark: its block ends with it
abbrev pub EndsBlock : List ℕ → Type 0
EndsBlock line = (is_blank line ≡ false) × (is_marked line ≡ false)

-- the block goes on behind each of its lines but the last, and ends with that
pub record IsBlock (block : List (List ℕ)) : Type 0 where
  pub front : List (List ℕ)
  pub last : List ℕ
  pub whole : block ≡ front ++ last ∷ []
  pub goes_on : AllByRecursion GoesOn front
  pub ends : EndsBlock last

-- ---- limits

-- the most lines of a block
abbrev pub most_lines : ℕ
most_lines = 1024

-- the most octets that are taken from a connection
abbrev pub most_octets : ℕ
most_octets = 67108864

-- a group of lines that has too many
abbrev pub is_long : List (List ℕ) → Bool
is_long group = nat_lt most_lines (length group)

-- some group, ended or not, has too many whole lines
abbrev pub has_long_block : List ℕ → Bool
has_long_block octets = list_any is_long (blocks octets) || is_long (begun_block octets)

-- the blocks that are taken from a connection's octets
abbrev pub taken : List ℕ → List (List (List ℕ))
taken octets = take_while (λ block. not (is_long block)) (blocks (take most_octets octets))

-- a connection's octets are too many, or a block among those that count has too many lines
abbrev pub PassesLimits : List ℕ → Type 0
PassesLimits octets = (most_octets < length octets) ⊎ (has_long_block (take most_octets octets) ≡ true)
