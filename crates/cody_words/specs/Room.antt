-- Room for the words of a scan.
use Rattle.std.specs.Prelude.{ℕ, ◌+◌, ◌<◌, ◌≤◌, List, length}
use Rattle.cody_words.specs.declared.mode.Mode.{Mode}
use Rattle.cody_words.specs.declared.mode.Mode.TheVariants.{Between, Semicolon, Outside, Inside, Escape, Digit, Refused}
use Rattle.cody_words.specs.Pieces.{total}
use Rattle.cody_words.specs.Lines.{longest_line}

-- a word is begun, and so many octets more may follow
pub record HasRoom (words : List (List ℕ)) (count : ℕ) : Type 0 where
  pub begun : 0 < length words
  pub octets : total words + count ≤ longest_line

-- one more word may begin, and one octet follow
pub record BeginsRoom (words : List (List ℕ)) : Type 0 where
  pub fewer : length words < longest_line
  pub octets : total words + 1 ≤ longest_line

-- there is room for what an octet adds in this mode
abbrev pub CanStep : Mode → List (List ℕ) → ℕ → Type 0
CanStep Between words at = BeginsRoom words
CanStep Semicolon words at = HasRoom words 1 × (0 < at)
CanStep Outside words at = HasRoom words 1
CanStep Inside words at = HasRoom words 1
CanStep Escape words at = HasRoom words 1 × (0 < at)
CanStep (Digit value) words at = HasRoom words 2 × (value < 16)
CanStep (Refused place reason) words at = Unit {0}

-- the octets that were read and aren't in the words yet, and what else holds in a mode
abbrev pub Owes : Mode → ℕ → ℕ → ℕ → Type 0
Owes Between octets words at = octets ≤ at
Owes Semicolon octets words at = (octets ≤ at) × (0 < words)
Owes Outside octets words at = (octets ≤ at) × (0 < words)
Owes Inside octets words at = (octets + 1 ≤ at) × (0 < words)
Owes Escape octets words at = (octets + 2 ≤ at) × (0 < words)
Owes (Digit value) octets words at = (octets + 3 ≤ at) × (0 < words) × (value < 16)
Owes (Refused place reason) octets words at = Unit {0}

-- a scan that has room, and read no more than the longest line
pub record IsRoomy (words : List (List ℕ)) (mode : Mode) (at : ℕ) : Type 0 where
  pub owes : Owes mode (total words) (length words) at
  pub few : length words ≤ at
