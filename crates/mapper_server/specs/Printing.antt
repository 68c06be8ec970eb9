-- What is printed where a text is to be printed whole.
use Rattle.std.specs.Prelude.{◌≡◌, ℕ, ◌+◌, ◌<◌, List, ◌++◌, length, take}
use Rattle.mm_outside.specs.Causes.{Rose}
use Rattle.cody_words.specs.Buffers.{Buffer}

-- a proper part of the text was appended
pub record IsCut (text : List ℕ) (old new : List ℕ) : Type 0 where
  pub count : ℕ
  pub proper : count < length text
  pub appended : new ≡ old ++ take count text

-- A text was appended whole, and the count of faults is as it was; or a proper part of it, and the count rose. So a
-- text is never made whole after a fault.
pub data Prints (text : List ℕ) (faults_before faults_now : ℕ) (old new : List ℕ) : Type 0 where
  whole : new ≡ old ++ text → faults_now ≡ faults_before → Prints text faults_before faults_now old new
  cut : IsCut text old new → Rose faults_before faults_now → Prints text faults_before faults_now old new

-- the octets that a line of a trace has at most, its NEWLINE counted
abbrev pub line_room : ℕ
line_room = 64

-- the octets that a buffer has room for in all
abbrev pub capacity_of : Buffer → ℕ
capacity_of line = line.spare + length line.octets
