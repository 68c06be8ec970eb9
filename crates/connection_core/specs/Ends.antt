-- How a connection stands in the history when it has ended.
use Rattle.std.specs.Prelude.{◌≡◌, ◌≢◌, ℕ, ◌+◌, ◌≤◌, ◌<◌, ◌⊎◌, true, false, List, [], ◌∷◌, ◌++◌, length, take, Some}
use Rattle.mm_outside.specs.Octets.{Octets}
use Rattle.mm_outside.specs.Causes.{Rose}
use Rattle.cody_batches.specs.Blocks.{blocks, held, taken, has_long_block, most_octets, PassesLimits}
use Rattle.unit_registry.specs.declared.act.Act.{Act as Acts}
use Rattle.unit_registry.specs.declared.act.Act.TheVariants.{Open, Left, Lost}
use Rattle.unit_registry.specs.Projects.{ProjectView}
use Rattle.histories.specs.declared.entry.Entry.{Entry}
use Rattle.histories.specs.Answered.{reserved}
use Rattle.histories.specs.Histories.{answered_in}
use Rattle.connection_core.specs.declared.conn_end.ConnEnd.{ConnEnd}
use Rattle.connection_core.specs.declared.conn_end.ConnEnd.TheVariants.{Closed, Truncated, ReadFault, WriteFault, TooLong, BatchTooLong, HistoryFull}
use Rattle.connection_core.specs.Asking.{Block, acts, block_acts}
use Rattle.connection_core.specs.Answers.{acts_of, answers}

-- the status that a connection ends with
abbrev pub status_of : ConnEnd → ℕ
status_of Closed = 0
status_of (Truncated lines) = 7
status_of ReadFault = 4
status_of WriteFault = 5
status_of TooLong = 8
status_of BatchTooLong = 8
status_of (HistoryFull entries kept) = 9

-- the last act of a connection that ended so
abbrev pub last_of : ConnEnd → Acts
last_of Closed = Left
last_of (Truncated lines) = Lost
last_of ReadFault = Lost
last_of WriteFault = Lost
last_of TooLong = Lost
last_of BatchTooLong = Lost
last_of (HistoryFull entries kept) = Lost

-- a connection's entries: it opened, did this, and went
abbrev pub whole_course : List Acts → Acts → List Acts
whole_course middle last = Open ∷ middle ++ last ∷ []

module _ (project : ProjectView) (workers limit : ℕ) (history : List Entry) (conn : ℕ) where
  -- the connection entered these blocks, has the answers to all of them, and went so
  pub record Whole (entered : List Block) (last : Acts) (written : List ℕ) : Type 0 where
    pub entries : acts_of conn history ≡ whole_course (acts project entered) last
    pub answered : answers project workers history conn entered ≡ Some written

  -- The connection entered the first of these blocks, as many as it takes for their answers to be longer than what was
  -- written of them.
  pub record Stopped (all : List Block) (written : List ℕ) : Type 0 where
    pub count : ℕ
    pub within : count ≤ length all
    pub entries : acts_of conn history ≡ whole_course (acts project (take count all)) Lost
    pub text : List ℕ
    pub answered : answers project workers history conn (take count all) ≡ Some text
    pub part : (n : ℕ) × (n < length text) × (written ≡ take n text)
    pub least : (fewer : ℕ) → fewer < count → (front : List ℕ) × (answers project workers history conn (take fewer all) ≡ Some front) × (length front ≤ length written)

  -- The connection entered the first of these blocks, has the answers to them, and had no room for all that the next
  -- one enters. Where it was lost, the entries before that and the ends still kept free are as many as the history has
  -- room for.
  pub record Filled (all : List Block) (written : List ℕ) : Type 0 where
    pub before : List Block
    pub block : Block
    pub behind : List Block
    pub are : all ≡ before ++ block ∷ behind
    pub part : List Acts
    pub missing : List Acts
    pub block_enters : block_acts project block ≡ part ++ missing
    pub proper : missing ≢ []
    pub entries : acts_of conn history ≡ whole_course (acts project before ++ part) Lost
    pub answered : answers project workers history conn before ≡ Some written
    pub place : ℕ
    pub others : List Entry
    pub lost_there : history ≡ take place history ++ record { conn = conn; act = Lost } ∷ others
    pub full : place + reserved workers (answered_in project workers (take place history)) ≡ limit

  -- the input of the link is at its end, and all its blocks were taken
  pub record AllRead (link : Octets) : Type 0 where
    pub over : link.to_come ≡ []
    pub within : taken link.read ≡ blocks link.read

  -- how a connection stands whose link told these octets, by its end
  abbrev pub Ends : ConnEnd → Octets → Type 0
  Ends Closed link = Whole (taken link.read) Left link.written × AllRead link × (held link.read ≡ 0)
  Ends (Truncated lines) link = Whole (taken link.read) Lost link.written × AllRead link × (held link.read ≡ lines) × (0 < lines)
  Ends ReadFault link = Whole (taken link.read) Lost link.written
  Ends WriteFault link = Stopped (taken link.read) link.written
  Ends TooLong link = Whole (taken link.read) Lost link.written × (most_octets < length link.read) × (has_long_block (take most_octets link.read) ≡ false)
  Ends BatchTooLong link = Whole (taken link.read) Lost link.written × (has_long_block (take most_octets link.read) ≡ true)
  Ends (HistoryFull entries kept) link = Filled (taken link.read) link.written × (entries + kept ≡ limit)

  -- The connection was served so. Where its octets pass a limit it ends by that, unless a fault of a write or a full
  -- history came before.
  pub record Served (how : ConnEnd) (link : Octets) : Type 0 where
    pub ends : Ends how link
    pub limits : PassesLimits link.read → (status_of how ≡ 8) ⊎ (status_of how ≡ 5) ⊎ (status_of how ≡ 9)

-- a connection ends by a fault of the link exactly where one came: the count of such faults rose, and else it is as it
-- was
pub record HasCauses (reads_before reads_now writes_before writes_now : ℕ) (how : ConnEnd) : Type 0 where
  pub read : how ≡ ReadFault → Rose reads_before reads_now
  pub write : how ≡ WriteFault → Rose writes_before writes_now
  pub read_kept : how ≢ ReadFault → reads_now ≡ reads_before
  pub write_kept : how ≢ WriteFault → writes_now ≡ writes_before
