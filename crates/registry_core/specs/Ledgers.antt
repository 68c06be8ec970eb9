-- A history and what it is of, with the words that callers ask of it.
use Rattle.std.specs.Prelude.{◌≡◌, ℕ, ◌+◌, ◌<◌, ◌≤◌, ◌^◌, List, [], ◌∷◌, ◌++◌, length, map, filter, reverse, All, Bool, Option, None, is_some}
use Rattle.unit_registry.specs.declared.act.Act.{Act}
use Rattle.unit_registry.specs.declared.act.Act.TheVariants.{Left, Lost}
use Rattle.unit_registry.specs.Projects.{ProjectView}
use Rattle.histories.specs.declared.entry.Entry.{Entry}
use Rattle.histories.specs.declared.answer.Answer.{Answer}
use Rattle.histories.specs.declared.answer.Said.{Said}
use Rattle.histories.specs.declared.answered.Answered.{Answered}
use Rattle.histories.specs.Entries.{IsTraceEntry}
use Rattle.histories.specs.Answered.{is_open, opened_count, open_count, done_count, reserved}
use Rattle.histories.specs.Noted.{Noted, answered_of, pending, reply_in}
use Rattle.histories.specs.Answers.{at_once}
use Rattle.histories.specs.Histories.{noted_of, reply, fault, IsLegal}
use Rattle.registry_core.specs.declared.full.Full.{Full}
use Rattle.registry_core.specs.declared.leaving.Leaving.{Leaving}
use Rattle.registry_core.specs.declared.leaving.Leaving.TheVariants.{Left as AsLeft, Lost as AsLost}

-- the most workers of a book
abbrev pub most_workers : ℕ
most_workers = 16384

-- the most entries of a book, its ends counted
abbrev pub most_entries : ℕ
most_entries = 67108864

-- a history and what it is of: the project, the number of workers, the limit, and the entries
pub record LedgerView : Type 0 where
  pub project : ProjectView
  pub workers : ℕ
  pub limit : ℕ
  pub entries : List Entry

-- the history, noted entry by entry
abbrev pub noted_in : LedgerView → List Noted
noted_in ledger = noted_of ledger.project ledger.workers ledger.entries

-- its entries with what was said to them at once, the newest first
abbrev pub said_in : LedgerView → List Answered
said_in ledger = answered_of (noted_in ledger)

-- whether the connection is open
abbrev pub is_open_in : LedgerView → ℕ → Bool
is_open_in ledger conn = is_open (said_in ledger) conn

-- how many connections were opened
abbrev pub opened_in : LedgerView → ℕ
opened_in ledger = opened_count (said_in ledger)

-- how many connections are open
abbrev pub open_in : LedgerView → ℕ
open_in ledger = open_count (said_in ledger)

-- how many workers are done
abbrev pub done_in : LedgerView → ℕ
done_in ledger = done_count (said_in ledger)

-- how many ends are still to come
abbrev pub reserved_in : LedgerView → ℕ
reserved_in ledger = reserved ledger.workers (said_in ledger)

-- the reply to the request at the place, if it has come
abbrev pub reply_at : LedgerView → ℕ → Option Answer
reply_at ledger place = reply ledger.project ledger.workers ledger.entries place

-- the places of the imports that waited before the newest entry and have their replies with it, the oldest first
abbrev pub answered_with : ProjectView → List Noted → List ℕ
answered_with project [] = []
answered_with project (newest ∷ before) =
    reverse (map (λ wait. wait.place) (filter (λ wait. is_some (reply_in project (newest ∷ before) wait.place)) (pending project before)))

-- the same, of the last entry of the history
abbrev pub answered_last : LedgerView → List ℕ
answered_last ledger = answered_with ledger.project (noted_in ledger)

-- how many imports wait
abbrev pub waiting_in : LedgerView → ℕ
waiting_in ledger = length (pending ledger.project (noted_in ledger))

-- what is said at once to an act of the connection that is entered next
abbrev pub said_to : LedgerView → ℕ → Act → Said
said_to ledger conn act = at_once ledger.project (noted_in ledger) conn act

-- the act of the connection, as an entry
abbrev pub entry : ℕ → Act → Entry
entry conn act = record { conn = conn; act = act }

-- the act by which a connection goes
abbrev pub leaving : Leaving → Act
leaving AsLeft = Left
leaving AsLost = Lost

-- the history with one more entry
abbrev pub with_entry : LedgerView → Entry → LedgerView
with_entry ledger newest = record ledger { entries = ledger.entries ++ newest ∷ [] }

-- the history is legal, each of its entries is one that a trace can hold, there is a worker, and the limit has room for
-- the ends of all
pub record IsLedger (ledger : LedgerView) : Type 0 where
  pub legal : IsLegal ledger.project ledger.workers ledger.limit ledger.entries
  pub each : All IsTraceEntry ledger.entries
  pub some : 1 ≤ ledger.workers
  pub few : ledger.workers ≤ ledger.limit
  pub small : ledger.limit < 2 ^ 31

-- the entry passes the checks after those of the history
abbrev pub Passes : LedgerView → Entry → Type 0
Passes ledger newest = fault ledger.project ledger.workers ledger.limit (noted_in ledger) newest ≡ None

-- the entry is one that a trace can hold, passes the checks after a legal history, and was appended to it
pub record Appends (before : LedgerView) (newest : Entry) (after : LedgerView) : Type 0 where
  pub appended : after ≡ with_entry before newest
  pub legal : IsLedger before
  pub passes : Passes before newest
  pub is_entry : IsTraceEntry newest

-- The numbers of a refusal are the length and the ends that are still to come. With so many more entries besides they
-- left no room for a further one.
pub record IsFull (ledger : LedgerView) (more : ℕ) (full : Full) : Type 0 where
  pub length_is : full.entries ≡ length ledger.entries
  pub reserved_is : full.reserved ≡ reserved_in ledger
  pub no_room : ledger.limit ≤ length ledger.entries + reserved_in ledger + more

-- there is room for a further entry, besides so many more
abbrev pub HasRoom : LedgerView → ℕ → Type 0
HasRoom ledger more = length ledger.entries + reserved_in ledger + more < ledger.limit
