-- What a desk tells that has a whole book.
use Rattle.std.specs.Prelude.{◌≡◌, ℕ, ◌+◌, ◌-◌, Bool, false, ◌||◌, [], length, Option, is_some}
use Rattle.std.specs.List.{range_with_len}
use Rattle.histories.specs.Answered.{is_stored}
use Rattle.registry_core.specs.Ledgers.{LedgerView, said_in, opened_in, open_in, done_in, reserved_in}
use Rattle.registry_core.specs.Books.{BookView}
use Rattle.registry_core.specs.Desks.{DeskState}

-- All places and connections of the history are its own, its run is that of all workers, and its room is what the limit
-- leaves.
abbrev pub solo : {Held : Type 0} → (ℕ → Bool) → Held → LedgerView → DeskState Held
solo kept held ledger = record {
  seen = ledger;
  name = [];
  places = range_with_len 0 (length ledger.entries);
  connections = range_with_len 0 (opened_in ledger);
  opened = open_in ledger;
  dones = done_in ledger;
  room = ledger.limit - (length ledger.entries + reserved_in ledger);
  metered = false;
  first = 0;
  share = ledger.workers;
  kept = kept;
  held = held;
}

-- the book as it was when the desk was made, and as it is
pub record Alone (S : Type 0) : Type 0 where
  pub opening : BookView S
  pub book : BookView S

-- what it tells, by what a shelf keeps and holds
abbrev pub told_alone : {S Item Held : Type 0} → (S → ℕ → Option Item) → (S → Held) → Alone S → DeskState Held
told_alone kept held desk = solo (λ unit. is_some (kept desk.opening.shelf unit)) (held desk.book.shelf) desk.book.ledger

-- items are kept of the units of which they were at first, and of those that are stored in the history
pub record KeepsOn (ledger : LedgerView) (first now : ℕ → Bool) : Type 0 where
  pub kept : (unit : ℕ) → now unit ≡ (first unit || is_stored (said_in ledger) unit)
