-- What each step tells of the seat that makes it.
use Rattle.std.specs.Prelude.{◌≡◌, ◌≢◌, ℕ, Bool, true, false, ◌+◌, ◌^◌, ◌%◌, ◌<◌, ◌≤◌, List, [], ◌∷◌, ◌++◌, length, Option, Some}
use Rattle.atomic_table.specs.Table.{Me, Step}
use Rattle.histories.specs.declared.entry.Entry.{Entry}
use Rattle.histories.specs.Entries.{IsTraceEntry}
use Rattle.registry_core.specs.Ledgers.{LedgerView, Passes, is_open_in, open_in, done_in, reserved_in}
use Rattle.ruled_history.specs.declared.board.View.{View}
use Rattle.ruled_history.specs.declared.board.Stage.TheVariants.{Idle, Waits, Serves}
use Rattle.ruled_history.specs.Runs.{StartsWith, Has}
use Rattle.ruled_history.specs.Views.{with_entries, at_stage, sees, adds, HasWorker, MayAdd, Knows}

-- what is known while it is a seat's turn, with the book in hand, where `before` had been seen
pub record AtTurn {B : Type 0} (Stands : B → List Entry → Type 0) (opening : LedgerView) (book : B) (before : List Entry) (view : View) : Type 0 where
  pub stands : Stands book view.seen
  pub knows : Knows opening view
  pub still : (conn : ℕ) → Has conn view.connections → is_open_in (with_entries opening view.seen) conn ≡ is_open_in (with_entries opening before) conn
  pub free_worker : HasWorker view → open_in (with_entries opening view.seen) + done_in (with_entries opening view.seen) < opening.workers
  pub room : length view.seen + reserved_in (with_entries opening view.seen) + view.room ≤ opening.limit

-- what a seat knows, and what it has in hand
abbrev pub InHand : Type 0 → Type 0
InHand B = Me (Option B) View

-- the seat is served, with the book in hand: what is known at a turn holds, and it has seen all that there is
pub record InTurn {B : Type 0} (Stands : B → List Entry → Type 0) (opening : LedgerView) (me : InHand B) : Type 0 where
  pub ticket : ℕ
  pub book : B
  pub serves : me.0.stage ≡ Serves ticket
  pub hand : me.1 ≡ (0, Some book) ∷ []
  pub told : AtTurn Stands opening book me.0.seen me.0

-- The seat is served, and may record this entry, which is one that a trace can hold: the book in hand stands after it
-- and all that the seat has seen, after which it passes the checks.
pub record IsEntering {B : Type 0} (Stands : B → List Entry → Type 0) (metered : Bool) (opening : LedgerView) (newest : Entry) (me : InHand B) : Type 0 where
  pub ticket : ℕ
  pub book : B
  pub serves : me.0.stage ≡ Serves ticket
  pub hand : me.1 ≡ (0, Some book) ∷ []
  pub stands : Stands book (me.0.seen ++ newest ∷ [])
  pub passes : Passes (with_entries opening me.0.seen) newest
  pub is_entry : IsTraceEntry newest
  pub may : MayAdd metered me.0 newest

-- the seat has no ticket and nothing in hand
pub record IsOut {B : Type 0} (me : InHand B) : Type 0 where
  pub idle : me.0.stage ≡ Idle
  pub empty : me.1 ≡ []

-- the seat has its turn, or is out, as the first says
abbrev pub TurnIs : {B : Type 0} → Bool → (B → List Entry → Type 0) → LedgerView → InHand B → Type 0
TurnIs true Stands opening me = InTurn Stands opening me
TurnIs false Stands opening me = IsOut me

module _ {B : Type 0} where
  -- a ticket is drawn: the number found is the ticket's, and the seat waits with it
  abbrev pub drew : Step (Option B) → InHand B → ℕ → InHand B → Type 0
  drew step before found after = (ticket : ℕ) × (after ≡ (at_stage (Waits ticket) before.0, before.1)) × (found ≡ ticket % 2 ^ 64)

  -- where the turn has come, the seat has the book in hand, and has seen the history after which it stands
  abbrev pub Served : (B → List Entry → View → Type 0) → ℕ → InHand B → InHand B → Type 0
  Served Tells ticket before after =
      (book : B) × (entries : List Entry) × (after ≡ (sees entries (at_stage (Serves ticket) before.0), (0, Some book) ∷ before.1)) × StartsWith entries before.0.seen × Tells book before.0.seen after.0

  -- serving is looked at: the turn has come where the own ticket is found, and else nothing has changed
  abbrev pub looked : (B → List Entry → View → Type 0) → Step (Option B) → InHand B → ℕ → InHand B → Type 0
  looked Tells step before found after = (ticket : ℕ) → before.0.stage ≡ Waits ticket → (found ≡ ticket % 2 ^ 64 → Served Tells ticket before after) × (found ≢ ticket % 2 ^ 64 → after ≡ before)

  -- the last entry of the book in hand is recorded as the seat's own, which is still served
  abbrev pub recorded : (B → List Entry) → (B → List Entry → View → Type 0) → Step (Option B) → InHand B → ℕ → InHand B → Type 0
  recorded entries_of Tells step before found after = (book : B) (newest : Entry) → before.1 ≡ (0, Some book) ∷ [] → entries_of book ≡ before.0.seen ++ newest ∷ [] → (after ≡ (adds newest before.0, before.1)) × Tells book after.0.seen after.0

  -- the turn is passed with the book
  abbrev pub passed : Step (Option B) → InHand B → ℕ → InHand B → Type 0
  passed step before found after = after ≡ (at_stage Idle before.0, [])

  -- nothing changes, and something is learnt of the view
  abbrev pub learnt : (View → Type 0) → Step (Option B) → InHand B → ℕ → InHand B → Type 0
  learnt Learns step before found after = (after ≡ before) × Learns before.0
