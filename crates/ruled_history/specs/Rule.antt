-- The rule, which holds between any two steps, over the words, the slot and what all seats know.
-- Words 0 and 1 count tickets modulo 2 ^ 64. No two tickets that are out are equal there: a seat has one at most, and
-- there are fewer seats with a share than 2 ^ 32.
use Rattle.std.specs.Prelude.{◌≡◌, ◌⊎◌, ℕ, ◌+◌, ◌^◌, ◌%◌, ◌<◌, ◌≤◌, Bool, List, [], ◌∷◌, length, sum_by, count_by, All, slice_get, Option, Some, IsTrue, IsFalse}
use mathlib.Core.Option.{some, none}
use mathlib.Core.Option as maybe
use lib.ListN.{get_elem?}
use Rattle.atomic_table.specs.Table.{State}
use Rattle.unit_registry.specs.Acts.{is_done}
use Rattle.histories.specs.declared.entry.Entry.{Entry}
use Rattle.histories.specs.Entries.{no_connection}
use Rattle.registry_core.specs.Ledgers.{LedgerView, IsLedger, is_open_in, opened_in, open_in, done_in, reserved_in}
use Rattle.registry_core.specs.Desks.{is_done_at}
use Rattle.ruled_history.specs.declared.board.View.{View}
use Rattle.ruled_history.specs.declared.board.Stage.{Stage}
use Rattle.ruled_history.specs.declared.board.Stage.TheVariants.{Idle, Waits, Serves}
use Rattle.ruled_history.specs.Runs.{StartsWith, times, Has, made_at}
use Rattle.ruled_history.specs.Views.{with_entries, tickets, share_of, opened_of, dones_of, room_of, spent}

-- A ticket that is out is one from those served up to those drawn, and one seat has it. The seat that is served has the
-- slot, which isn't at home then, and has seen the whole history.
module _ (entries : List Entry) (away : Type 0) (drawn served : ℕ) (holder : ℕ → ℕ) (seat : ℕ) (seen : List Entry) where
  abbrev pub HasTurn : Stage → Type 0
  HasTurn Idle = Unit {0}
  HasTurn (Waits ticket) = (served ≤ ticket) × (ticket < drawn) × (holder ticket ≡ seat)
  HasTurn (Serves ticket) = (ticket ≡ served) × (ticket < drawn) × (holder ticket ≡ seat) × (seen ≡ entries) × away

-- what holds of one seat, by its number among the views
pub record SeatFits (opening : LedgerView) (entries : List Entry) (makers : List ℕ) (away : Type 0) (drawn served : ℕ) (holder owner belongs : ℕ → ℕ) (seat : ℕ) (view : View) : Type 0 where
  -- what it has seen is a beginning of the history, and so is what it was told of another seat
  pub begins : StartsWith entries view.seen
  pub heard : StartsWith view.seen view.heard
  -- it has one ticket at most
  pub turn : HasTurn entries away drawn served holder seat view.seen view.stage
  pub one_ticket : tickets view ≤ view.share
  -- its worker numbers are those of no other seat, and below the number of workers; only a spent seat has none
  pub run : (worker : ℕ) → view.first ≤ worker → worker < view.first + view.share → (worker < opening.workers) × (owner worker ≡ seat)
  pub some_share : view.share ≡ 0 → view ≡ spent
  -- its places are those of all entries that were made under its run, each once, and they stand in what it has seen
  pub places : (place : ℕ) → times place view.places ≡ made_at view.first view.share makers place
  pub early : (place : ℕ) → length view.seen ≤ place → times place view.places ≡ 0
  -- its connections are those of no other seat
  pub connections_once : (conn : ℕ) → times conn view.connections ≤ 1
  pub connections_own : (conn : ℕ) → Has conn view.connections → (belongs conn ≡ seat) × (conn < opened_in (with_entries opening entries))
  -- all entries of these were made under its run, and each entry that was made under it but a Done is of one of these
  pub under_run : (place : ℕ) (newest : Entry) → slice_get entries place ≡ Some newest → Has newest.conn view.connections → made_at view.first view.share makers place ≡ 1
  pub of_connections : (place : ℕ) (newest : Entry) → slice_get entries place ≡ Some newest → made_at view.first view.share makers place ≡ 1 → IsFalse (is_done newest.act) → Has newest.conn view.connections
  pub bare : view.places ≡ [] → view.connections ≡ []
  -- it tells how many of its connections are open and how many of its entries are a Done, and has a worker for each
  pub opened_is : view.opened ≡ count_by (is_open_in (with_entries opening view.seen)) view.connections
  pub dones_is : view.dones ≡ count_by (is_done_at view.seen) view.places
  pub enough : view.opened + view.dones ≤ view.share

-- the slot is at home with a book that stands after the history, or with the seat that is served
abbrev pub SlotFits : {B : Type 0} → (B → List Entry → Type 0) → List Entry → ℕ → List (maybe.Option (Option B)) → List View → Type 0
SlotFits {B} Stands entries served homes views =
    ((book : B) × (homes ≡ some (Some book) ∷ []) × Stands book entries)
    ⊎ ((homes ≡ none ∷ []) × ((seat : ℕ) × (view : View) × (get_elem? views seat ≡ some view) × (view.stage ≡ Serves served)))

-- the entries, the ends that are still to come and all rooms fit into the limit; where the registry isn't metered there
-- is no room
pub record RoomFits (metered : Bool) (opening : LedgerView) (entries : List Entry) (rooms : ℕ) : Type 0 where
  pub all_rooms : length entries + reserved_in (with_entries opening entries) + rooms ≤ opening.limit
  pub no_room : IsFalse metered → rooms ≡ 0

-- The rule. `Stands` says that a book is the opening's and stands after a history.
pub record Ruled {B : Type 0} (Stands : B → List Entry → Type 0) (metered : Bool) (opening : LedgerView) (state : State (Option B) View) : Type 0 where
  -- the history, and beside each entry the first worker number of the seat that made it
  pub entries : List Entry
  pub makers : List ℕ
  -- the tickets that were drawn and that were served
  pub drawn : ℕ
  pub served : ℕ
  -- the seat that has a ticket, a worker number, a connection
  pub holder : ℕ → ℕ
  pub owner : ℕ → ℕ
  pub belongs : ℕ → ℕ
  pub words : state.words ≡ drawn % 2 ^ 64 ∷ served % 2 ^ 64 ∷ length entries ∷ []
  -- so many tickets are out
  pub out : drawn ≡ served + sum_by tickets state.views
  pub slot : SlotFits Stands entries served state.homes state.views
  -- some seat has seen the whole history
  pub longest : (seat : ℕ) × (view : View) × (get_elem? state.views seat ≡ some view) × (view.seen ≡ entries)
  pub beside : length makers ≡ length entries
  pub makers_below : All (λ maker. maker < opening.workers) makers
  pub ledger : IsLedger (with_entries opening entries)
  -- a Done is of no connection
  pub of_nobody : All (λ newest. IsTrue (is_done newest.act) → newest.conn ≡ no_connection) entries
  -- the shares of all seats are the workers, their open connections all that are open, and their Dones all
  pub shares : sum_by share_of state.views ≡ opening.workers
  pub opened : sum_by opened_of state.views ≡ open_in (with_entries opening entries)
  pub dones : sum_by dones_of state.views ≡ done_in (with_entries opening entries)
  pub rooms : RoomFits metered opening entries (sum_by room_of state.views)
  pub each_seat : (seat : ℕ) (view : View) → get_elem? state.views seat ≡ some view → SeatFits opening entries makers (state.homes ≡ none ∷ []) drawn served holder owner belongs seat view
