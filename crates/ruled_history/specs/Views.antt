-- What a seat knows, and what each step makes of it.
use Rattle.std.specs.Prelude.{◌≡◌, ℕ, ◌+◌, ◌-◌, ◌<◌, ◌≤◌, nat_lt, Bool, List, [], ◌∷◌, ◌++◌, length, All, count_by, slice_get, Some, IsTrue, IsFalse, if◌then◌else◌}
use Rattle.unit_registry.specs.Acts.{is_done}
use Rattle.histories.specs.declared.entry.Entry.{Entry}
use Rattle.histories.specs.Entries.{no_connection}
use Rattle.histories.specs.Counts.{Effect, Opens, Asks, Goes, Ends, effect_of}
use Rattle.registry_core.specs.Ledgers.{LedgerView, IsLedger, is_open_in}
use Rattle.registry_core.specs.Desks.{connections_with, uses, is_done_at}
use Rattle.ruled_history.specs.declared.board.View.{View}
use Rattle.ruled_history.specs.declared.board.Stage.{Stage}
use Rattle.ruled_history.specs.declared.board.Stage.TheVariants.{Idle, Waits, Serves}
use Rattle.ruled_history.specs.Runs.{StartsWith, times, Has}

-- the history of the opening's project, workers and limit with these entries
abbrev pub with_entries : LedgerView → List Entry → LedgerView
with_entries opening entries = record opening { entries = entries }

-- how many tickets a seat has at a stage
abbrev pub tickets_at : Stage → ℕ
tickets_at Idle = 0
tickets_at (Waits ticket) = 1
tickets_at (Serves ticket) = 1

-- how many tickets the seat has
abbrev pub tickets : View → ℕ
tickets view = tickets_at view.stage

-- how many worker numbers the seat has
abbrev pub share_of : View → ℕ
share_of view = view.share

-- how many open connections the seat has
abbrev pub opened_of : View → ℕ
opened_of view = view.opened

-- how many workers that are done the seat has
abbrev pub dones_of : View → ℕ
dones_of view = view.dones

-- how many kept entries the seat has
abbrev pub room_of : View → ℕ
room_of view = view.room

-- the view of the first seat: all workers are its, and this room
abbrev pub first_view : ℕ → ℕ → View
first_view workers room = record { seen = []; heard = []; places = []; first = 0; share = workers; connections = []; opened = 0; dones = 0; room = room; stage = Idle }

-- the view of a seat that was joined to another: it holds nothing
abbrev pub spent : View
spent = first_view 0 0

-- the view with this turn
abbrev pub at_stage : Stage → View → View
at_stage stage view = record view { stage = stage }

-- the view with this history seen
abbrev pub sees : List Entry → View → View
sees entries view = record view { seen = entries }

-- how many of its connections are open after an act
abbrev pub opened_after : Effect → ℕ → ℕ
opened_after Opens opened = opened + 1
opened_after Asks opened = opened
opened_after Goes opened = opened - 1
opened_after Ends opened = opened

-- how many of its workers are done after an act
abbrev pub dones_after : Effect → ℕ → ℕ
dones_after Opens dones = dones
dones_after Asks dones = dones
dones_after Goes dones = dones
dones_after Ends dones = dones + 1

-- the view after an entry of the seat's own, which is made behind all that it has seen
abbrev pub adds : Entry → View → View
adds newest view =
    record view {
      seen = view.seen ++ newest ∷ [];
      places = view.places ++ length view.seen ∷ [];
      connections = connections_with (effect_of newest.act) newest.conn view.connections;
      opened = opened_after (effect_of newest.act) view.opened;
      dones = dones_after (effect_of newest.act) view.dones;
      room = view.room - uses (effect_of newest.act);
    }

-- a free worker, for an Open or a Done
abbrev pub HasWorker : View → Type 0
HasWorker view = view.opened + view.dones < view.share

-- what a seat may enter, by what the act does
abbrev pub MayAddBy : Bool → View → ℕ → Effect → Type 0
MayAddBy metered view conn Opens = HasWorker view × (IsTrue metered → 2 ≤ view.room)
MayAddBy metered view conn Asks = Has conn view.connections × (IsTrue metered → 1 ≤ view.room)
MayAddBy metered view conn Goes = Has conn view.connections
MayAddBy metered view conn Ends = (conn ≡ no_connection) × HasWorker view

-- a seat may make the entry
abbrev pub MayAdd : Bool → View → Entry → Type 0
MayAdd metered view newest = MayAddBy metered view newest.conn (effect_of newest.act)

-- the last worker numbers of the run are cut off, with that room, and the rest stays
abbrev pub rest_of : ℕ → ℕ → View → View
rest_of share room view = record view { share = view.share - share; room = view.room - room }

-- the seat that gets them: it has seen the same
abbrev pub cut_off : ℕ → ℕ → View → View
cut_off share room view =
    record view { places = []; first = view.first + (view.share - share); share = share; connections = []; opened = 0; dones = 0; room = room }

-- the longer of two lists
abbrev pub longer : {A : Type 0} → List A → List A → List A
longer left right = if nat_lt (length left) (length right) then right else left

-- the shorter of two lists
abbrev pub shorter : {A : Type 0} → List A → List A → List A
shorter left right = if nat_lt (length left) (length right) then left else right

-- two seats as one: both runs, both lists and both rooms, and the longer history
abbrev pub joined : View → View → View
joined left right =
    record {
      seen = longer left.seen right.seen;
      heard = shorter left.seen right.seen;
      places = left.places ++ right.places;
      first = left.first;
      share = left.share + right.share;
      connections = left.connections ++ right.connections;
      opened = left.opened + right.opened;
      dones = left.dones + right.dones;
      room = left.room + right.room;
      stage = left.stage;
    }

-- What holds of every seat: its history is legal, its own places stand in it, each once, and so do its connections.
-- All entries of its connections stand at its places, and each entry at those but a Done is of one of its connections.
-- It tells how many of its connections are open and how many of its entries are a Done, and has a worker for each. A
-- Done is of no connection. A seat without an entry has no connection.
pub record Knows (opening : LedgerView) (view : View) : Type 0 where
  pub ledger : IsLedger (with_entries opening view.seen)
  pub heard : StartsWith view.seen view.heard
  pub places_once : (place : ℕ) → times place view.places ≤ 1
  pub early : (place : ℕ) → length view.seen ≤ place → times place view.places ≡ 0
  pub connections_once : (conn : ℕ) → times conn view.connections ≤ 1
  pub own_places : (place : ℕ) (newest : Entry) → slice_get view.seen place ≡ Some newest → Has newest.conn view.connections → Has place view.places
  pub own_connections : (place : ℕ) (newest : Entry) → slice_get view.seen place ≡ Some newest → Has place view.places → IsFalse (is_done newest.act) → Has newest.conn view.connections
  pub opened_is : view.opened ≡ count_by (is_open_in (with_entries opening view.seen)) view.connections
  pub dones_is : view.dones ≡ count_by (is_done_at view.seen) view.places
  pub enough : view.opened + view.dones ≤ view.share
  pub of_nobody : All (λ newest. IsTrue (is_done newest.act) → newest.conn ≡ no_connection) view.seen
  pub numbered : (conn : ℕ) → Has conn view.connections → conn < no_connection
  pub bare : view.places ≡ [] → view.connections ≡ []

-- a seat that has no entry, no connection and no worker that is done
pub record IsBare (view : View) : Type 0 where
  pub places : view.places ≡ []
  pub connections : view.connections ≡ []
  pub opened : view.opened ≡ 0
  pub dones : view.dones ≡ 0

-- What a joined seat keeps of one of the two: it has seen all that it had seen, where all its places stand, and in the
-- whole history the entries of its connections stand at its places alone.
pub record Keeps (part whole : View) : Type 0 where
  pub seen : StartsWith whole.seen part.seen
  pub within : (place : ℕ) → Has place part.places → place < length part.seen
  pub own : (place : ℕ) (newest : Entry) → slice_get whole.seen place ≡ Some newest → Has newest.conn part.connections → Has place part.places
