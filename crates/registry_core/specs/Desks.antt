-- What a desk tells, and what its calls change of it.
use Rattle.std.specs.Prelude.{◌≡◌, ℕ, ◌+◌, ◌-◌, ◌<◌, ◌≤◌, Bool, false, ◌||◌, List, [], ◌∷◌, ◌++◌, length, All, Contains, count_by, slice_get, Some, IsFalse}
use Rattle.std.specs.Option.{option_map_or}
use Rattle.unit_registry.specs.declared.act.Act.{Act}
use Rattle.unit_registry.specs.Acts.{is_done}
use Rattle.histories.specs.declared.entry.Entry.{Entry}
use Rattle.histories.specs.Counts.{Effect, Opens, Asks, effect_of, ChangesOpen, ChangesDone}
use Rattle.registry_core.specs.Ledgers.{LedgerView, IsLedger, is_open_in, said_in}
use Rattle.histories.specs.Answered.{is_stored}

-- What a desk tells: the history that it has seen with its project, its workers and its limit; which registry it is a
-- desk of; the places of its own entries; its connections; how many of these are open; how many workers it has ended;
-- the entries that are kept for it, and whether it has no others; the first of its run of worker numbers, and how many
-- these are; the units that were kept at the start; and what its shelf holds besides its items.
pub record DeskState (Held : Type 0) : Type 0 where
  pub seen : LedgerView
  pub name : List ℕ
  pub places : List ℕ
  pub connections : List ℕ
  pub opened : ℕ
  pub dones : ℕ
  pub room : ℕ
  pub metered : Bool
  pub first : ℕ
  pub share : ℕ
  pub kept : ℕ → Bool
  pub held : Held

-- what no call changes
pub record Stays {Held : Type 0} (before after : DeskState Held) : Type 0 where
  pub project : after.seen.project ≡ before.seen.project
  pub workers : after.seen.workers ≡ before.seen.workers
  pub limit : after.seen.limit ≡ before.seen.limit
  pub name : after.name ≡ before.name
  pub metered : after.metered ≡ before.metered
  pub first : after.first ≡ before.first
  pub share : after.share ≡ before.share
  pub kept : (unit : ℕ) → after.kept unit ≡ before.kept unit
  pub held : after.held ≡ before.held

-- more of the history may have been seen, and the desk entered nothing
pub record Looks {Held : Type 0} (before after : DeskState Held) : Type 0 where
  pub since : List Entry
  pub history : after.seen.entries ≡ before.seen.entries ++ since
  pub places : after.places ≡ before.places
  pub connections : after.connections ≡ before.connections
  pub opened : after.opened ≡ before.opened
  pub dones : after.dones ≡ before.dones
  pub room : after.room ≡ before.room
  pub stays : Stays before after

-- the connections of a desk with an act of one
abbrev pub connections_with : Effect → ℕ → List ℕ → List ℕ
connections_with Opens conn connections = connections ++ conn ∷ []
connections_with _ conn connections = connections

-- the entries of its room that an act uses: a connection that opens keeps one for its end
abbrev pub uses : Effect → ℕ
uses Opens = 2
uses Asks = 1
uses _ = 0

-- the desk made the entry: it stands last and at this place, behind what the desk had seen and what others entered since
pub record Adds {Held : Type 0} (before : DeskState Held) (newest : Entry) (place : ℕ) (after : DeskState Held) : Type 0 where
  pub since : List Entry
  pub history : after.seen.entries ≡ (before.seen.entries ++ since) ++ newest ∷ []
  pub place_is : place ≡ length (before.seen.entries ++ since)
  pub places : after.places ≡ before.places ++ place ∷ []
  pub connections : after.connections ≡ connections_with (effect_of newest.act) newest.conn before.connections
  pub opened : ChangesOpen (effect_of newest.act) before.opened after.opened
  pub dones : ChangesDone (effect_of newest.act) before.dones after.dones
  pub room : after.room ≡ before.room - uses (effect_of newest.act)
  pub stays : Stays before after

-- whether the entry at the place is a Done
abbrev pub is_done_at : List Entry → ℕ → Bool
is_done_at entries place = option_map_or (λ newest. is_done newest.act) (slice_get entries place) false

-- What holds of a desk: its history is legal; all entries of its connections stand at its own places, and each entry at
-- those but a Done is of one of its connections; as many of its connections are open as it tells, and as many of the
-- entries at its own places are a Done; and it has a worker for each of them and for each that it has ended.
pub record IsSound {Held : Type 0} (desk : DeskState Held) : Type 0 where
  pub ledger : IsLedger desk.seen
  pub places_within : All (λ place. place < length desk.seen.entries) desk.places
  pub own_places : (place : ℕ) (newest : Entry) → slice_get desk.seen.entries place ≡ Some newest → Contains desk.connections newest.conn → Contains desk.places place
  pub own_connections : (place : ℕ) (newest : Entry) → slice_get desk.seen.entries place ≡ Some newest → Contains desk.places place → IsFalse (is_done newest.act) → Contains desk.connections newest.conn
  pub opened_is : desk.opened ≡ count_by (is_open_in desk.seen) desk.connections
  pub dones_is : desk.dones ≡ count_by (is_done_at desk.seen.entries) desk.places
  pub enough : desk.opened + desk.dones ≤ desk.share

-- whether the desk knows an item of the unit: it was kept at the start, or is stored in the history seen
abbrev pub is_kept : {Held : Type 0} → DeskState Held → ℕ → Bool
is_kept desk unit = desk.kept unit || is_stored (said_in desk.seen) unit

-- what any number of calls leave of what a desk tells: the history, the own places and the connections have grown at
-- their ends, and what no call changes is the same
pub record GoesOn {Held : Type 0} (before after : DeskState Held) : Type 0 where
  pub since : List Entry
  pub history : after.seen.entries ≡ before.seen.entries ++ since
  pub more_places : List ℕ
  pub places : after.places ≡ before.places ++ more_places
  pub more_connections : List ℕ
  pub connections : after.connections ≡ before.connections ++ more_connections
  pub stays : Stays before after

-- a call that keeps no turn where none was kept
abbrev pub TakesNoTurn : Bool → Bool → Type 0
TakesNoTurn before after = IsFalse before → IsFalse after

-- the entry at the place is of this connection
pub record IsEntryOf (conn : ℕ) (entries : List Entry) (place : ℕ) : Type 0 where
  pub act : Act
  pub there : slice_get entries place ≡ Some (record { conn = conn; act = act })

-- what any number of calls for one connection leave of what a desk tells: the history has grown, and the own places by
-- those of entries of this connection
pub record GoesOnFor {Held : Type 0} (conn : ℕ) (before after : DeskState Held) : Type 0 where
  pub since : List Entry
  pub history : after.seen.entries ≡ before.seen.entries ++ since
  pub own : List ℕ
  pub places : after.places ≡ before.places ++ own
  pub of_conn : All (IsEntryOf conn after.seen.entries) own
  pub connections : after.connections ≡ before.connections
  pub stays : Stays before after
