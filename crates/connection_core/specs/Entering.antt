-- How the acts of a block are entered at a desk.
use Rattle.std.specs.Prelude.{◌≡◌, ◌≢◌, ℕ, ◌-◌, Bool, true, false, if◌then◌else◌, List, [], ◌∷◌, ◌++◌, length, Option, Some, None, Result, Ok, Err, IsTrue, IsFalse, All, Contains}
use Rattle.std.specs.List.{list_any}
use Rattle.unit_registry.specs.declared.act.Act.{Act as Acts}
use Rattle.unit_registry.specs.declared.act.Act.TheVariants as act
use Rattle.unit_registry.specs.Projects.{ProjectView}
use Rattle.histories.specs.declared.entry.Entry.{Entry}
use Rattle.histories.specs.Counts.{Asks, effect_of}
use Rattle.histories.specs.Entries.{has_its_unit}
use Rattle.histories.specs.Histories.{is_out_of_range}
use Rattle.registry_core.specs.declared.full.Full.{Full}
use Rattle.registry_core.specs.Ledgers.{IsFull, is_open_in, entry}
use Rattle.histories.specs.Answered.{stored_unit}
use Rattle.registry_core.specs.Desks.{DeskState, Stays, IsSound, IsEntryOf, Adds, Looks}
use Rattle.connection_core.specs.declared.asked.Asked.{Asked}
use Rattle.connection_core.specs.declared.asked.Asked.TheVariants.{Act, Malformed}
use Rattle.connection_core.specs.declared.entering.Stash.{Stash}
use Rattle.connection_core.specs.Asking.{reports}
use Rattle.connection_core.specs.Answers.{acts_of, request_places, is_request}

-- The desk entered these acts of the connection, one after another, and nothing else; others may have entered more
-- between them. The requests among them stand at these places. Each new own place is that of an entry of the connection.
pub record Enters {Held : Type 0} (conn : ℕ) (asked : List Acts) (requested : List ℕ) (before after : DeskState Held) : Type 0 where
  pub since : List Entry
  pub history : after.seen.entries ≡ before.seen.entries ++ since
  pub own_acts : acts_of conn since ≡ asked
  pub requests : request_places (length before.seen.entries) conn since ≡ requested
  pub own : List ℕ
  pub places : after.places ≡ before.places ++ own
  pub as_many : length own ≡ length asked
  pub of_conn : All (IsEntryOf conn after.seen.entries) own
  pub connections : after.connections ≡ before.connections
  pub opened : after.opened ≡ before.opened
  pub dones : after.dones ≡ before.dones
  pub room : after.room ≡ before.room - length asked
  pub stays : Stays before after

-- the desk entered the first of the acts, and then its history had no room for the next one
pub record EntersPart {Held : Type 0} (conn : ℕ) (asked : List Acts) (full : Full) (before after : DeskState Held) : Type 0 where
  pub part : List Acts
  pub missing : List Acts
  pub parts : asked ≡ part ++ missing
  pub some_missing : missing ≢ []
  pub requested : List ℕ
  pub entered : Enters conn part requested before after
  pub is_full : IsFull after.seen 0 full

-- all of the acts were entered, or a part
abbrev pub EntersSo : {Held : Type 0} → Result (Unit {0}) Full → ℕ → List Acts → List ℕ → DeskState Held → DeskState Held → Type 0
EntersSo (Ok done) conn asked requested before after = Enters conn asked requested before after
EntersSo (Err full) conn asked requested before after = EntersPart conn asked full before after

-- ---- the kept item

-- the unit for which an item is kept
abbrev pub unit_kept : {Item : Type 0} → Option (Stash Item) → Option ℕ
unit_kept None = None
unit_kept (Some kept) = Some kept.unit

-- whether an act is the report for which an item is kept
abbrev pub is_awaited : Option ℕ → Acts → Bool
is_awaited None asked = false
is_awaited (Some unit) asked = reports unit asked

-- the act as it is entered, where an item is kept for this unit
abbrev pub as_entered : Option ℕ → Acts → Acts
as_entered None asked = asked
as_entered (Some unit) asked = if reports unit asked then act.Compiled (Some unit) true else asked

-- what is kept behind the act: the item, unless the act reports its unit
abbrev pub stash_left : {Item : Type 0} → Option (Stash Item) → Acts → Option (Stash Item)
stash_left None asked = None
stash_left (Some kept) asked = if reports kept.unit asked then None else Some kept

-- what is kept behind the acts: the item, unless one of them reports its unit
abbrev pub stash_behind : {Item : Type 0} → Option (Stash Item) → List Acts → Option (Stash Item)
stash_behind None asked = None
stash_behind (Some kept) asked = if list_any (reports kept.unit) asked then None else Some kept

-- the kept item fits its unit
abbrev pub Fits : {Item : Type 0} → (ℕ → Item → Type 0) → Option (Stash Item) → Type 0
Fits fits None = Unit {0}
Fits fits (Some kept) = fits kept.unit kept.item

-- ---- what a desk is asked for

-- the act is a request that may be asked of a desk, and no item comes with it
pub record CanAsk (project : ProjectView) (asked : Acts) : Type 0 where
  pub asks : effect_of asked ≡ Asks
  pub request : is_request asked ≡ true
  pub range : IsFalse (is_out_of_range project asked)
  pub whole : IsTrue (has_its_unit asked)
  pub plain : stored_unit asked ≡ None

-- the same of a line, which asks nothing where it is malformed
abbrev pub LineCanAsk : ProjectView → Asked → Type 0
LineCanAsk project (Act asked) = CanAsk project asked
LineCanAsk project (Malformed reason) = Unit {0}

-- the connection is the desk's and open, and what holds of desks holds of this one
pub record IsServing {Held : Type 0} (conn : ℕ) (desk : DeskState Held) : Type 0 where
  pub own : Contains desk.connections conn
  pub there : IsTrue (is_open_in desk.seen conn)
  pub sound : IsSound desk

-- what entering a line comes to: its act stands at a place, which was noted, or there was no room for it; a malformed
-- line changes nothing
abbrev pub EntersLine : {Item Held : Type 0} → Result (Unit {0}) Full → ℕ → Asked → Option (Stash Item) → Option (Stash Item) → List ℕ → List ℕ → DeskState Held → DeskState Held → Type 0
EntersLine (Ok done) conn (Act asked) kept left old new before after =
    (place : ℕ) × Adds before (entry conn (as_entered (unit_kept kept) asked)) place after × (new ≡ old ++ place ∷ []) × (left ≡ stash_left kept asked)
EntersLine (Ok done) conn (Malformed reason) kept left old new before after = (before ≡ after) × (new ≡ old) × (left ≡ kept)
EntersLine (Err full) conn (Act asked) kept left old new before after = Looks before after × IsFull after.seen 0 full × (new ≡ old)
EntersLine (Err full) conn (Malformed reason) kept left old new before after = ⊥
