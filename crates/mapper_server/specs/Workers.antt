-- How workers come to what serving means: working definitions, and no part of it.
use Rattle.std.specs.Prelude.{◌≡◌, ◌≢◌, ℕ, ◌≤◌, List, [], ◌∷◌, ◌++◌, length, Option, None, All, Contains, IsFalse}
use Rattle.mm_outside.specs.Octets.{Octets}
use Rattle.mm_outside.specs.Causes.{Rose}
use Rattle.mm_outside.specs.Told.{Told}
use Rattle.mm_outside.specs.Hall.{Links}
use Rattle.mm_outside.specs.HallCounts.{HallCounts}
use Rattle.mm_outside.specs.declared.hall.Back.{Back}
use Rattle.cody_words.specs.Buffers.{Buffer}
use Rattle.unit_registry.specs.Projects.{ProjectView}
use Rattle.registry_core.specs.Ledgers.{LedgerView}
use Rattle.registry_core.specs.Desks.{DeskState}
use Rattle.ruled_history.specs.declared.board.View.{View}
use Rattle.ruled_history.specs.Views.{IsBare, first_view, with_entries}
use Rattle.ruled_history.specs.Seats.{Shared, Sitting}
use Rattle.mapper_server.specs.Backs.{IsReturned, Works, conns_of, new_back}
use Rattle.mapper_server.specs.Headline.{EachPair, EndsWith, GivesNoMore, ReturnsAll, SomeGrew, new_backs, told_all}
use Rattle.mapper_server.specs.Printing.{line_room}
use Rattle.mapper_server.specs.Serving.{HasNoRoom}
use Rattle.mapper_server.specs.Statuses.{IsLeast, IsServingStatus, IsUpTo, Grew, statuses_of}

-- the links of a hall were served in the history seen, those that had a connection as some of these
pub record ServesAmong {L : Type 0} (octets : L → Option Octets) (read_faults write_faults : L → ℕ) (seen : LedgerView) (connections : List ℕ) (before now : Links L) : Type 0 where
  pub works : Works octets read_faults write_faults seen (HasNoRoom seen) before now
  pub among : (conn : ℕ) → Contains (conns_of (new_back before now)) conn → Contains connections conn

-- A link was given back by a desk that has gone on from one state to another, with this status: where it had a
-- connection, there was room for it, and that is the desk's newest.
pub record GivesBackOne {L Held : Type 0} (octets : L → Option Octets) (read_faults write_faults : L → ℕ) (desk_before desk_now : DeskState Held) (link : L) (status : ℕ) (before now : Links L) : Type 0 where
  pub back : Back L
  pub to_give : now.to_give ≡ before.to_give
  pub appended : now.back ≡ before.back ++ back ∷ []
  pub status_is : back.status ≡ status
  pub returned : IsReturned octets read_faults write_faults desk_now.seen (HasNoRoom desk_now.seen) link back.link back.conn back.status []
  pub room : back.conn ≢ None → HasNoRoom desk_before.seen → ⊥
  pub conns : desk_now.connections ≡ desk_before.connections ++ conns_of (back ∷ [])

-- A hall gave links and got back each of them, served in the history seen, as these connections and no others; and the
-- least of their statuses above 0 is this.
pub record HasWorked {L : Type 0} (octets : L → Option Octets) (read_faults write_faults : L → ℕ) (seen : LedgerView) (connections : List ℕ) (status : ℕ) (before now : Links L) : Type 0 where
  pub works : Works octets read_faults write_faults seen (HasNoRoom seen) before now
  pub conns : connections ≡ conns_of works.backs
  pub least : IsLeast (Contains (statuses_of works.backs)) (Contains (statuses_of works.backs)) status

-- the least above 0 of the statuses that links and halls ended with
abbrev pub EndsLeast : {H L : Type 0} → (H → ℕ) → List H → List H → List (Back L) → ℕ → Type 0
EndsLeast hall_faults before now backs status = IsLeast (EndsWith hall_faults Rose before now backs) (EndsWith hall_faults Grew before now backs) status

module _ {H L : Type 0} (links : H → Option (Links L)) (hall_faults : H → ℕ) (counts : H → HallCounts) (octets : L → Option Octets) (read_faults write_faults : L → ℕ) where
  -- a worker served the links of one hall in the history seen, as these connections
  pub record WorksAt (seen : LedgerView) (connections : List ℕ) (before now : H) (status : ℕ) : Type 0 where
    pub served : Told (Works octets read_faults write_faults seen (HasNoRoom seen)) (links before) (links now)
    pub conns : Told (λ (old new : Links L). connections ≡ conns_of (new_back old new)) (links before) (links now)
    pub used_up : GivesNoMore links hall_faults before now
    pub status_is : Told (λ (old new : Links L). EndsLeast hall_faults (before ∷ []) (now ∷ []) (new_back old new) status) (links before) (links now)
    pub kind : IsServingStatus status
    pub hall_fault : Grew (hall_faults before) (hall_faults now) → IsUpTo 4 status
    pub returned : ReturnsAll (counts before) (counts now)

  -- workers served the links of all halls in the history that their joined seat has seen
  pub record AllWork (opening : LedgerView) (after : View) (before now : List H) (status : ℕ) : Type 0 where
    pub served : EachPair (λ (old new : H). Told (ServesAmong octets read_faults write_faults (with_entries opening after.seen) after.connections) (links old) (links new)) before now
    pub conns : Told (λ (old new : List (Links L)). after.connections ≡ conns_of (new_backs old new)) (told_all links before) (told_all links now)
    pub used_up : EachPair (GivesNoMore links hall_faults) before now
    pub status_is : Told (λ (old new : List (Links L)). EndsLeast hall_faults before now (new_backs old new) status) (told_all links before) (told_all links now)
    pub kind : IsServingStatus status
    pub hall_fault : SomeGrew hall_faults before now → IsUpTo 4 status
    pub returned : EachPair (λ (old new : H). ReturnsAll (counts old) (counts new)) before now

-- Workers may begin at a bare seat of a registry that isn't metered and is of the project: the seat has a worker for each
-- hall, there is a session for each, and no hall has got back more than it gave.
pub record MayWork {S H : Type 0} (counts : H → HallCounts) (registry : Shared S) (project : ProjectView) (seat : Sitting) (sessions : ℕ) (halls : List H) : Type 0 where
  pub registry_is : seat.registry ≡ registry.name
  pub bare : IsBare seat.knows
  pub each : seat.knows.share ≡ length halls
  pub sessions_are : sessions ≡ length halls
  pub some : 1 ≤ length halls
  pub loose : IsFalse registry.metered
  pub project_is : registry.opening.ledger.project ≡ project
  pub given : All (λ hall. (counts hall).back ≤ (counts hall).given) halls

-- what workers leave of a bare seat: the run is what it was, no connection is open, and each worker is done
pub record IsLeft (before after : Sitting) : Type 0 where
  pub registry_is : after.registry ≡ before.registry
  pub first_is : after.knows.first ≡ before.knows.first
  pub share_is : after.knows.share ≡ before.knows.share
  pub opened_is : after.knows.opened ≡ 0
  pub dones_is : after.knows.dones ≡ before.knows.share

-- What serving takes before a link is accepted: a registry of a history without entries, which isn't metered, with its
-- first seat, a session for each worker, and an empty buffer with room for a line of a trace.
pub record IsReady {S : Type 0} (project : ProjectView) (workers limit : ℕ) (registry : Shared S) (seat : Sitting) (sessions : ℕ) (line : Buffer) : Type 0 where
  pub opening_is : registry.opening.ledger ≡ record { project = project; workers = workers; limit = limit; entries = [] }
  pub loose : IsFalse registry.metered
  pub registry_is : seat.registry ≡ registry.name
  pub knows_is : seat.knows ≡ first_view workers 0
  pub sessions_are : sessions ≡ workers
  pub empty : line.octets ≡ []
  pub room : line_room ≤ line.spare
