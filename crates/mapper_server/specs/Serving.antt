-- What serving one connection over a desk comes to.
use Rattle.std.specs.Prelude.{◌≡◌, ℕ, ◌+◌, ◌≤◌, List, [], ◌∷◌, ◌++◌, length, None, Contains}
use Rattle.mm_outside.specs.Octets.{Octets}
use Rattle.unit_registry.specs.declared.act.Act.TheVariants.{Open}
use Rattle.unit_registry.specs.Projects.{ProjectView}
use Rattle.histories.specs.declared.entry.Entry.{Entry}
use Rattle.registry_core.specs.Ledgers.{LedgerView, IsFull, entry, reserved_in}
use Rattle.registry_core.specs.Desks.{DeskState, Stays}
use Rattle.connection_core.specs.declared.conn_end.ConnEnd.{ConnEnd}
use Rattle.connection_core.specs.declared.conn_end.ConnEnd.TheVariants.{HistoryFull}
use Rattle.connection_core.specs.Answers.{acts_of}
use Rattle.connection_core.specs.Entering.{IsServing}
use Rattle.connection_core.specs.Ends.{Served, last_of}
use Rattle.connection_core.specs.Serving.{Moves}
use Rattle.connection_core.specs.Sessions.{SessionState, StandsAfter, IsIdle, ended}

-- the session was just reset to this connection: it has taken nothing, and keeps no item
pub record IsAnew {Item : Type 0} (project : ProjectView) (conn : ℕ) (session : SessionState Item) : Type 0 where
  pub stands : StandsAfter session project []
  pub going : ended session ≡ None
  pub idle : IsIdle session
  pub no_item : session.stash ≡ None
  pub conn_is : session.conn ≡ conn

-- the connection is the desk's, is open, and has done nothing but open
pub record HasOpened {Held : Type 0} (conn : ℕ) (desk : DeskState Held) : Type 0 where
  pub serving : IsServing conn desk
  pub only : acts_of conn desk.seen.entries ≡ Open ∷ []

-- A link was served to this end as the connection, in the history that has been seen: so much was read and written, and
-- the connection stands in the history so.
pub record ServesIn (seen : LedgerView) (conn : ℕ) (how : ConnEnd) (before now : Octets) : Type 0 where
  pub read : List ℕ
  pub written : List ℕ
  pub moves : Moves read written before now
  pub served : Served seen.project seen.workers seen.limit seen.entries conn how (record { read = read; to_come = now.to_come; written = written })

-- what the history of a desk was before is the front of what it is now, and the connections that the desk had have done
-- nothing since
pub record LeavesOthers {Held : Type 0} (before after : DeskState Held) : Type 0 where
  pub since : List Entry
  pub history : after.seen.entries ≡ before.seen.entries ++ since
  pub rest : (conn : ℕ) → Contains before.connections conn → acts_of conn since ≡ []
  pub stays : Stays before after

-- where the end is that of a full history, its numbers add up to the limit: the entries and the ends still to come
abbrev pub FillsUp : ConnEnd → ℕ → Type 0
FillsUp how limit = (entries kept : ℕ) → how ≡ HistoryFull entries kept → entries + kept ≡ limit

-- the history has no room for a further connection: for its opening and its end
abbrev pub HasNoRoom : LedgerView → Type 0
HasNoRoom seen = seen.limit ≤ length seen.entries + reserved_in seen + 1

-- the newest entry of the history is the going of a connection that ended so
pub record GoesLast (conn : ℕ) (how : ConnEnd) (seen : LedgerView) : Type 0 where
  pub earlier : List Entry
  pub history : seen.entries ≡ earlier ++ entry conn (last_of how) ∷ []

-- a front of the history has so many entries and so many ends still to come, and no room for a further entry
pub record WasFull (seen : LedgerView) (entries kept : ℕ) : Type 0 where
  pub front : List Entry
  pub since : List Entry
  pub history : seen.entries ≡ front ++ since
  pub full : IsFull (record seen { entries = front }) 0 (record { entries = entries; reserved = kept })

-- where the end is that of a full history, the history was full with these numbers
abbrev pub TellsWasFull : ConnEnd → LedgerView → Type 0
TellsWasFull how seen = (entries kept : ℕ) → how ≡ HistoryFull entries kept → WasFull seen entries kept
