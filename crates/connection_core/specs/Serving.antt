-- What serving one connection alone comes to.
use Rattle.std.specs.Prelude.{◌≡◌, ℕ, List, ◌++◌, ⊤}
use Rattle.mm_outside.specs.Octets.{Octets}
use Rattle.unit_registry.specs.Projects.{ProjectView}
use Rattle.histories.specs.declared.entry.Entry.{Entry}
use Rattle.connection_core.specs.declared.conn_end.ConnEnd.{ConnEnd}
use Rattle.connection_core.specs.declared.conn_end.ConnEnd.TheVariants.{Closed, Truncated, ReadFault, WriteFault, TooLong, BatchTooLong, HistoryFull}
use Rattle.connection_core.specs.Ends.{Served, status_of}
use Rattle.connection_core.specs.Alone.{solo}

-- these octets of the link were read in a call, and these were written
pub record Moves (read written : List ℕ) (before now : Octets) : Type 0 where
  pub read_are : now.read ≡ before.read ++ read
  pub to_come_was : before.to_come ≡ read ++ now.to_come
  pub written_are : now.written ≡ before.written ++ written

-- where the history was full, the end tells how many entries stand before the one by which the connection was lost
abbrev pub TellsPlace : {project : ProjectView} {workers limit : ℕ} {history : List Entry} {conn : ℕ} {link : Octets} → (how : ConnEnd) → Served project workers limit history conn how link → Type 0
TellsPlace (HistoryFull entries kept) served = served.ends.0.place ≡ entries
TellsPlace Closed served = ⊤
TellsPlace (Truncated lines) served = ⊤
TellsPlace ReadFault served = ⊤
TellsPlace WriteFault served = ⊤
TellsPlace TooLong served = ⊤
TellsPlace BatchTooLong served = ⊤

-- A link was served to this end as the only connection of its history, which has at most so many entries: the octets,
-- the output and the status determine that history, and the connection stands in it so.
pub record ServesAlone (project : ProjectView) (entries : ℕ) (how : ConnEnd) (before now : Octets) : Type 0 where
  pub read : List ℕ
  pub written : List ℕ
  pub moves : Moves read written before now
  pub served : Served project 1 entries (solo project entries read written (status_of how)) 0 how (record { read = read; to_come = now.to_come; written = written })
  pub full_at : TellsPlace how served
