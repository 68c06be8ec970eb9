-- What a ledger keeps beside its entries.
use Rattle.std.specs.Prelude.{◌≡◌, ℕ, ◌+◌, ◌<◌, ◌≤◌, ◌^◌, Bool, true, false, List, length, map, All, get_or, None, vec_capacity}
use Rattle.std.specs.Global.{Vec}
use Rattle.unit_registry.specs.declared.act.Act.{Act}
use Rattle.unit_registry.specs.declared.act.Act.TheVariants.{Repo, Export, Import, Compiled, Translate}
use Rattle.unit_registry.specs.Projects.{unit_count}
use Rattle.histories.specs.declared.answered.Wait.{Wait}
use Rattle.histories.specs.declared.entry.Entry.{Entry}
use Rattle.histories.specs.Answered.{who}
use Rattle.histories.specs.Entries.{IsTraceEntry}
use Rattle.histories.specs.Noted.{Noted, answered_of, is_given_up, reply_in, pending}
use Rattle.histories.specs.Histories.{noted_of, IsLegal}
use Rattle.histories.specs.Members.{In}
use Rattle.registry_tables.specs.declared.imports.Waiting.{Waiting}
use Rattle.registry_tables.specs.Imported.{Imported, AllWithin, held}
use Rattle.registry_tables.specs.Tabled.{Tabled}
use Rattle.registry_core.specs.Ledgers.{answered_with}

-- an import that waits, with the unit that its connection holds
abbrev pub waiting_of : List Noted → Wait → Waiting
waiting_of noted wait = record { place = wait.place; conn = wait.conn; unit = wait.unit; holder = held (who (answered_of noted) wait.conn) }

-- What is kept beside the entries is right. The limit leaves room for the end of each connection, so there are at most
-- half as many connections.
pub record Stands (tables : Tabled) (imports : Imported) (entries : Vec Entry) (workers limit : ℕ) (noted : List Noted) : Type 0 where
  pub is_noted : noted ≡ noted_of tables.project workers entries.items
  pub legal : IsLegal tables.project workers limit entries.items
  pub each : All IsTraceEntry entries.items
  pub is_answered : tables.answered ≡ answered_of noted
  pub is_given : (unit : ℕ) → get_or tables.given unit false ≡ is_given_up noted unit
  pub is_waiting : imports.waiting ≡ map (waiting_of noted) (pending tables.project noted)
  pub is_last : imports.answered ≡ answered_with tables.project noted
  pub is_reply : (place : ℕ) → place < length entries.items → get_or imports.replies place None ≡ reply_in tables.project noted place
  pub replies_len : length imports.replies ≡ length entries.items
  pub within : AllWithin imports.waiting (unit_count tables.project) (length entries.items)
  pub conns : (waiter : Waiting) → In waiter imports.waiting → waiter.conn < tables.room
  pub has_room : limit ≤ tables.room + tables.room + 1
  pub has_seats : workers ≤ tables.seats
  pub has_places : limit ≤ tables.places
  pub has_conns : imports.conns ≡ tables.room
  pub has_import_room : imports.room ≡ limit
  pub has_units : imports.units ≡ unit_count tables.project
  pub some : 1 ≤ workers
  pub few : workers ≤ limit
  pub has_entry_room : limit ≤ vec_capacity entries
  pub small : limit < 2 ^ 31

-- a request that only a connected connection may make
abbrev pub asks_connected : Act → Bool
asks_connected Repo = true
asks_connected (Export unit) = true
asks_connected (Import unit name_only) = true
asks_connected (Compiled unit stored) = true
asks_connected (Translate header) = true
asks_connected _ = false
