-- Stalls, over the tables.
use Rattle.unit_registry.specs.Projects.{unit_count}
use Rattle.std.specs.Prelude.{ℕ, ◌<◌, ◌+◌, Bool, not, ◌&&◌, ◌==◌, is_none, List, length}
use Rattle.std.specs.List.{list_any, list_all}
use Rattle.histories.specs.Members.{In}
use Rattle.histories.specs.Answered.{has_gone, is_paused, open_connections, done_count}
use Rattle.registry_tables.specs.declared.imports.Waiting.{Waiting}
use Rattle.registry_tables.specs.Tabled.{Tabled, fate_in, is_free_in}

-- each import is of a unit and of a connection that have a row
pub record AreWithin (tables : Tabled) (waiting : List Waiting) : Type 0 where
  pub units : (waiter : Waiting) → In waiter waiting → waiter.unit < unit_count tables.project
  pub conns : (waiter : Waiting) → In waiter waiting → waiter.conn < tables.room

-- whether the connection waits for a unit that hasn't ended
abbrev pub is_waiting_in : Tabled → List Waiting → ℕ → Bool
is_waiting_in tables waiting conn = list_any (λ waiter. waiter.conn == conn && is_none (fate_in tables waiter.unit)) waiting

-- whether each open connection has paused and waits
abbrev pub all_wait_in : Tabled → List Waiting → Bool
all_wait_in tables waiting = list_all (λ conn. is_paused tables.answered conn && is_waiting_in tables waiting conn) (open_connections tables.answered)

-- whether nothing can come any more
abbrev pub is_stalled_in : Tabled → ℕ → List Waiting → Bool
is_stalled_in tables workers waiting =
    not (length (open_connections tables.answered) == 0)
    && length (open_connections tables.answered) + done_count tables.answered == workers
    && all_wait_in tables waiting

-- whether a stall gives its unit up
abbrev pub gives_up : Tabled → Waiting → Bool
gives_up tables waiter = not (has_gone tables.answered waiter.conn) && is_free_in tables waiter.unit
