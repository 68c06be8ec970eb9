-- A book, as its callers see it.
use Rattle.std.specs.Prelude.{ℕ, ◌≤◌, Bool, ◌||◌, IsTrue}
use Rattle.unit_registry.specs.Projects.{unit_count, is_built}
use Rattle.histories.specs.Answered.{is_reported, is_stored}
use Rattle.registry_core.specs.Ledgers.{LedgerView, said_in}

-- the history, and the shelf that is kept beside it
pub record BookView (S : Type 0) : Type 0 where
  pub ledger : LedgerView
  pub shelf : S

-- What a book keeps: its shelf has a place for each unit of the project, an item is kept of none that was neither built
-- nor reported, and one of each that is stored.
pub record KeepsItems (ledger : LedgerView) (units : ℕ) (kept : ℕ → Bool) : Type 0 where
  pub enough : unit_count ledger.project ≤ units
  pub ended : (unit : ℕ) → IsTrue (kept unit) → IsTrue (is_built ledger.project unit || is_reported (said_in ledger) unit)
  pub stored : (unit : ℕ) → IsTrue (is_stored (said_in ledger) unit) → IsTrue (kept unit)
