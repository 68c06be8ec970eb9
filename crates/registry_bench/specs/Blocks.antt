-- What a connection has at a desk where it enters blocks, and what calls for it leave.
use Rattle.std.specs.Prelude.{◌+◌, ◌<◌, Contains, IsTrue, IsFalse, ℕ}
use Rattle.registry_core.specs.Ledgers.{is_open_in}
use Rattle.registry_core.specs.Desks.{DeskState, IsSound, GoesOn}

-- a desk with a worker left, and no room of its own
pub record IsFresh {Held : Type 0} (desk : DeskState Held) : Type 0 where
  pub worker : desk.opened + desk.dones < desk.share
  pub loose : IsFalse desk.metered

-- a desk of which the connection is open, and that has no room of its own
pub record HasOpen {Held : Type 0} (conn : ℕ) (desk : DeskState Held) : Type 0 where
  pub sound : IsSound desk
  pub own : Contains desk.connections conn
  pub there : IsTrue (is_open_in desk.seen conn)
  pub loose : IsFalse desk.metered

-- any number of calls were made, and the connection is open
pub record StaysOpen {Held : Type 0} (conn : ℕ) (before after : DeskState Held) : Type 0 where
  pub goes_on : GoesOn before after
  pub has_open : HasOpen conn after
