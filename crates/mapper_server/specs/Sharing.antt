-- Two threads that serve at once: what their seats and desks begin with, and what they keep.
use Rattle.std.specs.Prelude.{◌≡◌, ◌+◌, ◌<◌, IsFalse}
use Rattle.unit_registry.specs.Projects.{ProjectView}
use Rattle.registry_core.specs.Desks.{DeskState, IsSound}
use Rattle.ruled_history.specs.Examples.{IsFreshSeat}
use Rattle.ruled_history.specs.Seats.{Shared, Sitting}

-- a desk that has a worker left, and isn't bound to a room of its own
pub record MayOpen {Held : Type 0} (desk : DeskState Held) : Type 0 where
  pub worker : desk.opened + desk.dones < desk.share
  pub loose : IsFalse desk.metered

-- a desk of this project that is sound, has a worker left, and isn't bound to a room of its own
pub record MayServe {Held : Type 0} (project : ProjectView) (desk : DeskState Held) : Type 0 where
  pub project_is : desk.seen.project ≡ project
  pub sound : IsSound desk
  pub worker : desk.opened + desk.dones < desk.share
  pub loose : IsFalse desk.metered

-- a registry of this project for two workers, which isn't metered, and its two seats, which have made no entry
pub record AreSeats {S : Type 0} (project : ProjectView) (registry : Shared S) (one two : Sitting) : Type 0 where
  pub project_is : registry.opening.ledger.project ≡ project
  pub workers_are : registry.opening.ledger.workers ≡ 2
  pub loose : IsFalse registry.metered
  pub one_registry : one.registry ≡ registry.name
  pub two_registry : two.registry ≡ registry.name
  pub one_fresh : IsFreshSeat one.knows
  pub two_fresh : IsFreshSeat two.knows
  pub next : two.knows.first ≡ one.knows.first + one.knows.share

-- two seats of the registry whose runs, one behind the other, are those of all its workers
pub record AreAllSeats {S : Type 0} (registry : Shared S) (one two : Sitting) : Type 0 where
  pub one_registry : one.registry ≡ registry.name
  pub two_registry : two.registry ≡ registry.name
  pub next : two.knows.first ≡ one.knows.first + one.knows.share
  pub all : one.knows.share + two.knows.share ≡ registry.opening.ledger.workers

-- a seat keeps its registry and its run
pub record KeepsRun (before after : Sitting) : Type 0 where
  pub registry_is : after.registry ≡ before.registry
  pub first_is : after.knows.first ≡ before.knows.first
  pub share_is : after.knows.share ≡ before.knows.share
