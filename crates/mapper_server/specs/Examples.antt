-- The worked example: two connections, each served at a seat of its own.
use Rattle.std.specs.Prelude.{◌≡◌, ℕ, Contains}
use Rattle.ruled_history.specs.Seats.{Sitting}

-- what a seat keeps at which a connection was served
pub record IsKept (before after : Sitting) (conn : ℕ) : Type 0 where
  pub registry_is : after.registry ≡ before.registry
  pub first_is : after.knows.first ≡ before.knows.first
  pub share_is : after.knows.share ≡ before.knows.share
  pub own : Contains after.knows.connections conn
