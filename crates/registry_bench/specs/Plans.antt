-- What is to be entered, in numbers.
use Rattle.std.specs.Prelude.{◌≤◌}
use Rattle.registry_bench.specs.declared.plan.Plan.{Plan}

-- there is a thread, there are 64 at most, and the limit is one that a book can have
pub record IsWithin (plan : Plan) : Type 0 where
  pub some_thread : 1 ≤ plan.threads
  pub threads : plan.threads ≤ 64
  pub ends : plan.threads ≤ plan.limit
  pub limit : plan.limit ≤ 67108864
