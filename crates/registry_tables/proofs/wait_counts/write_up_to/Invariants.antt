use Rattle.std.proofs.Common.{◌≡◌, ℕ, ◌+◌, ◌-◌, length, get_or}
use Rattle.std.specs.Vec.{vec_capacity}
use Rattle.registry_tables.proofs.wait_counts.write_up_to.Given as goal

abbrev pub invariant-loop-counts : goal.invariant-loop-counts
invariant-loop-counts l = record {
  same : (other : ℕ) → get_or l.counts.items other 0 ≡ get_or l.fn.counts.items other 0;
  capacity : vec_capacity l.counts ≡ vec_capacity l.fn.counts;
}

abbrev pub decreases-loop-counts : goal.decreases-loop-counts
decreases-loop-counts l = l.conn + 1 - length l.counts.items
