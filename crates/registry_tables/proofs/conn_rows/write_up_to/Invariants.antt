use Rattle.std.proofs.Common.{◌≡◌, ◌≤◌, ◌+◌, ◌-◌, length}
use Rattle.registry_tables.specs.Tabled.{padded}
use Rattle.std.specs.Vec.{vec_capacity}
use Rattle.registry_tables.proofs.conn_rows.write_up_to.Given as goal

abbrev pub invariant-loop-rows : goal.invariant-loop-rows
invariant-loop-rows l = record {
  few : length l.rows.items ≤ l.room;
  same : padded l.rows.items l.room ≡ padded l.fn.rows.items l.room;
  capacity : vec_capacity l.rows ≡ vec_capacity l.fn.rows;
}

abbrev pub decreases-loop-rows : goal.decreases-loop-rows
decreases-loop-rows l = l.conn + 1 - length l.rows.items
