use Rattle.std.proofs.Common.{◌≡◌, ℕ, ◌+◌, is_none, filter, drop, get_or, vec_capacity}
use Rattle.registry_tables.specs.Imported.{count_of}
use Rattle.registry_tables.specs.Tabled.{fate_in}
use Rattle.registry_tables.proofs.Counted.{ahead_of}
use Rattle.registry_tables.proofs.imports.lower_ended.Given as goal

abbrev pub invariant-loop-waiter : goal.invariant-loop-waiter
invariant-loop-waiter l = record {
  counted : (conn : ℕ) → get_or l.counts.items conn 0 ≡ count_of (filter (λ waiter. is_none (fate_in l.tables waiter.unit)) l.waiting) conn + ahead_of l.tables (drop l.waiter-index l.waiting) conn;
  capacity : vec_capacity l.counts ≡ vec_capacity l.initial.counts;
}
