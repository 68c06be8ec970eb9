use Rattle.std.proofs.Common.{◌≡◌, ◌≤◌, not, is_none, filter, map, take, length, vec_capacity}
use Rattle.registry_tables.specs.Tabled.{fate_in}
use Rattle.registry_tables.proofs.imports.list_ended.Given as goal

abbrev pub invariant-loop-waiter : goal.invariant-loop-waiter
invariant-loop-waiter l = record {
  places : l.places.items ≡ map (λ waiter. waiter.place) (filter (λ waiter. not (is_none (fate_in l.tables waiter.unit))) (take l.waiter-index l.waiting));
  few : length l.places.items ≤ l.waiter-index;
  capacity : vec_capacity l.places ≡ vec_capacity l.initial.places;
}
