use Rattle.std.proofs.Common.{◌≡◌, not, filter, reverse, take}
use Rattle.registry_tables.specs.Imported.{is_ended_in}
use Rattle.registry_tables.proofs.imports.settle_ended.Given as goal

abbrev pub invariant-loop-waiter : goal.invariant-loop-waiter
invariant-loop-waiter l =
    l.graph ≡ record l.initial.graph { pairs = filter (λ p. not (is_ended_in l.tables (reverse (take l.waiter-index l.waiting)) p.1)) l.initial.graph.pairs }
