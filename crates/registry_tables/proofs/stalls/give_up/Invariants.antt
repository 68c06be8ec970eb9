use Rattle.std.proofs.Common.{◌≡◌, ℕ, ◌||◌, ◌&&◌, ◌==◌, false, get_or, reverse, take}
use Rattle.std.specs.List.{list_any}
use Rattle.registry_tables.specs.Stalled.{gives_up}
use Rattle.registry_tables.proofs.stalls.give_up.Given as goal

abbrev pub invariant-loop-waiter : goal.invariant-loop-waiter
invariant-loop-waiter l = record {
  same : l.tables ≡ record l.initial.tables { given = l.tables.given };
  given : (unit : ℕ) → get_or l.tables.given unit false ≡ (get_or l.initial.tables.given unit false || list_any (λ w. w.unit == unit && gives_up l.initial.tables w) (reverse (take l.waiter-index l.waiting)));
}
