use Rattle.std.proofs.Common.{ℕ, List, [], sym, subst}
use Rattle.unit_registry.specs.declared.unit.Declared.{Declared}
use Rattle.unit_registry.specs.Kept.{IsKept}
use Rattle.unit_registry.proofs.Keeping.{kept_empty}
use Rattle.unit_registry.proofs.project.Project.empty.Goals as goal

pub invariant_of-result : goal.invariant_of-result
invariant_of-result c = subst (λ (xs : List (List ℕ × ℕ)). IsKept c.new.result.items c.new-2.result xs) (sym c.new-3.ensures)
    (subst (λ (xs : List (List ℕ × ℕ)). IsKept c.new.result.items xs []) (sym c.new-2.ensures)
    (subst (λ (xs : List Declared). IsKept xs [] []) (sym c.new.ensures.items) kept_empty))
