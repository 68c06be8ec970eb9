use Rattle.client_core.proofs.UnitNames.{script_small}
use Rattle.client_core.proofs.task.Task.new.Goals as goal
use Rattle.std.proofs.Common.{length, subst, sym, ◌≤◌, List, ℕ}

pub invariant_of-result : goal.invariant_of-result
invariant_of-result c = script_small c.in_ok-of.field-0 c.in_ok-of-2.field-0 c.args.script c.requires.readable (subst (λ (t : List ℕ). length t ≤ 512) (sym c.in_ok-of.ensures) c.requires.ident) (subst (λ (t : List ℕ). length t ≤ 512) (sym c.in_ok-of-2.ensures) c.requires.name)
