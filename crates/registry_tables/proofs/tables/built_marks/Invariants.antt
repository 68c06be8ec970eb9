use Rattle.std.proofs.Common.{◌≡◌, ℕ, ◌<◌, length, get_or, false}
use Rattle.unit_registry.specs.Projects.{unit_count, is_built}
use Rattle.registry_tables.proofs.tables.built_marks.Given as goal

abbrev pub invariant-loop-unit : goal.invariant-loop-unit
invariant-loop-unit l = record {
  len : length l.marks.items ≡ unit_count l.project;
  marked : (unit : ℕ) → unit < l.unit → get_or l.marks.items unit false ≡ is_built l.project unit;
}
