use Rattle.std.proofs.Common.{◌≡◌, ◌⊎◌, inl, inr, ℕ, ◌<◌, ◌≤◌, ◌∙◌, false, length, get_or, List, Bool, zero, suc, [], ◌∷◌, refl, sym, ap, arith}
use Rattle.std.proofs.lemmas.Option.{slice_get_past}
use Rattle.std.specs.Option.{option_map_or}
use Rattle.unit_registry.specs.declared.unit.Declared.{Declared}
use Rattle.unit_registry.specs.Projects.{unit_count}
use Rattle.registry_tables.proofs.tables.built_marks.Goals as goal

past : (marks : List Bool) (unit : ℕ) → length marks ≤ unit → get_or marks unit false ≡ false
past [] unit le = refl
past (mark ∷ marks) zero le = absurd (omega arith)
past (mark ∷ marks) (suc unit) le = past marks unit (omega arith)

below_or_past : (m n : ℕ) → (m < n) ⊎ (n ≤ m)
below_or_past m n = grind arith

pub returns-clause-built : goal.returns-clause-built
returns-clause-built c unit = elim (below_or_past unit c.loop-unit.unit) [
  | inl below ↦ c.loop-unit.invariant.marked unit below
  | inr beyond ↦ (let len = c.loop-unit.invariant.len in
      let count : c.unit_count-count.result ≡ unit_count c.args.project.now = c.unit_count-count.ensures.count in
      let ended = c.loop-unit-test.false in
      let bound = c.loop-unit.auto.unit-end in
      past c.loop-unit.marks.items unit (omega arith) ∙ sym (ap (λ o. option_map_or (λ (d : Declared). d.built) o false) (slice_get_past c.args.project.now.units unit (omega arith))))
]
