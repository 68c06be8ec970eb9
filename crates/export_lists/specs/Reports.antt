-- The report on the outcomes of a project's units.
use Rattle.std.specs.Prelude.{ℕ, List, [], ◌∷◌, ◌++◌, length, zip, flat_map, codes, decimal}
use Rattle.module_lexer.specs.Reasons.{reason_text}
use Rattle.unit_registry.specs.Projects.{ProjectView}
use Rattle.export_lists.specs.Entries.{Listed}
use Rattle.export_lists.specs.Words.{line_of, entry_lines}
use Rattle.export_lists.specs.Outcomes.{Outcome, Compiled, Built, Failed, Verdict}
use Rattle.export_lists.specs.declared.outcome.Verdict.TheVariants as verdicts

-- the lines of a unit with these exports, behind a first word: its ident and how many they are, and then each of them
abbrev pub good_lines : List ℕ → List ℕ → List Listed → List ℕ
good_lines first ident entries =
    line_of (first ∷ ident ∷ decimal (length entries) ∷ []) ++ entry_lines (codes "name") entries

-- the line of a unit that failed
abbrev pub failed_line : List ℕ → Verdict → List ℕ
failed_line ident (verdicts.Source line reason) =
    line_of (codes "failed" ∷ ident ∷ codes "line" ∷ decimal line ∷ reason_text reason ∷ [])
failed_line ident (verdicts.Import name) = line_of (codes "failed" ∷ ident ∷ codes "import" ∷ name ∷ [])

-- the lines of a unit with this ident
abbrev pub outcome_lines : List ℕ → Outcome → List ℕ
outcome_lines ident (Compiled cmi) = good_lines (codes "ok") ident cmi.exports
outcome_lines ident (Built cmi) = good_lines (codes "built") ident cmi.exports
outcome_lines ident (Failed verdict) = failed_line ident verdict

-- the report: the lines of each unit, in the order of the project
abbrev pub report : ProjectView → List Outcome → List ℕ
report project outcomes = flat_map (λ unit. outcome_lines unit.0.ident unit.1) (zip project.units outcomes)
