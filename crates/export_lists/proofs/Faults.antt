-- The first faults of lists of lines.
use Rattle.std.proofs.Common.{◌≡◌, ℕ, ◌+◌, ◌≤◌, Bool, true, false, List, [], ◌∷◌, ◌++◌, length, drop, Some, None, Err, map, ap, sym, ◌∙◌, refl, if◌then◌else◌}
use Rattle.std.specs.Prelude.{slice_get, filter}
use Rattle.module_units.specs.declared.unit.Unit.{Unit as UnitOf}
use Rattle.module_lexer.specs.declared.reason.SourceReason.{SourceReason}
use Rattle.module_units.specs.declared.faults.Fault.{Fault}
use Rattle.std.proofs.lemmas.Option.{same_Some}
use Rattle.export_lists.specs.Lists.{Cmi, Imported, imported}
use Rattle.export_lists.specs.Compiling.{is_bad_export, export_lines, faults_on, unless_faulty}
use Rattle.export_lists.proofs.Loops.{dropped, none_left}

-- the lines of a list whose first import is at fault, and of one whose first import isn't
bad_first : (b : Bool) (import : Imported) (more : List Imported) → is_bad_export import ≡ b → b ≡ true → slice_get (export_lines (import ∷ more)) 0 ≡ Some import.0.line
bad_first b import more e t = ap (λ (c : Bool). slice_get (map (λ (i : Imported). i.0.line) (if c then import ∷ filter is_bad_export more else filter is_bad_export more)) 0) (e ∙ t)

good_first : (b : Bool) (import : Imported) (more : List Imported) → is_bad_export import ≡ b → b ≡ false → export_lines (import ∷ more) ≡ export_lines more
good_first b import more e t = ap (λ (c : Bool). map (λ (i : Imported). i.0.line) (if c then import ∷ filter is_bad_export more else filter is_bad_export more)) (e ∙ t)

-- an import at fault is the first where none before it is
pub bad_here : (imports : List Imported) (k : ℕ) (import : Imported) → slice_get imports k ≡ Some import → is_bad_export import ≡ true
    → slice_get (export_lines imports) 0 ≡ slice_get (export_lines (drop k imports)) 0 → Some import.0.line ≡ slice_get (export_lines imports) 0
bad_here imports k import e bad before =
    sym (before ∙ ap (λ l. slice_get (export_lines l) 0) (dropped imports k import e) ∙ bad_first true import (drop (k + 1) imports) bad refl)

pub good_here : (imports : List Imported) (k : ℕ) (import : Imported) → slice_get imports k ≡ Some import → is_bad_export import ≡ false
    → slice_get (export_lines imports) 0 ≡ slice_get (export_lines (drop k imports)) 0 → slice_get (export_lines imports) 0 ≡ slice_get (export_lines (drop (k + 1) imports)) 0
good_here imports k import e good before =
    before ∙ ap (λ l. slice_get (export_lines l) 0) (dropped imports k import e) ∙ ap (λ (lines : List ℕ). slice_get lines 0) (good_first false import (drop (k + 1) imports) good refl)

pub no_bad : (unit : UnitOf) (cmis : List Cmi) (k : ℕ) → length unit.imports ≤ k → slice_get (export_lines (imported unit cmis)) 0 ≡ slice_get (export_lines (drop k (imported unit cmis))) 0 → None ≡ slice_get (export_lines (imported unit cmis)) 0
no_bad unit cmis k le before = sym (before ∙ ap (λ l. slice_get (export_lines l) 0) (none_left unit.imports cmis k le))

pub none_faulty : (lines : List ℕ) → slice_get lines 0 ≡ None → lines ≡ []
none_faulty [] e = refl
none_faulty (l ∷ lines) e = absurd (cc)

-- the first fault, by the lines of two kinds of faults before the rest
module _ (first second : SourceReason) (rest : List Fault) (cmi : Cmi) where
  pub first_refuses : (lines others : List ℕ) (line : ℕ) → slice_get lines 0 ≡ Some line → unless_faulty (faults_on first lines ++ faults_on second others ++ rest) cmi ≡ Err (record { line = line; reason = first })
  first_refuses [] others line e = absurd (cc)
  first_refuses (own ∷ lines) others line e = ap (λ (n : ℕ). Err (record { line = n; reason = first })) (same_Some own line e)

  pub second_refuses : (lines others : List ℕ) (line : ℕ) → slice_get lines 0 ≡ None → slice_get others 0 ≡ Some line → unless_faulty (faults_on first lines ++ faults_on second others ++ rest) cmi ≡ Err (record { line = line; reason = second })
  second_refuses [] [] line none e = absurd (cc)
  second_refuses [] (own ∷ others) line none e = ap (λ (n : ℕ). Err (record { line = n; reason = second })) (same_Some own line e)
  second_refuses (own ∷ lines) others line none e = absurd (cc)

  pub none_refuses : (lines others : List ℕ) → slice_get lines 0 ≡ None → slice_get others 0 ≡ None → unless_faulty (faults_on first lines ++ faults_on second others ++ rest) cmi ≡ unless_faulty rest cmi
  none_refuses [] [] none too = refl
  none_refuses [] (own ∷ others) none too = absurd (cc)
  none_refuses (own ∷ lines) others none too = absurd (cc)
