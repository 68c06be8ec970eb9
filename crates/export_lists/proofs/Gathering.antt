-- The interfaces of imports, one by one.
use Rattle.std.proofs.Common.{◌≡◌, ℕ, zero, suc, ◌+◌, List, [], ◌∷◌, ◌++◌, length, take, Some, None, Ok, Err, sym, ap, ◌∙◌}
use Rattle.std.specs.Prelude.{slice_get}
use Rattle.std.specs.Borrow.{Bor}
use Rattle.std.proofs.lemmas.List.{map-append, length-map}
use Rattle.export_lists.specs.Lent.{lent}
use Rattle.module_units.specs.declared.parts.Import.{Import as ImportOf}
use Rattle.unit_registry.specs.Projects.{ProjectView}
use Rattle.export_lists.specs.Lists.{Cmi}
use Rattle.export_lists.specs.Outcomes.{Interfaces, imported_cmi, put_first, gathered}
use Rattle.export_lists.proofs.Depth.{put_first_ok}
use Rattle.export_lists.proofs.Loops.{taken}

-- imports and one more
gathered_push : (project : ProjectView) (has : Interfaces) (imports : List ImportOf) (import : ImportOf) (cmis : List Cmi) (cmi : Cmi) → gathered project has imports ≡ Ok cmis → imported_cmi project has import ≡ Some cmi → gathered project has (imports ++ import ∷ []) ≡ Ok (cmis ++ cmi ∷ [])
gathered_push project has [] import cmis cmi e is =
    let none : [] ≡ cmis = cc in
    ap (λ own. put_first own import.name (Ok [])) is ∙ ap (λ cs. Ok (cs ++ cmi ∷ [])) none
gathered_push project has (first ∷ imports) import cmis cmi e is =
    let parts = put_first_ok (imported_cmi project has first) first.name (gathered project has imports) cmis e in
    let rest : gathered project has (imports ++ import ∷ []) ≡ Ok (parts.1 ++ cmi ∷ []) = gathered_push project has imports import parts.1 cmi parts.3 is in
    (λ k. put_first (parts.2 k) first.name (rest k)) ∙ ap (λ cs. Ok (cs ++ cmi ∷ [])) (sym parts.4)

pub gathered_more : (project : ProjectView) (has : Interfaces) (imports : List ImportOf) (k : ℕ) (import : ImportOf) (cmis : List Cmi) (cmi : Cmi) → slice_get imports k ≡ Some import → gathered project has (take k imports) ≡ Ok cmis → imported_cmi project has import ≡ Some cmi
    → gathered project has (take (k + 1) imports) ≡ Ok (cmis ++ cmi ∷ [])
gathered_more project has imports k import cmis cmi at e is = ap (gathered project has) (taken imports k import at) ∙ gathered_push project has (take k imports) import cmis cmi e is

-- the first that has none
pub gathered_lack : (project : ProjectView) (has : Interfaces) (imports : List ImportOf) (k : ℕ) (import : ImportOf) (cmis : List Cmi) → slice_get imports k ≡ Some import → gathered project has (take k imports) ≡ Ok cmis → imported_cmi project has import ≡ None → gathered project has imports ≡ Err import.name
gathered_lack project has [] k import cmis at e none = absurd (cc)
gathered_lack project has (first ∷ imports) zero import cmis at e none =
    let same : first ≡ import = cc in
    (λ k. put_first (imported_cmi project has (same k)) (same k).name (gathered project has imports)) ∙ ap (λ own. put_first own import.name (gathered project has imports)) none
gathered_lack project has (first ∷ imports) (suc k) import cmis at e none =
    let parts = put_first_ok (imported_cmi project has first) first.name (gathered project has (take k imports)) cmis e in
    let rest : gathered project has imports ≡ Err import.name = gathered_lack project has imports k import parts.1 at parts.3 none in
    λ k. put_first (parts.2 k) first.name (rest k)

-- there is one for each import
pub gathered_count : (project : ProjectView) (has : Interfaces) (imports : List ImportOf) (cmis : List Cmi) → gathered project has imports ≡ Ok cmis → length cmis ≡ length imports
gathered_count project has [] cmis e = let none : [] ≡ cmis = cc in sym (ap length none)
gathered_count project has (import ∷ imports) cmis e =
    let parts = put_first_ok (imported_cmi project has import) import.name (gathered project has imports) cmis e in
    ap length parts.4 ∙ ap suc (gathered_count project has imports parts.1 parts.3)

-- one that is lent more
pub lent_more : (cmis : List (Bor Cmi)) (cmi : Bor Cmi) → lent (cmis ++ cmi ∷ []) ≡ lent cmis ++ cmi.now ∷ []
lent_more cmis cmi = map-append (λ (c : Bor Cmi). c.now) cmis (cmi ∷ [])

-- what is lent counts as much
pub lent_count : (project : ProjectView) (has : Interfaces) (imports : List ImportOf) (cmis : List (Bor Cmi)) → gathered project has imports ≡ Ok (lent cmis) → length cmis ≡ length imports
lent_count project has imports cmis e = sym (length-map cmis (λ (c : Bor Cmi). c.now)) ∙ gathered_count project has imports (lent cmis) e
