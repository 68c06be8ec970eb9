-- What units have at a depth they have deeper, and a table that no step adds to has what any depth has.
use Rattle.std.proofs.Common.{◌≡◌, ℕ, zero, suc, ◌+◌, List, [], ◌∷◌, Option, Some, None, Result, Ok, Err, sym, ap, ◌∙◌, refl, zero-add, option_and_then}
use Rattle.std.specs.Prelude.{slice_get}
use Rattle.std.proofs.Math.Nat.{suc-add}
use Rattle.module_units.specs.declared.unit.Unit.{Unit as UnitOf}
use Rattle.module_units.specs.declared.parts.Import.{Import as ImportOf}
use Rattle.module_units.specs.Reading.{SourceReading, Good, Bad}
use Rattle.unit_registry.specs.Projects.{ProjectView, name_of, find_unit}
use Rattle.export_lists.specs.Lists.{Cmi}
use Rattle.export_lists.specs.Outcomes.{Origin, FromSource, FromCmi, cmi_in, Interfaces, imported_cmi, put_first, gathered, outcome_over, outcome_of_source, step, at_start}
use Rattle.export_lists.specs.Slots.{Within, at_depth}

interface_within : (has more : Interfaces) → Within has more → (unit : Option ℕ) (cmi : Cmi) → option_and_then has unit ≡ Some cmi → option_and_then more unit ≡ Some cmi
interface_within has more w None cmi e = e
interface_within has more w (Some unit) cmi e = w.each unit cmi e

-- an import's interface and the rest, where all are there
pub put_first_ok : (own : Option Cmi) (name : List ℕ) (rest : Result (List Cmi) (List ℕ)) (cmis : List Cmi) → put_first own name rest ≡ Ok cmis → (cmi : Cmi) × (others : List Cmi) × (own ≡ Some cmi) × (rest ≡ Ok others) × (cmis ≡ cmi ∷ others)
put_first_ok None name rest cmis e = absurd (cc)
put_first_ok (Some cmi) name (Ok others) cmis e = (cmi, others, refl, refl, cc)
put_first_ok (Some cmi) name (Err other) cmis e = absurd (cc)

-- interfaces that are gathered are gathered from more units too
pub gathered_within : (project : ProjectView) (has more : Interfaces) → Within has more → (imports : List ImportOf) (cmis : List Cmi) → gathered project has imports ≡ Ok cmis → gathered project more imports ≡ Ok cmis
gathered_within project has more w [] cmis e = e
gathered_within project has more w (import ∷ imports) cmis e =
    let parts = put_first_ok (imported_cmi project has import) import.name (gathered project has imports) cmis e in
    let here : imported_cmi project more import ≡ Some parts.0 = interface_within has more w (find_unit project import.name) parts.0 parts.2 in
    let rest : gathered project more imports ≡ Ok parts.1 = gathered_within project has more w imports parts.1 parts.3 in
    (λ k. put_first (here k) import.name (rest k)) ∙ ap Ok (sym parts.4)

-- an outcome with an interface had all its imports
over_has : (name : List ℕ) (unit : UnitOf) (found : Result (List Cmi) (List ℕ)) (cmi : Cmi) → cmi_in (outcome_over name unit found) ≡ Some cmi → (cmis : List Cmi) × (found ≡ Ok cmis)
over_has name unit (Ok cmis) cmi e = (cmis, refl)
over_has name unit (Err other) cmi e = absurd (cc)

source_within : (project : ProjectView) (has more : Interfaces) → Within has more → (number : ℕ) (reading : SourceReading) (cmi : Cmi) → cmi_in (outcome_of_source project has number reading) ≡ Some cmi → cmi_in (outcome_of_source project more number reading) ≡ Some cmi
source_within project has more w number (Good unit) cmi e =
    let all = over_has (name_of project number) unit (gathered project has unit.imports) cmi e in
    let same : gathered project more unit.imports ≡ Ok all.0 = gathered_within project has more w unit.imports all.0 all.1 in
    ap (λ found. cmi_in (outcome_over (name_of project number) unit found)) (same ∙ sym all.1) ∙ e
source_within project has more w number (Bad line reason) cmi e = e

-- a step has what it had over fewer interfaces
pub step_within : (project : ProjectView) (has more : Interfaces) → Within has more → (number : ℕ) (origin : Option Origin) (cmi : Cmi) → option_and_then cmi_in (step project has number origin) ≡ Some cmi → option_and_then cmi_in (step project more number origin) ≡ Some cmi
step_within project has more w number (Some (FromSource reading)) cmi e = source_within project has more w number reading cmi e
step_within project has more w number (Some (FromCmi built)) cmi e = e
step_within project has more w number None cmi e = e

-- a step has what there was at the start
pub start_within : (project : ProjectView) (has : Interfaces) (number : ℕ) (origin : Option Origin) (cmi : Cmi) → option_and_then cmi_in (at_start origin) ≡ Some cmi → option_and_then cmi_in (step project has number origin) ≡ Some cmi
start_within project has number (Some (FromSource reading)) cmi e = absurd (cc)
start_within project has number (Some (FromCmi built)) cmi e = e
start_within project has number None cmi e = e

-- one deeper there is what there was
pub deeper : (project : ProjectView) (origins : List Origin) (depth : ℕ) → Within (at_depth project origins depth) (at_depth project origins (suc depth))
deeper project origins zero = record { each = λ unit cmi e. start_within project (at_depth project origins zero) unit (slice_get origins unit) cmi e }
deeper project origins (suc depth) = record { each = λ unit cmi e. step_within project (at_depth project origins depth) (at_depth project origins (suc depth)) (deeper project origins depth) unit (slice_get origins unit) cmi e }

-- so it is any number of steps deeper
pub deeper_by : (project : ProjectView) (origins : List Origin) (more depth : ℕ) → Within (at_depth project origins depth) (at_depth project origins (more + depth))
deeper_by project origins zero depth = record { each = λ unit cmi e. rw zero-add e }
deeper_by project origins (suc more) depth = record { each = λ unit cmi e. rw suc-add ((deeper project origins (more + depth)).each unit cmi ((deeper_by project origins more depth).each unit cmi e)) }

-- where no step finishes another unit, the table has what any depth has
pub table_whole : (project : ProjectView) (origins : List Origin) (has : Interfaces) → ((unit : ℕ) (cmi : Cmi) → option_and_then cmi_in (step project has unit (slice_get origins unit)) ≡ Some cmi → has unit ≡ Some cmi)
    → (depth : ℕ) → Within (at_depth project origins depth) has
table_whole project origins has stays zero = record { each = λ unit cmi e. stays unit cmi (start_within project has unit (slice_get origins unit) cmi e) }
table_whole project origins has stays (suc depth) = record { each = λ unit cmi e. stays unit cmi (step_within project (at_depth project origins depth) has (table_whole project origins has stays depth) unit (slice_get origins unit) cmi e) }
