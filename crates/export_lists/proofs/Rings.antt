-- Units whose imports lead round in a ring have no interface.
use Rattle.std.proofs.Common.{◌≡◌, ℕ, zero, suc, ◌<◌, List, [], ◌∷◌, length, Some, None, Result, Ok, Err, option_and_then, slice_index_or, sym, ap, ◌∙◌, refl, arith}
use Rattle.std.specs.List.{Contains}
use Rattle.module_units.specs.declared.unit.Unit.{Unit as UnitOf}
use Rattle.module_units.specs.declared.parts.Import.{Import as ImportOf}
use Rattle.unit_registry.specs.Projects.{ProjectView, unit_count, name_of}
use Rattle.export_lists.specs.Lists.{Cmi}
use Rattle.export_lists.specs.Outcomes.{Origin, cmi_in, Interfaces, imported_cmi, gathered, outcome_over, step, at_start, outcome}
use Rattle.export_lists.specs.Rings.{ImportsOneOf, LeadRound}
use Rattle.export_lists.specs.Slots.{at_depth}
use Rattle.export_lists.proofs.Depth.{put_first_ok}

-- where the interfaces of all imports are there, that of each is
gathered_has : (project : ProjectView) (has : Interfaces) (imports : List ImportOf) (cmis : List Cmi) (import : ImportOf) (k : ℕ) → k < length imports → slice_index_or imports k import ≡ import → gathered project has imports ≡ Ok cmis
    → (cmi : Cmi) × (imported_cmi project has import ≡ Some cmi)
gathered_has project has [] cmis import k lt at e = absurd (omega (arith, lt))
gathered_has project has (first ∷ imports) cmis import zero lt at e =
    let parts = put_first_ok (imported_cmi project has first) first.name (gathered project has imports) cmis e in
    (parts.0, ap (imported_cmi project has) (sym at) ∙ parts.2)
gathered_has project has (first ∷ imports) cmis import (suc k) lt at e =
    let parts = put_first_ok (imported_cmi project has first) first.name (gathered project has imports) cmis e in
    gathered_has project has imports parts.1 import k (omega (arith, lt)) at parts.3

-- a unit compiles only over the interfaces of all its imports
over_none : (name : List ℕ) (unit : UnitOf) (found : Result (List Cmi) (List ℕ)) → ((cmis : List Cmi) → found ≡ Ok cmis → ⊥) → cmi_in (outcome_over name unit found) ≡ None
over_none name unit (Ok cmis) never = absurd (never cmis refl)
over_none name unit (Err import) never = refl

-- so at no depth a unit in a ring has an interface
none_at : (project : ProjectView) (origins : List Origin) (units : List ℕ) → LeadRound project origins units → (depth unit : ℕ) → Contains units unit → at_depth project origins depth unit ≡ None
none_at project origins units lead zero unit among = ap (λ origin. option_and_then cmi_in (at_start origin)) (lead unit among).made_of
none_at project origins units lead (suc depth) unit among =
    ap (λ origin. option_and_then cmi_in (step project (at_depth project origins depth) unit origin)) (lead unit among).made_of
    ∙ over_none (name_of project unit) (lead unit among).source (gathered project (at_depth project origins depth) (lead unit among).source.imports)
    (λ cmis e. never (lead unit among) cmis e (λ other there. none_at project origins units lead depth other there))
  where
    never : (ring : ImportsOneOf project origins units unit) (cmis : List Cmi) → gathered project (at_depth project origins depth) ring.source.imports ≡ Ok cmis
        → ((other : ℕ) → Contains units other → at_depth project origins depth other ≡ None) → ⊥
    never ring cmis e before =
        let own = gathered_has project (at_depth project origins depth) ring.source.imports cmis ring.import ring.imports.0 ring.imports.1 ring.imports.2 e in
        let some : Some own.0 ≡ None = sym own.1 ∙ ap (option_and_then (at_depth project origins depth)) ring.found ∙ before ring.other ring.among in
        absurd (cc)

pub none_in_ring : (project : ProjectView) (origins : List Origin) (units : List ℕ) (unit : ℕ) → LeadRound project origins units → Contains units unit → option_and_then cmi_in (outcome project origins unit) ≡ None
none_in_ring project origins units unit lead among = none_at project origins units lead (unit_count project) unit among
