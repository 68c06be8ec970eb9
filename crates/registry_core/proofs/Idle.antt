-- An entry that ends no unit leaves how each has ended.
use Rattle.std.proofs.Common.{◌≡◌, ℕ, Bool, true, false, ◌||◌, ◌&&◌, ◌==◌, List, ◌∷◌, Option, Some, None, is_some, is_none, refl, sym, ap, ap₂, ◌∙◌, true≢false}
use Rattle.std.proofs.lemmas.Bool.{or_parts}
use Rattle.std.specs.Prelude.{if◌then◌else◌}
use Rattle.std.specs.Option.{option_map_or}
use Rattle.unit_registry.specs.declared.act.Act.{Act}
use Rattle.unit_registry.specs.declared.act.Act.TheVariants.{Hello, Compiled}
use Rattle.unit_registry.specs.Acts.{hello_of, is_open_act, is_done, goes, is_compiled_of}
use Rattle.unit_registry.specs.Projects.{ProjectView, is_built}
use Rattle.histories.specs.declared.entry.Entry.{Entry}
use Rattle.histories.specs.declared.answered.Answered.{Answered}
use Rattle.histories.specs.declared.standing.Fate.{Fate}
use Rattle.histories.specs.declared.standing.Fate.TheVariants.{Compiled as HasCompiled, Failed as HasFailed}
use Rattle.histories.specs.Answered.{has_gone, holder, takes, is_left, is_reported, is_accepted}
use Rattle.histories.specs.Noted.{Noted, answered_of}
use Rattle.histories.specs.Histories.{fault}
use Rattle.histories.proofs.Acyclic.{answered_entry}
use Rattle.histories.proofs.Agree.{takes_free}
use Rattle.histories.proofs.OneEntry.{is_open-parts}
use Rattle.histories.proofs.Steps.{IsStanding, stands_open}
use Rattle.registry_tables.specs.Imported.{is_report, may_end_unit}
use Rattle.registry_tables.proofs.Openings.{taken_by}

-- how the unit has ended, where this flag says that it was given up
abbrev pub fate_with : ProjectView → List Answered → Bool → ℕ → Option Fate
fate_with project answered flag unit =
    if is_built project unit || is_reported answered unit then Some HasCompiled
    else (if flag || is_left answered unit then Some HasFailed
    else None)

hello_kind : (act : Act) → is_some (hello_of act) ≡ true → (is_open_act act || is_done act) ≡ false
hello_kind (Hello version unit) h = refl
hello_kind act h = absurd (true≢false (sym h))

reports_none : (accepted : Bool) (unit : ℕ) (act : Act) → (accepted && is_report act) ≡ false → (accepted && is_compiled_of unit act) ≡ false
reports_none false unit act h = refl
reports_none true unit (Compiled named stored) h = absurd (true≢false h)
reports_none true unit act h = refl

module _ (project : ProjectView) (workers limit : ℕ) (noted : List Noted) (entry : Entry) where
  abbrev newest : Answered
  newest = answered_entry project noted entry

  gone_same : goes entry.act ≡ false → (conn : ℕ) → has_gone (newest ∷ answered_of noted) conn ≡ has_gone (answered_of noted) conn
  gone_same stays conn = by (entry.conn == conn) (goes entry.act) stays
    where
      by : (a g : Bool) → g ≡ false → ((a && g) || has_gone (answered_of noted) conn) ≡ has_gone (answered_of noted) conn
      by true g s = ap (λ b. b || has_gone (answered_of noted) conn) s
      by false g s = refl

  map_same : goes entry.act ≡ false → (o : Option ℕ) → option_map_or (has_gone (newest ∷ answered_of noted)) o false ≡ option_map_or (has_gone (answered_of noted)) o false
  map_same stays None = refl
  map_same stays (Some conn) = gone_same stays conn

  left_same : IsStanding project noted → is_none (fault project workers limit noted entry) ≡ true → goes entry.act ≡ false → (unit : ℕ) → is_left (newest ∷ answered_of noted) unit ≡ is_left (answered_of noted) unit
  left_same s passes stays unit = by (takes unit newest) refl
    where
      by : (b : Bool) → takes unit newest ≡ b → option_map_or (has_gone (newest ∷ answered_of noted)) (if b then Some entry.conn else holder (answered_of noted) unit) false ≡ option_map_or (has_gone (answered_of noted)) (holder (answered_of noted) unit) false
      by true t =
          gone_same stays entry.conn
          ∙ (is_open-parts (answered_of noted) entry.conn (stands_open project workers limit noted entry passes (hello_kind entry.act (taken_by (is_accepted newest.said) (hello_of entry.act) unit t)))).1
          ∙ sym (ap (λ o. option_map_or (has_gone (answered_of noted)) o false) (takes_free project noted entry unit t))
      by false t = map_same stays (holder (answered_of noted) unit)

  pub same_fate : IsStanding project noted → is_none (fault project workers limit noted entry) ≡ true → may_end_unit newest ≡ false → (flag : Bool) (unit : ℕ) → fate_with project (newest ∷ answered_of noted) flag unit ≡ fate_with project (answered_of noted) flag unit
  same_fate s passes ends flag unit =
      let parts = or_parts (goes entry.act) (is_accepted newest.said && is_report entry.act) ends in
      ap₂ (λ r l. if is_built project unit || r then Some HasCompiled else (if flag || l then Some HasFailed else None)) (ap (λ b. b || is_reported (answered_of noted) unit) (reports_none (is_accepted newest.said) unit entry.act parts.1)) (left_same s passes parts.0 unit)
