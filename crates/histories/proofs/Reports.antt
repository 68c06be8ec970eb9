-- Which units are held and reported: none that was built, and each at most once.
use Rattle.std.proofs.Common.{◌≡◌, ℕ, Bool, true, false, not, ◌||◌, ◌&&◌, inl, inr, List, [], ◌∷◌, ◌++◌, fold, Some, None, is_some, refl, sym, ap, subst, true≢false, eqb-true}
use Rattle.std.proofs.lemmas.Bool.{or_cases, or_parts, or_left, or_right, and_parts, and_from}
use Rattle.std.specs.Prelude.{if◌then◌else◌}
use Rattle.unit_registry.specs.declared.act.Act.{Act}
use Rattle.unit_registry.specs.declared.act.Act.TheVariants.{Compiled}
use Rattle.unit_registry.specs.Acts.{names, is_compiled_of}
use Rattle.unit_registry.specs.Projects.{ProjectView, is_built}
use Rattle.mapper_replies.specs.declared.refusal.Refusal.TheVariants.{NotConnected, NotYourUnit, NotExported, AlreadyCompiled}
use Rattle.histories.specs.declared.entry.Entry.{Entry}
use Rattle.histories.specs.declared.answer.Answer.TheVariants.{Done as Accepted}
use Rattle.histories.specs.declared.answer.Said.TheVariants.{Reply}
use Rattle.histories.specs.declared.answered.Answered.{Answered}
use Rattle.histories.specs.declared.standing.Who.{Who}
use Rattle.histories.specs.declared.standing.Who.TheVariants.{Nobody, Guest, Holder}
use Rattle.histories.specs.Answered.{is_accepted, who, holder, takes, is_exported, is_reported, stored_unit, stores, is_stored}
use Rattle.histories.specs.Noted.{Noted, answered_of, is_given_up}
use Rattle.histories.specs.Answers.{at_once, refused, is_connected, is_holder_of, holds, IsFirstReport}
use Rattle.histories.specs.Histories.{and_then, noted_of, answered_in, with_said}
use Rattle.histories.proofs.Acyclic.{answered_entry}
use Rattle.histories.proofs.Agree.{takes_untaken}
use Rattle.histories.proofs.Steps.{IsKnown, known-more}
use Rattle.histories.proofs.Legality.{noted_push}

-- ---- what an accepted Compiled finds

compiled_rows : (connected held reported exported : Bool) → is_accepted (if connected then (if not held then refused NotYourUnit else (if reported then refused AlreadyCompiled else (if not exported then refused NotExported else Reply Accepted))) else refused NotConnected) ≡ true → (held ≡ true) × (reported ≡ false) × (exported ≡ true)
compiled_rows false held reported exported h = absurd (true≢false (sym h))
compiled_rows true false reported exported h = absurd (true≢false (sym h))
compiled_rows true true true exported h = absurd (true≢false (sym h))
compiled_rows true true false false h = absurd (true≢false (sym h))
compiled_rows true true false true h = (refl, refl, refl)

-- the connection holds the unit, which was exported and not reported
pub record IsReport (answered : List Answered) (conn unit : ℕ) : Type 0 where
  pub held : holds answered conn unit ≡ true
  pub not_reported : is_reported answered unit ≡ false
  pub exported : is_exported answered unit ≡ true

pub report_row : (project : ProjectView) (noted : List Noted) (conn : ℕ) (act : Act) (unit : ℕ) → is_accepted (at_once project noted conn act) ≡ true → is_compiled_of unit act ≡ true → IsReport (answered_of noted) conn unit
report_row project noted conn (Compiled None stored) unit accepted of_unit = absurd (true≢false (sym of_unit))
report_row project noted conn (Compiled (Some named) stored) unit accepted of_unit =
    let rows = compiled_rows (is_connected (answered_of noted) conn) (holds (answered_of noted) conn named) (is_reported (answered_of noted) named) (is_exported (answered_of noted) named) accepted in
    subst (λ u. IsReport (answered_of noted) conn u) (eqb-true named unit of_unit) (record { held = rows.0; not_reported = rows.1; exported = rows.2 })
report_row project noted conn act unit accepted of_unit = absurd (true≢false (sym of_unit))

pub holder_is : (one : Who) (unit : ℕ) → is_holder_of one unit ≡ true → one ≡ Holder unit
holder_is (Holder held) unit h = ap (λ u. Holder u) (eqb-true held unit h)
holder_is Nobody unit h = absurd (true≢false (sym h))
holder_is Guest unit h = absurd (true≢false (sym h))

-- ---- what stands after every history

-- whoever holds a unit is its holder, and no unit that is held or reported was built
record AreUnbuilt (project : ProjectView) (answered : List Answered) : Type 0 where
  known : IsKnown answered
  held : (unit conn : ℕ) → holder answered unit ≡ Some conn → is_built project unit ≡ false
  reported : (unit : ℕ) → is_reported answered unit ≡ true → is_built project unit ≡ false

first_report : (project : ProjectView) (noted : List Noted) (entry : Entry) (unit : ℕ) → AreUnbuilt project (answered_of noted) → is_accepted (at_once project noted entry.conn entry.act) ≡ true → is_compiled_of unit entry.act ≡ true → IsFirstReport project (answered_of noted) entry.conn unit
first_report project noted entry unit unbuilt accepted of_unit =
    let row = report_row project noted entry.conn entry.act unit accepted of_unit in
    record {
      is_held = row.held;
      was_exported = row.exported;
      not_reported = row.not_reported;
      not_built = unbuilt.held unit entry.conn (unbuilt.known unit entry.conn (holder_is (who (answered_of noted) entry.conn) unit row.held));
    }

unbuilt-more : (project : ProjectView) (noted : List Noted) (entry : Entry) → AreUnbuilt project (answered_of noted) → AreUnbuilt project (answered_entry project noted entry ∷ answered_of noted)
unbuilt-more project noted entry unbuilt = record {
  known = known-more project noted entry unbuilt.known;
  held = λ unit conn h. by_takes unit conn (takes unit newest) refl h;
  reported = λ unit h. by_report unit h;
}
  where
    newest : Answered
    newest = answered_entry project noted entry

    by_takes : (unit conn : ℕ) (b : Bool) → takes unit newest ≡ b → (if b then Some entry.conn else holder (answered_of noted) unit) ≡ Some conn → is_built project unit ≡ false
    by_takes unit conn true takes_it h =
        (or_parts (is_built project unit) (is_given_up noted unit) (or_parts (is_built project unit || is_given_up noted unit) (is_some (holder (answered_of noted) unit)) (takes_untaken project noted entry unit takes_it)).0).0
    by_takes unit conn false takes_it h = unbuilt.held unit conn h

    by_report : (unit : ℕ) → is_reported (newest ∷ answered_of noted) unit ≡ true → is_built project unit ≡ false
    by_report unit h = elim (or_cases (is_accepted newest.said && is_compiled_of unit newest.act) (is_reported (answered_of noted) unit) h) [
      | inl here ↦ (let parts = and_parts (is_accepted newest.said) (is_compiled_of unit newest.act) here in (first_report project noted entry unit unbuilt parts.0 parts.1).not_built)
      | inr there ↦ unbuilt.reported unit there
    ]

unbuilt_after : (project : ProjectView) (workers : ℕ) → (entries : List Entry) (noted : List Noted) → AreUnbuilt project (answered_of noted) → AreUnbuilt project (answered_of (fold (and_then project workers) noted entries))
unbuilt_after project workers [] noted unbuilt = unbuilt
unbuilt_after project workers (entry ∷ entries) noted unbuilt =
    unbuilt_after project workers entries (and_then project workers noted entry) (unbuilt-more project noted entry unbuilt)

unbuilt_in : (project : ProjectView) (workers : ℕ) (history : List Entry) → AreUnbuilt project (answered_in project workers history)
unbuilt_in project workers history = unbuilt_after project workers history [] (record {
  known = λ unit conn h. absurd (cc);
  held = λ unit conn h. absurd (cc);
  reported = λ unit h. absurd (true≢false (sym h));
})

-- ---- the laws

pub held_unbuilt : (project : ProjectView) (workers : ℕ) (history : List Entry) (unit conn : ℕ) → holder (answered_in project workers history) unit ≡ Some conn → is_built project unit ≡ false
held_unbuilt project workers history = (unbuilt_in project workers history).held

pub reported_unbuilt : (project : ProjectView) (workers : ℕ) (history : List Entry) (unit : ℕ) → is_reported (answered_in project workers history) unit ≡ true → is_built project unit ≡ false
reported_unbuilt project workers history = (unbuilt_in project workers history).reported

pub reported_first : (project : ProjectView) (workers : ℕ) (history : List Entry) (entry : Entry) (unit : ℕ) → is_accepted (at_once project (noted_of project workers history) entry.conn entry.act) ≡ true → is_compiled_of unit entry.act ≡ true → IsFirstReport project (answered_in project workers history) entry.conn unit
reported_first project workers history entry unit accepted of_unit =
    first_report project (noted_of project workers history) entry unit (unbuilt_in project workers history) accepted of_unit

pub stored_more : (project : ProjectView) (workers : ℕ) (history : List Entry) (entry : Entry) (unit : ℕ) → is_stored (answered_in project workers (history ++ entry ∷ [])) unit ≡ (stores unit (with_said entry (at_once project (noted_of project workers history) entry.conn entry.act)) || is_stored (answered_in project workers history) unit)
stored_more project workers history entry unit =
    ap (λ noted. is_stored (answered_of noted) unit) (noted_push project workers history entry)

-- an item is of a Compiled
stored_is : (act : Act) (unit : ℕ) → names (stored_unit act) unit ≡ true → is_compiled_of unit act ≡ true
stored_is (Compiled named true) unit h = h
stored_is (Compiled named false) unit h = absurd (true≢false (sym h))
stored_is act unit h = absurd (true≢false (sym h))

pub stored_reported : (unit : ℕ) → (answered : List Answered) → is_stored answered unit ≡ true → is_reported answered unit ≡ true
stored_reported unit [] h = absurd (true≢false (sym h))
stored_reported unit (newest ∷ before) h =
    by (stored_reported unit before)
  where
    by : (is_stored before unit ≡ true → is_reported before unit ≡ true) → is_reported (newest ∷ before) unit ≡ true
    by behind = elim (or_cases (stores unit newest) (is_stored before unit) h) [
      | inl here ↦ (let parts = and_parts (is_accepted newest.said) (names (stored_unit newest.act) unit) here in or_left (is_accepted newest.said && is_compiled_of unit newest.act) (is_reported before unit) (and_from _ _ parts.0 (stored_is newest.act unit parts.1)))
      | inr there ↦ or_right (is_accepted newest.said && is_compiled_of unit newest.act) (is_reported before unit) (behind there)
    ]
