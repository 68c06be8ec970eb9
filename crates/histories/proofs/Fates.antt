-- How a unit has ended stays as a history goes on.
use Rattle.std.proofs.Common.{◌≡◌, ℕ, Bool, true, false, ◌||◌, ◌&&◌, ◌==◌, inl, inr, List, [], ◌∷◌, ◌++◌, filter, map, fold, Option, Some, None, is_some, is_none, refl, sym, ap, subst, ◌∙◌, true≢false, eqb-true}
use Rattle.std.proofs.lemmas.Bool.{both_ways, or_cases, or_parts, or_from, or_left, or_right, and_parts, false_from_ne_true, cond-true, cond-false}
use Rattle.std.specs.Prelude.{if◌then◌else◌}
use Rattle.std.specs.List.{list_any}
use Rattle.std.specs.Option.{option_map_or}
use Rattle.unit_registry.specs.declared.act.Act.{Act}
use Rattle.unit_registry.specs.declared.act.Act.TheVariants.{Compiled}
use Rattle.unit_registry.specs.Acts.{is_open_act, is_done, goes, is_compiled_of}
use Rattle.unit_registry.specs.Projects.{ProjectView, is_built}
use Rattle.histories.specs.declared.entry.Entry.{Entry}
use Rattle.histories.specs.declared.answered.Answered.{Answered}
use Rattle.histories.specs.declared.answered.Wait.{Wait}
use Rattle.histories.specs.declared.standing.Fate.{Fate}
use Rattle.histories.specs.declared.standing.Fate.TheVariants as fates
use Rattle.histories.specs.Answered.{has_gone, who, takes, holder, is_left, is_accepted, is_reported}
use Rattle.histories.specs.Noted.{Noted, answered_of, is_given_up, fate, pending}
use Rattle.histories.specs.Histories.{and_then, given_up, is_stalled, noted_of, fault, is_legal_after, IsLegal}
use Rattle.histories.proofs.Members.{In, In-filter, any_to}
use Rattle.histories.proofs.OneEntry.{is_open-parts}
use Rattle.histories.proofs.Acyclic.{answered_entry, noted_entry}
use Rattle.histories.proofs.Agree.{takes_untaken, takes_free}
use Rattle.histories.proofs.Steps.{IsKnown, known-more, stands_open}
use Rattle.histories.proofs.Legality.{noted_more, legal_split, none_is}
use Rattle.histories.proofs.Reports.{report_row, holder_is}

-- ---- the parts of a fate

compiled_is : (compiled failed : Bool) → (if compiled then Some fates.Compiled else (if failed then Some fates.Failed else None)) ≡ Some fates.Compiled → compiled ≡ true
compiled_is true failed h = refl
compiled_is false true h = absurd (cc)
compiled_is false false h = absurd (cc)

failed_is : (compiled failed : Bool) → (if compiled then Some fates.Compiled else (if failed then Some fates.Failed else None)) ≡ Some fates.Failed → (compiled ≡ false) × (failed ≡ true)
failed_is true failed h = absurd (cc)
failed_is false true h = (refl, refl)
failed_is false false h = absurd (cc)

-- ---- a compiled unit stays so

pub compiled_stays : (project : ProjectView) (workers : ℕ) (noted : List Noted) (entry : Entry) (unit : ℕ) → fate project noted unit ≡ Some fates.Compiled → fate project (and_then project workers noted entry) unit ≡ Some fates.Compiled
compiled_stays project workers noted entry unit h = cond-true _ _ _ now
  where
    newest : Answered
    newest = answered_entry project noted entry

    before : (is_built project unit || is_reported (answered_of noted) unit) ≡ true
    before = compiled_is _ (is_given_up noted unit || is_left (answered_of noted) unit) h

    now : (is_built project unit || is_reported (newest ∷ answered_of noted) unit) ≡ true
    now = elim (or_cases (is_built project unit) (is_reported (answered_of noted) unit) before) [
      | inl built ↦ or_left (is_built project unit) (is_reported (newest ∷ answered_of noted) unit) built
      | inr reported ↦ or_right (is_built project unit) (is_reported (newest ∷ answered_of noted) unit) (or_right (is_accepted newest.said && is_compiled_of unit newest.act) (is_reported (answered_of noted) unit) reported)
    ]

-- ---- a unit that was given up has no holder

abbrev pub AreUnheld : List Noted → Type 0
AreUnheld noted = (unit : ℕ) → is_given_up noted unit ≡ true → holder (answered_of noted) unit ≡ None

in_given : (stalled : Bool) (units : List ℕ) (unit : ℕ) → In unit (if stalled then units else []) → In unit units
in_given true units unit h = h
in_given false units unit h = absurd h

unheld-more : (project : ProjectView) (workers : ℕ) (noted : List Noted) (entry : Entry) → AreUnheld noted → AreUnheld (and_then project workers noted entry)
unheld-more project workers noted entry unheld unit h =
    elim (or_cases (list_any (λ other. other == unit) (given_up project workers m)) (is_given_up noted unit) h) [
      | inl here ↦ given here
      | inr there ↦ cond-false _ _ _ (untaken there) ∙ unheld unit there
    ]
  where
    m : List Noted
    m = noted_entry project noted entry [] ∷ noted

    given : list_any (λ other. other == unit) (given_up project workers m) ≡ true → holder (answered_of m) unit ≡ None
    given here =
        let found = any_to (λ (other : ℕ). other == unit) (given_up project workers m) here in
        let kept = In-filter (λ (u : ℕ). is_none (holder (answered_of m) u)) found.0 (map (λ (wait : Wait). wait.unit) (pending project m)) (in_given (is_stalled project workers m) (filter (λ (u : ℕ). is_none (holder (answered_of m) u)) (map (λ (wait : Wait). wait.unit) (pending project m))) found.0 found.1) in
        subst (λ (u : ℕ). holder (answered_of m) u ≡ None) (eqb-true found.0 unit found.2) (none_is (holder (answered_of m) found.0) kept.1)

    untaken : is_given_up noted unit ≡ true → takes unit (answered_entry project noted entry) ≡ false
    untaken there = false_from_ne_true _ (λ takes_it. both_ways (is_given_up noted unit) (or_parts (is_built project unit) (is_given_up noted unit) (or_parts (is_built project unit || is_given_up noted unit) (is_some (holder (answered_of noted) unit)) (takes_untaken project noted entry unit takes_it)).0).1 there)

-- ---- a unit that has failed stays so

left_stays : (e : Answered) (answered : List Answered) (unit : ℕ) (b : Bool) → (b ≡ true → holder answered unit ≡ None) → is_left answered unit ≡ true → option_map_or (has_gone (e ∷ answered)) (if b then Some e.conn else holder answered unit) false ≡ true
left_stays e answered unit true free h =
    absurd (true≢false (sym h ∙ ap (λ (o : Option ℕ). option_map_or (has_gone answered) o false) (free refl)))
left_stays e answered unit false free h = by_holder (holder answered unit) h
  where
    by_holder : (o : Option ℕ) → option_map_or (has_gone answered) o false ≡ true → option_map_or (has_gone (e ∷ answered)) o false ≡ true
    by_holder None h = absurd (true≢false (sym h))
    by_holder (Some conn) h = or_right (e.conn == conn && goes e.act) (has_gone answered conn) h

compiled_asks : (act : Act) (unit : ℕ) → is_compiled_of unit act ≡ true → (is_open_act act || is_done act) ≡ false
compiled_asks (Compiled named stored) unit h = refl
compiled_asks act unit h = absurd (true≢false (sym h))

-- whoever holds a unit is its holder, and no unit that was given up has one
pub record AreFated (noted : List Noted) : Type 0 where
  pub known : IsKnown (answered_of noted)
  pub unheld : AreUnheld noted

pub fated-more : (project : ProjectView) (workers : ℕ) (noted : List Noted) (entry : Entry) → AreFated noted → AreFated (and_then project workers noted entry)
fated-more project workers noted entry fated = record {
  known = known-more project noted entry fated.known;
  unheld = unheld-more project workers noted entry fated.unheld;
}

pub fated_first : AreFated []
fated_first = record { known = λ unit conn h. absurd (cc); unheld = λ unit h. refl }

fated_after : (project : ProjectView) (workers : ℕ) → (entries : List Entry) (noted : List Noted) → AreFated noted → AreFated (fold (and_then project workers) noted entries)
fated_after project workers [] noted fated = fated
fated_after project workers (entry ∷ entries) noted fated =
    fated_after project workers entries (and_then project workers noted entry) (fated-more project workers noted entry fated)

pub failed_stays : (project : ProjectView) (workers limit : ℕ) (noted : List Noted) (entry : Entry) (unit : ℕ) → AreFated noted → is_none (fault project workers limit noted entry) ≡ true → fate project noted unit ≡ Some fates.Failed → fate project (and_then project workers noted entry) unit ≡ Some fates.Failed
failed_stays project workers limit noted entry unit fated passes h =
    cond-false _ _ _ (or_from _ _ never.0 (or_from _ _ (false_from_ne_true _ unreported) never.1)) ∙ cond-true _ _ _ lost
  where
    newest : Answered
    newest = answered_entry project noted entry

    before : ((is_built project unit || is_reported (answered_of noted) unit) ≡ false) × ((is_given_up noted unit || is_left (answered_of noted) unit) ≡ true)
    before = failed_is _ _ h

    never : (is_built project unit ≡ false) × (is_reported (answered_of noted) unit ≡ false)
    never = or_parts (is_built project unit) (is_reported (answered_of noted) unit) before.0

    no_holder : holder (answered_of noted) unit ≡ Some entry.conn → has_gone (answered_of noted) entry.conn ≡ false → ⊥
    no_holder held stays = elim (or_cases (is_given_up noted unit) (is_left (answered_of noted) unit) before.1) [
      | inl given ↦ (let none : None ≡ Some entry.conn = sym (fated.unheld unit given) ∙ held in cc)
      | inr left ↦ true≢false (sym left ∙ ap (λ (o : Option ℕ). option_map_or (has_gone (answered_of noted)) o false) held ∙ stays)
    ]

    unreported : (is_accepted newest.said && is_compiled_of unit newest.act) ≡ true → ⊥
    unreported here =
        let parts = and_parts (is_accepted newest.said) (is_compiled_of unit newest.act) here in
        let row = report_row project noted entry.conn entry.act unit parts.0 parts.1 in
        let there = stands_open project workers limit noted entry passes (compiled_asks entry.act unit parts.1) in
        no_holder (fated.known unit entry.conn (holder_is (who (answered_of noted) entry.conn) unit row.held)) (is_open-parts (answered_of noted) entry.conn there).1

    given_now : Bool
    given_now = list_any (λ other. other == unit) (given_up project workers (noted_entry project noted entry [] ∷ noted))

    lost : ((given_now || is_given_up noted unit) || is_left (newest ∷ answered_of noted) unit) ≡ true
    lost = elim (or_cases (is_given_up noted unit) (is_left (answered_of noted) unit) before.1) [
      | inl given ↦ or_left (given_now || is_given_up noted unit) (is_left (newest ∷ answered_of noted) unit) (or_right given_now (is_given_up noted unit) given)
      | inr left ↦ or_right (given_now || is_given_up noted unit) (is_left (newest ∷ answered_of noted) unit) (left_stays newest (answered_of noted) unit (takes unit newest) (takes_free project noted entry unit) left)
    ]

-- ---- over more entries

compiled_after : (project : ProjectView) (workers unit : ℕ) → (entries : List Entry) (noted : List Noted) → fate project noted unit ≡ Some fates.Compiled → fate project (fold (and_then project workers) noted entries) unit ≡ Some fates.Compiled
compiled_after project workers unit [] noted h = h
compiled_after project workers unit (entry ∷ entries) noted h =
    compiled_after project workers unit entries (and_then project workers noted entry) (compiled_stays project workers noted entry unit h)

failed_after : (project : ProjectView) (workers limit unit : ℕ) → (entries : List Entry) (noted : List Noted) → is_legal_after project workers limit noted entries ≡ true → AreFated noted → fate project noted unit ≡ Some fates.Failed → fate project (fold (and_then project workers) noted entries) unit ≡ Some fates.Failed
failed_after project workers limit unit [] noted legal fated h = h
failed_after project workers limit unit (entry ∷ entries) noted legal fated h =
    let parts = and_parts (is_none (fault project workers limit noted entry)) _ legal in
    failed_after project workers limit unit entries (and_then project workers noted entry) parts.1 (fated-more project workers noted entry fated) (failed_stays project workers limit noted entry unit fated parts.0 h)

-- a unit that is compiled stays so, in every history
pub compiled_stays_so : (project : ProjectView) (workers : ℕ) (history more : List Entry) (unit : ℕ) → fate project (noted_of project workers history) unit ≡ Some fates.Compiled → fate project (noted_of project workers (history ++ more)) unit ≡ Some fates.Compiled
compiled_stays_so project workers history more unit h =
    ap (λ noted. fate project noted unit) (noted_more project workers history more)
    ∙ compiled_after project workers unit more (noted_of project workers history) h

-- one that has failed stays so in a legal one
pub failed_stays_so : (project : ProjectView) (workers limit : ℕ) (history more : List Entry) → IsLegal project workers limit (history ++ more) → (unit : ℕ) → fate project (noted_of project workers history) unit ≡ Some fates.Failed → fate project (noted_of project workers (history ++ more)) unit ≡ Some fates.Failed
failed_stays_so project workers limit history more legal unit h =
    ap (λ noted. fate project noted unit) (noted_more project workers history more)
    ∙ failed_after project workers limit unit more (noted_of project workers history) (legal_split project workers limit more history [] legal).1 (fated_after project workers history [] fated_first) h

pub fates_stay : (project : ProjectView) (workers limit : ℕ) (history more : List Entry) → IsLegal project workers limit (history ++ more) → (unit : ℕ) (end : Fate) → fate project (noted_of project workers history) unit ≡ Some end → fate project (noted_of project workers (history ++ more)) unit ≡ Some end
fates_stay project workers limit history more legal unit fates.Compiled h = compiled_stays_so project workers history more unit h
fates_stay project workers limit history more legal unit fates.Failed h = failed_stays_so project workers limit history more legal unit h
