-- What the reply to an import tells of its unit.
use Rattle.std.proofs.Common.{◌≡◌, ℕ, Bool, true, false, not, ◌⊎◌, inl, inr, List, [], ◌∷◌, length, reverse, fold, Option, Some, None, is_none, refl, sym, ap, subst, ◌∙◌, arith, ne_eqb}
use Rattle.std.proofs.lemmas.Bool.{and_parts, cond-false}
use Rattle.std.proofs.lemmas.List.{length-map, length-reverse, reverse-append}
use Rattle.std.proofs.lemmas.Option.{slice_get_past}
use Rattle.std.specs.Prelude.{if◌then◌else◌, slice_get, option_map, option_and_then}
use Rattle.std.specs.Option.{option_or}
use Rattle.unit_registry.specs.declared.act.Act.{Act}
use Rattle.unit_registry.specs.declared.act.Act.TheVariants.{Import}
use Rattle.unit_registry.specs.Projects.{ProjectView}
use Rattle.mapper_replies.specs.declared.refusal.Refusal.TheVariants.{NotConnected, UnitFailed, ImportCycle}
use Rattle.histories.specs.declared.entry.Entry.{Entry}
use Rattle.histories.specs.declared.answer.Answer.{Answer}
use Rattle.histories.specs.declared.answer.Answer.TheVariants.{Path, Refused}
use Rattle.histories.specs.declared.answer.Said.{Said}
use Rattle.histories.specs.declared.answer.Said.TheVariants.{Reply, Waits, Nothing}
use Rattle.histories.specs.declared.answered.Answered.{Answered}
use Rattle.histories.specs.declared.standing.Fate.{Fate}
use Rattle.histories.specs.declared.standing.Fate.TheVariants.{Compiled, Failed}
use Rattle.histories.specs.Answered.{has_gone}
use Rattle.histories.specs.Noted.{Noted, answered_of, fate, answer_in, answer_by, ending, answered_at, coming_reply, reply_in}
use Rattle.histories.specs.Answers.{at_once, refused, by_fate, is_connected, closes_cycle}
use Rattle.histories.specs.Histories.{and_then, given_up, note, noted_of, reply, fault, is_legal_after, IsLegal}
use Rattle.histories.proofs.WhatIsSaid.{waits_by_import}
use Rattle.histories.proofs.Acyclic.{answered_entry, noted_entry}
use Rattle.histories.proofs.GoingOn.{slice_get-found, reply_new}
use Rattle.histories.proofs.Places.{stands_here}
use Rattle.histories.proofs.Fates.{compiled_stays, failed_stays, AreFated, fated-more, fated_first}

-- ---- answers that tell something of the unit of an import

-- what is said at once to an import of a unit
abbrev to_unit : Option Fate → ℕ → Bool → Bool → Bool → Said
to_unit ended unit connected name_only circle =
    if connected then (if name_only then Reply (Path unit) else (by_fate ended unit (if circle then refused ImportCycle else Waits unit)))
    else refused NotConnected

-- An answer to an import tells this of its unit: where it is given at once, and where it comes with the end of a unit.
record Rule (project : ProjectView) (name_only : Bool) (answer : Answer) (Is : List Noted → ℕ → Type 0) : Type 0 where
  said : (noted : List Noted) (conn unit : ℕ) → answer_in (at_once project noted conn (Import (Some unit) name_only)) ≡ Some answer → Is noted unit
  later : (noted : List Noted) (unit : ℕ) (end : Fate) → fate project noted unit ≡ Some end → answer_by end unit ≡ answer → Is noted unit

path_rows : (ended : Option Fate) (unit path : ℕ) (connected circle : Bool) → answer_in (to_unit ended unit connected false circle) ≡ Some (Path path) → ended ≡ Some Compiled
path_rows ended unit path false circle h = absurd (cc)
path_rows (Some Compiled) unit path true circle h = refl
path_rows (Some Failed) unit path true circle h = absurd (cc)
path_rows None unit path true true h = absurd (cc)
path_rows None unit path true false h = absurd (cc)

failed_rows : (ended : Option Fate) (unit : ℕ) (connected circle : Bool) → answer_in (to_unit ended unit connected false circle) ≡ Some (Refused UnitFailed) → ended ≡ Some Failed
failed_rows ended unit false circle h = absurd (cc)
failed_rows (Some Compiled) unit true circle h = absurd (cc)
failed_rows (Some Failed) unit true circle h = refl
failed_rows None unit true true h = absurd (cc)
failed_rows None unit true false h = absurd (cc)

own_rows : (ended : Option Fate) (unit path : ℕ) (connected name_only circle : Bool) → answer_in (to_unit ended unit connected name_only circle) ≡ Some (Path path) → path ≡ unit
own_rows ended unit path false name_only circle h = absurd (cc)
own_rows ended unit path true true circle h = cc
own_rows (Some Compiled) unit path true false circle h = cc
own_rows (Some Failed) unit path true false circle h = absurd (cc)
own_rows None unit path true false true h = absurd (cc)
own_rows None unit path true false false h = absurd (cc)

path_later : (end : Fate) (unit path : ℕ) → answer_by end unit ≡ Path path → (end ≡ Compiled) × (path ≡ unit)
path_later Compiled unit path h = (refl, cc)
path_later Failed unit path h = absurd (cc)

failed_later : (end : Fate) (unit : ℕ) → answer_by end unit ≡ Refused UnitFailed → end ≡ Failed
failed_later Compiled unit h = absurd (cc)
failed_later Failed unit h = refl

path_rule : (project : ProjectView) (path : ℕ) → Rule project false (Path path) (λ noted unit. fate project noted unit ≡ Some Compiled)
path_rule project path = record {
  said = λ noted conn unit h. path_rows (fate project noted unit) unit path (is_connected (answered_of noted) conn) (closes_cycle project noted conn unit) h;
  later = λ noted unit end ended h. ended ∙ ap (λ (e : Fate). Some e) (path_later end unit path h).0;
}

failed_rule : (project : ProjectView) → Rule project false (Refused UnitFailed) (λ noted unit. fate project noted unit ≡ Some Failed)
failed_rule project = record {
  said = λ noted conn unit h. failed_rows (fate project noted unit) unit (is_connected (answered_of noted) conn) (closes_cycle project noted conn unit) h;
  later = λ noted unit end ended h. ended ∙ ap (λ (e : Fate). Some e) (failed_later end unit h);
}

own_rule : (project : ProjectView) (name_only : Bool) (path : ℕ) → Rule project name_only (Path path) (λ noted unit. path ≡ unit)
own_rule project name_only path = record {
  said = λ noted conn unit h. own_rows (fate project noted unit) unit path (is_connected (answered_of noted) conn) name_only (closes_cycle project noted conn unit) h;
  later = λ noted unit end ended h. (path_later end unit path h).1;
}

-- ---- one more entry

-- each import with this answer has a unit of which it tells so
record Tells (project : ProjectView) (noted : List Noted) (name_only : Bool) (answer : Answer) (Is : List Noted → ℕ → Type 0) : Type 0 where
  tells : (place unit : ℕ) (entry : Answered) → answered_at noted place ≡ Some entry → entry.act ≡ Import (Some unit) name_only → reply_in project noted place ≡ Some answer → Is noted unit
  waits : (place unit : ℕ) (entry : Answered) → answered_at noted place ≡ Some entry → entry.said ≡ Waits unit → entry.act ≡ Import (Some unit) false

-- the entry at a place is the newest, or stood there before
place_cases : (newest : Noted) (noted : List Noted) (place : ℕ) (entry : Answered) → answered_at (newest ∷ noted) place ≡ Some entry → ((place ≡ length noted) × (newest.answered ≡ entry)) ⊎ (answered_at noted place ≡ Some entry)
place_cases newest noted place entry h =
    elim (slice_get-found newest.answered entry (reverse (answered_of noted)) place (sym (ap (λ xs. slice_get xs place) (reverse-append (newest.answered ∷ []) (answered_of noted))) ∙ h)) [
      | inl new ↦ inl (new.0 ∙ length-reverse (answered_of noted) ∙ length-map noted (λ (x : Noted). x.answered), new.1)
      | inr old ↦ inr old
    ]

within : (noted : List Noted) (place : ℕ) (entry : Answered) → answered_at noted place ≡ Some entry → place ≡ length noted → ⊥
within noted place entry h same =
    let past : slice_get (reverse (answered_of noted)) place ≡ None = slice_get_past (reverse (answered_of noted)) place (let size : length (reverse (answered_of noted)) ≡ length noted = length-reverse (answered_of noted) ∙ length-map noted (λ (x : Noted). x.answered) in omega arith) in
    let none : None ≡ Some entry = sym past ∙ h in
    cc

tells-more : (project : ProjectView) (workers : ℕ) (noted : List Noted) (entry : Entry) (name_only : Bool) (answer : Answer) (Is : List Noted → ℕ → Type 0) → Rule project name_only answer Is → ((unit : ℕ) → Is noted unit → Is (and_then project workers noted entry) unit) → Tells project noted name_only answer Is → Tells project (and_then project workers noted entry) name_only answer Is
tells-more project workers noted entry name_only answer Is rule stays so = record {
  tells = λ place unit x there asks came. elim (place_cases newest noted place x there) [
    | inl new ↦ stays unit (new_tells place unit x new.0 new.1 asks came)
    | inr old ↦ old_tells place unit x old asks (reply_in project noted place) refl came
  ];
  waits = λ place unit x there said. elim (place_cases newest noted place x there) [
    | inl new ↦ ap (λ (y : Answered). y.act) (sym new.1) ∙ (waits_by_import project noted entry.conn entry.act unit (ap (λ (y : Answered). y.said) new.1 ∙ said)).is_import
    | inr old ↦ so.waits place unit x old said
  ];
}
  where
    newest : Noted
    newest = noted_entry project noted entry (given_up project workers (note entry (answered_entry project noted entry).said [] ∷ noted))

    after : List Noted
    after = newest ∷ noted

    new_tells : (place unit : ℕ) (x : Answered) → place ≡ length noted → newest.answered ≡ x → x.act ≡ Import (Some unit) name_only → reply_in project after place ≡ Some answer → Is noted unit
    new_tells place unit x at same asks came =
        rule.said noted entry.conn unit
        (sym (ap (λ (p : ℕ). reply_in project after p) at
        ∙ reply_new project workers noted entry
        ∙ ap (λ (a : Act). answer_in (at_once project noted entry.conn a)) (ap (λ (y : Answered). y.act) same ∙ asks)) ∙ came)

    ended : (unit awaited : ℕ) → awaited ≡ unit → (o : Option Fate) → fate project after awaited ≡ o → option_map (λ f. answer_by f awaited) o ≡ Some answer → Is after unit
    ended unit awaited same None e came = absurd (cc)
    ended unit awaited same (Some end) e came =
        let by : answer_by end awaited ≡ answer = cc in
        subst (λ (u : ℕ). Is after u) same (rule.later after awaited end e by)

    coming : (place unit : ℕ) (x : Answered) → answered_at noted place ≡ Some x → x.act ≡ Import (Some unit) name_only → (said : Said) → x.said ≡ said → ending project noted after x.conn said ≡ Some answer → Is after unit
    coming place unit x there asks (Reply reply) s came = absurd (cc)
    coming place unit x there asks Nothing s came = absurd (cc)
    coming place unit x there asks (Waits awaited) s came = by (has_gone (answered_of noted) x.conn) came
      where
        same : awaited ≡ unit
        same = let both : Import (Some awaited) false ≡ Import (Some unit) name_only = sym (so.waits place awaited x there s) ∙ asks in cc

        by : (gone : Bool) → (if not gone then option_map (λ f. answer_by f awaited) (fate project after awaited) else None) ≡ Some answer → Is after unit
        by true came = absurd (cc)
        by false came = ended unit awaited same (fate project after awaited) refl came

    old_tells : (place unit : ℕ) (x : Answered) → answered_at noted place ≡ Some x → x.act ≡ Import (Some unit) name_only → (o : Option Answer) → reply_in project noted place ≡ o → option_or o (coming_reply project newest noted place) ≡ Some answer → Is after unit
    old_tells place unit x there asks (Some before) r came = stays unit (so.tells place unit x there asks (r ∙ came))
    old_tells place unit x there asks None r came =
        coming place unit x there asks x.said refl
        (sym (cond-false _ _ _ (ne_eqb place (length noted) (within noted place x there))
        ∙ ap (λ o. option_and_then (λ (y : Answered). ending project noted after y.conn y.said) o) there) ∙ came)

tells_first : (project : ProjectView) (name_only : Bool) (answer : Answer) (Is : List Noted → ℕ → Type 0) → Tells project [] name_only answer Is
tells_first project name_only answer Is = record {
  tells = λ place unit entry there asks came. absurd (cc);
  waits = λ place unit entry there said. absurd (cc);
}

-- ---- over all entries

-- where what is told stays in every history
tells_after : (project : ProjectView) (workers : ℕ) (name_only : Bool) (answer : Answer) (Is : List Noted → ℕ → Type 0) → Rule project name_only answer Is → ((noted : List Noted) (entry : Entry) (unit : ℕ) → Is noted unit → Is (and_then project workers noted entry) unit) → (entries : List Entry) (noted : List Noted) → Tells project noted name_only answer Is → Tells project (fold (and_then project workers) noted entries) name_only answer Is
tells_after project workers name_only answer Is rule stays [] noted so = so
tells_after project workers name_only answer Is rule stays (entry ∷ entries) noted so =
    tells_after project workers name_only answer Is rule stays entries (and_then project workers noted entry) (tells-more project workers noted entry name_only answer Is rule (stays noted entry) so)

-- and where it stays in a legal one
tells_failed : (project : ProjectView) (workers limit : ℕ) → (entries : List Entry) (noted : List Noted) → is_legal_after project workers limit noted entries ≡ true → AreFated noted → Tells project noted false (Refused UnitFailed) (λ noted unit. fate project noted unit ≡ Some Failed) → Tells project (fold (and_then project workers) noted entries) false (Refused UnitFailed) (λ noted unit. fate project noted unit ≡ Some Failed)
tells_failed project workers limit [] noted legal fated so = so
tells_failed project workers limit (entry ∷ entries) noted legal fated so =
    let parts = and_parts (is_none (fault project workers limit noted entry)) _ legal in
    tells_failed project workers limit entries (and_then project workers noted entry) parts.1 (fated-more project workers noted entry fated) (tells-more project workers noted entry false (Refused UnitFailed) (λ noted unit. fate project noted unit ≡ Some Failed) (failed_rule project) (λ unit h. failed_stays project workers limit noted entry unit fated parts.0 h) so)

-- ---- the laws

pub told_own : (project : ProjectView) (workers : ℕ) (history : List Entry) (place : ℕ) (entry : Entry) (unit path : ℕ) (name_only : Bool) → slice_get history place ≡ Some entry → entry.act ≡ Import (Some unit) name_only → reply project workers history place ≡ Some (Path path) → path ≡ unit
told_own project workers history place entry unit path name_only there asks came =
    let at = stands_here project workers history place entry there in
    (tells_after project workers name_only (Path path) (λ noted unit. path ≡ unit) (own_rule project name_only path) (λ noted entry unit h. h) history [] (tells_first project name_only (Path path) (λ noted unit. path ≡ unit))).tells place unit at.entry at.is_there (at.act ∙ asks) came

pub told_compiled : (project : ProjectView) (workers : ℕ) (history : List Entry) (place : ℕ) (entry : Entry) (unit path : ℕ) → slice_get history place ≡ Some entry → entry.act ≡ Import (Some unit) false → reply project workers history place ≡ Some (Path path) → fate project (noted_of project workers history) unit ≡ Some Compiled
told_compiled project workers history place entry unit path there asks came =
    let at = stands_here project workers history place entry there in
    (tells_after project workers false (Path path) (λ noted unit. fate project noted unit ≡ Some Compiled) (path_rule project path) (compiled_stays project workers) history [] (tells_first project false (Path path) (λ noted unit. fate project noted unit ≡ Some Compiled))).tells place unit at.entry at.is_there (at.act ∙ asks) came

pub told_failed : (project : ProjectView) (workers limit : ℕ) (history : List Entry) → IsLegal project workers limit history → (place : ℕ) (entry : Entry) (unit : ℕ) → slice_get history place ≡ Some entry → entry.act ≡ Import (Some unit) false → reply project workers history place ≡ Some (Refused UnitFailed) → fate project (noted_of project workers history) unit ≡ Some Failed
told_failed project workers limit history legal place entry unit there asks came =
    let at = stands_here project workers history place entry there in
    (tells_failed project workers limit history [] legal fated_first (tells_first project false (Refused UnitFailed) (λ noted unit. fate project noted unit ≡ Some Failed))).tells place unit at.entry at.is_there (at.act ∙ asks) came
