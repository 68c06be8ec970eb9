-- A request of an open connection that has no reply is an import that waits.
use Rattle.std.proofs.Common.{◌≡◌, ℕ, Bool, true, false, not, ◌==◌, cond, List, [], ◌∷◌, ◌++◌, length, Contains, Option, Some, None, is_none, refl, sym, ap, subst, ◌∙◌, append_assoc, true≢false, eq-eqb}
use Rattle.std.proofs.lemmas.Bool.{and_from}
use Rattle.std.specs.Prelude.{slice_get}
use Rattle.std.specs.Option.{option_map_or}
use Rattle.unit_registry.specs.declared.act.Act.{Act}
use Rattle.unit_registry.specs.declared.act.Act.TheVariants.{Open, Hello, Repo, Export, Import, Compiled, Translate, Bad, Pause, Left, Lost, Done}
use Rattle.unit_registry.specs.Projects.{ProjectView}
use Rattle.mapper_replies.specs.declared.refusal.Refusal.{Refusal}
use Rattle.mapper_replies.specs.declared.refusal.Refusal.TheVariants.{NotConnected, AlreadyConnected, Version, UnitTaken, UnknownUnit, NotYourUnit, AlreadyExported, NotExported, AlreadyCompiled, UnitFailed, ImportCycle}
use Rattle.histories.specs.declared.entry.Entry.{Entry}
use Rattle.histories.specs.declared.answer.Answer.{Answer}
use Rattle.histories.specs.declared.answer.Answer.TheVariants.{Hello as Greeting, Repo as Repository, Path, Done as Accepted, Bool as Truth, Refused}
use Rattle.histories.specs.declared.answer.Said.{Said}
use Rattle.histories.specs.declared.answer.Said.TheVariants.{Reply, Waits, Nothing}
use Rattle.histories.specs.declared.answered.Answered.{Answered}
use Rattle.histories.specs.declared.answered.Wait.{Wait}
use Rattle.histories.specs.declared.standing.Fate.{Fate}
use Rattle.histories.specs.declared.standing.Fate.TheVariants as fates
use Rattle.histories.specs.Answered.{is_exported, is_reported, is_open, told_to_wait, wait_at}
use Rattle.histories.specs.Noted.{Noted, answered_of, answer_in, fate, pending, is_still_waiting}
use Rattle.histories.specs.Answers.{at_once, to_hello, to_export, to_compiled, to_import, by_fate, refused, refusal_of, once_connected, is_connected, is_taken, holds, closes_cycle}
use Rattle.histories.specs.Histories.{noted_of, answered_in, reply, asks_nothing, is_waiting}
use Rattle.histories.proofs.Members.{In, Contains-from_In, In-filter_from, any_from}
use Rattle.histories.proofs.WhatIsSaid.{waits_by_import}
use Rattle.histories.proofs.Acyclic.{answered_entry}
use Rattle.histories.proofs.GoingOn.{told_at_place}
use Rattle.histories.proofs.Places.{cut_at, entry_at}
use Rattle.histories.proofs.ReplyLaws.{reply_own}
use Rattle.histories.proofs.Stay.{replies_stay}

-- ---- a request is answered at once, or told to wait

abbrev Speaks : Said → Type 0
Speaks (Reply answer) = Unit {0}
Speaks (Waits unit) = Unit {0}
Speaks Nothing = ⊥

record IsSomething (said : Said) : Type 0 where
  so : Speaks said

replied : (answer : Answer) → IsSomething (Reply answer)
replied answer = record { so = tt }

either : (b : Bool) (x y : Said) → IsSomething x → IsSomething y → IsSomething (cond b x y)
either true x y h k = h
either false x y h k = k

-- a refusal, or something else
or_refused : (b : Bool) (refusal : Refusal) (y : Said) → IsSomething y → IsSomething (cond b (refused refusal) y)
or_refused b refusal y k = either b (refused refusal) y (replied (Refused refusal)) k

connected : (answered : List Answered) (conn : ℕ) (said : Said) → IsSomething said → IsSomething (once_connected answered conn said)
connected answered conn said h = either (is_connected answered conn) said (refused NotConnected) h (replied (Refused NotConnected))

by_end : (end : Option Fate) (unit : ℕ) (otherwise : Said) → IsSomething otherwise → IsSomething (by_fate end unit otherwise)
by_end (Some fates.Compiled) unit otherwise h = replied (Path unit)
by_end (Some fates.Failed) unit otherwise h = replied (Refused UnitFailed)
by_end None unit otherwise h = h

to_hello_some : (project : ProjectView) (noted : List Noted) (conn version : ℕ) (unit : Option ℕ) → IsSomething (to_hello project noted conn version unit)
to_hello_some project noted conn version unit =
    or_refused (is_connected (answered_of noted) conn) AlreadyConnected _
    (or_refused (not (version == 1)) Version _
    (or_refused (option_map_or (is_taken project noted) unit false) UnitTaken _ (replied Greeting)))

to_export_some : (answered : List Answered) (conn : ℕ) (unit : Option ℕ) → IsSomething (to_export answered conn unit)
to_export_some answered conn None = replied (Refused UnknownUnit)
to_export_some answered conn (Some unit) = or_refused (not (holds answered conn unit)) NotYourUnit _ (or_refused (is_exported answered unit) AlreadyExported _ (replied (Path unit)))

to_compiled_some : (answered : List Answered) (conn : ℕ) (unit : Option ℕ) → IsSomething (to_compiled answered conn unit)
to_compiled_some answered conn None = replied (Refused UnknownUnit)
to_compiled_some answered conn (Some unit) =
    or_refused (not (holds answered conn unit)) NotYourUnit _
    (or_refused (is_reported answered unit) AlreadyCompiled _
    (or_refused (not (is_exported answered unit)) NotExported _ (replied Accepted)))

to_import_some : (project : ProjectView) (noted : List Noted) (conn : ℕ) (unit : Option ℕ) (name_only : Bool) → IsSomething (to_import project noted conn unit name_only)
to_import_some project noted conn None name_only = replied (Refused UnknownUnit)
to_import_some project noted conn (Some unit) name_only =
    either name_only (Reply (Path unit)) _ (replied (Path unit)) (by_end (fate project noted unit) unit _ (or_refused (closes_cycle project noted conn unit) ImportCycle (Waits unit) (record { so = tt })))

said_something : (project : ProjectView) (noted : List Noted) (conn : ℕ) (act : Act) → asks_nothing act ≡ false → IsSomething (at_once project noted conn act)
said_something project noted conn Open h = absurd (true≢false h)
said_something project noted conn (Hello version unit) h = to_hello_some project noted conn version unit
said_something project noted conn Repo h = connected (answered_of noted) conn (Reply Repository) (replied Repository)
said_something project noted conn (Export unit) h = connected (answered_of noted) conn (to_export (answered_of noted) conn unit) (to_export_some (answered_of noted) conn unit)
said_something project noted conn (Import unit name_only) h = connected (answered_of noted) conn (to_import project noted conn unit name_only) (to_import_some project noted conn unit name_only)
said_something project noted conn (Compiled unit stored) h = connected (answered_of noted) conn (to_compiled (answered_of noted) conn unit) (to_compiled_some (answered_of noted) conn unit)
said_something project noted conn (Translate header) h = connected (answered_of noted) conn (Reply (Truth header)) (replied (Truth header))
said_something project noted conn (Bad why) h = replied (Refused (refusal_of why))
said_something project noted conn Pause h = absurd (true≢false h)
said_something project noted conn Left h = absurd (true≢false h)
said_something project noted conn Lost h = absurd (true≢false h)
said_something project noted conn Done h = absurd (true≢false h)

waits_if : (said : Said) → IsSomething said → answer_in said ≡ None → (unit : ℕ) × (said ≡ Waits unit)
waits_if (Reply answer) h none = absurd (cc)
waits_if (Waits unit) h none = (unit, refl)
waits_if Nothing h none = absurd h.so

-- ---- a request without a reply

-- what has no reply had none before
pub none_before : (project : ProjectView) (workers : ℕ) (history more : List Entry) (place : ℕ) → reply project workers (history ++ more) place ≡ None → reply project workers history place ≡ None
none_before project workers history more place none = by (reply project workers history place) refl
  where
    by : (r : Option Answer) → reply project workers history place ≡ r → r ≡ None
    by None e = refl
    by (Some answer) e = let stays : reply project workers (history ++ more) place ≡ Some answer = replies_stay project workers history more place answer e in absurd (cc)

-- the entry at the place waits for its unit
abbrev pub WaitsHere : ProjectView → ℕ → List Entry → ℕ → Entry → Type 0
WaitsHere project workers history place entry =
    (unit : ℕ) × (entry.act ≡ Import (Some unit) false) × In (wait_at place entry.conn unit) (pending project (noted_of project workers history))

waits_behind : (project : ProjectView) (workers : ℕ) (front behind : List Entry) (entry : Entry) → asks_nothing entry.act ≡ false → is_open (answered_in project workers (front ++ entry ∷ behind)) entry.conn ≡ true → reply project workers (front ++ entry ∷ behind) (length front) ≡ None → WaitsHere project workers (front ++ entry ∷ behind) (length front) entry
waits_behind project workers front behind entry asks there none =
    (waits.0, (waits_by_import project noted entry.conn entry.act waits.0 waits.1).is_import, In-filter_from (is_still_waiting project (noted_of project workers whole)) (wait_at (length front) entry.conn waits.0) (and_from _ _ there (ap (λ (r : Option Answer). is_none r) none)) (told_to_wait (answered_in project workers whole)) told)
  where
    noted : List Noted
    noted = noted_of project workers front

    whole : List Entry
    whole = front ++ entry ∷ behind

    own : reply project workers (front ++ entry ∷ []) (length front) ≡ None
    own = none_before project workers (front ++ entry ∷ []) behind (length front) (ap (λ (h : List Entry). reply project workers h (length front)) (append_assoc front (entry ∷ []) behind) ∙ none)

    waits : (unit : ℕ) × (at_once project noted entry.conn entry.act ≡ Waits unit)
    waits = waits_if (at_once project noted entry.conn entry.act) (said_something project noted entry.conn entry.act asks) (sym (reply_own project workers front entry) ∙ own)

    told : In (wait_at (length front) entry.conn waits.0) (told_to_wait (answered_in project workers whole))
    told = told_at_place (answered_in project workers whole) (length front) (answered_entry project noted entry) waits.0 (entry_at project workers front behind entry) waits.1

pub waits_here : (project : ProjectView) (workers : ℕ) (history : List Entry) (place : ℕ) (entry : Entry) → slice_get history place ≡ Some entry → asks_nothing entry.act ≡ false → is_open (answered_in project workers history) entry.conn ≡ true → reply project workers history place ≡ None → WaitsHere project workers history place entry
waits_here project workers history place entry h asks there none =
    let cut = cut_at entry history place h in
    subst (λ (es : List Entry). WaitsHere project workers es place entry) (sym cut.are)
    (subst (λ (p : ℕ). WaitsHere project workers (cut.front ++ entry ∷ cut.behind) p entry) (sym cut.is_place)
    (waits_behind project workers cut.front cut.behind entry asks
    (sym (ap (λ (es : List Entry). is_open (answered_in project workers es) entry.conn) cut.are) ∙ there)
    (sym (ap (λ (es : List Entry). reply project workers es place) cut.are ∙ ap (λ (p : ℕ). reply project workers (cut.front ++ entry ∷ cut.behind) p) cut.is_place) ∙ none)))

pub unanswered_waits : (project : ProjectView) (workers : ℕ) (history : List Entry) (place : ℕ) (entry : Entry) → slice_get history place ≡ Some entry → asks_nothing entry.act ≡ false → is_open (answered_in project workers history) entry.conn ≡ true → reply project workers history place ≡ None → (unit : ℕ) × (entry.act ≡ Import (Some unit) false) × Contains (pending project (noted_of project workers history)) (wait_at place entry.conn unit)
unanswered_waits project workers history place entry h asks there none =
    let waits = waits_here project workers history place entry h asks there none in
    (waits.0, waits.1, Contains-from_In (wait_at place entry.conn waits.0) (pending project (noted_of project workers history)) waits.2)

pub unanswered_conn : (project : ProjectView) (workers : ℕ) (history : List Entry) (place : ℕ) (entry : Entry) → slice_get history place ≡ Some entry → asks_nothing entry.act ≡ false → is_open (answered_in project workers history) entry.conn ≡ true → reply project workers history place ≡ None → is_waiting project (noted_of project workers history) entry.conn ≡ true
unanswered_conn project workers history place entry h asks there none =
    let waits = waits_here project workers history place entry h asks there none in
    any_from (λ (wait : Wait). wait.conn == entry.conn) (wait_at place entry.conn waits.0) (eq-eqb entry.conn entry.conn refl) (pending project (noted_of project workers history)) waits.2
