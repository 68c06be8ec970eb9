-- What a shelf keeps, after one more entry of the history beside it.
use Rattle.std.proofs.Common.{◌≡◌, ℕ, ◌<◌, ◌≤◌, Bool, true, false, not, ◌||◌, ◌&&◌, inl, inr, List, [], ◌∷◌, ◌++◌, length, Option, Some, None, is_some, IfSome, refl, sym, ap, ap₂, subst, ◌∙◌, true≢false}
use Rattle.std.proofs.lemmas.Bool.{or_cases, or_left, or_right, and_parts, and_right, false_from_ne_true, both_ways}
use Rattle.std.specs.Prelude.{if◌then◌else◌, Result, Ok, Err, IfOk}
use Rattle.unit_registry.specs.declared.act.Act.{Act}
use Rattle.unit_registry.specs.declared.act.Act.TheVariants.{Compiled}
use Rattle.unit_registry.specs.Acts.{names, is_compiled_of}
use Rattle.unit_registry.specs.Projects.{ProjectView, unit_count, is_built, is_plain}
use Rattle.mapper_replies.specs.declared.refusal.Refusal.TheVariants.{NotConnected, NotYourUnit, AlreadyCompiled, NotExported}
use Rattle.histories.specs.declared.entry.Entry.{Entry}
use Rattle.histories.specs.declared.answer.Answer.TheVariants.{Done as Accepted}
use Rattle.histories.specs.declared.answer.Said.TheVariants.{Reply}
use Rattle.histories.specs.declared.answered.Answered.{Answered}
use Rattle.histories.specs.Answered.{is_accepted, is_exported, is_reported, is_stored, stored_unit, stores}
use Rattle.histories.specs.Answers.{at_once, refused, is_connected, holds}
use Rattle.histories.specs.Noted.{Noted, answered_of, answer_in}
use Rattle.histories.specs.Histories.{noted_of, with_said, is_out_of_range}
use Rattle.histories.proofs.Legality.{noted_push}
use Rattle.histories.proofs.ReplyLaws.{reply_own}
use Rattle.histories.proofs.Reports.{reported_first, stored_reported}
use Rattle.registry_core.specs.declared.leaving.Leaving.{Leaving}
use Rattle.registry_core.specs.declared.leaving.Leaving.TheVariants.{Left as AsLeft, Lost as AsLost}
use Rattle.registry_core.specs.Ledgers.{LedgerView, said_in, said_to, with_entry, entry, leaving, reply_at}
use Rattle.registry_core.specs.Shelves.{ComesWith, kept_after, is_done_answer}
use Rattle.registry_core.specs.Books.{KeepsItems}
use Rattle.registry_core.proofs.Ready.{range_by}

-- ---- the answer to a Compiled

done_rows : (connected held reported exported : Bool) → is_done_answer (answer_in (if connected then (if not held then refused NotYourUnit else (if reported then refused AlreadyCompiled else (if not exported then refused NotExported else Reply Accepted))) else refused NotConnected)) ≡ is_accepted (if connected then (if not held then refused NotYourUnit else (if reported then refused AlreadyCompiled else (if not exported then refused NotExported else Reply Accepted))) else refused NotConnected)
done_rows false held reported exported = refl
done_rows true false reported exported = refl
done_rows true true true exported = refl
done_rows true true false false = refl
done_rows true true false true = refl

none_stored : (a b : Bool) → (a && false) ≡ (b && false)
none_stored true true = refl
none_stored true false = refl
none_stored false true = refl
none_stored false false = refl

-- a Compiled that is stored is accepted exactly where it is answered Done
pub accepted_is : (project : ProjectView) (noted : List Noted) (conn : ℕ) (act : Act) (unit : ℕ) → (is_done_answer (answer_in (at_once project noted conn act)) && names (stored_unit act) unit) ≡ (is_accepted (at_once project noted conn act) && names (stored_unit act) unit)
accepted_is project noted conn (Compiled (Some named) true) unit =
    ap (λ b. b && names (Some named) unit) (done_rows (is_connected (answered_of noted) conn) (holds (answered_of noted) conn named) (is_reported (answered_of noted) named) (is_exported (answered_of noted) named))
accepted_is project noted conn (Compiled None true) unit =
    none_stored (is_done_answer (answer_in (at_once project noted conn (Compiled None true)))) (is_accepted (at_once project noted conn (Compiled None true)))
accepted_is project noted conn (Compiled named false) unit =
    none_stored (is_done_answer (answer_in (at_once project noted conn (Compiled named false)))) (is_accepted (at_once project noted conn (Compiled named false)))
accepted_is project noted conn act unit =
    none_stored (is_done_answer (answer_in (at_once project noted conn act))) (is_accepted (at_once project noted conn act))

-- the unit of an item is one of the project
pub stored_within : (project : ProjectView) (act : Act) → is_out_of_range project act ≡ false → IfSome (stored_unit act) (λ unit. unit < unit_count project)
stored_within project (Compiled unit true) h = range_by project (λ u. is_plain project u) unit h
stored_within project act h = tt

-- ---- what is kept before an item comes

names_itself : (unit : ℕ) → names (Some unit) unit ≡ true
names_itself unit = Rattle.std.proofs.Common.eq-eqb unit unit refl

stored_compiled : (act : Act) (unit : ℕ) → stored_unit act ≡ Some unit → is_compiled_of unit act ≡ true
stored_compiled (Compiled named true) unit h = ap (λ o. names o unit) h ∙ names_itself unit
stored_compiled act unit h = absurd (cc)

is_none_kept : (built reported kept : Bool) → built ≡ false → reported ≡ false → (kept ≡ true → (built || reported) ≡ true) → kept ≡ false
is_none_kept built reported kept b r h = false_from_ne_true kept (λ k. both_ways (built || reported) (ap₂ (λ x y. x || y) b r) (h k))

pub free_of : (ledger : LedgerView) (units : ℕ) (kept : ℕ → Bool) → KeepsItems ledger units kept → (conn : ℕ) (act : Act) → is_done_answer (answer_in (said_to ledger conn act)) ≡ true → IfSome (stored_unit act) (λ unit. kept unit ≡ false)
free_of ledger units kept keeps conn act done = by (stored_unit act) refl
  where
    by : (o : Option ℕ) → stored_unit act ≡ o → IfSome o (λ unit. kept unit ≡ false)
    by None e = tt
    by (Some unit) e =
        let both : (is_done_answer (answer_in (said_to ledger conn act)) && names (stored_unit act) unit) ≡ true = ap₂ (λ a b. a && b) done (ap (λ o. names o unit) e ∙ names_itself unit) in
        let accepted = (and_parts (is_accepted (said_to ledger conn act)) (names (stored_unit act) unit) (sym (accepted_is ledger.project (noted_of ledger.project ledger.workers ledger.entries) conn act unit) ∙ both)).0 in
        let first = reported_first ledger.project ledger.workers ledger.entries (entry conn act) unit accepted (stored_compiled act unit e) in
        is_none_kept (is_built ledger.project unit) (is_reported (said_in ledger) unit) (kept unit) first.not_built first.not_reported (keeps.ended unit)

pub none_of : {Item : Type 0} (o : Option Item) → is_some o ≡ false → o ≡ None
none_of None h = refl
none_of (Some item) h = absurd (true≢false h)

-- the answer that comes with a request's own entry
pub own_answer : (ledger : LedgerView) (conn : ℕ) (act : Act) → reply_at (with_entry ledger (entry conn act)) (length ledger.entries) ≡ answer_in (said_to ledger conn act)
own_answer ledger conn act = reply_own ledger.project ledger.workers ledger.entries (entry conn act)

-- going stores nothing
pub leaving_stores : (how : Leaving) → stored_unit (leaving how) ≡ None
leaving_stores AsLeft = refl
leaving_stores AsLost = refl

-- ---- what is kept after

item_there : {Item : Type 0} (fits : ℕ → Item → Type 0) (o : Option ℕ) (item : Option Item) (unit : ℕ) → ComesWith fits o item → names o unit ≡ true → is_some item ≡ true
item_there fits (Some named) (Some item) unit comes h = refl
item_there fits (Some named) None unit comes h = absurd comes
item_there fits None item unit comes h = absurd (true≢false (sym h))

pub said_after : (ledger : LedgerView) (newest : Entry) → said_in (with_entry ledger newest) ≡ with_said newest (said_to ledger newest.conn newest.act) ∷ said_in ledger
said_after ledger newest = ap (λ (noted : List Noted). answered_of noted) (noted_push ledger.project ledger.workers ledger.entries newest)

-- an entry with its item
pub keeps_more : {Item : Type 0} (fits : ℕ → Item → Type 0) (ledger : LedgerView) (newest : Entry) (units : ℕ) (kept kept_then : ℕ → Option Item) (item : Option Item) → KeepsItems ledger units (λ unit. is_some (kept unit)) → ComesWith fits (stored_unit newest.act) item → ((unit : ℕ) → kept_then unit ≡ kept_after kept (with_said newest (said_to ledger newest.conn newest.act)) item unit) → KeepsItems (with_entry ledger newest) units (λ unit. is_some (kept_then unit))
keeps_more fits ledger newest units kept kept_then item keeps comes is = record {
  enough = keeps.enough;
  ended = λ unit h. subst (λ (said : List Answered). (is_built ledger.project unit || is_reported said unit) ≡ true) (sym (said_after ledger newest)) (ended unit (stores unit new) refl (sym (ap (λ o. is_some o) (is unit)) ∙ h));
  stored = λ unit h. ap (λ o. is_some o) (is unit) ∙ stored unit (stores unit new) refl (sym (ap (λ (said : List Answered). is_stored said unit) (said_after ledger newest)) ∙ h);
}
  where
    new : Answered
    new = with_said newest (said_to ledger newest.conn newest.act)

    ended : (unit : ℕ) (b : Bool) → stores unit new ≡ b → is_some (if b then item else kept unit) ≡ true → (is_built ledger.project unit || is_reported (new ∷ said_in ledger) unit) ≡ true
    ended unit true s h = or_right (is_built ledger.project unit) (is_reported (new ∷ said_in ledger) unit) (stored_reported unit (new ∷ said_in ledger) (or_left (stores unit new) (is_stored (said_in ledger) unit) s))
    ended unit false s h = elim (or_cases (is_built ledger.project unit) (is_reported (said_in ledger) unit) (keeps.ended unit h)) [
      | inl built ↦ or_left (is_built ledger.project unit) (is_reported (new ∷ said_in ledger) unit) built
      | inr reported ↦ or_right (is_built ledger.project unit) (is_reported (new ∷ said_in ledger) unit) (or_right (is_accepted new.said && is_compiled_of unit new.act) (is_reported (said_in ledger) unit) reported)
    ]

    stored : (unit : ℕ) (b : Bool) → stores unit new ≡ b → (b || is_stored (said_in ledger) unit) ≡ true → is_some (if b then item else kept unit) ≡ true
    stored unit true s h = item_there fits (stored_unit newest.act) item unit comes (and_parts (is_accepted new.said) (names (stored_unit newest.act) unit) s).1
    stored unit false s h = keeps.stored unit h

-- an entry without one
pub keeps_on : (ledger : LedgerView) (newest : Entry) (units : ℕ) (kept : ℕ → Bool) → stored_unit newest.act ≡ None → KeepsItems ledger units kept → KeepsItems (with_entry ledger newest) units kept
keeps_on ledger newest units kept none keeps = record {
  enough = keeps.enough;
  ended = λ unit h. subst (λ (said : List Answered). (is_built ledger.project unit || is_reported said unit) ≡ true) (sym (said_after ledger newest)) (elim (or_cases (is_built ledger.project unit) (is_reported (said_in ledger) unit) (keeps.ended unit h)) [
    | inl built ↦ or_left (is_built ledger.project unit) (is_reported (new ∷ said_in ledger) unit) built
    | inr reported ↦ or_right (is_built ledger.project unit) (is_reported (new ∷ said_in ledger) unit) (or_right (is_accepted new.said && is_compiled_of unit new.act) (is_reported (said_in ledger) unit) reported)
  ]);
  stored = λ unit h. keeps.stored unit (sym (ap (λ b. b || is_stored (said_in ledger) unit) (and_right (is_accepted new.said) (names (stored_unit newest.act) unit) (ap (λ o. names o unit) none))) ∙ sym (ap (λ (said : List Answered). is_stored said unit) (said_after ledger newest)) ∙ h);
}
  where
    new : Answered
    new = with_said newest (said_to ledger newest.conn newest.act)

-- what was copied fits, where each item that is kept does
pub copied_fits : {Item E : Type 0} (result : Result (Option Item) E) (kept : Option Item) (Fits : Item → Type 0) → IfOk result (λ item. item ≡ kept) → ((item : Item) → kept ≡ Some item → Fits item) → IfOk result (λ item. IfSome item Fits)
copied_fits (Ok None) kept Fits same fits = tt
copied_fits (Ok (Some item)) kept Fits same fits = fits item (sym same)
copied_fits (Err error) kept Fits same fits = tt
