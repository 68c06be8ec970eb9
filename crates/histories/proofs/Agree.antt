-- One told to wait whose connection is open has no reply exactly where its unit has not ended.
use Rattle.std.proofs.Common.{◌≡◌, ◌≢◌, ℕ, ◌≤◌, Bool, true, false, ◌&&◌, ◌==◌, ◌⊎◌, inl, inr, List, [], ◌∷◌, length, fold, reverse, Contains, Option, Some, None, is_some, is_none, refl, sym, ap, subst, ◌∙◌, arith, true≢false, eq-eqb, eqb-true, ne_eqb}
use Rattle.std.proofs.lemmas.Bool.{both_ways, or_parts, or_from, and_parts, and_right, false_from_ne_true, cond-true, cond-false}
use Rattle.std.proofs.lemmas.List.{length-map, length-reverse}
use Rattle.std.specs.Prelude.{if◌then◌else◌, option_map, option_and_then}
use Rattle.std.proofs.lemmas.Option.{slice_get_past}
use Rattle.std.proofs.lemmas.List.Folds.{list_all_at}
use Rattle.std.specs.List.{list_any, list_all}
use Rattle.std.specs.Option.{option_map_or, option_or}
use Rattle.histories.specs.declared.answer.Answer.{Answer}
use Rattle.histories.specs.declared.entry.Entry.{Entry}
use Rattle.histories.specs.declared.answer.Said.{Said}
use Rattle.histories.specs.declared.answer.Said.TheVariants.{Reply, Waits, Nothing}
use Rattle.histories.specs.declared.answered.Answered.{Answered}
use Rattle.unit_registry.specs.Acts.{names, hello_of, is_pause, goes, is_compiled_of}
use Rattle.unit_registry.specs.Projects.{ProjectView}
use Rattle.histories.specs.Answered.{is_accepted}
use Rattle.histories.specs.declared.answered.Wait.{Wait}
use Rattle.histories.specs.Answered.{has_gone, is_open, open_connections, is_paused, accepted_hello, takes, holder, is_reported, wait_of, told_to_wait}
use Rattle.histories.specs.Noted.{Noted, answered_of, is_given_up, fate, answer_by, answer_in, coming_reply, reply_in, ending}
use Rattle.histories.specs.Answers.{is_taken}
use Rattle.histories.specs.Histories.{and_then, fault, is_legal_after, noted_of, IsLegal, is_waiting, given_up}
use Rattle.histories.proofs.Members.{In, In-from_Contains, Contains-from_In}
use Rattle.histories.proofs.WhatIsSaid.{waits_by_import, greeted, IsToldToWait}
use Rattle.histories.proofs.OneEntry.{HasNotEnded, HasNotEnded-from, none_from_HasNotEnded, stands_at, is_open-parts, is_open-from}
use Rattle.histories.proofs.Acyclic.{IsKept, answered_entry, noted_entry, kept-more, kept_at_first}
use Rattle.histories.proofs.Stalls.{coming_is, in_open}

-- a unit that hasn't ended after one more entry had not before
none_of_some : {A : Type 0} (o : Option A) → is_some o ≡ false → o ≡ None
none_of_some None h = refl
none_of_some (Some x) h = absurd (true≢false h)

-- a unit that is taken with the entry could be taken
pub takes_untaken : (project : ProjectView) (noted : List Noted) (entry : Entry) (unit : ℕ) → takes unit (answered_entry project noted entry) ≡ true → is_taken project noted unit ≡ false
takes_untaken project noted entry unit h = by_hello (accepted_hello (answered_entry project noted entry)) refl h
  where
    by_hello : (o : Option (Option ℕ)) → accepted_hello (answered_entry project noted entry) ≡ o → option_map_or (λ named. names named unit) o false ≡ true → is_taken project noted unit ≡ false
    by_hello None e h = absurd (true≢false (sym h))
    by_hello (Some None) e h = absurd (true≢false (sym h))
    by_hello (Some (Some named)) e h =
        subst (λ u. is_taken project noted u ≡ false) (eqb-true named unit h) (greeted project noted entry.conn entry.act (Some named) e).1

pub takes_free : (project : ProjectView) (noted : List Noted) (entry : Entry) (unit : ℕ) → takes unit (answered_entry project noted entry) ≡ true → holder (answered_of noted) unit ≡ None
takes_free project noted entry unit h =
    none_of_some (holder (answered_of noted) unit) (or_parts _ (is_some (holder (answered_of noted) unit)) (takes_untaken project noted entry unit h)).1

holder_before : (e : Answered) (answered : List Answered) (unit : ℕ) (b : Bool) → (b ≡ true → holder answered unit ≡ None) → option_map_or (has_gone (e ∷ answered)) (if b then Some e.conn else holder answered unit) false ≡ false → option_map_or (has_gone answered) (holder answered unit) false ≡ false
holder_before e answered unit true free h =
    subst (λ o. option_map_or (has_gone answered) o false ≡ false) (sym (free refl)) refl
holder_before e answered unit false free h = by_holder (holder answered unit) h
  where
    by_holder : (o : Option ℕ) → option_map_or (has_gone (e ∷ answered)) o false ≡ false → option_map_or (has_gone answered) o false ≡ false
    by_holder None h = refl
    by_holder (Some conn) h = (or_parts _ (has_gone answered conn) h).1

pub not_ended-before : (project : ProjectView) (e : Noted) (noted : List Noted) (unit : ℕ) → (takes unit e.answered ≡ true → holder (answered_of noted) unit ≡ None) → is_none (fate project (e ∷ noted) unit) ≡ true → is_none (fate project noted unit) ≡ true
not_ended-before project e noted unit free h =
    let now = HasNotEnded-from project (e ∷ noted) unit h in
    none_from_HasNotEnded project noted unit (record {
      not_built = now.not_built;
      not_reported = (or_parts _ (is_reported (answered_of noted) unit) now.not_reported).1;
      not_given_up = (or_parts _ (is_given_up noted unit) now.not_given_up).1;
      holder_stays = holder_before e.answered (answered_of noted) unit (takes unit e.answered) free now.holder_stays;
    })

-- no reply stands past the end
pub reply-past : (project : ProjectView) → (noted : List Noted) (place : ℕ) → length noted ≤ place → reply_in project noted place ≡ None
reply-past project [] place h = refl
reply-past project (e ∷ noted) place h =
    let past : length (reverse (answered_of noted)) ≤ place = (let a : length (reverse (answered_of noted)) ≡ length (answered_of noted) = length-reverse (answered_of noted) in let b : length (answered_of noted) ≡ length noted = length-map noted (λ (x : Noted). x.answered) in omega arith) in
    let other : place ≢ length noted = λ s. omega arith in
    ap (λ o. option_or o (coming_reply project e noted place)) (reply-past project noted place (omega arith))
    ∙ cond-false _ _ _ (ne_eqb place (length noted) other)
    ∙ ap (λ o. option_and_then (λ (x : Answered). ending project noted (e ∷ noted) x.conn x.said) o) (slice_get_past (reverse (answered_of noted)) place past)

-- an entry that is told to wait, by its place
pub record IsNew (e : Answered) (answered : List Answered) (w : Wait) : Type 0 where
  pub said : e.said ≡ Waits w.unit
  pub conn : e.conn ≡ w.conn
  pub place : length answered ≡ w.place

pub new_or_old : (e : Answered) (answered : List Answered) (w : Wait) → In w (told_to_wait (e ∷ answered)) → IsNew e answered w ⊎ In w (told_to_wait answered)
new_or_old e answered w h = by_said e.said refl h
  where
    by_said : (said : Said) → e.said ≡ said → In w (wait_of said (length answered) e.conn (told_to_wait answered)) → IsNew e answered w ⊎ In w (told_to_wait answered)
    by_said (Waits unit) s (inl same) = inl (record { said = s ∙ ap (λ (x : Wait). Waits x.unit) same; conn = ap (λ (x : Wait). x.conn) same; place = ap (λ (x : Wait). x.place) same })
    by_said (Waits unit) s (inr there) = inr there
    by_said (Reply answer) s there = inr there
    by_said Nothing s there = inr there

abbrev pub Agreed : ProjectView → List Noted → Type 0
Agreed project noted =
    (w : Wait) → In w (told_to_wait (answered_of noted)) → is_open (answered_of noted) w.conn ≡ true → is_none (reply_in project noted w.place) ≡ is_none (fate project noted w.unit)

none_of_map : {A B : Type 0} (f : A → B) (o : Option A) → is_none (option_map f o) ≡ is_none o
none_of_map f None = refl
none_of_map f (Some x) = refl

-- one who was answered before
pub agreed_old : (project : ProjectView) (noted : List Noted) (entry : Entry) (given : List ℕ) → IsKept project noted → Agreed project noted → (w : Wait) → In w (told_to_wait (answered_of noted)) → is_open (answered_of (noted_entry project noted entry given ∷ noted)) w.conn ≡ true → is_none (reply_in project (noted_entry project noted entry given ∷ noted) w.place) ≡ is_none (fate project (noted_entry project noted entry given ∷ noted) w.unit)
agreed_old project noted entry given kept agreed w there h =
    by_reply (reply_in project noted w.place) refl
  where
    e : Noted
    e = noted_entry project noted entry given

    stays : has_gone (answered_of noted) w.conn ≡ false
    stays = (or_parts _ (has_gone (answered_of noted) w.conn) (is_open-parts (e.answered ∷ answered_of noted) w.conn h).1).1

    was_open : is_open (answered_of noted) w.conn ≡ true
    was_open = is_open-from (answered_of noted) w.conn (kept.was_opened w there) stays

    by_reply : (o : Option Answer) → reply_in project noted w.place ≡ o → is_none (option_or (reply_in project noted w.place) (coming_reply project e noted w.place)) ≡ is_none (fate project (e ∷ noted) w.unit)
    by_reply None r = ap (λ o. is_none (option_or o (coming_reply project e noted w.place))) r ∙ ap (λ o. is_none o) (coming_is project e noted w (stands_at (answered_of noted) w there) stays) ∙ none_of_map (λ f. answer_by f w.unit) (fate project (e ∷ noted) w.unit)
    by_reply (Some x) r =
        let ended : is_none (fate project noted w.unit) ≡ false = sym (agreed w there was_open) ∙ ap (λ o. is_none o) r in
        ap (λ o. is_none (option_or o (coming_reply project e noted w.place))) r
        ∙ sym (false_from_ne_true _ (λ n. both_ways (is_none (fate project noted w.unit)) ended (not_ended-before project e noted w.unit (λ t. takes_free project noted entry w.unit t) n)))

-- one who is answered with the entry
all_fails_at : {A : Type 0} (p : A → Bool) (x : A) → p x ≡ false → (xs : List A) → In x xs → list_all p xs ≡ false
all_fails_at p x fails xs there =
    let found = Contains-from_In x xs there in
    list_all_at p xs found.0 x found.1 (ap p found.2 ∙ fails)

no_hello : (said : Said) (unit awaited : ℕ) (hello : Option (Option ℕ)) → said ≡ Waits awaited → option_map_or (λ named. names named unit) (if is_accepted said then hello else None) false ≡ false
no_hello said unit awaited hello s =
    ap (λ x. option_map_or (λ named. names named unit) (if is_accepted x then hello else None) false) s

nothing_given : (project : ProjectView) (workers : ℕ) (noted : List Noted) (entry : Entry) (unit : ℕ) → IsToldToWait project noted entry.conn entry.act unit → is_open (answered_of (noted_entry project noted entry [] ∷ noted)) entry.conn ≡ true → given_up project workers (noted_entry project noted entry [] ∷ noted) ≡ []
nothing_given project workers noted entry unit is_told is_now_open =
    cond-false _ _ _ (and_right _ _ (all_fails_at (λ c. is_paused (answered_of m) c && is_waiting project m c) entry.conn (ap (λ b. b && is_waiting project m entry.conn) bare) (open_connections (answered_of m)) (in_open (answered_of m) entry.conn is_now_open)))
  where
    m : List Noted
    m = noted_entry project noted entry [] ∷ noted

    bare : is_paused (answered_of m) entry.conn ≡ false
    bare = cond-true _ _ _ (eq-eqb entry.conn entry.conn refl) ∙ ap (λ a. is_pause a) is_told.is_import

holder_stays_more : (e : Answered) (answered : List Answered) (unit : ℕ) → goes e.act ≡ false → takes unit e ≡ false → option_map_or (has_gone answered) (holder answered unit) false ≡ false → option_map_or (has_gone (e ∷ answered)) (if takes unit e then Some e.conn else holder answered unit) false ≡ false
holder_stays_more e answered unit stays free h =
    ap (λ b. option_map_or (has_gone (e ∷ answered)) (if b then Some e.conn else holder answered unit) false) free
    ∙ by_holder (holder answered unit) h
  where
    by_holder : (o : Option ℕ) → option_map_or (has_gone answered) o false ≡ false → option_map_or (has_gone (e ∷ answered)) o false ≡ false
    by_holder None h = refl
    by_holder (Some conn) h = or_from _ (has_gone answered conn) (and_right (e.conn == conn) (goes e.act) stays) h

pub agreed_new : (project : ProjectView) (workers : ℕ) (noted : List Noted) (entry : Entry) → (w : Wait) → IsNew (answered_entry project noted entry) (answered_of noted) w → is_open (answered_of (and_then project workers noted entry)) w.conn ≡ true → is_none (reply_in project (and_then project workers noted entry) w.place) ≡ is_none (fate project (and_then project workers noted entry) w.unit)
agreed_new project workers noted entry w new h =
    ap (λ o. is_none (option_or o (coming_reply project e noted w.place))) (reply-past project noted w.place past)
    ∙ ap (λ o. is_none o) (cond-true _ _ _ (eq-eqb w.place (length noted) place) ∙ ap (λ s. answer_in s) new.said)
    ∙ sym (none_from_HasNotEnded project (e ∷ noted) w.unit (record {
      not_built = before.not_built;
      not_reported = or_from _ (is_reported (answered_of noted) w.unit) (ap (λ s. is_accepted s && is_compiled_of w.unit entry.act) new.said) before.not_reported;
      not_given_up = or_from _ (is_given_up noted w.unit) (ap (λ us. list_any (λ u. u == w.unit) us) (nothing_given project workers noted entry w.unit is_told is_now_open)) before.not_given_up;
      holder_stays = holder_stays_more e.answered (answered_of noted) w.unit (ap (λ a. goes a) is_told.is_import) (no_hello e.answered.said w.unit w.unit (hello_of entry.act) new.said) before.holder_stays;
    }))
  where
    e : Noted
    e = noted_entry project noted entry (given_up project workers (noted_entry project noted entry [] ∷ noted))

    is_told : IsToldToWait project noted entry.conn entry.act w.unit
    is_told = waits_by_import project noted entry.conn entry.act w.unit new.said

    before : HasNotEnded project noted w.unit
    before = HasNotEnded-from project noted w.unit is_told.not_ended

    place : w.place ≡ length noted
    place = sym new.place ∙ length-map noted (λ (x : Noted). x.answered)

    past : length noted ≤ w.place
    past = let p : w.place ≡ length noted = place in omega arith

    is_now_open : is_open (answered_of (noted_entry project noted entry [] ∷ noted)) entry.conn ≡ true
    is_now_open = subst (λ c. is_open (answered_of (noted_entry project noted entry [] ∷ noted)) c ≡ true) (sym new.conn) h

agreed_after : (project : ProjectView) (workers limit : ℕ) (entries : List Entry) (noted : List Noted) → is_legal_after project workers limit noted entries ≡ true → IsKept project noted → Agreed project noted → Agreed project (fold (and_then project workers) noted entries)
agreed_after project workers limit [] noted legal kept agreed = agreed
agreed_after project workers limit (entry ∷ entries) noted legal kept agreed =
    let parts = and_parts (is_none (fault project workers limit noted entry)) _ legal in
    agreed_after project workers limit entries (and_then project workers noted entry) parts.1 (kept-more project workers limit noted entry parts.0 _ kept) (λ w there h. elim (new_or_old (answered_entry project noted entry) (answered_of noted) w there) [
      | inl new ↦ agreed_new project workers noted entry w new h
      | inr old ↦ agreed_old project noted entry _ kept agreed w old h
    ])

pub waits_until_ended : (project : ProjectView) (workers limit : ℕ) (history : List Entry) → IsLegal project workers limit history → (w : Wait) → Contains (told_to_wait (answered_of (noted_of project workers history))) w → is_open (answered_of (noted_of project workers history)) w.conn ≡ true → is_none (reply_in project (noted_of project workers history) w.place) ≡ is_none (fate project (noted_of project workers history) w.unit)
waits_until_ended project workers limit history legal w there h =
    agreed_after project workers limit history [] legal (kept_at_first project) (λ w there h. absurd there) w (In-from_Contains w (told_to_wait (answered_of (noted_of project workers history))) there) h
