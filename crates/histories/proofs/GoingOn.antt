-- The imports that wait, and the replies, with one more entry.
use Rattle.std.proofs.Common.{◌≡◌, ◌≢◌, ℕ, zero, suc, ◌<◌, Bool, true, false, cond, ◌||◌, ◌&&◌, ◌==◌, ◌⊎◌, inl, inr, List, [], ◌∷◌, ◌++◌, length, filter, reverse, Option, Some, None, is_none, refl, sym, ap, ap₂, subst, ◌∙◌, arith, true≢false, eq-eqb, ne_eqb}
use Rattle.std.proofs.lemmas.Bool.{both_ways, or_parts, or_from, and_parts, and_from, and_right, not_from_false, not_from_true, false_from_ne_true, cond-true, cond-false}
use Rattle.std.proofs.lemmas.List.{length-map, length-reverse, reverse-append}
use Rattle.std.specs.Prelude.{option_map, option_and_then, slice_get}
use Rattle.std.specs.Option.{option_or}
use Rattle.histories.specs.declared.answer.Answer.{Answer}
use Rattle.histories.specs.declared.entry.Entry.{Entry}
use Rattle.histories.specs.declared.standing.Fate.{Fate}
use Rattle.histories.specs.declared.answer.Said.{Said}
use Rattle.histories.specs.declared.answer.Said.TheVariants.{Reply, Waits, Nothing}
use Rattle.histories.specs.declared.answered.Answered.{Answered}
use Rattle.histories.specs.declared.answered.Wait.{Wait}
use Rattle.unit_registry.specs.Acts.{is_open_act, is_done, goes}
use Rattle.unit_registry.specs.Projects.{ProjectView}
use Rattle.histories.specs.Answered.{has_gone, is_open, wait_at, wait_of, told_to_wait}
use Rattle.histories.specs.Noted.{Noted, answered_of, answered_at, fate, answer_by, answer_in, coming_reply, reply_in, ending, pending}
use Rattle.histories.specs.Histories.{and_then, given_up, note, fault}
use Rattle.histories.proofs.Members.{In, In-filter, In-filter_from}
use Rattle.histories.proofs.OneEntry.{opened-more, is_open-parts, is_open-from, stands_at}
use Rattle.histories.proofs.Acyclic.{answered_entry, noted_entry}
use Rattle.histories.proofs.Agree.{reply-past, not_ended-before, takes_free}
use Rattle.histories.proofs.Stalls.{coming_is}
use Rattle.histories.proofs.WhatIsSaid.{waits_by_import, IsToldToWait}
use Rattle.histories.proofs.Steps.{IsStanding, agreed-more, stands_open}
use Rattle.histories.proofs.Legality.{none_is}

pub filter_alike_in : {A : Type 0} (p q : A → Bool) → (xs : List A) → ((x : A) → In x xs → p x ≡ q x) → filter p xs ≡ filter q xs
filter_alike_in p q [] same = refl
filter_alike_in p q (x ∷ xs) same = ap₂ (λ b ys. cond b (x ∷ ys) ys) (same x (inl refl)) (filter_alike_in p q xs (λ y there. same y (inr there)))

-- a test that a first one already passes
implied_step : {A : Type 0} (p q : A → Bool) (x : A) (xs : List A) → filter p (filter q xs) ≡ filter p xs → (b : Bool) → q x ≡ b → (p x ≡ true → q x ≡ true) → filter p (cond b (x ∷ filter q xs) (filter q xs)) ≡ cond (p x) (x ∷ filter p xs) (filter p xs)
implied_step p q x xs ih true e h = ap (λ ys. cond (p x) (x ∷ ys) ys) ih
implied_step p q x xs ih false e h = ih ∙ sym (cond-false _ _ _ (false_from_ne_true (p x) (λ s. both_ways (q x) e (h s))))

filter_implied : {A : Type 0} (p q : A → Bool) → (xs : List A) → ((x : A) → In x xs → p x ≡ true → q x ≡ true) → filter p (filter q xs) ≡ filter p xs
filter_implied p q [] h = refl
filter_implied p q (x ∷ xs) h = implied_step p q x xs (filter_implied p q xs (λ y there. h y (inr there))) (q x) refl (h x (inl refl))

-- who may wait after the entry: those before it, and the one that is told with it
abbrev pub candidates : ProjectView → List Noted → Entry → List Wait
candidates project noted entry = wait_of (answered_entry project noted entry).said (length noted) entry.conn (pending project noted)

-- whether one of them waits after the entry
abbrev pub still : ProjectView → List Noted → Wait → Bool
still project noted w = is_open (answered_of noted) w.conn && is_none (fate project noted w.unit)

pub and_alike : (a b c : Bool) → (a ≡ true → b ≡ c) → (a && b) ≡ (a && c)
and_alike true b c h = h refl
and_alike false b c h = refl

waits_alike : (p : Wait → Bool) (said : Said) (m n : ℕ) (conn : ℕ) (xs ys : List Wait) → m ≡ n → filter p xs ≡ filter p ys → filter p (wait_of said m conn xs) ≡ filter p (wait_of said n conn ys)
waits_alike p (Waits unit) m n conn xs ys e f = ap₂ (λ k zs. cond (p (record { place = k; conn = conn; unit = unit })) (record { place = k; conn = conn; unit = unit } ∷ zs) zs) e f
waits_alike p (Reply answer) m n conn xs ys e f = f
waits_alike p Nothing m n conn xs ys e f = f

pub was_pending : (project : ProjectView) (workers : ℕ) (noted : List Noted) (entry : Entry) → IsStanding project noted → (w : Wait) → In w (told_to_wait (answered_of noted)) → still project (and_then project workers noted entry) w ≡ true → (is_open (answered_of noted) w.conn && is_none (reply_in project noted w.place)) ≡ true
was_pending project workers noted entry s w there h =
    let after : List Noted = and_then project workers noted entry in
    let e : Noted = noted_entry project noted entry (given_up project workers (note entry (answered_entry project noted entry).said [] ∷ noted)) in
    let parts = and_parts (is_open (answered_of after) w.conn) (is_none (fate project after w.unit)) h in
    let open_now = is_open-parts (answered_of after) w.conn parts.0 in
    let was_open : is_open (answered_of noted) w.conn ≡ true = is_open-from (answered_of noted) w.conn (s.kept.was_opened w there) (or_parts _ (has_gone (answered_of noted) w.conn) open_now.1).1 in
    let not_ended : is_none (fate project noted w.unit) ≡ true = not_ended-before project e noted w.unit (λ t. takes_free project noted entry w.unit t) parts.1 in
    and_from _ _ was_open (s.agreed w there was_open ∙ not_ended)

pub pending_after : (project : ProjectView) (workers : ℕ) (noted : List Noted) (entry : Entry) → IsStanding project noted → pending project (and_then project workers noted entry) ≡ filter (still project (and_then project workers noted entry)) (candidates project noted entry)
pending_after project workers noted entry s =
    filter_alike_in (λ w. is_open (answered_of after) w.conn && is_none (reply_in project after w.place)) (still project after) (told_to_wait (answered_of after)) (λ w there. and_alike (is_open (answered_of after) w.conn) (is_none (reply_in project after w.place)) (is_none (fate project after w.unit)) (agreed-more project workers noted entry s.kept s.agreed w there))
    ∙ waits_alike (still project after) (answered_entry project noted entry).said (length (answered_of noted)) (length noted) entry.conn (told_to_wait (answered_of noted)) (pending project noted) (length-map noted (λ (x : Noted). x.answered)) (sym (filter_implied (still project after) (λ w. is_open (answered_of noted) w.conn && is_none (reply_in project noted w.place)) (told_to_wait (answered_of noted)) (λ w there h. was_pending project workers noted entry s w there h)))
  where
    after : List Noted
    after = and_then project workers noted entry

-- an entry that was told to wait is one of those
pub slice_get-found : {A : Type 0} (y x : A) → (xs : List A) (k : ℕ) → slice_get (xs ++ y ∷ []) k ≡ Some x → ((k ≡ length xs) × (y ≡ x)) ⊎ (slice_get xs k ≡ Some x)
slice_get-found y x [] zero h = inl (refl, cc)
slice_get-found y x [] (suc k) h = absurd (cc)
slice_get-found y x (z ∷ xs) zero h = inr h
slice_get-found y x (z ∷ xs) (suc k) h = elim (slice_get-found y x xs k h) [ inl e ↦ inl (ap suc e.0, e.1) | inr r ↦ inr r ]

pub in_waits : (said : Said) (w : Wait) (place conn : ℕ) (ws : List Wait) → In w ws → In w (wait_of said place conn ws)
in_waits (Waits unit) w place conn ws h = inr h
in_waits (Reply answer) w place conn ws h = h
in_waits Nothing w place conn ws h = h

newest_waits : (said : Said) (unit place conn : ℕ) (ws : List Wait) → said ≡ Waits unit → In (wait_at place conn unit) (wait_of said place conn ws)
newest_waits said unit place conn ws e = subst (λ (x : Said). In (wait_at place conn unit) (wait_of x place conn ws)) (sym e) (inl refl)

pub told_at_place : (answered : List Answered) (k : ℕ) (x : Answered) (unit : ℕ) → slice_get (reverse answered) k ≡ Some x → x.said ≡ Waits unit → In (wait_at k x.conn unit) (told_to_wait answered)
told_at_place [] k x unit h s = absurd (cc)
told_at_place (e ∷ answered) k x unit h s =
    by (slice_get-found e x (reverse answered) k (sym (ap (λ xs. slice_get xs k) (reverse-append (e ∷ []) answered)) ∙ h)) (told_at_place answered k x unit)
  where
    by : ((k ≡ length (reverse answered)) × (e ≡ x)) ⊎ (slice_get (reverse answered) k ≡ Some x) → (slice_get (reverse answered) k ≡ Some x → x.said ≡ Waits unit → In (wait_at k x.conn unit) (told_to_wait answered)) → In (wait_at k x.conn unit) (told_to_wait (e ∷ answered))
    by (inl r) ih =
        let place : length answered ≡ k = sym (r.0 ∙ length-reverse answered) in
        subst (λ (j : ℕ). In (wait_at j x.conn unit) (told_to_wait (e ∷ answered))) place (subst (λ (c : ℕ). In (wait_at (length answered) c unit) (told_to_wait (e ∷ answered))) (ap (λ (y : Answered). y.conn) r.1) (newest_waits e.said unit (length answered) e.conn (told_to_wait answered) (ap (λ (y : Answered). y.said) r.1 ∙ s)))
    by (inr r) ih = in_waits e.said (wait_at k x.conn unit) (length answered) e.conn (told_to_wait answered) (ih r s)

-- the reply at the entry's own place
pub reply_new : (project : ProjectView) (workers : ℕ) (noted : List Noted) (entry : Entry) → reply_in project (and_then project workers noted entry) (length noted) ≡ answer_in (answered_entry project noted entry).said
reply_new project workers noted entry =
    ap (λ o. option_or o (coming_reply project e noted (length noted))) (reply-past project noted (length noted) (omega arith))
    ∙ cond-true _ _ _ (eq-eqb (length noted) (length noted) refl)
  where
    e : Noted
    e = noted_entry project noted entry (given_up project workers (note entry (answered_entry project noted entry).said [] ∷ noted))

-- an import that is told to wait has a connection that is open after it
open_after : (project : ProjectView) (workers limit : ℕ) (noted : List Noted) (entry : Entry) (unit : ℕ) → is_none (fault project workers limit noted entry) ≡ true → (answered_entry project noted entry).said ≡ Waits unit → is_open (answered_of (and_then project workers noted entry)) entry.conn ≡ true
open_after project workers limit noted entry unit passes s =
    let told : IsToldToWait project noted entry.conn entry.act unit = waits_by_import project noted entry.conn entry.act unit s in
    let parts = is_open-parts (answered_of noted) entry.conn (stands_open project workers limit noted entry passes (ap (λ a. is_open_act a || is_done a) told.is_import)) in
    is_open-from (answered_of (and_then project workers noted entry)) entry.conn (opened-more (answered_entry project noted entry) (answered_of noted) entry.conn parts.0) (or_from _ (has_gone (answered_of noted) entry.conn) (and_right (entry.conn == entry.conn) (goes entry.act) (ap (λ a. goes a) told.is_import)) parts.1)

-- what is told with the entry, or was before
candidate_cases : (said : Said) (place conn : ℕ) (ws : List Wait) (w : Wait) → In w (wait_of said place conn ws) → ((said ≡ Waits w.unit) × (conn ≡ w.conn) × (place ≡ w.place)) ⊎ In w ws
candidate_cases (Waits unit) place conn ws w (inl same) = inl (ap (λ (x : Wait). Waits x.unit) same, ap (λ (x : Wait). x.conn) same, ap (λ (x : Wait). x.place) same)
candidate_cases (Waits unit) place conn ws w (inr there) = inr there
candidate_cases (Reply answer) place conn ws w there = inr there
candidate_cases Nothing place conn ws w there = inr there

pub ended_reply : (project : ProjectView) (workers limit : ℕ) (noted : List Noted) (entry : Entry) → IsStanding project noted → is_none (fault project workers limit noted entry) ≡ true → (w : Wait) → In w (candidates project noted entry) → (f : Fate) → fate project (and_then project workers noted entry) w.unit ≡ Some f → reply_in project (and_then project workers noted entry) w.place ≡ Some (answer_by f w.unit)
ended_reply project workers limit noted entry s passes w there f ended =
    by (candidate_cases (answered_entry project noted entry).said (length noted) entry.conn (pending project noted) w there)
  where
    after : List Noted
    after = and_then project workers noted entry

    e : Noted
    e = noted_entry project noted entry (given_up project workers (note entry (answered_entry project noted entry).said [] ∷ noted))

    by : (((answered_entry project noted entry).said ≡ Waits w.unit) × (entry.conn ≡ w.conn) × (length noted ≡ w.place)) ⊎ In w (pending project noted) → reply_in project after w.place ≡ Some (answer_by f w.unit)
    by (inl new) =
        let open_now : is_open (answered_of after) w.conn ≡ true = subst (λ c. is_open (answered_of after) c ≡ true) new.1 (open_after project workers limit noted entry w.unit passes new.0) in
        let in_told : In w (told_to_wait (answered_of after)) = subst (λ (p : ℕ). In w (wait_of (answered_entry project noted entry).said p entry.conn (told_to_wait (answered_of noted)))) (sym (length-map noted (λ (x : Noted). x.answered))) (new_in new) in
        let no_reply : reply_in project after w.place ≡ None = ap (λ p. reply_in project after p) (sym new.2) ∙ reply_new project workers noted entry ∙ ap (λ x. answer_in x) new.0 in
        let unended : is_none (fate project after w.unit) ≡ true = sym (agreed-more project workers noted entry s.kept s.agreed w in_told open_now) ∙ ap (λ o. is_none o) no_reply in
        absurd (true≢false (sym unended ∙ ap (λ o. is_none o) ended))
      where
        new_in : ((answered_entry project noted entry).said ≡ Waits w.unit) × (entry.conn ≡ w.conn) × (length noted ≡ w.place) → In w (wait_of (answered_entry project noted entry).said (length noted) entry.conn (told_to_wait (answered_of noted)))
        new_in n = subst (λ (c : ℕ). In w (wait_of (answered_entry project noted entry).said (length noted) c (told_to_wait (answered_of noted)))) (sym n.1) (subst (λ (p : ℕ). In w (wait_of (answered_entry project noted entry).said p w.conn (told_to_wait (answered_of noted)))) (sym n.2) (newest_waits (answered_entry project noted entry).said w.unit w.place w.conn (told_to_wait (answered_of noted)) n.0))
    by (inr old) =
        let kept = In-filter (λ x. is_open (answered_of noted) x.conn && is_none (reply_in project noted x.place)) w (told_to_wait (answered_of noted)) old in
        let parts = and_parts (is_open (answered_of noted) w.conn) (is_none (reply_in project noted w.place)) kept.1 in
        ap (λ o. option_or o (coming_reply project e noted w.place)) (none_is (reply_in project noted w.place) parts.1)
        ∙ coming_is project e noted w (stands_at (answered_of noted) w kept.0) (is_open-parts (answered_of noted) w.conn parts.0).1
        ∙ ap (λ o. option_map (λ g. answer_by g w.unit) o) ended

-- a reply from before stands, or an import that waited there has ended
pub reply_goes_on : (project : ProjectView) (workers : ℕ) (noted : List Noted) (entry : Entry) → IsStanding project noted → (k : ℕ) → k < length noted → (reply_in project noted k ≡ reply_in project (and_then project workers noted entry) k) ⊎ ((w : Wait) × In w (candidates project noted entry) × (w.place ≡ k) × (is_none (fate project (and_then project workers noted entry) w.unit) ≡ false))
reply_goes_on project workers noted entry standing k below = by_reply (reply_in project noted k) refl
  where
    after : List Noted
    after = and_then project workers noted entry

    e : Noted
    e = noted_entry project noted entry (given_up project workers (note entry (answered_entry project noted entry).said [] ∷ noted))

    Goal : Type 0
    Goal = (reply_in project noted k ≡ reply_in project after k) ⊎ ((w : Wait) × In w (candidates project noted entry) × (w.place ≡ k) × (is_none (fate project after w.unit) ≡ false))

    other : k ≢ length noted
    other same = omega arith

    coming : (o : Option Answered) → answered_at noted k ≡ o → reply_in project noted k ≡ None → Goal
    coming None a r = inl (r ∙ sym (stands r ∙ ap (λ o. option_and_then (λ (x : Answered). ending project noted after x.conn x.said) o) a))
      where
        stands : reply_in project noted k ≡ None → reply_in project after k ≡ option_and_then (λ (x : Answered). ending project noted after x.conn x.said) (answered_at noted k)
        stands r = ap (λ o. option_or o (coming_reply project e noted k)) r ∙ cond-false _ _ _ (ne_eqb k (length noted) other)
    coming (Some x) a r = by_said x.said refl
      where
        stands : reply_in project after k ≡ ending project noted after x.conn x.said
        stands = ap (λ o. option_or o (coming_reply project e noted k)) r ∙ cond-false _ _ _ (ne_eqb k (length noted) other) ∙ ap (λ o. option_and_then (λ (y : Answered). ending project noted after y.conn y.said) o) a

        waits : (unit : ℕ) → x.said ≡ Waits unit → (b : Bool) → has_gone (answered_of noted) x.conn ≡ b → (f : Option Fate) → fate project after unit ≡ f → Goal
        waits unit s true b f g = inl (r ∙ sym (stands ∙ ap (λ y. ending project noted after x.conn y) s ∙ cond-false _ _ _ (not_from_true (has_gone (answered_of noted) x.conn) b)))
        waits unit s false b None g = inl (r ∙ sym (stands ∙ ap (λ y. ending project noted after x.conn y) s ∙ cond-true _ _ _ (not_from_false (has_gone (answered_of noted) x.conn) b) ∙ ap (λ o. option_map (λ h. answer_by h unit) o) g))
        waits unit s false b (Some f) g =
            let told = told_at_place (answered_of noted) k x unit a s in
            let still_open = is_open-from (answered_of noted) x.conn (standing.kept.was_opened (wait_at k x.conn unit) told) b in
            inr (wait_at k x.conn unit, in_waits (answered_entry project noted entry).said (wait_at k x.conn unit) (length noted) entry.conn (pending project noted) (In-filter_from (λ y. is_open (answered_of noted) y.conn && is_none (reply_in project noted y.place)) (wait_at k x.conn unit) (and_from _ _ still_open (ap (λ o. is_none o) r)) (told_to_wait (answered_of noted)) told), refl, ap (λ o. is_none o) g)

        by_said : (said : Said) → x.said ≡ said → Goal
        by_said (Waits unit) s = waits unit s (has_gone (answered_of noted) x.conn) refl (fate project after unit) refl
        by_said (Reply answer) s = inl (r ∙ sym (stands ∙ ap (λ y. ending project noted after x.conn y) s))
        by_said Nothing s = inl (r ∙ sym (stands ∙ ap (λ y. ending project noted after x.conn y) s))

    by_reply : (o : Option Answer) → reply_in project noted k ≡ o → Goal
    by_reply None r = coming (answered_at noted k) refl r
    by_reply (Some x) r = inl (r ∙ sym (ap (λ o. option_or o (coming_reply project e noted k)) r))
