-- The replies that come with an entry are those of the imports that wait, and then the entry's own.
use Rattle.std.proofs.Common.{◌≡◌, ◌≢◌, ◌⊎◌, inl, inr, ℕ, zero, ◌+◌, ◌<◌, ◌≤◌, Bool, true, false, ◌&&◌, ◌==◌, cond, List, [], ◌∷◌, ◌++◌, suc, length, map, filter, reverse, Option, Some, None, is_some, is_none, refl, sym, ap, ap₂, subst, ◌∙◌, arith, true≢false, eqb-true, eq-eqb}
use Rattle.std.proofs.lemmas.Bool.{and_parts, cond-true, cond-false}
use Rattle.std.proofs.lemmas.List.{reverse-append, append-nil, length-map}
use Rattle.std.proofs.lemmas.List.Elements.{filter_map-append}
use Rattle.std.specs.Prelude.{filter_map, option_map, if◌then◌else◌}
use Rattle.std.specs.Option.{option_to_list}
use Rattle.std.specs.List.{cons_option, range_with_len}
use Rattle.unit_registry.specs.Projects.{ProjectView}
use Rattle.histories.specs.declared.answer.Answer.{Answer}
use Rattle.histories.specs.declared.answer.Said.{Said}
use Rattle.histories.specs.declared.answer.Said.TheVariants.{Reply, Waits, Nothing}
use Rattle.histories.specs.declared.answered.Answered.{Answered}
use Rattle.histories.specs.declared.answered.Wait.{Wait}
use Rattle.histories.specs.declared.entry.Entry.{Entry}
use Rattle.histories.specs.Answered.{is_open, told_to_wait, wait_of}
use Rattle.histories.specs.Noted.{Noted, answered_of, answer_in, fate, pending, reply_in}
use Rattle.histories.specs.Histories.{and_then, noted_of, reply, IsLegal}
use Rattle.histories.proofs.Acyclic.{answered_entry}
use Rattle.histories.proofs.Agree.{reply-past}
use Rattle.histories.proofs.GoingOn.{candidates, reply_goes_on, reply_new}
use Rattle.histories.proofs.Legality.{noted_push, length-noted_of}
use Rattle.histories.proofs.Members.{In, In-filter, In-map_from}
use Rattle.histories.proofs.Steps.{IsStanding, standing}
use Rattle.mapper_commands.specs.Replays.{Found, found_at, coming, all_coming}

-- ---- lists of places

filter_map_alike : {A B : Type 0} (g h : A → Option B) → ((x : A) → g x ≡ h x) → (xs : List A) → filter_map g xs ≡ filter_map h xs
filter_map_alike g h same [] = refl
filter_map_alike g h same (x ∷ xs) = ap₂ cons_option (same x) (filter_map_alike g h same xs)

range_more : (a n : ℕ) → range_with_len a (suc n) ≡ range_with_len a n ++ (a + n) ∷ []
range_more a zero = ap (λ k. k ∷ []) (omega arith)
range_more a (suc n) = ap (λ xs. a ∷ xs) (range_more (a + 1) n ∙ ap (λ k. range_with_len (a + 1) n ++ k ∷ []) (omega arith))

none_of : {A : Type 0} (o : Option A) → is_some o ≡ false → o ≡ None
none_of None e = refl
none_of (Some x) e = absurd (true≢false e)

option_nil : {A : Type 0} (o : Option A) → cons_option o [] ≡ option_to_list o
option_nil None = refl
option_nil (Some x) = refl

range_below : (n : ℕ) → range_with_len 0 (suc n) ≡ range_with_len 0 n ++ n ∷ []
range_below n = range_more 0 n ∙ ap (λ k. range_with_len 0 n ++ k ∷ []) (omega arith)

pub filter_map_last : {A B : Type 0} (h : A → Option B) (xs : List A) (x : A) → filter_map h (xs ++ x ∷ []) ≡ filter_map h xs ++ option_to_list (h x)
filter_map_last h xs x = filter_map-append h xs (x ∷ []) ∙ ap (λ ys. filter_map h xs ++ ys) (option_nil (h x))

-- places below the bound, each below the one before it
abbrev Descends : ℕ → List Wait → Type 0
Descends bound [] = Unit {0}
Descends bound (w ∷ ws) = (w.place < bound) × Descends w.place ws

descends_less : (low high : ℕ) → low ≤ high → (ws : List Wait) → Descends low ws → Descends high ws
descends_less low high le [] d = d
descends_less low high le (w ∷ ws) d = (let l = d.0 in omega (arith, l, le), d.1)

descends_filter : (p : Wait → Bool) (bound : ℕ) (ws : List Wait) → Descends bound ws → Descends bound (filter p ws)
descends_filter p bound [] d = d
descends_filter p bound (w ∷ ws) d = by (descends_filter p w.place ws d.1) (p w)
  where
    by : Descends w.place (filter p ws) → (b : Bool) → Descends bound (cond b (w ∷ filter p ws) (filter p ws))
    by behind true = (d.0, behind)
    by behind false = descends_less w.place bound (let l = d.0 in omega (arith, l)) (filter p ws) behind

told_descends : (answered : List Answered) → Descends (length answered) (told_to_wait answered)
told_descends [] = tt
told_descends (e ∷ answered) = by (told_descends answered) e.said
  where
    by : Descends (length answered) (told_to_wait answered) → (said : Said) → Descends (suc (length answered)) (wait_of said (length answered) e.conn (told_to_wait answered))
    by before (Waits unit) = (omega arith, before)
    by before (Reply answer) = descends_less (length answered) (suc (length answered)) (omega arith) (told_to_wait answered) before
    by before Nothing = descends_less (length answered) (suc (length answered)) (omega arith) (told_to_wait answered) before

within_bound : (bound : ℕ) (ws : List Wait) (place : ℕ) → Descends bound ws → In place (map (λ (w : Wait). w.place) ws) → place < bound
within_bound bound [] place d there = absurd there
within_bound bound (w ∷ ws) place d (inl same) = let e : w.place ≡ place = same in let l = d.0 in omega (arith, e, l)
within_bound bound (w ∷ ws) place d (inr there) = let l = d.0 in let m = within_bound w.place ws place d.1 there in omega (arith, l, m)

-- what stands at some places, gathered over all places below a bound, or over those places alone
gathered : {B : Type 0} (g : ℕ → Option B) (h : Wait → Option B) → (bound : ℕ) (ws : List Wait) → Descends bound ws → ((w : Wait) → In w ws → h w ≡ g w.place)
    → ((place : ℕ) → place < bound → is_some (g place) ≡ true → In place (map (λ (w : Wait). w.place) ws)) → filter_map g (range_with_len 0 bound) ≡ filter_map h (reverse ws)
gathered g h zero [] d same all = refl
gathered g h zero (w ∷ ws) d same all = let l = d.0 in absurd (omega (arith, l))
gathered g h (suc bound) [] d same all =
    ap (filter_map g) (range_below bound) ∙ filter_map_last g (range_with_len 0 bound) bound
    ∙ ap₂ (λ xs o. xs ++ option_to_list o) (gathered g h bound [] tt (λ w there. absurd there) (λ place l s. all place (omega (arith, l)) s)) (by (is_some (g bound)) refl)
  where
    by : (b : Bool) → is_some (g bound) ≡ b → g bound ≡ None
    by true e = absurd (all bound (omega arith) e)
    by false e = none_of (g bound) e
gathered g h (suc bound) (w ∷ ws) d same all =
    by (λ e. gathered g h bound ws (subst (λ k. Descends k ws) e d.1) (λ v there. same v (inr there)) (behind e)) (λ less. gathered g h bound (w ∷ ws) (less, d.1) same (λ place l s. all place (omega (arith, l)) s)) (w.place == bound) refl
  where
    behind : w.place ≡ bound → (place : ℕ) → place < bound → is_some (g place) ≡ true → In place (map (λ (v : Wait). v.place) ws)
    behind e place l s = other (all place (omega (arith, l)) s)
      where
        other : In place (map (λ (v : Wait). v.place) (w ∷ ws)) → In place (map (λ (v : Wait). v.place) ws)
        other (inl at) = let f : w.place ≡ place = at in absurd (omega (arith, e, f, l))
        other (inr there) = there

    here : w.place ≡ bound → filter_map g (range_with_len 0 bound) ≡ filter_map h (reverse ws) → filter_map g (range_with_len 0 (suc bound)) ≡ filter_map h (reverse (w ∷ ws))
    here e rest =
        ap (filter_map g) (range_below bound) ∙ filter_map_last g (range_with_len 0 bound) bound
        ∙ ap₂ (λ xs o. xs ++ option_to_list o) rest (ap g (sym e) ∙ sym (same w (inl refl)))
        ∙ sym (ap (filter_map h) (reverse-append (w ∷ []) ws) ∙ filter_map_last h (reverse ws) w)

    nothing : w.place < bound → (b : Bool) → is_some (g bound) ≡ b → g bound ≡ None
    nothing less true e = let m = within_bound bound (w ∷ ws) bound (less, d.1) (all bound (omega arith) e) in absurd (omega (arith, m))
    nothing less false e = none_of (g bound) e

    below : w.place < bound → filter_map g (range_with_len 0 bound) ≡ filter_map h (reverse (w ∷ ws)) → filter_map g (range_with_len 0 (suc bound)) ≡ filter_map h (reverse (w ∷ ws))
    below less rest =
        ap (filter_map g) (range_below bound) ∙ filter_map_last g (range_with_len 0 bound) bound
        ∙ ap₂ (λ xs o. xs ++ option_to_list o) rest (nothing less (is_some (g bound)) refl)
        ∙ append-nil (filter_map h (reverse (w ∷ ws)))

    by : (w.place ≡ bound → filter_map g (range_with_len 0 bound) ≡ filter_map h (reverse ws)) → (w.place < bound → filter_map g (range_with_len 0 bound) ≡ filter_map h (reverse (w ∷ ws))) → (b : Bool) → (w.place == bound) ≡ b → filter_map g (range_with_len 0 (suc bound)) ≡ filter_map h (reverse (w ∷ ws))
    by at less true e = here (eqb-true w.place bound e) (at (eqb-true w.place bound e))
    by at less false e = below (lower e) (less (lower e))
      where
        lower : (w.place == bound) ≡ false → w.place < bound
        lower e = let l = d.0 in let off : w.place ≢ bound = λ same. true≢false (sym (eq-eqb w.place bound same) ∙ e) in omega (arith, l, off)

-- ---- replies

module _ (project : ProjectView) (workers : ℕ) (noted : List Noted) (entry : Entry) where
  abbrev after : List Noted
  after = and_then project workers noted entry

  -- the reply that an import has after the entry
  abbrev pub found_after : Wait → Option Found
  found_after w = option_map (found_at w.place) (reply_in project after w.place)

  -- the reply at a place, where there was none before
  abbrev newly : ℕ → Option Found
  newly place = if is_none (reply_in project noted place) then option_map (found_at place) (reply_in project after place) else None

  pending_parts : (w : Wait) → In w (pending project noted) → In w (told_to_wait (answered_of noted)) × (is_open (answered_of noted) w.conn ≡ true) × (is_none (reply_in project noted w.place) ≡ true)
  pending_parts w there =
      let kept = In-filter (λ x. is_open (answered_of noted) x.conn && is_none (reply_in project noted x.place)) w (told_to_wait (answered_of noted)) there in
      let parts = and_parts (is_open (answered_of noted) w.conn) (is_none (reply_in project noted w.place)) kept.1 in
      (kept.0, parts.0, parts.1)

  -- what is new at a place below was awaited there
  candidate_old : (said : Said) (place conn : ℕ) (ws : List Wait) (w : Wait) → In w (wait_of said place conn ws) → (place ≡ w.place) ⊎ In w ws
  candidate_old (Waits unit) place conn ws w (inl same) = inl (ap (λ (x : Wait). x.place) same)
  candidate_old (Waits unit) place conn ws w (inr there) = inr there
  candidate_old (Reply answer) place conn ws w there = inr there
  candidate_old Nothing place conn ws w there = inr there

  not_newly : (place : ℕ) → reply_in project noted place ≡ reply_in project after place → is_some (newly place) ≡ false
  not_newly place same = by (reply_in project noted place) refl
    where
      by : (o : Option Answer) → reply_in project noted place ≡ o → is_some (newly place) ≡ false
      by None e = ap (λ o. is_some o) (cond-true _ _ _ (ap (λ o. is_none o) e) ∙ ap (λ o. option_map (found_at place) o) (sym same ∙ e))
      by (Some answer) e = ap (λ o. is_some o) (cond-false _ _ _ (ap (λ o. is_none o) e))

  was_awaited : IsStanding project noted → (place : ℕ) → place < length noted → is_some (newly place) ≡ true → In place (map (λ (w : Wait). w.place) (pending project noted))
  was_awaited s place below new = by (reply_goes_on project workers noted entry s place below)
    where
      by : (reply_in project noted place ≡ reply_in project after place) ⊎ ((w : Wait) × In w (candidates project noted entry) × (w.place ≡ place) × (is_none (fate project after w.unit) ≡ false)) → In place (map (λ (w : Wait). w.place) (pending project noted))
      by (inl same) = absurd (true≢false (sym new ∙ not_newly place same))
      by (inr found) = old (candidate_old (answered_entry project noted entry).said (length noted) entry.conn (pending project noted) found.0 found.1)
        where
          old : (length noted ≡ found.0.place) ⊎ In found.0 (pending project noted) → In place (map (λ (w : Wait). w.place) (pending project noted))
          old (inl at) = let e : found.0.place ≡ place = found.2 in absurd (omega (arith, at, e, below))
          old (inr there) = subst (λ k. In k (map (λ (w : Wait). w.place) (pending project noted))) found.2 (In-map_from (λ (w : Wait). w.place) found.0 (pending project noted) there)

  pending_descends : Descends (length noted) (pending project noted)
  pending_descends =
      descends_filter (λ x. is_open (answered_of noted) x.conn && is_none (reply_in project noted x.place)) (length noted) (told_to_wait (answered_of noted))
      (subst (λ k. Descends k (told_to_wait (answered_of noted))) (length-map noted (λ (x : Noted). x.answered)) (told_descends (answered_of noted)))

  -- the new replies below the entry's own place are those of the imports that waited
  pub newly_below : IsStanding project noted → filter_map newly (range_with_len 0 (length noted)) ≡ filter_map found_after (reverse (pending project noted))
  newly_below s =
      gathered newly found_after (length noted) (pending project noted) pending_descends (λ w there. sym (cond-true _ _ _ (pending_parts w there).2)) (was_awaited s)

  -- at its own place there was none before
  newly_own : newly (length noted) ≡ option_map (found_at (length noted)) (answer_in (answered_entry project noted entry).said)
  newly_own =
      cond-true _ _ _ (ap (λ o. is_none o) (reply-past project noted (length noted) (omega arith)))
      ∙ ap (λ o. option_map (found_at (length noted)) o) (reply_new project workers noted entry)

-- what comes with an entry: the replies of the imports that wait, and its own
pub coming_is : (project : ProjectView) (workers limit : ℕ) (history : List Entry) (entry : Entry) → IsLegal project workers limit history
    → all_coming project workers history entry ≡ filter_map (found_after project workers (noted_of project workers history) entry) (reverse (pending project (noted_of project workers history))) ++ option_to_list (option_map (found_at (length history)) (reply project workers (history ++ entry ∷ []) (length history)))
coming_is project workers limit history entry legal =
    ap (λ k. filter_map (λ place. coming project workers history entry place) (range_with_len 0 k)) one
    ∙ filter_map_alike (λ place. coming project workers history entry place) (newly project workers noted entry) same (range_with_len 0 (suc (length history)))
    ∙ ap (λ k. filter_map (newly project workers noted entry) (range_with_len 0 (suc k))) (sym size)
    ∙ ap (filter_map (newly project workers noted entry)) (range_below (length noted))
    ∙ filter_map_last (newly project workers noted entry) (range_with_len 0 (length noted)) (length noted)
    ∙ ap₂ (λ xs o. xs ++ option_to_list o) (newly_below project workers noted entry (standing project workers limit history legal)) (newly_own project workers noted entry)
    ∙ ap (λ o. filter_map (found_after project workers noted entry) (reverse (pending project noted)) ++ option_to_list o) own
  where
    noted : List Noted
    noted = noted_of project workers history

    size : length noted ≡ length history
    size = length-noted_of project workers history

    one : length history + 1 ≡ suc (length history)
    one = omega arith

    same : (place : ℕ) → coming project workers history entry place ≡ newly project workers noted entry place
    same place = ap (λ (n : List Noted). if is_none (reply_in project noted place) then option_map (found_at place) (reply_in project n place) else None) (noted_push project workers history entry)

    own : option_map (found_at (length noted)) (answer_in (answered_entry project noted entry).said) ≡ option_map (found_at (length history)) (reply project workers (history ++ entry ∷ []) (length history))
    own =
        ap (λ o. option_map (found_at (length noted)) o) (sym (reply_new project workers noted entry))
        ∙ ap (λ (n : List Noted). option_map (found_at (length noted)) (reply_in project n (length noted))) (sym (noted_push project workers history entry))
        ∙ ap (λ k. option_map (found_at k) (reply project workers (history ++ entry ∷ []) k)) size
