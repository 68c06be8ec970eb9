-- The imports that get their replies with an entry.
use Rattle.std.proofs.Common.{◌≡◌, ℕ, true, false, not, ◌&&◌, inl, List, [], ◌∷◌, length, filter, map, Option, Some, None, is_some, is_none, refl, sym, ap, ap₂, subst, ◌∙◌, true≢false}
use Rattle.std.proofs.lemmas.Bool.{and_parts, cond-false}
use Rattle.std.specs.Prelude.{option_map}
use Rattle.std.specs.Option.{option_or}
use Rattle.histories.specs.declared.answer.Answer.{Answer}
use Rattle.histories.specs.declared.answer.Said.{Said}
use Rattle.histories.specs.declared.answer.Said.TheVariants.{Reply, Waits, Nothing}
use Rattle.histories.specs.declared.answered.Wait.{Wait}
use Rattle.histories.specs.declared.entry.Entry.{Entry}
use Rattle.histories.specs.declared.standing.Fate.{Fate}
use Rattle.unit_registry.specs.Projects.{ProjectView}
use Rattle.histories.specs.Answered.{is_open, wait_of, told_to_wait}
use Rattle.histories.specs.Noted.{Noted, answered_of, answer_by, answer_in, coming_reply, fate, pending, reply_in}
use Rattle.histories.specs.Histories.{and_then, given_up, note, fault}
use Rattle.histories.proofs.Acyclic.{answered_entry, noted_entry}
use Rattle.histories.proofs.GoingOn.{candidates, ended_reply, reply_new}
use Rattle.histories.proofs.Legality.{none_is}
use Rattle.histories.proofs.Members.{In, In-filter}
use Rattle.histories.proofs.OneEntry.{is_open-parts, stands_at}
use Rattle.histories.proofs.Stalls.{coming_is}
use Rattle.histories.proofs.Steps.{IsStanding}
use Rattle.registry_tables.proofs.Pairs.{filter_alike_in}

module _ (project : ProjectView) (workers limit : ℕ) (noted : List Noted) (entry : Entry) (s : IsStanding project noted) (passes : is_none (fault project workers limit noted entry) ≡ true) where
  abbrev pub after : List Noted
  after = and_then project workers noted entry

  abbrev e : Noted
  e = noted_entry project noted entry (given_up project workers (note entry (answered_entry project noted entry).said [] ∷ noted))

  -- the reply to an import that waited is how its unit has ended
  reply_of_old : (w : Wait) → In w (pending project noted) → reply_in project after w.place ≡ option_map (λ g. answer_by g w.unit) (fate project after w.unit)
  reply_of_old w there =
      let kept = In-filter (λ x. is_open (answered_of noted) x.conn && is_none (reply_in project noted x.place)) w (told_to_wait (answered_of noted)) there in
      let parts = and_parts (is_open (answered_of noted) w.conn) (is_none (reply_in project noted w.place)) kept.1 in
      ap (λ o. option_or o (coming_reply project e noted w.place)) (none_is (reply_in project noted w.place) parts.1)
      ∙ coming_is project e noted w (stands_at (answered_of noted) w kept.0) (is_open-parts (answered_of noted) w.conn parts.0).1

  -- the unit of an import that is told to wait has not ended with it
  still_waits : (unit : ℕ) → (answered_entry project noted entry).said ≡ Waits unit → not (is_none (fate project after unit)) ≡ false
  still_waits unit said = by (fate project after unit) refl
    where
      new : Wait
      new = record { place = length noted; conn = entry.conn; unit = unit }

      there : In new (candidates project noted entry)
      there = subst (λ (x : Said). In new (wait_of x (length noted) entry.conn (pending project noted))) (sym said) (inl refl)

      by : (o : Option Fate) → fate project after unit ≡ o → not (is_none (fate project after unit)) ≡ false
      by None none = ap (λ o. not (is_none o)) none
      by (Some f) ended =
          let replied : reply_in project after (length noted) ≡ Some (answer_by f unit) = ended_reply project workers limit noted entry s passes new there f ended in
          let none : reply_in project after (length noted) ≡ None = reply_new project workers noted entry ∙ ap (λ (x : Said). answer_in x) said in
          absurd (true≢false (sym (ap (λ o. is_none o) none) ∙ ap (λ o. is_none o) replied))

  has_reply : (o : Option Fate) (f : Fate → Answer) → not (is_none o) ≡ is_some (option_map f o)
  has_reply None f = refl
  has_reply (Some fate) f = refl

  old_alike : filter (λ w. not (is_none (fate project after w.unit))) (pending project noted) ≡ filter (λ w. is_some (reply_in project after w.place)) (pending project noted)
  old_alike = filter_alike_in (λ w. not (is_none (fate project after w.unit))) (λ w. is_some (reply_in project after w.place)) (pending project noted) (λ w there. has_reply (fate project after w.unit) (λ g. answer_by g w.unit) ∙ sym (ap (λ o. is_some o) (reply_of_old w there)))

  -- those of which the unit has ended are those of which the reply has come
  pub answered_are : filter (λ w. not (is_none (fate project after w.unit))) (candidates project noted entry) ≡ filter (λ w. is_some (reply_in project after w.place)) (pending project noted)
  answered_are = by (answered_entry project noted entry).said refl
    where
      by : (said : Said) → (answered_entry project noted entry).said ≡ said → filter (λ w. not (is_none (fate project after w.unit))) (wait_of said (length noted) entry.conn (pending project noted)) ≡ filter (λ w. is_some (reply_in project after w.place)) (pending project noted)
      by (Waits unit) said = cond-false _ _ _ (still_waits unit said) ∙ old_alike
      by (Reply answer) said = old_alike
      by Nothing said = old_alike

-- the places of imports
pub places_mapped : {A B : Type 0} (f : A → B) (place_a : A → ℕ) (place_b : B → ℕ) → ((x : A) → place_b (f x) ≡ place_a x) → (xs : List A) → map place_b (map f xs) ≡ map place_a xs
places_mapped f place_a place_b same [] = refl
places_mapped f place_a place_b same (x ∷ xs) = ap₂ (λ (n : ℕ) (ns : List ℕ). n ∷ ns) (same x) (places_mapped f place_a place_b same xs)
