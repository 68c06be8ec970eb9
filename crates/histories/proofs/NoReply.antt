-- Which entries never have a reply.
use Rattle.std.proofs.Common.{◌≡◌, ◌≢◌, ℕ, ◌<◌, Bool, true, false, ◌&&◌, ◌==◌, ◌⊎◌, inl, inr, List, [], ◌∷◌, ◌++◌, length, reverse, fold, Contains, Some, None, is_none, refl, sym, ap, ap₂, subst, ◌∙◌, arith, true≢false, ne_eqb}
use Rattle.std.proofs.lemmas.Bool.{or_right, cond-false, not_from_true}
use Rattle.std.proofs.lemmas.List.{length-map, length-reverse, reverse-append}
use Rattle.std.specs.Prelude.{option_map, option_and_then, slice_get}
use Rattle.std.specs.Option.{option_or}
use Rattle.unit_registry.specs.declared.act.Act.{Act}
use Rattle.unit_registry.specs.declared.act.Act.TheVariants.{Open, Pause, Left, Lost, Done}
use Rattle.unit_registry.specs.Acts.{goes}
use Rattle.unit_registry.specs.Projects.{ProjectView}
use Rattle.histories.specs.declared.entry.Entry.{Entry}
use Rattle.histories.specs.declared.answer.Said.{Said}
use Rattle.histories.specs.declared.answer.Said.TheVariants.{Reply, Waits, Nothing}
use Rattle.histories.specs.declared.answered.Answered.{Answered}
use Rattle.histories.specs.declared.answered.Wait.{Wait}
use Rattle.histories.specs.declared.standing.Fate.{Fate}
use Rattle.histories.specs.Answered.{has_gone, told_to_wait}
use Rattle.histories.specs.Noted.{Noted, answered_of, fate, answer_in, answer_by, ending, coming_reply, reply_in}
use Rattle.histories.specs.Answers.{at_once}
use Rattle.histories.specs.Histories.{and_then, given_up, note, noted_of, answered_in, reply, asks_nothing}
use Rattle.histories.proofs.Members.{In, In-from_Contains}
use Rattle.histories.proofs.OneEntry.{StandsAt, stands_at, slice_get-append, slice_get-last}
use Rattle.histories.proofs.Acyclic.{answered_entry, noted_entry}
use Rattle.histories.proofs.Stalls.{coming_is}
use Rattle.histories.proofs.Agree.{takes_free, not_ended-before, IsNew, new_or_old}
use Rattle.histories.proofs.GoingOn.{reply_new}
use Rattle.histories.proofs.Legality.{noted_more, length-noted_of, none_is}

-- an act that asks nothing is told nothing
pub nothing_said : (project : ProjectView) (noted : List Noted) (conn : ℕ) (act : Act) → asks_nothing act ≡ true → at_once project noted conn act ≡ Nothing
nothing_said project noted conn Open nothing = refl
nothing_said project noted conn Pause nothing = refl
nothing_said project noted conn Left nothing = refl
nothing_said project noted conn Lost nothing = refl
nothing_said project noted conn Done nothing = refl
nothing_said project noted conn act nothing = absurd (true≢false (sym nothing))

-- no wait of the entry ends: it asked nothing, or its connection has gone
abbrev IsMute : List Noted → Answered → Type 0
IsMute noted entry = (entry.said ≡ Nothing) ⊎ (has_gone (answered_of noted) entry.conn ≡ true)

no_ending : (project : ProjectView) (before after : List Noted) (conn : ℕ) (said : Said) → (said ≡ Nothing) ⊎ (has_gone (answered_of before) conn ≡ true) → ending project before after conn said ≡ None
no_ending project before after conn said (inl nothing) = ap (λ (s : Said). ending project before after conn s) nothing
no_ending project before after conn (Waits unit) (inr gone) =
    cond-false _ _ _ (not_from_true (has_gone (answered_of before) conn) gone)
no_ending project before after conn (Reply answer) (inr gone) = refl
no_ending project before after conn Nothing (inr gone) = refl

none_comes : (project : ProjectView) (newest : Noted) (noted : List Noted) (place : ℕ) (entry : Answered) → slice_get (reverse (answered_of noted)) place ≡ Some entry → place < length noted → IsMute noted entry → coming_reply project newest noted place ≡ None
none_comes project newest noted place entry is_there within mute =
    cond-false _ _ _ (ne_eqb place (length noted) other)
    ∙ ap (λ o. option_and_then (λ (x : Answered). ending project noted (newest ∷ noted) x.conn x.said) o) is_there
    ∙ no_ending project noted (newest ∷ noted) entry.conn entry.said mute
  where
    other : place ≢ length noted
    other same = omega arith

-- the entry at the place is mute, and has no reply
record IsSilent (project : ProjectView) (noted : List Noted) (place : ℕ) (entry : Answered) : Type 0 where
  is_there : slice_get (reverse (answered_of noted)) place ≡ Some entry
  within : place < length noted
  mute : IsMute noted entry
  no_reply : reply_in project noted place ≡ None

silent-more : (project : ProjectView) (newest : Noted) (noted : List Noted) (place : ℕ) (entry : Answered) → IsSilent project noted place entry → IsSilent project (newest ∷ noted) place entry
silent-more project newest noted place entry silent = record {
  is_there = ap (λ xs. slice_get xs place) (reverse-append (newest.answered ∷ []) (answered_of noted)) ∙ slice_get-append entry (reverse (answered_of noted)) (newest.answered ∷ []) place silent.is_there;
  within = let below = silent.within in omega arith;
  mute = still silent.mute;
  no_reply = ap (λ o. option_or o (coming_reply project newest noted place)) silent.no_reply ∙ none_comes project newest noted place entry silent.is_there silent.within silent.mute;
}
  where
    still : IsMute noted entry → IsMute (newest ∷ noted) entry
    still (inl nothing) = inl nothing
    still (inr gone) = inr (or_right (newest.answered.conn == entry.conn && goes newest.answered.act) (has_gone (answered_of noted) entry.conn) gone)

silent_after : (project : ProjectView) (workers place : ℕ) (entry : Answered) → (more : List Entry) (noted : List Noted) → IsSilent project noted place entry → IsSilent project (fold (and_then project workers) noted more) place entry
silent_after project workers place entry [] noted silent = silent
silent_after project workers place entry (next ∷ more) noted silent =
    silent_after project workers place entry more (and_then project workers noted next) (silent-more project (noted_entry project noted next (given_up project workers (note next (answered_entry project noted next).said [] ∷ noted))) noted place entry silent)

-- ---- an act that asks nothing

pub reply_nothing : (project : ProjectView) (workers : ℕ) (history more : List Entry) (entry : Entry) → asks_nothing entry.act ≡ true → reply project workers (history ++ entry ∷ more) (length history) ≡ None
reply_nothing project workers history more entry nothing =
    ap₂ (λ n k. reply_in project n k) (noted_more project workers history (entry ∷ more)) (sym (length-noted_of project workers history))
    ∙ (silent_after project workers (length noted) newest more (and_then project workers noted entry) (record {
      is_there = ap (λ xs. slice_get xs (length noted)) (reverse-append (newest ∷ []) (answered_of noted)) ∙ slice_get-last newest (reverse (answered_of noted)) (length noted) (sym (length-reverse (answered_of noted) ∙ length-map noted (λ (x : Noted). x.answered)));
      within = omega arith;
      mute = inl said;
      no_reply = reply_new project workers noted entry ∙ ap (λ (s : Said). answer_in s) said;
    })).no_reply
  where
    noted : List Noted
    noted = noted_of project workers history

    newest : Answered
    newest = answered_entry project noted entry

    said : at_once project noted entry.conn entry.act ≡ Nothing
    said = nothing_said project noted entry.conn entry.act nothing

-- ---- an import whose connection has gone

-- no reply comes before the unit has ended
abbrev NoneTooSoon : ProjectView → List Noted → Type 0
NoneTooSoon project noted =
    (wait : Wait) → In wait (told_to_wait (answered_of noted)) → is_none (fate project noted wait.unit) ≡ true → reply_in project noted wait.place ≡ None

within_noted : (noted : List Noted) (wait : Wait) → StandsAt (answered_of noted) wait → wait.place < length noted
within_noted noted wait at =
    let below = at.within in
    let same : length (answered_of noted) ≡ length noted = length-map noted (λ (x : Noted). x.answered) in
    omega arith

none_too_soon-more : (project : ProjectView) (workers : ℕ) (noted : List Noted) (entry : Entry) → NoneTooSoon project noted → NoneTooSoon project (and_then project workers noted entry)
none_too_soon-more project workers noted entry soon wait there unended = by (new_or_old newest.answered (answered_of noted) wait there)
  where
    newest : Noted
    newest = noted_entry project noted entry (given_up project workers (note entry (answered_entry project noted entry).said [] ∷ noted))

    was_unended : is_none (fate project noted wait.unit) ≡ true
    was_unended = not_ended-before project newest noted wait.unit (λ takes_it. takes_free project noted entry wait.unit takes_it) unended

    by_gone : StandsAt (answered_of noted) wait → (b : Bool) → has_gone (answered_of noted) wait.conn ≡ b → coming_reply project newest noted wait.place ≡ None
    by_gone at true gone =
        none_comes project newest noted wait.place at.entry at.is_there (within_noted noted wait at) (inr (subst (λ conn. has_gone (answered_of noted) conn ≡ true) (sym at.conn) gone))
    by_gone at false stays =
        coming_is project newest noted wait at stays
        ∙ ap (λ o. option_map (λ (end : Fate). answer_by end wait.unit) o) (none_is (fate project (newest ∷ noted) wait.unit) unended)

    by : IsNew newest.answered (answered_of noted) wait ⊎ In wait (told_to_wait (answered_of noted)) → reply_in project (newest ∷ noted) wait.place ≡ None
    by (inl new) =
        ap (λ place. reply_in project (newest ∷ noted) place) (sym new.place ∙ length-map noted (λ (x : Noted). x.answered))
        ∙ reply_new project workers noted entry
        ∙ ap (λ (s : Said). answer_in s) new.said
    by (inr old) =
        ap (λ o. option_or o (coming_reply project newest noted wait.place)) (soon wait old was_unended)
        ∙ by_gone (stands_at (answered_of noted) wait old) (has_gone (answered_of noted) wait.conn) refl

none_too_soon : (project : ProjectView) (workers : ℕ) → (entries : List Entry) (noted : List Noted) → NoneTooSoon project noted → NoneTooSoon project (fold (and_then project workers) noted entries)
none_too_soon project workers [] noted soon = soon
none_too_soon project workers (entry ∷ entries) noted soon =
    none_too_soon project workers entries (and_then project workers noted entry) (none_too_soon-more project workers noted entry soon)

pub reply_gone : (project : ProjectView) (workers : ℕ) (history more : List Entry) (wait : Wait) → Contains (told_to_wait (answered_in project workers history)) wait → has_gone (answered_in project workers history) wait.conn ≡ true → fate project (noted_of project workers history) wait.unit ≡ None → reply project workers (history ++ more) wait.place ≡ None
reply_gone project workers history more wait told gone unended =
    ap (λ n. reply_in project n wait.place) (noted_more project workers history more)
    ∙ (silent_after project workers wait.place at.entry more noted (record {
      is_there = at.is_there;
      within = within_noted noted wait at;
      mute = inr (subst (λ conn. has_gone (answered_of noted) conn ≡ true) (sym at.conn) gone);
      no_reply = none_too_soon project workers history [] (λ w there h. absurd there) wait there (ap (λ o. is_none o) unended);
    })).no_reply
  where
    noted : List Noted
    noted = noted_of project workers history

    there : In wait (told_to_wait (answered_of noted))
    there = In-from_Contains wait (told_to_wait (answered_of noted)) told

    at : StandsAt (answered_of noted) wait
    at = stands_at (answered_of noted) wait there
