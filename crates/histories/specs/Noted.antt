-- What stands in a history whose entries are noted: each with what was said to it at once, and with the units given up
-- with it. The newest entry comes first.
use Rattle.std.specs.Prelude.{ℕ, Bool, not, ◌&&◌, ◌||◌, List, [], ◌∷◌, length, map, reverse, filter, filter_map, slice_get, Option, Some, None, is_none, option_map, option_and_then, if◌then◌else◌, ◌==◌}
use Rattle.std.specs.List.{list_any}
use Rattle.std.specs.Option.{option_or}
use Rattle.mapper_replies.specs.declared.refusal.Refusal.TheVariants.{UnitFailed}
use Rattle.histories.specs.declared.answer.Answer.{Answer}
use Rattle.histories.specs.declared.answer.Answer.TheVariants.{Path, Refused}
use Rattle.histories.specs.declared.answer.Said.{Said}
use Rattle.histories.specs.declared.answer.Said.TheVariants.{Reply, Waits}
use Rattle.histories.specs.declared.answered.Answered.{Answered}
use Rattle.histories.specs.declared.standing.Who.{Who}
use Rattle.histories.specs.declared.standing.Who.TheVariants.{Holder}
use Rattle.histories.specs.declared.standing.Fate.{Fate}
use Rattle.histories.specs.declared.standing.Fate.TheVariants.{Compiled, Failed}
use Rattle.unit_registry.specs.Projects.{ProjectView, is_built}
use Rattle.histories.specs.declared.answered.Wait.{Wait}
use Rattle.histories.specs.Answered.{has_gone, is_open, who, is_left, is_reported, told_to_wait}

-- an entry with what was said to it at once, and the units given up with it
pub record Noted : Type 0 where
  pub answered : Answered
  pub given : List ℕ

-- without what is given up
abbrev pub answered_of : List Noted → List Answered
answered_of noted = map (λ entry. entry.answered) noted

-- whether the unit was given up
abbrev pub is_given_up : List Noted → ℕ → Bool
is_given_up noted unit = list_any (λ entry. list_any (λ other. other == unit) entry.given) noted

-- how the unit has ended: compiled; else failed, where it was given up or its holder has gone; else not yet
abbrev pub fate : ProjectView → List Noted → ℕ → Option Fate
fate project noted unit =
    if is_built project unit || is_reported (answered_of noted) unit then Some Compiled
    else (if is_given_up noted unit || is_left (answered_of noted) unit then Some Failed
    else None)

-- the answer in what is said
abbrev pub answer_in : Said → Option Answer
answer_in (Reply answer) = Some answer
answer_in _ = None

-- the answer to an import of a unit that has ended so
abbrev pub answer_by : Fate → ℕ → Answer
answer_by Compiled unit = Path unit
answer_by Failed unit = Refused UnitFailed

-- how a wait ends with the newest entry, if it does: its connection has not gone before, and its unit has ended after
abbrev pub ending : ProjectView → List Noted → List Noted → ℕ → Said → Option Answer
ending project before after conn (Waits unit) =
    if not (has_gone (answered_of before) conn) then option_map (λ end. answer_by end unit) (fate project after unit) else None
ending project before after conn _ = None

-- the entry at the place, with what was said to it
abbrev pub answered_at : List Noted → ℕ → Option Answered
answered_at noted place = slice_get (reverse (answered_of noted)) place

-- the reply to the request at the place that comes with the newest entry, where none has come before
abbrev pub coming_reply : ProjectView → Noted → List Noted → ℕ → Option Answer
coming_reply project newest before place =
    if place == length before then answer_in newest.answered.said
    else option_and_then (λ entry. ending project before (newest ∷ before) entry.conn entry.said) (answered_at before place)

-- the reply to the request at the place
abbrev pub reply_in : ProjectView → List Noted → ℕ → Option Answer
reply_in project [] place = None
reply_in project (newest ∷ before) place =
    option_or (reply_in project before place) (coming_reply project newest before place)

-- whether no reply has come, and the connection is open
abbrev pub is_still_waiting : ProjectView → List Noted → Wait → Bool
is_still_waiting project noted wait =
    is_open (answered_of noted) wait.conn && is_none (reply_in project noted wait.place)

-- the imports that still wait
abbrev pub pending : ProjectView → List Noted → List Wait
pending project noted = filter (is_still_waiting project noted) (told_to_wait (answered_of noted))

-- the pair of a holder and the unit that it waits for
abbrev pub pair_of : Who → ℕ → Option (ℕ × ℕ)
pair_of (Holder unit) awaited = Some (unit, awaited)
pair_of _ awaited = None

-- the pairs of a unit and another for which its holder waits
abbrev pub waits : ProjectView → List Noted → List (ℕ × ℕ)
waits project noted =
    filter_map (λ wait. pair_of (who (answered_of noted) wait.conn) wait.unit) (pending project noted)
