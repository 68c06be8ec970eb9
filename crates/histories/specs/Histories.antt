-- Histories: stalls, replies and legality. One recursion on the length notes each entry; all else reads the notes.
use Rattle.std.specs.Prelude.{◌≡◌, ◌++◌, ℕ, Bool, true, false, not, ◌&&◌, ◌||◌, List, [], ◌∷◌, length, map, filter, fold, Option, Some, None, is_none, option_map, if◌then◌else◌, ◌==◌, ◌+◌, nat_lt, nat_le, IsTrue}
use Rattle.std.specs.List.{list_any, list_all}
use Rattle.std.specs.Option.{option_map_or, option_or}
use Rattle.unit_registry.specs.declared.act.Act.{Act}
use Rattle.unit_registry.specs.Acts.{is_open_act, is_pause, is_done, goes, unit_of, hello_of}
use Rattle.unit_registry.specs.Projects.{ProjectView, unit_count, is_plain}
use Rattle.histories.specs.declared.entry.Entry.{Entry}
use Rattle.histories.specs.declared.answer.Answer.{Answer}
use Rattle.histories.specs.declared.answer.Said.{Said}
use Rattle.histories.specs.declared.answered.Answered.{Answered}
use Rattle.histories.specs.declared.illegal_reason.IllegalReason.{IllegalReason}
use Rattle.histories.specs.declared.illegal_reason.IllegalReason.TheVariants.{OutOfOrder, NotOpen, Crowded, OutOfRange, Full}
use Rattle.histories.specs.Answered.{is_open, open_connections, open_count, done_count, reserved, is_paused, holder, opened_count}
use Rattle.histories.specs.Noted.{Noted, answered_of, reply_in, pending}
use Rattle.histories.specs.Answers.{at_once}

-- whether the connection has an import that waits
abbrev pub is_waiting : ProjectView → List Noted → ℕ → Bool
is_waiting project noted conn = list_any (λ wait. wait.conn == conn) (pending project noted)

-- whether the connection has paused with an import that waits
abbrev pub is_stuck : ProjectView → List Noted → ℕ → Bool
is_stuck project noted conn = is_paused (answered_of noted) conn && is_waiting project noted conn

-- Whether nothing can come any more: some connection is open, no worker is free for a further one, and each open one
-- is stuck.
abbrev pub is_stalled : ProjectView → ℕ → List Noted → Bool
is_stalled project workers noted =
    not (open_count (answered_of noted) == 0)
    && open_count (answered_of noted) + done_count (answered_of noted) == workers
    && list_all (is_stuck project noted) (open_connections (answered_of noted))

-- the units that a stall gives up: those awaited that no connection holds
abbrev pub given_up : ProjectView → ℕ → List Noted → List ℕ
given_up project workers noted =
    if is_stalled project workers noted
    then filter (λ unit. is_none (holder (answered_of noted) unit)) (map (λ wait. wait.unit) (pending project noted))
    else []

-- the entry with what was said to it
abbrev pub with_said : Entry → Said → Answered
with_said entry said = record { conn = entry.conn; act = entry.act; said = said }

-- the entry with what was said to it, and the units given up with it
abbrev pub note : Entry → Said → List ℕ → Noted
note entry said given = record { answered = with_said entry said; given = given }

-- the noted history after one more entry: with it goes what is said to it at once, and then what a stall gives up
abbrev pub and_then : ProjectView → ℕ → List Noted → Entry → List Noted
and_then project workers noted entry =
    let said : Said = at_once project noted entry.conn entry.act in
    note entry said (given_up project workers (note entry said [] ∷ noted)) ∷ noted

-- the history, noted entry by entry
abbrev pub noted_of : ProjectView → ℕ → List Entry → List Noted
noted_of project workers history = fold (and_then project workers) [] history

-- the entries of the history with what was said to them at once
abbrev pub answered_in : ProjectView → ℕ → List Entry → List Answered
answered_in project workers history = answered_of (noted_of project workers history)

-- the reply to the request at the place, if it has come
abbrev pub reply : ProjectView → ℕ → List Entry → ℕ → Option Answer
reply project workers history place = reply_in project (noted_of project workers history) place

-- whether the act needs a worker of its own: an Open and a Done
abbrev pub takes_worker : Act → Bool
takes_worker act = is_open_act act || is_done act

-- whether the act asks nothing: an Open, a Pause, the end of a connection and that of a worker
abbrev pub asks_nothing : Act → Bool
asks_nothing act = takes_worker act || is_pause act || goes act

-- a connection opens whose number isn't that of the openings before it
abbrev pub is_out_of_order : List Answered → Entry → Bool
is_out_of_order answered entry = is_open_act entry.act && not (entry.conn == opened_count answered)

-- something is done by a connection that isn't open
abbrev pub is_not_open : List Answered → Entry → Bool
is_not_open answered entry = not (takes_worker entry.act) && not (is_open answered entry.conn)

-- a worker is needed, and none is free
abbrev pub is_crowded : ℕ → List Answered → Entry → Bool
is_crowded workers answered entry =
    takes_worker entry.act && open_count answered + done_count answered == workers

-- whether the project doesn't have the unit, or the act is no Hello and the unit is plain
abbrev pub is_unit_out_of_range : ProjectView → Act → ℕ → Bool
is_unit_out_of_range project act unit =
    nat_le (unit_count project) unit || (is_none (hello_of act) && is_plain project unit)

-- the act names such a unit
abbrev pub is_out_of_range : ProjectView → Act → Bool
is_out_of_range project act = option_map_or (is_unit_out_of_range project act) (unit_of act) false

-- the entries with the ends that are still to come are more than the limit
abbrev pub is_past : ℕ → ℕ → List Noted → Bool
is_past workers limit noted = nat_lt limit (length noted + reserved workers (answered_of noted))

-- the first check that the entry fails after the noted entries
abbrev pub fault : ProjectView → ℕ → ℕ → List Noted → Entry → Option IllegalReason
fault project workers limit noted entry =
    if is_out_of_order (answered_of noted) entry then Some OutOfOrder
    else (if is_not_open (answered_of noted) entry then Some NotOpen
    else (if is_crowded workers (answered_of noted) entry then Some Crowded
    else (if is_out_of_range project entry.act then Some OutOfRange
    else (if is_past workers limit (and_then project workers noted entry) then Some Full
    else None))))

-- the first place at which an entry fails a check after the entries before it, and why
abbrev pub first_fault : ProjectView → ℕ → ℕ → ℕ → List Noted → List Entry → Option (ℕ × IllegalReason)
first_fault project workers limit place noted [] = None
first_fault project workers limit place noted (entry ∷ entries) =
    option_or (option_map (λ reason. (place, reason)) (fault project workers limit noted entry))
    (first_fault project workers limit (place + 1) (and_then project workers noted entry) entries)

-- each entry passes the checks after the entries before it
abbrev pub is_legal_after : ProjectView → ℕ → ℕ → List Noted → List Entry → Bool
is_legal_after project workers limit noted [] = true
is_legal_after project workers limit noted (entry ∷ entries) =
    is_none (fault project workers limit noted entry)
    && is_legal_after project workers limit (and_then project workers noted entry) entries

-- a history of which each entry passes the checks after the entries before it
abbrev pub IsLegal : ProjectView → ℕ → ℕ → List Entry → Type 0
IsLegal project workers limit history = IsTrue (is_legal_after project workers limit [] history)

-- The history is legal up to the place, and the entry there fails a check for the reason.
pub record IsFirstFault (project : ProjectView) (workers limit : ℕ) (history : List Entry) (place : ℕ) (reason : IllegalReason) : Type 0 where
  pub front : List Entry
  pub entry : Entry
  pub behind : List Entry
  pub is_history : history ≡ front ++ entry ∷ behind
  pub is_place : place ≡ length front
  pub legal : IsLegal project workers limit front
  pub fails : fault project workers limit (noted_of project workers front) entry ≡ Some reason
