-- What stands in a list of entries, each with what was said to it at once. The newest entry comes first.
use Rattle.std.specs.Prelude.{ℕ, Bool, true, false, not, ◌&&◌, List, [], ◌∷◌, length, filter, filter_map, count_by, Option, Some, None, is_some, if◌then◌else◌, ◌==◌, ◌+◌, ◌-◌}
use Rattle.std.specs.List.{list_any}
use Rattle.std.specs.Option.{option_map_or}
use Rattle.histories.specs.declared.answer.Said.{Said}
use Rattle.histories.specs.declared.answer.Answer.{Answer}
use Rattle.histories.specs.declared.answer.Answer.TheVariants.{Refused}
use Rattle.histories.specs.declared.answer.Said.TheVariants.{Reply, Waits}
use Rattle.histories.specs.declared.answered.Answered.{Answered}
use Rattle.histories.specs.declared.answered.Wait.{Wait}
use Rattle.histories.specs.declared.standing.Who.{Who}
use Rattle.histories.specs.declared.standing.Who.TheVariants.{Nobody, Guest, Holder}
use Rattle.unit_registry.specs.declared.act.Act.{Act}
use Rattle.unit_registry.specs.declared.act.Act.TheVariants.{Compiled}
use Rattle.unit_registry.specs.Acts.{is_open_act, is_pause, is_done, goes, hello_of, names, is_export_of, is_compiled_of}

-- an answer that is no refusal
abbrev pub accepts : Answer → Bool
accepts (Refused refusal) = false
accepts _ = true

-- whether the act was answered, and not refused
abbrev pub is_accepted : Said → Bool
is_accepted (Reply answer) = accepts answer
is_accepted _ = false

-- whether the connection has left or was lost
abbrev pub has_gone : List Answered → ℕ → Bool
has_gone answered conn = list_any (λ entry. entry.conn == conn && goes entry.act) answered

-- whether the connection was opened
abbrev pub was_opened : List Answered → ℕ → Bool
was_opened answered conn = list_any (λ entry. entry.conn == conn && is_open_act entry.act) answered

-- whether it was opened and has not gone
abbrev pub is_open : List Answered → ℕ → Bool
is_open answered conn = was_opened answered conn && not (has_gone answered conn)

-- the connection that opens with the entry
abbrev pub opening : Answered → Option ℕ
opening entry = if is_open_act entry.act then Some entry.conn else None

-- the connections that were opened, the newest first
abbrev pub opened : List Answered → List ℕ
opened answered = filter_map opening answered

-- those of them that are open
abbrev pub open_connections : List Answered → List ℕ
open_connections answered = filter (λ conn. not (has_gone answered conn)) (opened answered)

-- how many connections were opened
abbrev pub opened_count : List Answered → ℕ
opened_count answered = length (opened answered)

-- how many workers are done
abbrev pub done_count : List Answered → ℕ
done_count answered = count_by (λ entry. is_done entry.act) answered

-- how many connections are open
abbrev pub open_count : List Answered → ℕ
open_count answered = length (open_connections answered)

-- the ends that are still to come: one for each open connection, and a Done for each of the workers
abbrev pub reserved : ℕ → List Answered → ℕ
reserved workers answered = open_count answered + workers - done_count answered

-- whether the connection's last act is a Pause
abbrev pub is_paused : List Answered → ℕ → Bool
is_paused [] conn = false
is_paused (newest ∷ before) conn = if newest.conn == conn then is_pause newest.act else is_paused before conn

-- the unit of a Hello that was accepted
abbrev pub accepted_hello : Answered → Option (Option ℕ)
accepted_hello entry = if is_accepted entry.said then hello_of entry.act else None

-- who one is by the unit of an accepted Hello
abbrev pub who_by : Option (Option ℕ) → Who
who_by None = Nobody
who_by (Some None) = Guest
who_by (Some (Some unit)) = Holder unit

-- who the connection is, by its Hello that was accepted
abbrev pub who : List Answered → ℕ → Who
who [] conn = Nobody
who (newest ∷ before) conn =
    if newest.conn == conn && is_some (accepted_hello newest) then who_by (accepted_hello newest) else who before conn

-- whether the entry is an accepted Hello of the unit
abbrev pub takes : ℕ → Answered → Bool
takes unit entry = option_map_or (λ named. names named unit) (accepted_hello entry) false

-- the connection whose Hello took the unit
abbrev pub holder : List Answered → ℕ → Option ℕ
holder [] unit = None
holder (newest ∷ before) unit = if takes unit newest then Some newest.conn else holder before unit

-- whether the connection that took the unit has gone
abbrev pub is_left : List Answered → ℕ → Bool
is_left answered unit = option_map_or (has_gone answered) (holder answered unit) false

-- whether an Export of the unit was accepted
abbrev pub is_exported : List Answered → ℕ → Bool
is_exported answered unit = list_any (λ entry. is_accepted entry.said && is_export_of unit entry.act) answered

-- whether a Compiled of the unit was accepted
abbrev pub is_reported : List Answered → ℕ → Bool
is_reported answered unit = list_any (λ entry. is_accepted entry.said && is_compiled_of unit entry.act) answered

-- the unit of a Compiled with which an item was handed in
abbrev pub stored_unit : Act → Option ℕ
stored_unit (Compiled unit true) = unit
stored_unit _ = None

-- whether the entry is a Compiled of the unit that came with an item and was accepted
abbrev pub stores : ℕ → Answered → Bool
stores unit entry = is_accepted entry.said && names (stored_unit entry.act) unit

-- whether a Compiled of the unit that came with an item was accepted
abbrev pub is_stored : List Answered → ℕ → Bool
is_stored answered unit = list_any (stores unit) answered

-- the import at the place, of the connection, waits for the unit
abbrev pub wait_at : ℕ → ℕ → ℕ → Wait
wait_at place conn unit = record { place = place; conn = conn; unit = unit }

-- these waits, with the one that is told with the entry
abbrev pub wait_of : Said → ℕ → ℕ → List Wait → List Wait
wait_of (Waits unit) place conn waits = wait_at place conn unit ∷ waits
wait_of _ place conn waits = waits

-- the imports that were told to wait
abbrev pub told_to_wait : List Answered → List Wait
told_to_wait [] = []
told_to_wait (newest ∷ before) = wait_of newest.said (length before) newest.conn (told_to_wait before)
