-- Working definitions: the counts that a check keeps of the entries before the next one.
use Rattle.std.specs.Prelude.{◌≡◌, ℕ, ◌+◌, ◌-◌, Bool, true, false, not, ◌&&◌, ◌==◌, nat_lt, if◌then◌else◌, List, [], ◌∷◌, ◌++◌, length, slice_set, slice_index_or, Option, Some, None}
use Rattle.unit_registry.specs.declared.act.Act.{Act}
use Rattle.unit_registry.specs.declared.act.Act.TheVariants.{Open, Left, Lost, Done}
use Rattle.unit_registry.specs.Acts.{is_open_act}
use Rattle.unit_registry.specs.Projects.{ProjectView}
use Rattle.histories.specs.declared.entry.Entry.{Entry}
use Rattle.histories.specs.declared.illegal_reason.IllegalReason.{IllegalReason}
use Rattle.histories.specs.declared.illegal_reason.IllegalReason.TheVariants.{OutOfOrder, NotOpen, Crowded, OutOfRange, Full}
use Rattle.histories.specs.Answered.{is_open, opened_count, open_count, done_count}
use Rattle.histories.specs.Noted.{Noted, answered_of}
use Rattle.histories.specs.Histories.{takes_worker, is_out_of_range}
use Rattle.trace_text.specs.declared.tally.Counts.{Counts}

-- whether a connection is open, by a table of those that were opened
abbrev pub is_open_in : List Bool → ℕ → Bool
is_open_in table conn = slice_index_or table conn false

-- the table after an act of a connection
abbrev pub table_with : List Bool → ℕ → Act → List Bool
table_with table conn Open = table ++ true ∷ []
table_with table conn Left = slice_set table conn false
table_with table conn Lost = slice_set table conn false
table_with table conn act = table

-- the counts after an act
abbrev pub counts_with : Counts → Act → Counts
counts_with counts Open = record { open_now = counts.open_now + 1; done = counts.done }
counts_with counts Left = record { open_now = counts.open_now - 1; done = counts.done }
counts_with counts Lost = record { open_now = counts.open_now - 1; done = counts.done }
counts_with counts Done = record { open_now = counts.open_now; done = counts.done + 1 }
counts_with counts act = record { open_now = counts.open_now; done = counts.done }

-- whether so many entries, with the ends that are still to come, are more than the limit
abbrev pub is_past_limit : ℕ → ℕ → ℕ → Counts → Bool
is_past_limit workers limit count counts = nat_lt limit (count + (counts.open_now + workers - counts.done))

-- whether as many connections are open, or workers done, as there are workers
abbrev pub is_full_house : ℕ → Counts → Bool
is_full_house workers counts = counts.open_now + counts.done == workers

-- the first check that an entry at a place fails, by a table and counts
abbrev pub tally_fault : ProjectView → ℕ → ℕ → ℕ → List Bool → Counts → Entry → Option IllegalReason
tally_fault project workers limit place table counts entry =
    if is_open_act entry.act && not (entry.conn == length table) then Some OutOfOrder
    else if not (takes_worker entry.act) && not (is_open_in table entry.conn) then Some NotOpen
    else if takes_worker entry.act && is_full_house workers counts then Some Crowded
    else if is_out_of_range project entry.act then Some OutOfRange
    else if is_past_limit workers limit (place + 1) (counts_with counts entry.act) then Some Full
    else None

-- The table and the counts are those of the entries.
pub record IsTally (table : List Bool) (counts : Counts) (noted : List Noted) : Type 0 where
  pub opened : length table ≡ opened_count (answered_of noted)
  pub is_there : (conn : ℕ) → is_open_in table conn ≡ is_open (answered_of noted) conn
  pub open_now : counts.open_now ≡ open_count (answered_of noted)
  pub done : counts.done ≡ done_count (answered_of noted)
