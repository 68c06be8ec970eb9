-- The tables, as callers see them, and what they hold.
use Rattle.std.specs.Prelude.{◌≡◌, ℕ, ◌-◌, ◌<◌, ◌≤◌, ◌^◌, ◌++◌, replicate, Bool, false, ◌||◌, ◌&&◌, is_some, is_none, not, All, List, length, reverse, get_or, Option, Some, None, if◌then◌else◌}
use Rattle.std.specs.Global.{Vec}
use Rattle.std.specs.Option.{option_map_or}
use Rattle.histories.specs.declared.answered.Answered.{Answered}
use Rattle.histories.specs.declared.standing.Fate.{Fate}
use Rattle.histories.specs.declared.standing.Fate.TheVariants.{Compiled, Failed}
use Rattle.histories.specs.declared.standing.Who.TheVariants.{Nobody, Holder}
use Rattle.unit_registry.specs.Acts.{is_export_of, is_compiled_of, is_pause, goes}
use Rattle.unit_registry.specs.Projects.{ProjectView, is_built, unit_count}
use Rattle.histories.specs.Answered.{is_accepted}
use Rattle.histories.specs.Answered.{accepted_hello, takes, who_by, has_gone, holder, who, is_exported, is_reported, is_paused, open_connections, opened_count, done_count}
use Rattle.registry_tables.specs.declared.conn_rows.ConnRow.{ConnRow}
use Rattle.registry_tables.specs.declared.tables.UnitRow.{UnitRow}

-- the project; for how many connections there is a row, for how many at a time there is room, and for how many entries;
-- the marks of the units that were given up; and the entries with what was said to them, the newest first
pub record Tabled : Type 0 where
  pub project : ProjectView
  pub room : ℕ
  pub seats : ℕ
  pub places : ℕ
  pub given : List Bool
  pub answered : List Answered

-- the row of a unit holds its words
pub record IsUnitRow (row : UnitRow) (answered : List Answered) (unit : ℕ) : Type 0 where
  pub holder : row.holder ≡ holder answered unit
  pub exported : row.exported ≡ is_exported answered unit
  pub reported : row.reported ≡ is_reported answered unit

-- the row of a connection holds its words
pub record IsConnRow (row : ConnRow) (answered : List Answered) (conn : ℕ) : Type 0 where
  pub who : row.who ≡ who answered conn
  pub paused : row.paused ≡ is_paused answered conn
  pub gone : row.gone ≡ has_gone answered conn

-- the row of a unit after one more entry
abbrev pub unit_row_after : UnitRow → ℕ → Answered → UnitRow
unit_row_after row unit newest = record {
  holder = if takes unit newest then Some newest.conn else row.holder;
  exported = (is_accepted newest.said && is_export_of unit newest.act) || row.exported;
  reported = (is_accepted newest.said && is_compiled_of unit newest.act) || row.reported;
}

-- the row of a connection after one more entry
abbrev pub conn_row_after : ConnRow → Answered → ConnRow
conn_row_after row newest = record {
  who = if is_some (accepted_hello newest) then who_by (accepted_hello newest) else row.who;
  paused = is_pause newest.act;
  gone = goes newest.act || row.gone;
}

-- each row holds the words of its unit
pub record UnitRows (units : List UnitRow) (answered : List Answered) : Type 0 where
  pub row : (number : ℕ) (other : UnitRow) → number < length units → IsUnitRow (get_or units number other) answered number

-- the row of a connection of which no entry says anything
abbrev pub empty_row : ConnRow
empty_row = record { who = Nobody; paused = false; gone = false }

-- rows that were written, and empty ones behind them
abbrev pub padded : List ConnRow → ℕ → List ConnRow
padded rows room = rows ++ replicate (room - length rows) empty_row

-- each row holds the words of its connection
pub record ConnRows (conns : List ConnRow) (answered : List Answered) : Type 0 where
  pub row : (number : ℕ) (other : ConnRow) → number < length conns → IsConnRow (get_or conns number other) answered number

-- what the tables keep: each row, list and count is that of the entries, and there is room for what was promised
pub record IsTabled (answered : Vec Answered) (units : List UnitRow) (conns : List ConnRow) (given built : List Bool) (open_list : Vec ℕ) (opened done : ℕ) (project : ProjectView) : Type 0 where
  pub unit_rows : UnitRows units (reverse answered.items)
  pub conn_rows : ConnRows conns (reverse answered.items)
  pub open_is : reverse open_list.items ≡ open_connections (reverse answered.items)
  pub opened_is : opened ≡ opened_count (reverse answered.items)
  pub done_is : done ≡ done_count (reverse answered.items)
  pub built_is : (unit : ℕ) → get_or built unit false ≡ is_built project unit
  pub holders : (unit conn : ℕ) → holder (reverse answered.items) unit ≡ Some conn → conn < length conns
  pub held_within : (conn unit : ℕ) → who (reverse answered.items) conn ≡ Holder unit → unit < unit_count project
  pub open_within : All (λ conn. conn < length conns) open_list.items
  pub open_few : length open_list.items ≤ length answered.items
  pub opened_few : opened ≤ length answered.items
  pub done_few : done ≤ length answered.items
  pub units_len : length units ≡ unit_count project
  pub given_len : length given ≡ unit_count project
  pub built_len : length built ≡ unit_count project
  pub small : length answered.items < 2 ^ 31

-- how the unit has ended, by the marks of the units that were given up
abbrev pub fate_by : ProjectView → List Answered → List Bool → ℕ → Option Fate
fate_by project answered given unit =
    if is_built project unit || is_reported answered unit then Some Compiled
    else (if get_or given unit false || option_map_or (has_gone answered) (holder answered unit) false then Some Failed
    else None)

-- the same, by the tables
abbrev pub fate_in : Tabled → ℕ → Option Fate
fate_in tables unit = fate_by tables.project tables.answered tables.given unit

-- whether no connection holds the unit, and it is neither built nor reported
abbrev pub is_free_in : Tabled → ℕ → Bool
is_free_in tables unit = is_none (holder tables.answered unit) && not (is_built tables.project unit || is_reported tables.answered unit)
