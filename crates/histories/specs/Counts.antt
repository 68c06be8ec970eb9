-- What the kinds of acts do to the counts of a history.
use Rattle.std.specs.Prelude.{◌≡◌, ℕ, ◌+◌, ◌<◌, Bool, true, false, if◌then◌else◌, List, length, IsTrue, IsFalse}
use Rattle.unit_registry.specs.declared.act.Act.{Act}
use Rattle.unit_registry.specs.Acts.{is_open_act, goes, is_done}
use Rattle.unit_registry.specs.Projects.{ProjectView}
use Rattle.histories.specs.declared.entry.Entry.{Entry}
use Rattle.histories.specs.Answered.{is_open, opened_count, open_count, done_count, reserved}
use Rattle.histories.specs.Noted.{Noted, answered_of}
use Rattle.histories.specs.Histories.{is_out_of_range}

-- An act opens a connection, asks something for an open one, lets one go, or ends a worker.
pub data Effect : Type 0 where
  Opens : Effect
  Asks : Effect
  Goes : Effect
  Ends : Effect

-- which of these an act does
abbrev pub effect_of : Act → Effect
effect_of act = if is_open_act act then Opens else (if goes act then Goes else (if is_done act then Ends else Asks))

-- how many connections were opened, before and after
abbrev pub ChangesOpened : Effect → ℕ → ℕ → Type 0
ChangesOpened Opens before after = after ≡ before + 1
ChangesOpened Asks before after = after ≡ before
ChangesOpened Goes before after = after ≡ before
ChangesOpened Ends before after = after ≡ before

-- how many connections are open, before and after
abbrev pub ChangesOpen : Effect → ℕ → ℕ → Type 0
ChangesOpen Opens before after = after ≡ before + 1
ChangesOpen Asks before after = after ≡ before
ChangesOpen Goes before after = after + 1 ≡ before
ChangesOpen Ends before after = after ≡ before

-- how many workers are done, before and after
abbrev pub ChangesDone : Effect → ℕ → ℕ → Type 0
ChangesDone Opens before after = after ≡ before
ChangesDone Asks before after = after ≡ before
ChangesDone Goes before after = after ≡ before
ChangesDone Ends before after = after ≡ before + 1

-- how many ends are still to come, before and after
abbrev pub ChangesReserved : Effect → ℕ → ℕ → Type 0
ChangesReserved Opens before after = after ≡ before + 1
ChangesReserved Asks before after = after ≡ before
ChangesReserved Goes before after = after + 1 ≡ before
ChangesReserved Ends before after = after + 1 ≡ before

-- whether the entry's own connection is open, before and after
abbrev pub ChangesOwn : Effect → Bool → Bool → Type 0
ChangesOwn Opens before after = (before ≡ false) × (after ≡ true)
ChangesOwn Asks before after = (before ≡ true) × (after ≡ true)
ChangesOwn Goes before after = (before ≡ true) × (after ≡ false)
ChangesOwn Ends before after = after ≡ before

-- a connection may open: its number is the next, a worker is free, and there is room for it and its end
pub record MayOpen (workers limit : ℕ) (noted : List Noted) (entry : Entry) : Type 0 where
  pub next : entry.conn ≡ opened_count (answered_of noted)
  pub free : open_count (answered_of noted) + done_count (answered_of noted) < workers
  pub room : length noted + reserved workers (answered_of noted) + 1 < limit

-- something may be asked: the connection is open, the unit is in range, and there is room
pub record MayAsk (project : ProjectView) (workers limit : ℕ) (noted : List Noted) (entry : Entry) : Type 0 where
  pub there : IsTrue (is_open (answered_of noted) entry.conn)
  pub range : IsFalse (is_out_of_range project entry.act)
  pub room : length noted + reserved workers (answered_of noted) < limit

-- what an entry of each kind needs
abbrev pub MayCome : ProjectView → ℕ → ℕ → List Noted → Entry → Effect → Type 0
MayCome project workers limit noted entry Opens = MayOpen workers limit noted entry
MayCome project workers limit noted entry Asks = MayAsk project workers limit noted entry
MayCome project workers limit noted entry Goes = IsTrue (is_open (answered_of noted) entry.conn)
MayCome project workers limit noted entry Ends =
    open_count (answered_of noted) + done_count (answered_of noted) < workers
