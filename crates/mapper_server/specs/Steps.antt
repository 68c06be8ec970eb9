-- How serving a connection goes on from step to step: working definitions, and no part of what serving means.
use Rattle.std.specs.Prelude.{◌≡◌, ℕ, ◌-◌, Bool, ◌≤◌, ◌⊎◌, List, [], ◌∷◌, ◌++◌, length, take, drop, Option, Some, None, IsFalse, ⊤}
use Rattle.mm_outside.specs.Octets.{Octets, Takes}
use Rattle.cody_batches.specs.Blocks.{blocks, held, most_octets}
use Rattle.unit_registry.specs.declared.act.Act.TheVariants.{Open}
use Rattle.unit_registry.specs.Projects.{ProjectView}
use Rattle.histories.specs.declared.entry.Entry.{Entry}
use Rattle.histories.specs.Histories.{IsLegal}
use Rattle.registry_core.specs.Ledgers.{LedgerView, IsFull, entry}
use Rattle.registry_core.specs.Desks.{DeskState, GoesOnFor, IsSound}
use Rattle.connection_core.specs.declared.block_reader.Stage.{Stage}
use Rattle.connection_core.specs.declared.block_reader.Stage.TheVariants as stage
use Rattle.connection_core.specs.declared.conn_end.ConnEnd.{ConnEnd}
use Rattle.connection_core.specs.declared.conn_end.ConnEnd.TheVariants.{ReadFault, HistoryFull}
use Rattle.connection_core.specs.Taking.{end_holding}
use Rattle.connection_core.specs.Asking.{Block, acts, asked_of}
use Rattle.connection_core.specs.Answers.{acts_of, all_requests, answers, request_places}
use Rattle.connection_core.specs.Ends.{HasCauses, Served, last_of}
use Rattle.connection_core.specs.Entering.{IsServing}
use Rattle.connection_core.specs.Serving.{Moves}
use Rattle.connection_core.specs.Sessions.{SessionState, StandsAfter, HoldsForBlock, ended, lines_of, octets_taken}
use Rattle.mapper_server.specs.declared.step.Step.{Step}
use Rattle.mapper_server.specs.declared.step.Step.TheVariants as step
use Rattle.mapper_server.specs.declared.step.Stop.{Stop}
use Rattle.mapper_server.specs.declared.step.Stop.TheVariants as stop

-- ---- the octets that were read and not yet taken

-- those of the room between two places
abbrev pub rest_of : ℕ → ℕ → List ℕ → List ℕ
rest_of at end room = drop at (take end room)

-- ---- what was entered and answered

-- these blocks are answered so in the history, and no front of them has answers that are longer
pub record Course (project : ProjectView) (workers : ℕ) (history : List Entry) (conn : ℕ) (entered : List Block) (written : List ℕ) : Type 0 where
  pub answered : answers project workers history conn entered ≡ Some written
  pub fronts : (n : ℕ) → (front : List ℕ) × (answers project workers history conn (take n entered) ≡ Some front) × (length front ≤ length written)

-- the block that ended last waits, with the places of its requests, which stand after those of the blocks before it
pub record Awaits {Item : Type 0} (project : ProjectView) (history : List Entry) (session : SessionState Item) (fed : List ℕ) : Type 0 where
  pub earlier : List Block
  pub block : Block
  pub blocks_are : blocks fed ≡ earlier ++ block ∷ []
  pub kept : lines_of session ≡ asked_of project block
  pub before : List ℕ
  pub places : request_places 0 session.conn history ≡ before ++ session.places
  pub as_many : length before ≡ all_requests project earlier

-- what waits in a stage
abbrev pub AwaitsIn : {Item : Type 0} → Stage → ProjectView → List Entry → SessionState Item → List ℕ → Type 0
AwaitsIn stage.Reading project history session fed = ⊤
AwaitsIn stage.Waiting project history session fed = Awaits project history session fed
AwaitsIn (stage.Ended how) project history session fed = ⊥

-- the session has taken these octets, and its connection has opened and entered their blocks
pub record Stands {Item : Type 0} (project : ProjectView) (history : List Entry) (session : SessionState Item) (fed : List ℕ) : Type 0 where
  pub stands : StandsAfter session project fed
  pub entries : acts_of session.conn history ≡ Open ∷ acts project (blocks fed)
  pub waiting : AwaitsIn session.reader.stage project history session fed

-- the blocks that were answered in a stage: all, or all but the one that waits
abbrev pub answered_in : Stage → List Block → List Block
answered_in stage.Reading entered = entered
answered_in stage.Waiting entered = take (length entered - 1) entered
answered_in (stage.Ended how) entered = entered

-- ---- the session and its desk

-- the session goes on: what it has taken is within the limits, was entered, and no item is kept
pub record IsGoing {Item : Type 0} (project : ProjectView) (history : List Entry) (session : SessionState Item) : Type 0 where
  pub going : ended session ≡ None
  pub few : octets_taken session ≤ most_octets
  pub no_item : session.stash ≡ None
  pub fed : List ℕ
  pub stands : Stands project history session fed

-- the desk is of the project, isn't metered, and the connection is open there
pub record AtDesk {Held : Type 0} (project : ProjectView) (conn : ℕ) (desk : DeskState Held) : Type 0 where
  pub project_is : desk.seen.project ≡ project
  pub loose : IsFalse desk.metered
  pub serving : IsServing conn desk

-- the only connection of the only worker has opened, as the first entry of a history that is the desk's alone
pub record HasOpenedFirst {Held : Type 0} (project : ProjectView) (desk : DeskState Held) : Type 0 where
  pub project_is : desk.seen.project ≡ project
  pub workers_is : desk.seen.workers ≡ 1
  pub entries_are : desk.seen.entries ≡ entry 0 Open ∷ []
  pub connections_are : desk.connections ≡ 0 ∷ []
  pub sound : IsSound desk

-- what calls for one connection leave of what a desk tells, while the connection stays open
pub record Continues {Held : Type 0} (conn : ℕ) (before after : DeskState Held) : Type 0 where
  pub goes : GoesOnFor conn before after
  pub opened : after.opened ≡ before.opened
  pub dones : after.dones ≡ before.dones

-- the turn that the desk may keep in a stage: none, but for a block that waits and isn't refused
abbrev pub TurnIn : {Item : Type 0} → Stage → SessionState Item → Bool → Type 0
TurnIn stage.Reading session holds = IsFalse holds
TurnIn stage.Waiting session holds = HoldsForBlock session holds
TurnIn (stage.Ended how) session holds = IsFalse holds

-- ---- the steps

-- What moved over the link is what the session has taken and written, and these octets besides, which are still to be
-- taken.
pub record Serving {Item Held : Type 0} (project : ProjectView) (session : SessionState Item) (desk : DeskState Held) (rest : List ℕ) (before now : Octets) : Type 0 where
  pub fed : List ℕ
  pub written : List ℕ
  pub moves : Moves (fed ++ rest) written before now
  pub stands : Stands project desk.seen.entries session fed
  pub course : Course project desk.seen.workers desk.seen.entries session.conn (answered_in session.reader.stage (blocks fed)) written

-- The connection has ended so after these entries: once it goes, whatever others enter before that, it was served.
pub record Closes (project : ProjectView) (workers limit : ℕ) (conn : ℕ) (how : ConnEnd) (history : List Entry) (octets : Octets) : Type 0 where
  pub served : (others : List Entry) → acts_of conn others ≡ [] → IsLegal project workers limit ((history ++ others) ++ entry conn (last_of how) ∷ [])
      → Served project workers limit ((history ++ others) ++ entry conn (last_of how) ∷ []) conn how octets

-- what moved over the link is that of a connection that ended so, and still has to go
pub record EndsSo {Held : Type 0} (project : ProjectView) (conn : ℕ) (how : ConnEnd) (desk : DeskState Held) (before now : Octets) : Type 0 where
  pub read : List ℕ
  pub written : List ℕ
  pub moves : Moves read written before now
  pub closes : Closes project desk.seen.workers desk.seen.limit conn how desk.seen.entries (record { read = read; to_come = now.to_come; written = written })

-- the step at which serving stops
abbrev pub as_step : Stop → Step
as_step (stop.Waits place) = step.Waits place
as_step (stop.Ended how) = step.Ended how

-- what is so after a step
abbrev pub After : {Item Held : Type 0} → Step → ProjectView → SessionState Item → DeskState Held → List ℕ → Octets → Octets → Type 0
After step.GoesOn project session desk rest before now = Serving project session desk rest before now
After (step.Waits place) project session desk rest before now = Serving project session desk rest before now
After (step.Ended how) project session desk rest before now = EndsSo project session.conn how desk before now

-- a step after whatever was served before
pub record Steps {Item Held : Type 0} (project : ProjectView) (result : Step) (old new : SessionState Item) (desk_old desk_new : DeskState Held) (rest_old rest_new : List ℕ) (before now : Octets) : Type 0 where
  pub step : (start : Octets) → Serving project old desk_old rest_old start before → After result project new desk_new rest_new start now

-- where the end is that of a full history, its numbers are those of the history that was seen then
abbrev pub TellsFull : LedgerView → ConnEnd → Type 0
TellsFull seen how = (entries kept : ℕ) → how ≡ HistoryFull entries kept → IsFull seen 0 (record { entries = entries; reserved = kept })

-- what holds where the session hasn't ended
abbrev pub UnlessEnded : Step → Type 0 → Type 0
UnlessEnded step.GoesOn P = P
UnlessEnded (step.Waits place) P = P
UnlessEnded (step.Ended how) P = ⊤

-- what holds where the session has ended
abbrev pub WhereEnded : Step → (ConnEnd → Type 0) → Type 0
WhereEnded step.GoesOn P = ⊤
WhereEnded (step.Waits place) P = ⊤
WhereEnded (step.Ended how) P = P how

-- a step has no fault of the link, unless it is the end by one
abbrev pub StepCauses : Step → ℕ → ℕ → ℕ → ℕ → Type 0
StepCauses step.GoesOn reads_before reads_now writes_before writes_now = (reads_now ≡ reads_before) × (writes_now ≡ writes_before)
StepCauses (step.Waits place) reads_before reads_now writes_before writes_now = (reads_now ≡ reads_before) × (writes_now ≡ writes_before)
StepCauses (step.Ended how) reads_before reads_now writes_before writes_now = HasCauses reads_before reads_now writes_before writes_now how

-- ---- reading

-- octets were read to those that were still to be taken, or none came, where none were left
abbrev pub Fills : Option ConnEnd → List ℕ → List ℕ → Octets → Octets → Type 0
Fills None rest_old rest_new before now = (more : List ℕ) × (rest_new ≡ rest_old ++ more) × Takes more before now
Fills (Some how) rest_old rest_new before now = (rest_old ≡ []) × Takes [] before now × ((how ≡ ReadFault) ⊎ (now.to_come ≡ []))

-- the end that a session comes to where no octets come: by a fault, or by what it holds
abbrev pub EndsInput : {Item : Type 0} → ConnEnd → SessionState Item → Type 0
EndsInput how session = (how ≡ ReadFault) ⊎ ((project : ProjectView) (fed : List ℕ) → StandsAfter session project fed → how ≡ end_holding (held fed))
