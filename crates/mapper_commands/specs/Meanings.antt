-- What a status tells of what was read, printed and served.
use Rattle.std.specs.Prelude.{◌≡◌, ℕ, ◌+◌, ◌<◌, ◌≤◌, ◌⊎◌, Bool, List, [], ◌++◌, map, length, Err, IfSome, IsSomeAnd, String, string_bytes}
use Rattle.std.specs.declared.alloc.Global.{Global}
use Rattle.mm_outside.specs.Causes.{Rose}
use Rattle.mm_outside.specs.Files.{Lookup}
use Rattle.mm_outside.specs.Octets.{Octets}
use Rattle.mm_outside.specs.Told.{Told}
use Rattle.cody_batches.specs.Blocks.{held, taken, PassesLimits}
use Rattle.unit_registry.specs.Projects.{ProjectView}
use Rattle.connection_core.specs.Asking.{acts}
use Rattle.export_lists.specs.declared.cmi.Cmi.{Cmi}
use Rattle.export_lists.specs.declared.outcome.Outcome.{Outcome}
use Rattle.export_lists.specs.Listings.{IsListing}
use Rattle.trace_text.specs.declared.trace.Trace.{Trace}
use Rattle.mapper_commands.specs.Commands.{Task, Pipe, Check, Replay, ListUnits, Generate, AsksFor}
use Rattle.mapper_server.specs.Printing.{Prints}
use Rattle.mapper_commands.specs.Endings.{Ended, Output, Report, message_of, status_of}
use Rattle.mapper_commands.specs.ListRuns.{HoldsProject, RefusesList, list_report}
use Rattle.mapper_commands.specs.ProjectFiles.{DeclaresProject, IsReadAs}
use Rattle.mapper_commands.specs.Reports.{check_report}
use Rattle.mapper_commands.specs.Replays.{replay_report}
use Rattle.mapper_commands.specs.Running.{Outside, IsReport}
use Rattle.mapper_commands.specs.TraceFiles.{HoldsTrace, IsTraceReadAs}

-- ---- a file that is refused

-- the project file isn't taken, or the trace's isn't, as the ending says
abbrev pub IsEitherRefused : Type 0 → Lookup → List ℕ → List ℕ → Ended → Type 0
IsEitherRefused failed content project trace ended = IsReadAs failed project (Err ended) (content project) ⊎ IsTraceReadAs failed trace (Err ended) (content trace)

-- What a task reads isn't taken, as the ending says: its project file, its trace's, or that of a unit. `failed` says
-- that a read failed.
abbrev pub IsRefusedOf : Type 0 → Lookup → Task → Ended → Type 0
IsRefusedOf failed content (Pipe project entries) ended = IsReadAs failed project (Err ended) (content project)
IsRefusedOf failed content (Check project trace) ended = IsEitherRefused failed content project trace ended
IsRefusedOf failed content (Replay project trace) ended = IsEitherRefused failed content project trace ended
IsRefusedOf failed content (ListUnits project) ended = RefusesList failed project ended content
IsRefusedOf failed content (Generate folder units seed) ended = ⊥

-- ---- a report

-- the report over a project file and a trace's, as the files hold them
pub record IsOverTrace (reports : ProjectView → Trace → Report) (content : Lookup) (project_name trace_name : List ℕ) (report : Report) : Type 0 where
  pub project : ProjectView
  pub trace : Trace
  pub project_file : DeclaresProject (content project_name) project
  pub trace_file : HoldsTrace (content trace_name) trace
  pub report_is : report ≡ reports project trace

-- the report on the units of a project, as the files hold them
pub record IsOverUnits (content : Lookup) (name : List ℕ) (report : Report) : Type 0 where
  pub project : ProjectView
  pub sources : List (List ℕ)
  pub built : List Cmi
  pub outcomes : List Outcome
  pub holds : HoldsProject name project sources built content
  pub listing : IsListing project sources built outcomes
  pub report_is : report ≡ list_report project outcomes

-- the report that a task is to print, by what the files hold
abbrev pub IsReportOf : Lookup → Task → Report → Type 0
IsReportOf content (Pipe project entries) report = ⊥
IsReportOf content (Check project trace) report = IsOverTrace check_report content project trace report
IsReportOf content (Replay project trace) report = IsOverTrace replay_report content project trace report
IsReportOf content (ListUnits project) report = IsOverUnits content project report
IsReportOf content (Generate folder units seed) report = ⊥

module _ {L : Type 0} (outside : Outside L) (output : Output) (words : List (String Global)) where
  -- The words ask for a report, all that it tells of is well or not, and it was printed whole.
  pub record Judges (good : Bool) : Type 0 where
    pub task : Task
    pub asks : AsksFor (map string_bytes words) task
    pub is_report : IsReport task
    pub report : Report
    pub judged : report.good ≡ good
    pub over : IfSome outside.files_before (λ content. IsReportOf content task report)
    pub printed : Told (λ (old new : List ℕ). new ≡ old ++ report.text) output.before output.now

  -- A file that the words ask to read is refused, and the message says which and why: its text is refused by its
  -- grammar at the line that the message names, or it is longer than its limit, or it holds the interface of another
  -- unit.
  pub record NamesRefused : Type 0 where
    pub task : Task
    pub asks : AsksFor (map string_bytes words) task
    pub ended : Ended
    pub status_is : status_of ended ≡ 6
    pub message : Told (Prints (message_of ended) output.faults_before output.faults_now) output.before output.now
    pub refused : IfSome outside.files_before (λ content. IsRefusedOf (Rose outside.file_reads_before outside.file_reads_now) content task ended)

-- ---- the octets of a link

-- the input came to its end behind these octets, which are all of it and end inside a block
pub record EndsInBlock (before now : Octets) : Type 0 where
  pub read : List ℕ
  pub read_are : now.read ≡ before.read ++ read
  pub all_read : before.to_come ≡ read
  pub over : now.to_come ≡ []
  pub inside : 0 < held read

-- octets were read of which this is so
pub record Reads (IsSo : List ℕ → Type 0) (before now : Octets) : Type 0 where
  pub read : List ℕ
  pub read_are : now.read ≡ before.read ++ read
  pub so : IsSo read

-- octets were read that pass a limit
abbrev pub ReadsBeyond : Octets → Octets → Type 0
ReadsBeyond = Reads PassesLimits

-- the acts that the blocks of these octets enter, and the three entries that any connection alone has
abbrev pub entries_of : ProjectView → List ℕ → ℕ
entries_of project read = length (acts project (taken read)) + 3

-- what was read enters more than a history of so many entries has room for
abbrev pub ReadsTooMuch : ProjectView → ℕ → Octets → Octets → Type 0
ReadsTooMuch project entries = Reads (λ read. entries < entries_of project read)

-- what was read enters no more than a history of so many entries has room for
abbrev pub ReadsWithin : ProjectView → ℕ → Octets → Octets → Type 0
ReadsWithin project entries = Reads (λ read. entries_of project read ≤ entries)

-- where the words ask to serve the link over a project that the file declares, what was read isn't too much for the
-- history
abbrev pub FitsHistory : {L : Type 0} → Outside L → List (String Global) → Type 0
FitsHistory outside words = (name : List ℕ) (entries : ℕ) (project : ProjectView) → AsksFor (map string_bytes words) (Pipe name entries) → IsSomeAnd outside.files_before (λ content. DeclaresProject (content name) project)
    → Told (ReadsWithin project entries) (outside.octets outside.link_before) (outside.octets outside.link_now)

-- The words ask to serve the link over a project, which the file declares, and what was read is too much for the
-- history.
pub record FillsHistory {L : Type 0} (outside : Outside L) (words : List (String Global)) : Type 0 where
  pub name : List ℕ
  pub entries : ℕ
  pub asks : AsksFor (map string_bytes words) (Pipe name entries)
  pub project : ProjectView
  pub declared : IfSome outside.files_before (λ content. DeclaresProject (content name) project)
  pub too_much : Told (ReadsTooMuch project entries) (outside.octets outside.link_before) (outside.octets outside.link_now)
