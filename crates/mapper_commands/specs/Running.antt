-- What a run of the program comes to.
use Rattle.std.specs.Prelude.{◌≡◌, ◌≢◌, ℕ, ◌⊎◌, List, All, map, Option, None, IfSome, IsSomeAnd, String, string_bytes, Result, Ok, Err}
use Rattle.std.specs.declared.alloc.Global.{Global}
use Rattle.mm_outside.specs.Causes.{Rose}
use Rattle.mm_outside.specs.Files.{Lookup}
use Rattle.mm_outside.specs.Octets.{Octets}
use Rattle.mm_outside.specs.Told.{Told}
use Rattle.unit_registry.specs.Projects.{ProjectView}
use Rattle.connection_core.specs.declared.conn_end.ConnEnd.{ConnEnd}
use Rattle.connection_core.specs.Ends.{HasCauses}
use Rattle.trace_text.specs.declared.trace.Trace.{Trace}
use Rattle.mapper_commands.specs.Commands.{Task, Pipe, Check, Replay, ListUnits, Generate, AsksFor, AsksNothing}
use Rattle.mapper_commands.specs.Endings.{Ended, BadWords, OutOfMemory, Served, Report, Output}
use Rattle.mapper_commands.specs.Generating.{GeneratesSo, generated_files}
use Rattle.mapper_commands.specs.ListRuns.{HoldsAll, IsUnitFile, ListsSo}
use Rattle.mapper_commands.specs.ProjectFiles.{DeclaresProject, FindsProject, IsOfFile, KeepsReads}
use Rattle.mapper_commands.specs.Reports.{ReportsSo, check_report}
use Rattle.mapper_commands.specs.Replays.{replay_report}
use Rattle.connection_core.specs.Serving.{ServesAlone}
use Rattle.mapper_server.specs.Complete.{FitsAlone}
use Rattle.mapper_commands.specs.TraceFiles.{HoldsTrace}

-- what files and a link tell before and after a run, and how often their reads and writes have failed
pub record Outside (L : Type 0) : Type 0 where
  pub octets : L → Option Octets
  pub link_before : L
  pub link_now : L
  pub files_before : Option Lookup
  pub files_now : Option Lookup
  pub file_reads_before : ℕ
  pub file_reads_now : ℕ
  pub file_writes_before : ℕ
  pub file_writes_now : ℕ
  pub link_reads_before : ℕ
  pub link_reads_now : ℕ
  pub link_writes_before : ℕ
  pub link_writes_now : ℕ

-- what files and a link tell and how often they have failed, as it was before a run and as it is behind it
abbrev pub outside_of : {F L : Type 0} → (F → Option Lookup) → (F → ℕ) → (F → ℕ) → (L → Option Octets) → (L → ℕ) → (L → ℕ) → F → F → L → L → Outside L
outside_of content file_reads file_writes octets link_reads link_writes files_old files_new link_old link_new = record {
  octets = octets;
  link_before = link_old;
  link_now = link_new;
  files_before = content files_old;
  files_now = content files_new;
  file_reads_before = file_reads files_old;
  file_reads_now = file_reads files_new;
  file_writes_before = file_writes files_old;
  file_writes_now = file_writes files_new;
  link_reads_before = link_reads link_old;
  link_reads_now = link_reads link_new;
  link_writes_before = link_writes link_old;
  link_writes_now = link_writes link_new;
}

module _ {L : Type 0} (outside : Outside L) where
  -- no read and no write of the files or of the link failed, nor a write of the sink
  pub record HasNoFault (output : Output) : Type 0 where
    pub file_reads : outside.file_reads_now ≡ outside.file_reads_before
    pub file_writes : outside.file_writes_now ≡ outside.file_writes_before
    pub link_reads : outside.link_reads_now ≡ outside.link_reads_before
    pub link_writes : outside.link_writes_now ≡ outside.link_writes_before
    pub sink_writes : output.faults_now ≡ output.faults_before

  -- No second try hides a read or a write that failed: behind a status that isn't the one of its fault its count is as
  -- it was. Behind want of memory a read of a file may have failed, since its message wants memory too.
  pub record HidesNoFault (status : ℕ) : Type 0 where
    pub file_reads : status ≢ 3 → status ≢ 4 → outside.file_reads_now ≡ outside.file_reads_before
    pub file_writes : status ≢ 5 → outside.file_writes_now ≡ outside.file_writes_before
    pub link_reads : status ≢ 4 → outside.link_reads_now ≡ outside.link_reads_before
    pub link_writes : status ≢ 5 → outside.link_writes_now ≡ outside.link_writes_before

  -- the project file of this name was read as this
  abbrev pub ReadsProject : List ℕ → Result ProjectView Ended → Type 0
  ReadsProject name result = Told (FindsProject (Rose outside.file_reads_before outside.file_reads_now) name result) outside.files_before outside.files_now

  -- the project file declares a project, no read of it failed, and the link was served to this end
  pub record ServesProject (name : List ℕ) (entries : ℕ) (how : ConnEnd) : Type 0 where
    pub project : ProjectView
    pub reads : ReadsProject name (Ok project)
    pub reads_kept : outside.file_reads_now ≡ outside.file_reads_before
    pub serves : Told (ServesAlone project entries how) (outside.octets outside.link_before) (outside.octets outside.link_now)
    pub causes : HasCauses outside.link_reads_before outside.link_reads_now outside.link_writes_before outside.link_writes_now how

  -- no file changed, and the link is as it was
  pub record StaysAside : Type 0 where
    pub files : Told (λ before now. now ≡ before) outside.files_before outside.files_now
    pub link : outside.link_now ≡ outside.link_before

  -- What `pipe` with this project file and so many entries comes to, by its ending: the link was served to an end; or
  -- the project file isn't taken, and the link is as it was; or memory was wanted, and all is as it was.
  pub data Pipes (name : List ℕ) (entries : ℕ) (ended : Ended) : Type 0 where
    served : (how : ConnEnd) → ServesProject name entries how → ended ≡ Served how → Pipes name entries ended
    refused : IsOfFile ended → ReadsProject name (Err ended) → KeepsReads ended outside.file_reads_before outside.file_reads_now → outside.link_now ≡ outside.link_before → Pipes name entries ended
    no_memory : StaysAside → ended ≡ OutOfMemory → Pipes name entries ended

  -- what a report over these two files comes to, by its ending; the link is as it was
  pub record ReportsAside (reports : ProjectView → Trace → Report) (project_name trace_name : List ℕ) (ended : Ended) : Type 0 where
    pub reports_so : ReportsSo (Rose outside.file_reads_before outside.file_reads_now) outside.files_before outside.files_now reports project_name trace_name ended
    pub link : outside.link_now ≡ outside.link_before

  -- what a report on the units of this project file comes to, by its ending; the link is as it was
  pub record ListsAside (name : List ℕ) (ended : Ended) : Type 0 where
    pub lists_so : ListsSo (Rose outside.file_reads_before outside.file_reads_now) outside.files_before outside.files_now name ended
    pub link : outside.link_now ≡ outside.link_before

  -- what generating a project in this folder comes to, by its ending; no read failed, and the link is as it was
  pub record GeneratesAside (folder : List ℕ) (units seed : ℕ) (ended : Ended) : Type 0 where
    pub generates_so : GeneratesSo outside.file_writes_before outside.file_writes_now outside.files_before outside.files_now folder units seed ended
    pub reads : outside.file_reads_now ≡ outside.file_reads_before
    pub link : outside.link_now ≡ outside.link_before

  -- a task was done to this ending
  abbrev pub DoesTask : Task → Ended → Type 0
  DoesTask (Pipe project entries) ended = Pipes project entries ended
  DoesTask (Check project trace) ended = ReportsAside check_report project trace ended
  DoesTask (Replay project trace) ended = ReportsAside replay_report project trace ended
  DoesTask (ListUnits project) ended = ListsAside project ended
  DoesTask (Generate folder units seed) ended = GeneratesAside folder units seed ended

  -- what the words ask for, done to this ending
  pub data Does (words : List (String Global)) (ended : Ended) : Type 0 where
    nothing : AsksNothing words → ended ≡ BadWords → StaysAside → Does words ended
    asked : (task : Task) → AsksFor (map string_bytes words) task → DoesTask task ended → Does words ended

-- all that a run is to serve is there: the file declares a project, and the input of the link is whole and fits
pub record IsAllThere (words : List (String Global)) (files : Option Lookup) (link : Option Octets) : Type 0 where
  pub name : List ℕ
  pub entries : ℕ
  pub asks : AsksFor (map string_bytes words) (Pipe name entries)
  pub project : ProjectView
  pub file : IsSomeAnd files (λ content. DeclaresProject (content name) project)
  pub input : IsSomeAnd link (FitsAlone project entries)

-- the files that a task reads, as far as the files tell which these are
abbrev pub IsReadBy : Option Lookup → Task → List ℕ → Type 0
IsReadBy files (Pipe project entries) name = name ≡ project
IsReadBy files (Check project trace) name = (name ≡ project) ⊎ (name ≡ trace)
IsReadBy files (Replay project trace) name = (name ≡ project) ⊎ (name ≡ trace)
IsReadBy files (ListUnits project) name = (name ≡ project) ⊎ IsSomeAnd files (λ content. IsUnitFile (content project) name)
IsReadBy files (Generate folder units seed) name = ⊥

-- a file that the words ask to read is absent, as far as the files tell
pub record LacksFile (words : List (String Global)) (files : Option Lookup) : Type 0 where
  pub task : Task
  pub asks : AsksFor (map string_bytes words) task
  pub name : List ℕ
  pub is_read : IsReadBy files task name
  pub absent : IfSome files (λ content. content name ≡ None)

-- a report over a project file and a trace's file is asked for
abbrev pub AsksOverTrace : List (String Global) → List ℕ → List ℕ → Type 0
AsksOverTrace words project trace = AsksFor (map string_bytes words) (Check project trace) ⊎ AsksFor (map string_bytes words) (Replay project trace)

-- all that a report is asked over is there: the one file declares a project, and the other holds a trace
pub record AreBothThere (words : List (String Global)) (files : Option Lookup) : Type 0 where
  pub project_name : List ℕ
  pub trace_name : List ℕ
  pub asks : AsksOverTrace words project_name trace_name
  pub project : ProjectView
  pub trace : Trace
  pub project_file : IsSomeAnd files (λ content. DeclaresProject (content project_name) project)
  pub trace_file : IsSomeAnd files (λ content. HoldsTrace (content trace_name) trace)

-- a report on the units of a project is asked for, and nothing hinders it
pub record AreUnitsThere (words : List (String Global)) (files : Option Lookup) : Type 0 where
  pub name : List ℕ
  pub asks : AsksFor (map string_bytes words) (ListUnits name)
  pub holds : IsSomeAnd files (HoldsAll name)

-- a generated project is asked for
pub record AsksToWrite (words : List (String Global)) : Type 0 where
  pub folder : List ℕ
  pub units : ℕ
  pub seed : ℕ
  pub asks : AsksFor (map string_bytes words) (Generate folder units seed)

-- a count of faults hasn't risen
abbrev pub HasStood : ℕ → ℕ → Type 0
HasStood before now = Rose before now → ⊥

module _ {L : Type 0} (outside : Outside L) (output : Output) (words : List (String Global)) where
  -- Nothing hinders what the words ask for: all that it takes is there, and no read and no write that it takes failed.
  pub data NothingHinders : Type 0 where
    to_serve : IsAllThere words outside.files_before (outside.octets outside.link_before) → HasStood outside.file_reads_before outside.file_reads_now → HasStood outside.link_reads_before outside.link_reads_now → HasStood outside.link_writes_before outside.link_writes_now → NothingHinders
    to_report : AreBothThere words outside.files_before → HasStood outside.file_reads_before outside.file_reads_now → HasStood output.faults_before output.faults_now → NothingHinders
    to_list : AreUnitsThere words outside.files_before → HasStood outside.file_reads_before outside.file_reads_now → HasStood output.faults_before output.faults_now → NothingHinders
    to_write : AsksToWrite words → HasStood outside.file_writes_before outside.file_writes_now → HasStood output.faults_before output.faults_now → NothingHinders

-- a task is a report, whose status tells whether all is well
abbrev pub IsReport : Task → Type 0
IsReport (Pipe project entries) = ⊥
IsReport (Check project trace) = Unit {0}
IsReport (Replay project trace) = Unit {0}
IsReport (ListUnits project) = Unit {0}
IsReport (Generate folder units seed) = ⊥

-- the words ask for a report
pub record AsksToReport (words : List (String Global)) : Type 0 where
  pub task : Task
  pub asks : AsksFor (map string_bytes words) task
  pub is_report : IsReport task

-- a task isn't to write the file of this name
abbrev pub IsSparedBy : Task → List ℕ → Type 0
IsSparedBy (Pipe project entries) name = Unit {0}
IsSparedBy (Check project trace) name = Unit {0}
IsSparedBy (Replay project trace) name = Unit {0}
IsSparedBy (ListUnits project) name = Unit {0}
IsSparedBy (Generate folder units seed) name = All (λ file. name ≢ file.name) (generated_files folder units seed)

-- each file is as it was, but for those that the words ask to write
abbrev pub KeepsOthers : List (String Global) → Lookup → Lookup → Type 0
KeepsOthers words before now = (name : List ℕ) → ((task : Task) → AsksFor (map string_bytes words) task → IsSparedBy task name) → now name ≡ before name
