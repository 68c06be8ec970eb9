-- What the command comes to that serves many connections at once.
use Rattle.std.specs.Prelude.{◌≡◌, ℕ, ◌+◌, List, [], ◌∷◌, ◌++◌, map, length, Option, None, Result, Ok, Err, IfSome, IsSomeAnd, String, string_bytes}
use Rattle.std.specs.declared.alloc.Global.{Global}
use Rattle.mm_outside.specs.Causes.{Rose}
use Rattle.mm_outside.specs.Files.{Lookup}
use Rattle.mm_outside.specs.Hall.{Links}
use Rattle.mm_outside.specs.House.{BindRequest, Stock, note_bind}
use Rattle.mm_outside.specs.HouseCounts.{HouseCounts}
use Rattle.mm_outside.specs.Octets.{Octets}
use Rattle.mm_outside.specs.Told.{Told}
use Rattle.unit_registry.specs.Projects.{ProjectView}
use Rattle.registry_core.specs.Ledgers.{LedgerView}
use Rattle.mapper_server.specs.Complete.{NothingHinders}
use Rattle.mapper_server.specs.Headline.{IsOf, Serves}
use Rattle.mapper_server.specs.Printing.{Prints}
use Rattle.mapper_server.specs.Statuses.{IsServingStatus}
use Rattle.mapper_commands.specs.Commands.{ServeWords, AsksToServe, AsksNotToServe}
use Rattle.mapper_commands.specs.Endings.{Ended, BadWords, OutOfMemory, CannotOpen, Ends, Output, message_of, status_of}
use Rattle.mapper_commands.specs.ProjectFiles.{DeclaresProject, FindsProject, IsOfFile, IsReadAs, KeepsReads}

-- ---- the headline

-- the file of this name declares the project within its limit, as the files tell
abbrev pub HasProject : Option Lookup → List ℕ → ProjectView → Type 0
HasProject files name project = IsSomeAnd files (λ content. DeclaresProject (content name) project)

-- what the house is asked for
abbrev pub request_of : ServeWords → BindRequest
request_of serve = record { address = serve.address; workers = serve.workers; links = serve.links }

-- a house was asked once for halls, gave these, and took these back; nothing else of it has changed
pub record Lends {H C : Type 0} (request : BindRequest) (halls back : List H) (before now : Stock H C) : Type 0 where
  pub given : before.halls ≡ halls ++ now.halls
  pub rest : now ≡ record before { halls = now.halls; halls_back = before.halls_back ++ back; binds = before.binds ++ request ∷ [] }

module _ {H L : Type 0} (links : H → Option (Links L)) (hall_faults : H → ℕ) (octets : L → Option Octets) (read_faults write_faults : L → ℕ) where
  -- The house gave a hall for each worker and got the same halls back, in order, as far as it tells. These halls served
  -- over one history of the project, and where nothing hindered them, the status is 0.
  pub record Hosts {C : Type 0} (project : ProjectView) (serve : ServeWords) (output : Output) (status : ℕ) (before now : Option (Stock H C)) : Type 0 where
    pub halls : List H
    pub back : List H
    pub history : LedgerView
    pub lends : Told (Lends (request_of serve) halls back) before now
    pub each : length halls ≡ serve.workers
    pub history_is : IsOf project serve.workers serve.entries (length history.entries) history
    pub serves : Serves links hall_faults octets read_faults write_faults history halls back status output.faults_before output.faults_now output.before output.now
    pub complete : NothingHinders links hall_faults octets read_faults write_faults project serve.workers serve.entries halls back output.faults_before output.faults_now → status ≡ 0

-- ---- what a run comes to

-- the house got back, as they were, all halls that it gave
pub record HandsBack {H C : Type 0} (before now : Stock H C) : Type 0 where
  pub halls : List H
  pub given : before.halls ≡ halls ++ now.halls
  pub taken_back : now.halls_back ≡ before.halls_back ++ halls

-- as many halls were taken back as were given
pub record GetsAllBack (before now : HouseCounts) : Type 0 where
  pub as_many : now.taken_back + before.bound ≡ now.bound + before.taken_back

-- what files and a house tell before a run and after it, and how often their calls have failed; with what the halls of
-- the house and their links tell
pub record Around (H L C : Type 0) : Type 0 where
  pub links : H → Option (Links L)
  pub hall_faults : H → ℕ
  pub octets : L → Option Octets
  pub link_reads : L → ℕ
  pub link_writes : L → ℕ
  pub files_before : Option Lookup
  pub files_now : Option Lookup
  pub reads_before : ℕ
  pub reads_now : ℕ
  pub house_before : Option (Stock H C)
  pub house_now : Option (Stock H C)
  pub faults_before : ℕ
  pub faults_now : ℕ

abbrev pub around_of : {H L C F O : Type 0} → (H → Option (Links L)) → (H → ℕ) → (L → Option Octets) → (L → ℕ) → (L → ℕ) → (F → Option Lookup) → (F → ℕ) → (O → Option (Stock H C)) → (O → ℕ) → F → F → O → O → Around H L C
around_of links hall_faults octets link_reads link_writes content reads stock faults files_old files_new house_old house_new = record {
  links = links;
  hall_faults = hall_faults;
  octets = octets;
  link_reads = link_reads;
  link_writes = link_writes;
  files_before = content files_old;
  files_now = content files_new;
  reads_before = reads files_old;
  reads_now = reads files_new;
  house_before = stock house_old;
  house_now = stock house_new;
  faults_before = faults house_old;
  faults_now = faults house_new;
}

module _ {H L C : Type 0} (around : Around H L C) where
  -- the project file of this name was read as this
  abbrev pub ReadsProject : List ℕ → Result ProjectView Ended → Type 0
  ReadsProject name result = Told (FindsProject (Rose around.reads_before around.reads_now) name result) around.files_before around.files_now

  -- no file changed
  abbrev pub KeepsFiles : Type 0
  KeepsFiles = Told (λ before now. now ≡ before) around.files_before around.files_now

  -- the house was asked for nothing
  pub record KeepsHouse : Type 0 where
    pub stock : Told (λ before now. now ≡ before) around.house_before around.house_now
    pub faults : around.faults_now ≡ around.faults_before

  -- no file was read, and the house was asked for nothing
  pub record StaysAside : Type 0 where
    pub files : KeepsFiles
    pub reads : around.reads_now ≡ around.reads_before
    pub house : KeepsHouse

  -- Why no link was accepted, by the ending: the project file isn't taken; or the house gave no hall at the address, by a
  -- fault; or memory was wanted.
  pub data StopsSo (serve : ServeWords) (ended : Ended) : Type 0 where
    refused : IsOfFile ended → ReadsProject serve.project (Err ended) → KeepsReads ended around.reads_before around.reads_now → KeepsHouse → StopsSo serve ended
    unopened : (project : ProjectView) → ReadsProject serve.project (Ok project) → around.reads_now ≡ around.reads_before
        → Told (λ before now. now ≡ note_bind (request_of serve) before) around.house_before around.house_now → Rose around.faults_before around.faults_now → ended ≡ CannotOpen serve.address → StopsSo serve ended
    no_memory : KeepsFiles → Told HandsBack around.house_before around.house_now → ended ≡ OutOfMemory → StopsSo serve ended

  -- The project file declares a project, the house gave halls at the address, and all links that they gave were served.
  pub record ServesSo (serve : ServeWords) (output : Output) (status : ℕ) : Type 0 where
    pub project : ProjectView
    pub reads : ReadsProject serve.project (Ok project)
    pub reads_kept : around.reads_now ≡ around.reads_before
    pub faults_kept : around.faults_now ≡ around.faults_before
    pub status_is : IsServingStatus status
    pub hosts : Hosts around.links around.hall_faults around.octets around.link_reads around.link_writes project serve output status around.house_before around.house_now

  -- the words ask to serve, and all links that the halls gave were served
  pub record ServesAll (words : List (String Global)) (output : Output) (status : ℕ) : Type 0 where
    pub serve : ServeWords
    pub asks : AsksToServe (map string_bytes words) serve
    pub so : ServesSo serve output status

  -- What a run comes to: the words are of no form, and nothing was touched; or no link was accepted; or all were served.
  -- In the first two cases the message of the ending is printed, in the last the trace and no message.
  pub data RunsSo (words : List (String Global)) (output : Output) (status : ℕ) : Type 0 where
    nothing : AsksNotToServe words → StaysAside → Ends (λ ended. ended ≡ BadWords) output status → RunsSo words output status
    stopped : (serve : ServeWords) → AsksToServe (map string_bytes words) serve → Ends (StopsSo serve) output status → RunsSo words output status
    served : ServesAll words output status → RunsSo words output status

-- ---- causes

-- the project file that the words name is absent, as far as the files tell
pub record LacksProject (words : List (String Global)) (files : Option Lookup) : Type 0 where
  pub serve : ServeWords
  pub asks : AsksToServe (map string_bytes words) serve
  pub absent : IfSome files (λ content. content serve.project ≡ None)

-- The project file that the words name is refused, and the message says why: its text is no project's by the line that
-- the message names, or it is too long.
pub record NamesProject {H L C : Type 0} (around : Around H L C) (output : Output) (words : List (String Global)) : Type 0 where
  pub serve : ServeWords
  pub asks : AsksToServe (map string_bytes words) serve
  pub ended : Ended
  pub status_is : status_of ended ≡ 6
  pub message : Told (Prints (message_of ended) output.faults_before output.faults_now) output.before output.now
  pub refused : IfSome around.files_before (λ content. IsReadAs (Rose around.reads_before around.reads_now) serve.project (Err ended) (content serve.project))

-- no read of the project file and no `bind` failed
pub record NoneFailed {H L C : Type 0} (around : Around H L C) : Type 0 where
  pub reads : around.reads_now ≡ around.reads_before
  pub house : around.faults_now ≡ around.faults_before
