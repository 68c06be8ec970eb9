-- What is reported of a project and a trace.
use Rattle.std.specs.Prelude.{◌≡◌, ℕ, true, false, List, [], ◌++◌, length, Option, Some, None, Result, Ok, Err, codes, decimal}
use Rattle.mm_outside.specs.Files.{Lookup}
use Rattle.mm_outside.specs.Told.{Told}
use Rattle.unit_registry.specs.Projects.{ProjectView}
use Rattle.histories.specs.declared.illegal_reason.IllegalReason.{IllegalReason}
use Rattle.histories.specs.Reasons.{illegal_text}
use Rattle.histories.specs.Histories.{first_fault}
use Rattle.trace_text.specs.declared.trace.Trace.{Trace}
use Rattle.mapper_commands.specs.Endings.{Report, Ended, OutOfMemory, EndsIn}
use Rattle.mapper_commands.specs.ProjectFiles.{FindsProject, IsOfFile}
use Rattle.mapper_commands.specs.declared.sources.Sources.{Sources}
use Rattle.mapper_commands.specs.TraceFiles.{FindsTrace}

-- ---- the report of a check

-- the line for a legal trace of so many entries
abbrev pub legal_text : ℕ → List ℕ
legal_text count = codes "legal " ++ decimal count ++ codes "\n"

-- the line for a trace that isn't legal, with the first place at which an entry isn't, and why
abbrev pub illegal_line : ℕ → IllegalReason → List ℕ
illegal_line place reason = codes "illegal " ++ decimal place ++ codes " " ++ illegal_text reason ++ codes "\n"

-- the report that a trace isn't legal
abbrev pub illegal_report : ℕ → IllegalReason → Report
illegal_report place reason = record { text = illegal_line place reason; good = false }

-- the report of a legal trace of so many entries
abbrev pub legal_report : ℕ → Report
legal_report count = record { text = legal_text count; good = true }

-- what is reported of a trace, by its first fault, and by what is reported where it has none
abbrev pub by_fault : Option (ℕ × IllegalReason) → Report → Report
by_fault (Some found) otherwise = illegal_report found.0 found.1
by_fault None otherwise = otherwise

-- the first place at which an entry of a trace isn't legal behind those before it, and why
abbrev pub fault_of : ProjectView → Trace → Option (ℕ × IllegalReason)
fault_of project trace = first_fault project trace.workers trace.limit 0 [] trace.entries

-- what a check reports of a trace
abbrev pub check_report : ProjectView → Trace → Report
check_report project trace = by_fault (fault_of project trace) (legal_report (length trace.entries))

-- ---- a report over two files

module _ (failed : Type 0) (before now : Option Lookup) where
  -- one of the two files was read as this ending: the project file, or the trace's behind it
  pub data Refuses (project_name trace_name : List ℕ) (ended : Ended) : Type 0 where
    project_refused : Told (FindsProject failed project_name (Err ended)) before now → Refuses project_name trace_name ended
    trace_refused : (project : ProjectView) → Told (FindsProject failed project_name (Ok project)) before now → Told (FindsTrace failed trace_name (Err ended)) before now → Refuses project_name trace_name ended

  -- the two files were read as this, and no file changed
  abbrev pub FindsBoth : List ℕ → List ℕ → Result Sources Ended → Type 0
  FindsBoth project_name trace_name (Ok sources) = Told (FindsProject failed project_name (Ok sources.project)) before now × Told (FindsTrace failed trace_name (Ok sources.trace)) before now
  FindsBoth project_name trace_name (Err OutOfMemory) = Told (λ (old new : Lookup). new ≡ old) before now
  FindsBoth project_name trace_name (Err ended) = Refuses project_name trace_name ended

  -- What a report over a project file and a trace's comes to, by its ending: the report on what both files tell; or
  -- one of them isn't taken; or memory was wanted, and no file changed.
  pub data ReportsSo (reports : ProjectView → Trace → Report) (project_name trace_name : List ℕ) (ended : Ended) : Type 0 where
    reported : (project : ProjectView) (trace : Trace) → Told (FindsProject failed project_name (Ok project)) before now → Told (FindsTrace failed trace_name (Ok trace)) before now → EndsIn (reports project trace) ended → ReportsSo reports project_name trace_name ended
    refused : IsOfFile ended → Refuses project_name trace_name ended → ReportsSo reports project_name trace_name ended
    no_memory : Told (λ (old new : Lookup). new ≡ old) before now → ended ≡ OutOfMemory → ReportsSo reports project_name trace_name ended
