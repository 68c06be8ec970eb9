-- What a command that reports on a project and a trace comes to.
use Rattle.std.proofs.Common.{◌≡◌, ◌⊎◌, inl, inr, ℕ, ◌≤◌, Bool, true, false, List, Option, None, Result, Ok, Err, refl, sym, ap, subst, ◌∙◌, arith}
use Rattle.mm_outside.specs.declared.errors.Failed.{Failed}
use Rattle.mm_outside.specs.Causes.{Rose}
use Rattle.mm_outside.specs.Files.{Lookup}
use Rattle.mm_outside.specs.Sending.{AppendsAll}
use Rattle.mm_outside.specs.Told.{Told}
use Rattle.mm_outside.proofs.ToldLemmas.{Told-map, Told-then}
use Rattle.unit_registry.specs.Projects.{ProjectView}
use Rattle.histories.specs.declared.illegal_reason.IllegalReason.{IllegalReason}
use Rattle.histories.specs.Histories.{IsLegal, IsFirstFault}
use Rattle.histories.proofs.Legality.{none_if_legal, some_if_illegal}
use Rattle.trace_text.specs.declared.trace.Trace.{Trace}
use Rattle.mapper_commands.specs.Endings.{Report, Ended, BadWords, OutOfMemory, CannotRead, FileTooLong, Refused, CannotOpen, Served, Reported, Cut, WriteFailed, Output, Ends, Issues, Tells, status_of}
use Rattle.mapper_commands.specs.FileReadings.{IsUnreadable}
use Rattle.mapper_commands.specs.ProjectFiles.{FindsProject, IsOfFile}
use Rattle.mapper_commands.specs.TraceFiles.{FindsTrace, IsTraceReadAs}
use Rattle.mapper_commands.proofs.PrintLemmas.{ends_as, ends_map}
use Rattle.mapper_commands.specs.Reports.{Refuses, ReportsSo, FindsBoth, fault_of, by_fault, illegal_report}

-- ---- a count that rises later has risen

-- a count that has risen since a later moment has risen since an earlier one
pub rose_since : (before mid now : ℕ) → before ≤ mid → Rose mid now → Rose before now
rose_since before mid now later rose = omega (arith, later, rose)

-- ---- two files, one behind the other

unreadable_since : (failed since : Type 0) → (failed → since) → (name : List ℕ) (held : Option (List ℕ)) (named : List ℕ) → IsUnreadable failed name held named → IsUnreadable since name held named
unreadable_since failed since later name held named h = record { named_is = h.named_is; cause = by h.cause }
  where
    by : (held ≡ None) ⊎ failed → (held ≡ None) ⊎ since
    by (inl absent) = inl absent
    by (inr fault) = inr (later fault)

trace_since : (failed since : Type 0) → (failed → since) → (name : List ℕ) (result : Result Trace Ended) (held : Option (List ℕ)) → IsTraceReadAs failed name result held → IsTraceReadAs since name result held
trace_since failed since later name (Ok trace) held h = h
trace_since failed since later name (Err BadWords) held h = h
trace_since failed since later name (Err OutOfMemory) held h = h
trace_since failed since later name (Err (CannotRead named)) held h = unreadable_since failed since later name held named h
trace_since failed since later name (Err (FileTooLong named)) held h = h
trace_since failed since later name (Err (Refused named line reason)) held h = h
trace_since failed since later name (Err (CannotOpen address)) held h = h
trace_since failed since later name (Err (Served how)) held h = h
trace_since failed since later name (Err (Reported report)) held h = h
trace_since failed since later name (Err (Cut report)) held h = h
trace_since failed since later name (Err WriteFailed) held h = h

module _ (failed late since : Type 0) (project_name trace_name : List ℕ) (a b c : Option Lookup) where
  -- the project that was read first, over both reads
  project_first : (project : ProjectView) (result : Result Trace Ended) → Told (FindsProject failed project_name (Ok project)) a b → Told (FindsTrace late trace_name result) b c → Told (FindsProject since project_name (Ok project)) a c
  project_first project result = Told-then {R = FindsProject failed project_name (Ok project)} {S = FindsTrace late trace_name result} {Q = FindsProject since project_name (Ok project)} (λ x y z p q. record { so = p.so; same = q.same ∙ p.same })

  -- the trace that was read second, over both reads
  trace_second : (late → since) → (project : ProjectView) (result : Result Trace Ended) → Told (FindsProject failed project_name (Ok project)) a b → Told (FindsTrace late trace_name result) b c → Told (FindsTrace since trace_name result) a c
  trace_second later project result = Told-then {R = FindsProject failed project_name (Ok project)} {S = FindsTrace late trace_name result} {Q = FindsTrace since trace_name result} (λ x y z p q. record {
    so = trace_since late since later trace_name result (x trace_name) (subst (λ (content : Lookup). IsTraceReadAs late trace_name result (content trace_name)) p.same q.so);
    same = q.same ∙ p.same;
  })

  -- the trace wasn't
  pub second_refused : (late → since) → (project : ProjectView) (ended : Ended) → IsOfFile ended → Told (FindsProject failed project_name (Ok project)) a b → Told (FindsTrace late trace_name (Err ended)) b c → FindsBoth since a c project_name trace_name (Err ended)
  second_refused later project BadWords kind first second = absurd kind
  second_refused later project OutOfMemory kind first second = Told-then {R = FindsProject failed project_name (Ok project)} {S = FindsTrace late trace_name (Err OutOfMemory)} (λ x y z p q. q.same ∙ p.same) first second
  second_refused later project (CannotRead named) kind first second = Refuses.trace_refused project (project_first project (Err (CannotRead named)) first second) (trace_second later project (Err (CannotRead named)) first second)
  second_refused later project (FileTooLong named) kind first second = Refuses.trace_refused project (project_first project (Err (FileTooLong named)) first second) (trace_second later project (Err (FileTooLong named)) first second)
  second_refused later project (Refused named line reason) kind first second = Refuses.trace_refused project (project_first project (Err (Refused named line reason)) first second) (trace_second later project (Err (Refused named line reason)) first second)
  second_refused later project (CannotOpen address) kind first second = absurd kind
  second_refused later project (Served how) kind first second = absurd kind
  second_refused later project (Reported report) kind first second = absurd kind
  second_refused later project (Cut report) kind first second = absurd kind
  second_refused later project WriteFailed kind first second = absurd kind

-- ---- endings

module _ (failed : Type 0) (a b : Option Lookup) (project_name trace_name : List ℕ) (reports : ProjectView → Trace → Report) where
  stays : (ended : Ended) → Refuses failed a b project_name trace_name ended → Told (λ (old new : Lookup). new ≡ old) a b
  stays ended (Refuses.project_refused told) = Told-map (λ x y p. p.same) told
  stays ended (Refuses.trace_refused project first second) = Told-map (λ x y p. p.same) second

  -- no file changes
  pub report_stays : (ended : Ended) → ReportsSo failed a b reports project_name trace_name ended → Told (λ (old new : Lookup). new ≡ old) a b
  report_stays ended (ReportsSo.reported project trace first second ends) = Told-map (λ x y p. p.same) second
  report_stays ended (ReportsSo.refused kind refuses) = stays ended refuses
  report_stays ended (ReportsSo.no_memory told is) = told

  not_found : (ended : Ended) → IsOfFile ended → FindsBoth failed a b project_name trace_name (Err ended) → ReportsSo failed a b reports project_name trace_name ended
  not_found BadWords kind found = absurd kind
  not_found OutOfMemory kind found = ReportsSo.no_memory found refl
  not_found (CannotRead named) kind found = ReportsSo.refused kind found
  not_found (FileTooLong named) kind found = ReportsSo.refused kind found
  not_found (Refused named line reason) kind found = ReportsSo.refused kind found
  not_found (CannotOpen address) kind found = absurd kind
  not_found (Served how) kind found = absurd kind
  not_found (Reported report) kind found = absurd kind
  not_found (Cut report) kind found = absurd kind
  not_found WriteFailed kind found = absurd kind

  module _ (output : Output) (status : ℕ) where
    -- the message of why there is no report was printed
    pub report_refused : (due : Ended) → IsOfFile due → FindsBoth failed a b project_name trace_name (Err due) → Tells due output status → Ends (ReportsSo failed a b reports project_name trace_name) output status
    report_refused due kind found tells = let so = not_found due kind found in ends_as due so (ReportsSo.no_memory (report_stays due so) refl) tells

    module _ (project : ProjectView) (trace : Trace) (first : Told (FindsProject failed project_name (Ok project)) a b) (second : Told (FindsTrace failed trace_name (Ok trace)) a b) where
      -- the report was printed, or a part of it
      pub report_issued : Issues (reports project trace) output status → Ends (ReportsSo failed a b reports project_name trace_name) output status
      report_issued issues = ends_map (λ ended ends. ReportsSo.reported project trace first second ends) issues

      -- memory was wanted for it
      pub report_out : Tells OutOfMemory output status → Ends (ReportsSo failed a b reports project_name trace_name) output status
      report_out tells = let out = ReportsSo.no_memory (Told-map (λ x y p. p.same) second) refl in ends_as OutOfMemory out out tells

-- ---- printing a report

module _ (report : Report) (output : Output) where
  -- it was printed whole
  pub issues_whole : (done : Unit {0}) → output.faults_now ≡ output.faults_before → Told (AppendsAll {T = Unit {0}} {E = Failed} (Ok done) report.text) output.before output.now → Issues report output (status_of (Reported report))
  issues_whole done kept told = record { ending = Reported report; status_is = refl; spoken = told; cause = kept; so = inl refl }

  -- or up to a fault
  pub issues_cut : (failed : Failed) → Rose output.faults_before output.faults_now → Told (AppendsAll {T = Unit {0}} {E = Failed} (Err failed) report.text) output.before output.now → Issues report output 5
  issues_cut failed rose told = record {
    ending = Cut report;
    status_is = refl;
    spoken = Told-map {R = AppendsAll {T = Unit {0}} {E = Failed} (Err failed) report.text} (λ p q h. record { count = h.0; proper = h.1; appended = h.2 }) told;
    cause = rose;
    so = inr refl;
  }

-- its status, where all that it tells of is well or not
pub issues_good : (text : List ℕ) (good : Bool) (output : Output) (done : Unit {0}) → good ≡ true → output.faults_now ≡ output.faults_before → Told (AppendsAll {T = Unit {0}} {E = Failed} (Ok done) text) output.before output.now → Issues (record { text = text; good = good }) output 0
issues_good text good output done is kept told = subst (λ b. Issues (record { text = text; good = b }) output 0) (sym is) (issues_whole (record { text = text; good = true }) output done kept told)

pub issues_bad : (text : List ℕ) (good : Bool) (output : Output) (done : Unit {0}) → good ≡ false → output.faults_now ≡ output.faults_before → Told (AppendsAll {T = Unit {0}} {E = Failed} (Ok done) text) output.before output.now → Issues (record { text = text; good = good }) output 1
issues_bad text good output done is kept told = subst (λ b. Issues (record { text = text; good = b }) output 1) (sym is) (issues_whole (record { text = text; good = false }) output done kept told)

-- ---- a check

-- a legal trace has no fault
pub legal_is : (project : ProjectView) (trace : Trace) (otherwise : Report) → IsLegal project trace.workers trace.limit trace.entries → by_fault (fault_of project trace) otherwise ≡ otherwise
legal_is project trace otherwise legal = ap (λ found. by_fault found otherwise) ((none_if_legal project trace.workers trace.limit trace.entries).1 legal)

-- the first fault of another is the one that was found
pub illegal_is : (project : ProjectView) (trace : Trace) (otherwise : Report) (place : ℕ) (reason : IllegalReason) → IsFirstFault project trace.workers trace.limit trace.entries place reason → by_fault (fault_of project trace) otherwise ≡ illegal_report place reason
illegal_is project trace otherwise place reason fault = ap (λ found. by_fault found otherwise) ((some_if_illegal project trace.workers trace.limit trace.entries place reason).1 fault)

-- a report that is the same was printed
pub issues_same : (report other : Report) (output : Output) (status : ℕ) → report ≡ other → Issues report output status → Issues other output status
issues_same report other output status same issues = subst (λ r. Issues r output status) same issues
