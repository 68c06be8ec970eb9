-- What holds of a run, by the task that its words ask for.
use Rattle.std.proofs.Common.{◌≡◌, ◌≢◌, ◌⊎◌, inl, inr, ℕ, ◌≤◌, List, length, map, Option, Some, None, Err, IfSome, refl, sym, ap, subst, ◌∙◌, arith}
use Rattle.std.specs.Prelude.{IsSomeAnd, String, string_bytes}
use Rattle.std.specs.declared.alloc.Global.{Global}
use Rattle.mm_outside.specs.Causes.{Rose}
use Rattle.mm_outside.specs.Files.{Lookup}
use Rattle.mm_outside.specs.Told.{Told}
use Rattle.mm_outside.proofs.ToldLemmas.{Told-map}
use Rattle.unit_registry.specs.Projects.{ProjectView}
use Rattle.trace_text.specs.declared.trace.Trace.{Trace}
use Rattle.mapper_commands.specs.declared.verb.Verb.{Verb}
use Rattle.mapper_commands.specs.declared.verb.Verb.TheVariants as verb
use Rattle.mapper_commands.specs.Askings.{longest_folder, most_units}
use Rattle.mapper_server.specs.Limits.{fewest_entries}
use Rattle.mapper_commands.specs.Commands.{Task, Pipe, Check, Replay, ListUnits, Generate, AsksAs, AsksFor, AsksNothing, usual, counted}
use Rattle.mapper_commands.specs.Endings.{Report, Ended, OutOfMemory, CannotRead, HasSinkCause, Output, Ends, status_of}
use Rattle.mapper_commands.specs.ProjectFiles.{DeclaresProject, FindsProject}
use Rattle.mapper_commands.specs.Reports.{Refuses, ReportsSo, check_report}
use Rattle.mapper_commands.specs.Replays.{replay_report}
use Rattle.mapper_commands.specs.Running.{Outside, AreBothThere, AreUnitsThere, AsksOverTrace, AsksToWrite, DoesTask, IsAllThere, IsReadBy, IsReport, IsSparedBy, KeepsOthers, LacksFile, NothingHinders, to_serve, to_report, to_list, to_write}
use Rattle.mapper_commands.specs.TraceFiles.{FindsTrace, HoldsTrace}
use Rattle.mapper_commands.proofs.Complete.{all_served, fault_of_read}
use Rattle.mapper_commands.proofs.FileLemmas.{told_project_taken, told_trace_taken}
use Rattle.mapper_commands.proofs.Forms.{one_task}
use Rattle.mapper_commands.proofs.AskedLemmas.{folder_bound}
use Rattle.mapper_commands.proofs.Reporting.{report_stays}
use Rattle.mapper_commands.proofs.Statuses.{differ as apart, file_four, file_never, report_cut, report_never, report_whole}
use Rattle.mapper_commands.proofs.UnitReports.{list_two, list_four, list_five, list_stays, list_whole}
use Rattle.mapper_commands.proofs.Writings.{gen_never, gen_five, gen_whole, gen_others}
use Rattle.mapper_commands.proofs.Runnings.{never_one, never_two, pipe_stays, untouched, fault_of_write}

-- ---- one task

-- words that ask for nothing ask for no report
pub asks_none : (words : List (String Global)) (project trace : List ℕ) → ((task : Task) → AsksFor (map string_bytes words) task → ⊥) → AsksOverTrace words project trace → ⊥
asks_none words project trace none (inl check) = none (Check project trace) check
asks_none words project trace none (inr replay) = none (Replay project trace) replay

-- the entries of a history, and a project that is to be generated, lie within their bounds
abbrev IsBounded : Task → Type 0
IsBounded (Pipe project entries) = fewest_entries ≤ entries
IsBounded (Check project trace) = Unit {0}
IsBounded (Replay project trace) = Unit {0}
IsBounded (ListUnits project) = Unit {0}
IsBounded (Generate folder units seed) = (length folder ≤ longest_folder) × (units ≤ most_units)

bounded : (words : List (List ℕ)) (task : Task) → AsksFor words task → IsBounded task
bounded words task asks = by asks.first asks.asked
  where
    by : (first : Verb) → AsksAs first asks.rest task → IsBounded task
    by verb.Pipe (usual project are is) = subst IsBounded (sym is) (omega arith)
    by verb.Pipe (counted project word entries are spelled is) = subst IsBounded (sym is) spelled.at_least
    by verb.Check asked = subst IsBounded (sym asked.task_is) tt
    by verb.Replay asked = subst IsBounded (sym asked.task_is) tt
    by verb.List asked = subst IsBounded (sym asked.task_is) tt
    by verb.Gen asked = subst IsBounded (sym asked.task_is) (folder_bound asked.folder asked.folder_is, asked.units_are.at_most)

-- the history that is asked for has room for the three entries that any connection alone has
pub pipe_bounds : (words : List (List ℕ)) (name : List ℕ) (entries : ℕ) → AsksFor words (Pipe name entries) → fewest_entries ≤ entries
pipe_bounds words name entries asks = bounded words (Pipe name entries) asks

-- the folder and the number of units that are asked for lie within their bounds
pub gen_bounds : (words : List (List ℕ)) (folder : List ℕ) (units seed : ℕ) → AsksFor words (Generate folder units seed) → (length folder ≤ longest_folder) × (units ≤ most_units)
gen_bounds words folder units seed asks = bounded words (Generate folder units seed) asks

-- ---- a report

module _ (failed : Type 0) (before now : Option Lookup) (reports : ProjectView → Trace → Report) (project_name trace_name : List ℕ) where
  -- it never ends as words of no form do
  report_two : (ended : Ended) → ReportsSo failed before now reports project_name trace_name ended → status_of ended ≢ 2
  report_two ended (ReportsSo.reported project trace first second ends) two = report_never (reports project trace) ended 2 ends (λ e. omega (arith, e)) (λ e. omega (arith, e)) (λ e. omega (arith, e)) two
  report_two ended (ReportsSo.refused kind refuses) two = file_never ended 2 kind (λ e. omega (arith, e)) (λ e. omega (arith, e)) (λ e. omega (arith, e)) two
  report_two ended (ReportsSo.no_memory told is) two = apart (status_of ended) 3 2 (λ e. omega (arith, e)) (ap status_of is) two

  lacks_one : (named : List ℕ) → Refuses failed before now project_name trace_name (CannotRead named) → (IfSome before (λ content. content project_name ≡ None) ⊎ IfSome before (λ content. content trace_name ≡ None)) ⊎ failed
  lacks_one named (Refuses.project_refused told) = by before now told
    where
      by : (a b : Option Lookup) → Told (FindsProject failed project_name (Err (CannotRead named))) a b → (IfSome a (λ content. content project_name ≡ None) ⊎ IfSome a (λ content. content trace_name ≡ None)) ⊎ failed
      by None b told = inl (inl tt)
      by (Some a) None told = absurd told.so
      by (Some a) (Some b) told = cause told.so.so.cause
        where
          cause : (a project_name ≡ None) ⊎ failed → ((a project_name ≡ None) ⊎ (a trace_name ≡ None)) ⊎ failed
          cause (inl absent) = inl (inl absent)
          cause (inr fault) = inr fault
  lacks_one named (Refuses.trace_refused project first told) = by before now told
    where
      by : (a b : Option Lookup) → Told (FindsTrace failed trace_name (Err (CannotRead named))) a b → (IfSome a (λ content. content project_name ≡ None) ⊎ IfSome a (λ content. content trace_name ≡ None)) ⊎ failed
      by None b told = inl (inl tt)
      by (Some a) None told = absurd told.so
      by (Some a) (Some b) told = cause told.so.so.cause
        where
          cause : (a trace_name ≡ None) ⊎ failed → ((a project_name ≡ None) ⊎ (a trace_name ≡ None)) ⊎ failed
          cause (inl absent) = inl (inr absent)
          cause (inr fault) = inr fault

  -- why it ends with 4
  report_four : (ended : Ended) → ReportsSo failed before now reports project_name trace_name ended → status_of ended ≡ 4 → (IfSome before (λ content. content project_name ≡ None) ⊎ IfSome before (λ content. content trace_name ≡ None)) ⊎ failed
  report_four ended (ReportsSo.reported project trace first second ends) four = absurd (report_never (reports project trace) ended 4 ends (λ e. omega (arith, e)) (λ e. omega (arith, e)) (λ e. omega (arith, e)) four)
  report_four ended (ReportsSo.refused kind refuses) four = let named = file_four ended kind four in lacks_one named.0 (subst (λ e. Refuses failed before now project_name trace_name e) named.1 refuses)
  report_four ended (ReportsSo.no_memory told is) four = absurd (apart (status_of ended) 3 4 (λ e. omega (arith, e)) (ap status_of is) four)

  -- why it ends with 5
  report_five : (ended : Ended) (b n : ℕ) → ReportsSo failed before now reports project_name trace_name ended → HasSinkCause ended b n → status_of ended ≡ 5 → Rose b n
  report_five ended b n (ReportsSo.reported project trace first second ends) cause five = report_cut (reports project trace) ended b n ends cause five
  report_five ended b n (ReportsSo.refused kind refuses) cause five = absurd (file_never ended 5 kind (λ e. omega (arith, e)) (λ e. omega (arith, e)) (λ e. omega (arith, e)) five)
  report_five ended b n (ReportsSo.no_memory told is) cause five = absurd (apart (status_of ended) 3 5 (λ e. omega (arith, e)) (ap status_of is) five)

  module _ (project : ProjectView) (trace : Trace) (first : IsSomeAnd before (λ content. DeclaresProject (content project_name) project)) (second : IsSomeAnd before (λ content. HoldsTrace (content trace_name) trace)) (none : failed → ⊥) where
    only_memory : (ended : Ended) → Refuses failed before now project_name trace_name ended → ended ≡ OutOfMemory
    only_memory ended (Refuses.project_refused told) = told_project_taken failed none project_name project ended before now first told
    only_memory ended (Refuses.trace_refused other told_first told) = told_trace_taken failed none trace_name trace ended before now second told

    refused_three : (ended : Ended) → Refuses failed before now project_name trace_name ended → status_of ended ≡ 3
    refused_three ended h = ap status_of (only_memory ended h)

    -- where both files are there, and no write fails, it is printed
    report_printed : (ended : Ended) (b n : ℕ) → (Rose b n → ⊥) → HasSinkCause ended b n → ReportsSo failed before now reports project_name trace_name ended → (status_of ended ≡ 0) ⊎ ((status_of ended ≡ 1) ⊎ (status_of ended ≡ 3))
    report_printed ended b n stood cause (ReportsSo.reported other found told_first told ends) = report_whole (reports other found) ended b n ends cause stood
    report_printed ended b n stood cause (ReportsSo.refused kind refuses) = inr (inr (refused_three ended refuses))
    report_printed ended b n stood cause (ReportsSo.no_memory told is) = inr (inr (ap status_of is))

-- ---- tasks

module _ {L : Type 0} (outside : Outside L) where
  abbrev files_failed : Type 0
  files_failed = Rose outside.file_reads_before outside.file_reads_now

  abbrev writes_failed : Type 0
  writes_failed = Rose outside.file_writes_before outside.file_writes_now

  pub ends_same : (task other : Task) (output : Output) (status : ℕ) → other ≡ task → Ends (DoesTask outside task) output status → Ends (DoesTask outside other) output status
  ends_same task other output status same run = subst (λ some. Ends (DoesTask outside some) output status) (sym same) run

  pub task_two : (task : Task) (ended : Ended) → DoesTask outside task ended → status_of ended ≢ 2
  task_two (Pipe project entries) ended h = never_two outside project entries ended h
  task_two (Check project trace) ended h = report_two files_failed outside.files_before outside.files_now check_report project trace ended h.reports_so
  task_two (Replay project trace) ended h = report_two files_failed outside.files_before outside.files_now replay_report project trace ended h.reports_so
  task_two (ListUnits project) ended h = list_two files_failed outside.files_before outside.files_now project ended h.lists_so
  task_two (Generate folder units seed) ended h = gen_never outside.file_writes_before outside.file_writes_now outside.files_before outside.files_now folder units seed ended 2 h.generates_so (λ e. omega (arith, e)) (λ e. omega (arith, e)) (λ e. omega (arith, e))

  -- only a report ends with 1
  pub task_one : (task : Task) (ended : Ended) → DoesTask outside task ended → status_of ended ≡ 1 → IsReport task
  task_one (Pipe project entries) ended h one = never_one outside project entries ended h one
  task_one (Check project trace) ended h one = tt
  task_one (Replay project trace) ended h one = tt
  task_one (ListUnits project) ended h one = tt
  task_one (Generate folder units seed) ended h one = gen_never outside.file_writes_before outside.file_writes_now outside.files_before outside.files_now folder units seed ended 1 h.generates_so (λ e. omega (arith, e)) (λ e. omega (arith, e)) (λ e. omega (arith, e)) one

  pub task_untouched : (task : Task) (ended : Ended) (status : ℕ) → status ≡ status_of ended → DoesTask outside task ended → (status ≡ 2) ⊎ ((status ≡ 3) ⊎ (status ≡ 6)) → outside.link_now ≡ outside.link_before
  task_untouched (Pipe project entries) ended status is h some = untouched outside project entries ended status is h some
  task_untouched (Check project trace) ended status is h some = h.link
  task_untouched (Replay project trace) ended status is h some = h.link
  task_untouched (ListUnits project) ended status is h some = h.link
  task_untouched (Generate folder units seed) ended status is h some = h.link

  pub task_five : (task : Task) (ended : Ended) (b n : ℕ) → DoesTask outside task ended → HasSinkCause ended b n → status_of ended ≡ 5 → Rose outside.link_writes_before outside.link_writes_now ⊎ (Rose outside.file_writes_before outside.file_writes_now ⊎ Rose b n)
  task_five (Pipe project entries) ended b n h cause five = inl (fault_of_write outside project entries ended h five)
  task_five (Check project trace) ended b n h cause five = inr (inr (report_five files_failed outside.files_before outside.files_now check_report project trace ended b n h.reports_so cause five))
  task_five (Replay project trace) ended b n h cause five = inr (inr (report_five files_failed outside.files_before outside.files_now replay_report project trace ended b n h.reports_so cause five))
  task_five (ListUnits project) ended b n h cause five = inr (inr (list_five files_failed outside.files_before outside.files_now project ended b n h.lists_so cause five))
  task_five (Generate folder units seed) ended b n h cause five = inr (gen_five outside.file_writes_before outside.file_writes_now outside.files_before outside.files_now folder units seed ended b n h.generates_so cause five)

  spares : (P : List ℕ → Type 0) → Told (λ (old new : Lookup). new ≡ old) outside.files_before outside.files_now → Told (λ (old new : Lookup). (name : List ℕ) → P name → new name ≡ old name) outside.files_before outside.files_now
  spares P told = Told-map (λ x y same. λ name spared. ap (λ (content : Lookup). content name) same) told

  -- the files that it isn't to write are as they were
  pub task_spares : (task : Task) (ended : Ended) → DoesTask outside task ended → Told (λ (old new : Lookup). (name : List ℕ) → IsSparedBy task name → new name ≡ old name) outside.files_before outside.files_now
  task_spares (Pipe project entries) ended h = spares (IsSparedBy (Pipe project entries)) (pipe_stays outside project entries ended h)
  task_spares (Check project trace) ended h = spares (IsSparedBy (Check project trace)) (report_stays files_failed outside.files_before outside.files_now project trace check_report ended h.reports_so)
  task_spares (Replay project trace) ended h = spares (IsSparedBy (Replay project trace)) (report_stays files_failed outside.files_before outside.files_now project trace replay_report ended h.reports_so)
  task_spares (ListUnits project) ended h = spares (IsSparedBy (ListUnits project)) (list_stays files_failed outside.files_before outside.files_now project ended h.lists_so)
  task_spares (Generate folder units seed) ended h = gen_others outside.file_writes_before outside.file_writes_now outside.files_before outside.files_now folder units seed ended h.generates_so

  module _ (words : List (String Global)) where
    -- a file that is absent, or a read that failed
    lacks : (project trace : List ℕ) (task : Task) → AsksFor (map string_bytes words) task → ((name : List ℕ) → (name ≡ project) ⊎ (name ≡ trace) → IsReadBy outside.files_before task name)
        → (IfSome outside.files_before (λ content. content project ≡ None) ⊎ IfSome outside.files_before (λ content. content trace ≡ None)) ⊎ files_failed
        → LacksFile words outside.files_before ⊎ (files_failed ⊎ Rose outside.link_reads_before outside.link_reads_now)
    lacks project trace task asks reads (inl (inl absent)) = inl (record { task = task; asks = asks; name = project; is_read = reads project (inl refl); absent = absent })
    lacks project trace task asks reads (inl (inr absent)) = inl (record { task = task; asks = asks; name = trace; is_read = reads trace (inr refl); absent = absent })
    lacks project trace task asks reads (inr rose) = inr (inl rose)

    pub task_four : (task : Task) (ended : Ended) → AsksFor (map string_bytes words) task → DoesTask outside task ended → status_of ended ≡ 4
        → LacksFile words outside.files_before ⊎ (files_failed ⊎ Rose outside.link_reads_before outside.link_reads_now)
    task_four (Pipe project entries) ended asks h four = fault_of_read outside words project entries asks ended h four
    task_four (Check project trace) ended asks h four = lacks project trace (Check project trace) asks (λ name either. either) (report_four files_failed outside.files_before outside.files_now check_report project trace ended h.reports_so four)
    task_four (Replay project trace) ended asks h four = lacks project trace (Replay project trace) asks (λ name either. either) (report_four files_failed outside.files_before outside.files_now replay_report project trace ended h.reports_so four)
    task_four (ListUnits project) ended asks h four = by (list_four files_failed outside.files_before outside.files_now project words ended asks h.lists_so four)
      where
        by : LacksFile words outside.files_before ⊎ files_failed → LacksFile words outside.files_before ⊎ (files_failed ⊎ Rose outside.link_reads_before outside.link_reads_now)
        by (inl lacks) = inl lacks
        by (inr rose) = inr (inl rose)
    task_four (Generate folder units seed) ended asks h four = absurd (gen_never outside.file_writes_before outside.file_writes_now outside.files_before outside.files_now folder units seed ended 4 h.generates_so (λ e. omega (arith, e)) (λ e. omega (arith, e)) (λ e. omega (arith, e)) four)

    -- the files that the words don't ask to write are as they were
    pub task_keeps : (task : Task) (ended : Ended) → AsksFor (map string_bytes words) task → DoesTask outside task ended → Told (KeepsOthers words) outside.files_before outside.files_now
    task_keeps task ended asks h = Told-map (λ x y kept. λ name spared. kept name (spared task asks)) (task_spares task ended h)

    -- where a project is to be generated, no read fails
    pub task_reads : (task : Task) (ended : Ended) → AsksFor (map string_bytes words) task → DoesTask outside task ended → AsksToWrite words → outside.file_reads_now ≡ outside.file_reads_before
    task_reads task ended asks h there =
        let so : DoesTask outside (Generate there.folder there.units there.seed) ended = subst (λ some. DoesTask outside some ended) (one_task (map string_bytes words) task (Generate there.folder there.units there.seed) asks there.asks) h in
        so.reads

    -- what is served whole is served to its end
    task_completes : (task : Task) (ended : Ended) → AsksFor (map string_bytes words) task → DoesTask outside task ended → IsAllThere words outside.files_before (outside.octets outside.link_before)
        → (files_failed → ⊥) → (Rose outside.link_reads_before outside.link_reads_now → ⊥) → (Rose outside.link_writes_before outside.link_writes_now → ⊥)
        → (status_of ended ≡ 0) ⊎ (status_of ended ≡ 3)
    task_completes task ended asks h there no_file no_read no_write =
        all_served outside words there.name there.entries there.asks there.project ended there.file there.input no_file no_read no_write
        (subst (λ some. DoesTask outside some ended) (one_task (map string_bytes words) task (Pipe there.name there.entries) asks there.asks) h)

    printed : (reports : ProjectView → Trace → Report) (ended : Ended) (b n : ℕ) (there : AreBothThere words outside.files_before) → HasSinkCause ended b n → (files_failed → ⊥) → (Rose b n → ⊥)
        → ReportsSo files_failed outside.files_before outside.files_now reports there.project_name there.trace_name ended → (status_of ended ≡ 0) ⊎ ((status_of ended ≡ 1) ⊎ (status_of ended ≡ 3))
    printed reports ended b n there cause no_file no_fault so =
        report_printed files_failed outside.files_before outside.files_now reports there.project_name there.trace_name there.project there.trace there.project_file there.trace_file no_file ended b n no_fault cause so

    -- a report over two files that are there is printed
    task_reports : (task : Task) (ended : Ended) (b n : ℕ) → AsksFor (map string_bytes words) task → DoesTask outside task ended → HasSinkCause ended b n → AreBothThere words outside.files_before
        → (files_failed → ⊥) → (Rose b n → ⊥) → (status_of ended ≡ 0) ⊎ ((status_of ended ≡ 1) ⊎ (status_of ended ≡ 3))
    task_reports task ended b n asks h cause there no_file no_fault = by there.asks
      where
        by : AsksOverTrace words there.project_name there.trace_name → (status_of ended ≡ 0) ⊎ ((status_of ended ≡ 1) ⊎ (status_of ended ≡ 3))
        by (inl check) =
            let so : DoesTask outside (Check there.project_name there.trace_name) ended = subst (λ some. DoesTask outside some ended) (one_task (map string_bytes words) task (Check there.project_name there.trace_name) asks check) h in
            printed check_report ended b n there cause no_file no_fault so.reports_so
        by (inr replay) =
            let so : DoesTask outside (Replay there.project_name there.trace_name) ended = subst (λ some. DoesTask outside some ended) (one_task (map string_bytes words) task (Replay there.project_name there.trace_name) asks replay) h in
            printed replay_report ended b n there cause no_file no_fault so.reports_so

    -- a report on units whose files are all there is printed
    task_lists : (task : Task) (ended : Ended) (b n : ℕ) → AsksFor (map string_bytes words) task → DoesTask outside task ended → HasSinkCause ended b n → AreUnitsThere words outside.files_before
        → (files_failed → ⊥) → (Rose b n → ⊥) → (status_of ended ≡ 0) ⊎ ((status_of ended ≡ 1) ⊎ (status_of ended ≡ 3))
    task_lists task ended b n asks h cause there no_file no_fault =
        let so : DoesTask outside (ListUnits there.name) ended = subst (λ some. DoesTask outside some ended) (one_task (map string_bytes words) task (ListUnits there.name) asks there.asks) h in
        list_whole files_failed no_file there.name outside.files_before outside.files_now ended b n no_fault cause there.holds so.lists_so

    -- a project is generated whole
    task_generates : (task : Task) (ended : Ended) (b n : ℕ) → AsksFor (map string_bytes words) task → DoesTask outside task ended → HasSinkCause ended b n → AsksToWrite words
        → (writes_failed → ⊥) → (Rose b n → ⊥) → (status_of ended ≡ 0) ⊎ (status_of ended ≡ 3)
    task_generates task ended b n asks h cause there no_file no_fault =
        let so : DoesTask outside (Generate there.folder there.units there.seed) ended = subst (λ some. DoesTask outside some ended) (one_task (map string_bytes words) task (Generate there.folder there.units there.seed) asks there.asks) h in
        gen_whole outside.file_writes_before outside.file_writes_now outside.files_before outside.files_now there.folder there.units there.seed ended b n no_file no_fault so.generates_so cause

    -- where nothing hinders a task, it's done whole
    pub task_whole : (output : Output) (task : Task) (ended : Ended) (status : ℕ) → AsksFor (map string_bytes words) task → status ≡ status_of ended → DoesTask outside task ended → HasSinkCause ended output.faults_before output.faults_now
        → NothingHinders outside output words → (status ≡ 0) ⊎ ((status ≡ 1) ⊎ (status ≡ 3))
    task_whole output task ended status asks is h cause hinders = by hinders
      where
        of_three : (status_of ended ≡ 0) ⊎ ((status_of ended ≡ 1) ⊎ (status_of ended ≡ 3)) → (status ≡ 0) ⊎ ((status ≡ 1) ⊎ (status ≡ 3))
        of_three (inl zero_is) = inl (is ∙ zero_is)
        of_three (inr (inl one)) = inr (inl (is ∙ one))
        of_three (inr (inr three)) = inr (inr (is ∙ three))

        of_two : (status_of ended ≡ 0) ⊎ (status_of ended ≡ 3) → (status ≡ 0) ⊎ ((status ≡ 1) ⊎ (status ≡ 3))
        of_two (inl zero_is) = inl (is ∙ zero_is)
        of_two (inr three) = inr (inr (is ∙ three))

        by : NothingHinders outside output words → (status ≡ 0) ⊎ ((status ≡ 1) ⊎ (status ≡ 3))
        by (to_serve there no_file no_read no_write) = of_two (task_completes task ended asks h there no_file no_read no_write)
        by (to_report there no_file no_fault) = of_three (task_reports task ended output.faults_before output.faults_now asks h cause there no_file no_fault)
        by (to_list there no_file no_fault) = of_three (task_lists task ended output.faults_before output.faults_now asks h cause there no_file no_fault)
        by (to_write there no_file no_fault) = of_two (task_generates task ended output.faults_before output.faults_now asks h cause there no_file no_fault)

-- words that ask for nothing have nothing that isn't hindered
pub none_whole : {L : Type 0} (outside : Outside L) (output : Output) (words : List (String Global)) → AsksNothing words → NothingHinders outside output words → ⊥
none_whole outside output words none (to_serve there no_file no_read no_write) = none _ there.asks
none_whole outside output words none (to_report there no_file no_fault) = asks_none words there.project_name there.trace_name none there.asks
none_whole outside output words none (to_list there no_file no_fault) = none _ there.asks
none_whole outside output words none (to_write there no_file no_fault) = none _ there.asks
