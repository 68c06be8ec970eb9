-- What a status tells of what was read, printed and served.
use Rattle.std.proofs.Common.{◌≡◌, ◌≢◌, ◌⊎◌, inl, inr, ℕ, ◌+◌, ◌<◌, ◌≤◌, Bool, true, false, List, ◌++◌, length, map, Option, Some, None, Ok, Err, IfSome, refl, sym, ap, subst, ◌∙◌, arith}
use Rattle.std.proofs.lemmas.List.{append-nil}
use Rattle.std.specs.Prelude.{String, string_bytes}
use Rattle.std.specs.declared.alloc.Global.{Global}
use Rattle.mm_outside.specs.Causes.{Rose}
use Rattle.mm_outside.specs.Files.{Lookup}
use Rattle.mm_outside.specs.Octets.{Octets}
use Rattle.mm_outside.specs.Told.{Told}
use Rattle.mm_outside.proofs.ToldLemmas.{Told-map}
use Rattle.cody_batches.specs.Blocks.{taken}
use Rattle.unit_registry.specs.Projects.{ProjectView}
use Rattle.connection_core.specs.Asking.{acts}
use Rattle.connection_core.specs.declared.conn_end.ConnEnd.{ConnEnd}
use Rattle.connection_core.specs.declared.conn_end.ConnEnd.TheVariants.{Closed, Truncated, ReadFault, WriteFault, TooLong, BatchTooLong, HistoryFull}
use Rattle.trace_text.specs.declared.trace.Trace.{Trace}
use Rattle.mapper_commands.specs.Commands.{Task, Pipe, Check, Replay, ListUnits, Generate, AsksFor}
use Rattle.mapper_commands.specs.Endings.{Report, Ended, OutOfMemory, Served, Reported, Cut, EndsIn, Output, Speaks, status_of}
use Rattle.mapper_commands.specs.ListRuns.{ListsSo, RefusesList, list_report}
use Rattle.mapper_commands.specs.Meanings.{FillsHistory, IsEitherRefused, IsOverTrace, IsOverUnits, IsRefusedOf, IsReportOf, Judges, NamesRefused, ReadsBeyond, ReadsTooMuch, EndsInBlock}
use Rattle.mapper_commands.specs.ProjectFiles.{DeclaresProject, FindsProject, IsOfFile, IsReadAs}
use Rattle.mapper_commands.specs.Replays.{replay_report}
use Rattle.mapper_commands.specs.Reports.{Refuses, ReportsSo, check_report}
use Rattle.mapper_commands.specs.Running.{Outside, DoesTask, IsReport, Pipes, served, refused, no_memory}
use Rattle.connection_core.specs.Serving.{ServesAlone}
use Rattle.mapper_commands.specs.TraceFiles.{FindsTrace}
use Rattle.mapper_server.proofs.Unhindered.{never_full}
use Rattle.mapper_commands.proofs.FileLemmas.{told_before}
use Rattle.mapper_commands.proofs.PrintLemmas.{six_speaks}
use Rattle.mapper_commands.proofs.Statuses.{differ, in_report, of_file, report_never, status_by}
use Rattle.mapper_commands.proofs.Writings.{gen_never}

-- ---- a report that is printed whole

same_good : (a b : Bool) → status_by a ≡ status_by b → a ≡ b
same_good true true e = refl
same_good true false e = absurd (omega (arith, e))
same_good false true e = absurd (omega (arith, e))
same_good false false e = refl

never_by : (k : ℕ) (good : Bool) → (0 ≡ k → ⊥) → (1 ≡ k → ⊥) → k ≡ status_by good → ⊥
never_by k true zero_not one_not e = zero_not (sym e)
never_by k false zero_not one_not e = one_not (sym e)

whole_by : (report : Report) (ended : Ended) (good : Bool) → EndsIn report ended → status_of ended ≡ status_by good → (ended ≡ Reported report) × (report.good ≡ good)
whole_by report ended good (inl e) is = (e, same_good report.good good (sym (ap status_of e) ∙ is))
whole_by report ended good (inr e) is = absurd (never_by 5 good (λ d. omega (arith, d)) (λ d. omega (arith, d)) (sym (ap status_of e) ∙ is))

-- the ending of a file has neither status
file_by_neither : (ended : Ended) (good : Bool) → IsOfFile ended → status_of ended ≡ status_by good → ⊥
file_by_neither ended good kind is = by (of_file ended kind)
  where
    by : (status_of ended ≡ 3) ⊎ ((status_of ended ≡ 4) ⊎ (status_of ended ≡ 6)) → ⊥
    by (inl e) = never_by 3 good (λ d. omega (arith, d)) (λ d. omega (arith, d)) (sym e ∙ is)
    by (inr (inl e)) = never_by 4 good (λ d. omega (arith, d)) (λ d. omega (arith, d)) (sym e ∙ is)
    by (inr (inr e)) = never_by 6 good (λ d. omega (arith, d)) (λ d. omega (arith, d)) (sym e ∙ is)

over_trace : (failed : Type 0) (reports : ProjectView → Trace → Report) (project_name trace_name : List ℕ) (project : ProjectView) (trace : Trace) (a b : Option Lookup) → Told (FindsProject failed project_name (Ok project)) a b → Told (FindsTrace failed trace_name (Ok trace)) a b
    → IfSome a (λ content. IsOverTrace reports content project_name trace_name (reports project trace))
over_trace failed reports project_name trace_name project trace None b first second = tt
over_trace failed reports project_name trace_name project trace (Some x) None first second = absurd first.so
over_trace failed reports project_name trace_name project trace (Some x) (Some y) first second = record { project = project; trace = trace; project_file = first.so.so; trace_file = second.so.so; report_is = refl }

-- ---- the end of a link

not_most : (a b : ℕ) → (a ≤ b → ⊥) → b < a
not_most a b none = omega (arith, none)

inside_at : (project : ProjectView) (entries : ℕ) (how : ConnEnd) → status_of (Served how) ≡ 7 → (x y : Octets) → ServesAlone project entries how x y → EndsInBlock x y
inside_at project entries Closed seven x y s = absurd (omega (arith, seven))
inside_at project entries (Truncated lines) seven x y s = record { read = s.read; read_are = s.moves.read_are; all_read = s.moves.to_come_was ∙ ap (λ xs. s.read ++ xs) s.served.ends.1.over ∙ append-nil s.read; over = s.served.ends.1.over; inside = omega (arith, s.served.ends.2, s.served.ends.3) }
inside_at project entries ReadFault seven x y s = absurd (omega (arith, seven))
inside_at project entries WriteFault seven x y s = absurd (omega (arith, seven))
inside_at project entries TooLong seven x y s = absurd (omega (arith, seven))
inside_at project entries BatchTooLong seven x y s = absurd (omega (arith, seven))
inside_at project entries (HistoryFull m n) seven x y s = absurd (omega (arith, seven))

beyond_at : (project : ProjectView) (entries : ℕ) (how : ConnEnd) → status_of (Served how) ≡ 8 → (x y : Octets) → ServesAlone project entries how x y → ReadsBeyond x y
beyond_at project entries Closed eight x y s = absurd (omega (arith, eight))
beyond_at project entries (Truncated lines) eight x y s = absurd (omega (arith, eight))
beyond_at project entries ReadFault eight x y s = absurd (omega (arith, eight))
beyond_at project entries WriteFault eight x y s = absurd (omega (arith, eight))
beyond_at project entries TooLong eight x y s = record { read = s.read; read_are = s.moves.read_are; so = inl s.served.ends.1 }
beyond_at project entries BatchTooLong eight x y s = record { read = s.read; read_are = s.moves.read_are; so = inr s.served.ends.1 }
beyond_at project entries (HistoryFull m n) eight x y s = absurd (omega (arith, eight))

full_at : (project : ProjectView) (entries : ℕ) (how : ConnEnd) → status_of (Served how) ≡ 9 → (x y : Octets) → ServesAlone project entries how x y → ReadsTooMuch project entries x y
full_at project entries Closed nine x y s = absurd (omega (arith, nine))
full_at project entries (Truncated lines) nine x y s = absurd (omega (arith, nine))
full_at project entries ReadFault nine x y s = absurd (omega (arith, nine))
full_at project entries WriteFault nine x y s = absurd (omega (arith, nine))
full_at project entries TooLong nine x y s = absurd (omega (arith, nine))
full_at project entries BatchTooLong nine x y s = absurd (omega (arith, nine))
full_at project entries (HistoryFull m n) nine x y s = record { read = s.read; read_are = s.moves.read_are; so = not_most (length (acts project (taken s.read)) + 3) entries (λ fits. never_full project entries s.read s.written fits s.served.ends.0) }

-- ---- a task

report_small : (report : Report) (ended : Ended) → EndsIn report ended → 6 < status_of ended → ⊥
report_small report ended ends more = by (in_report report ended ends)
  where
    by : (status_of ended ≡ 0) ⊎ ((status_of ended ≡ 1) ⊎ ((status_of ended ≡ 5) × (ended ≡ Cut report))) → ⊥
    by (inl e) = omega (arith, e, more)
    by (inr (inl e)) = omega (arith, e, more)
    by (inr (inr e)) = omega (arith, e.0, more)

file_small : (ended : Ended) → IsOfFile ended → 6 < status_of ended → ⊥
file_small ended kind more = by (of_file ended kind)
  where
    by : (status_of ended ≡ 3) ⊎ ((status_of ended ≡ 4) ⊎ (status_of ended ≡ 6)) → ⊥
    by (inl e) = omega (arith, e, more)
    by (inr (inl e)) = omega (arith, e, more)
    by (inr (inr e)) = omega (arith, e, more)

memory_small : (ended : Ended) → ended ≡ OutOfMemory → 6 < status_of ended → ⊥
memory_small ended is more = let three : status_of ended ≡ 3 = ap status_of is in omega (arith, three, more)

module _ {L : Type 0} (outside : Outside L) where
  abbrev failed : Type 0
  failed = Rose outside.file_reads_before outside.file_reads_now

  -- ---- status 6

  report_six : (reports : ProjectView → Trace → Report) (project trace : List ℕ) (ended : Ended) → ReportsSo failed outside.files_before outside.files_now reports project trace ended → status_of ended ≡ 6
      → IfSome outside.files_before (λ content. IsEitherRefused failed content project trace ended)
  report_six reports project trace ended (ReportsSo.reported found heard first second ends) six = absurd (report_never (reports found heard) ended 6 ends (λ e. omega (arith, e)) (λ e. omega (arith, e)) (λ e. omega (arith, e)) six)
  report_six reports project trace ended (ReportsSo.refused kind (Refuses.project_refused told)) six =
      told_before {R = FindsProject failed project (Err ended)} (λ content. IsEitherRefused failed content project trace ended) (λ x y found. inl found.so) outside.files_before outside.files_now told
  report_six reports project trace ended (ReportsSo.refused kind (Refuses.trace_refused found first told)) six =
      told_before {R = FindsTrace failed trace (Err ended)} (λ content. IsEitherRefused failed content project trace ended) (λ x y found. inr found.so) outside.files_before outside.files_now told
  report_six reports project trace ended (ReportsSo.no_memory told is) six = absurd (differ (status_of ended) 3 6 (λ e. omega (arith, e)) (ap status_of is) six)

  pipe_six : (project : List ℕ) (entries : ℕ) (ended : Ended) → Pipes outside project entries ended → status_of ended ≡ 6 → IfSome outside.files_before (λ content. IsReadAs failed project (Err ended) (content project))
  pipe_six project entries ended (served how serves is) six = absurd (six_not how (sym (ap status_of is) ∙ six))
    where
      six_not : (how : ConnEnd) → status_of (Served how) ≢ 6
      six_not Closed e = omega (arith, e)
      six_not (Truncated lines) e = omega (arith, e)
      six_not ReadFault e = omega (arith, e)
      six_not WriteFault e = omega (arith, e)
      six_not TooLong e = omega (arith, e)
      six_not BatchTooLong e = omega (arith, e)
      six_not (HistoryFull m n) e = omega (arith, e)
  pipe_six project entries ended (refused kind reads keeps link) six = told_before {R = FindsProject failed project (Err ended)} (λ content. IsReadAs failed project (Err ended) (content project)) (λ x y found. found.so) outside.files_before outside.files_now reads
  pipe_six project entries ended (no_memory aside is) six = absurd (differ (status_of ended) 3 6 (λ e. omega (arith, e)) (ap status_of is) six)

  list_six : (name : List ℕ) (ended : Ended) → ListsSo failed outside.files_before outside.files_now name ended → status_of ended ≡ 6 → IfSome outside.files_before (λ content. RefusesList failed name ended content)
  list_six name ended (ListsSo.reported project sources built outcomes told listing ends) six = absurd (report_never _ ended 6 ends (λ e. omega (arith, e)) (λ e. omega (arith, e)) (λ e. omega (arith, e)) six)
  list_six name ended (ListsSo.refused kind told) six = told_before (RefusesList failed name ended) (λ x y stay. stay.so) outside.files_before outside.files_now told

  task_six : (task : Task) (ended : Ended) → DoesTask outside task ended → status_of ended ≡ 6 → IfSome outside.files_before (λ content. IsRefusedOf failed content task ended)
  task_six (Pipe project entries) ended h six = pipe_six project entries ended h six
  task_six (Check project trace) ended h six = report_six check_report project trace ended h.reports_so six
  task_six (Replay project trace) ended h six = report_six replay_report project trace ended h.reports_so six
  task_six (ListUnits project) ended h six = list_six project ended h.lists_so six
  task_six (Generate folder units seed) ended h six = absurd (gen_never _ _ outside.files_before outside.files_now folder units seed ended 6 h.generates_so (λ e. omega (arith, e)) (λ e. omega (arith, e)) (λ e. omega (arith, e)) six)

  -- ---- statuses 7, 8 and 9

  reports_small : (reports : ProjectView → Trace → Report) (project trace : List ℕ) (ended : Ended) → ReportsSo failed outside.files_before outside.files_now reports project trace ended → 6 < status_of ended → ⊥
  reports_small reports project trace ended (ReportsSo.reported found heard first second ends) more = report_small _ ended ends more
  reports_small reports project trace ended (ReportsSo.refused kind refuses) more = file_small ended kind more
  reports_small reports project trace ended (ReportsSo.no_memory told is) more = memory_small ended is more

  -- only `pipe` ends with them
  only_pipe : (P : Type 0) (task : Task) (ended : Ended) → DoesTask outside task ended → 6 < status_of ended → ((name : List ℕ) (entries : ℕ) → task ≡ Pipe name entries → Pipes outside name entries ended → P) → P
  only_pipe P (Pipe project entries) ended h more use_it = use_it project entries refl h
  only_pipe P (Check project trace) ended h more use_it = absurd (reports_small check_report project trace ended h.reports_so more)
  only_pipe P (Replay project trace) ended h more use_it = absurd (reports_small replay_report project trace ended h.reports_so more)
  only_pipe P (ListUnits project) ended h more use_it = absurd (lists_small h.lists_so)
    where
      lists_small : ListsSo failed outside.files_before outside.files_now project ended → ⊥
      lists_small (ListsSo.reported found sources built outcomes told listing ends) = report_small _ ended ends more
      lists_small (ListsSo.refused kind told) = file_small ended kind more
  only_pipe P (Generate folder units seed) ended h more use_it = absurd (gen_never _ _ outside.files_before outside.files_now folder units seed ended (status_of ended) h.generates_so (λ e. omega (arith, e, more)) (λ e. omega (arith, e, more)) (λ e. omega (arith, e, more)) refl)

  -- and only over a link that was served
  only_served : (P : Type 0) (name : List ℕ) (entries : ℕ) (ended : Ended) → Pipes outside name entries ended → 6 < status_of ended
      → ((how : ConnEnd) (project : ProjectView) → status_of ended ≡ status_of (Served how) → Told (FindsProject failed name (Ok project)) outside.files_before outside.files_now → Told (ServesAlone project entries how) (outside.octets outside.link_before) (outside.octets outside.link_now) → P) → P
  only_served P name entries ended (served how serves is) more use_it = use_it how serves.project (ap status_of is) serves.reads serves.serves
  only_served P name entries ended (refused kind reads keeps link) more use_it = absurd (file_small ended kind more)
  only_served P name entries ended (no_memory aside is) more use_it = absurd (memory_small ended is more)

  -- the link of a run that ends so
  abbrev served_so : (Octets → Octets → Type 0) → Type 0
  served_so R = Told R (outside.octets outside.link_before) (outside.octets outside.link_now)

  pub task_seven : (task : Task) (ended : Ended) → DoesTask outside task ended → status_of ended ≡ 7 → served_so EndsInBlock
  task_seven task ended h seven = only_pipe (served_so EndsInBlock) task ended h (omega (arith, seven)) (λ name entries is pipes.
      only_served (served_so EndsInBlock) name entries ended pipes (omega (arith, seven)) (λ how project status reads serves. Told-map {R = ServesAlone project entries how} {S = EndsInBlock} (λ x y s. inside_at project entries how (sym status ∙ seven) x y s) serves))

  pub task_eight : (task : Task) (ended : Ended) → DoesTask outside task ended → status_of ended ≡ 8 → served_so ReadsBeyond
  task_eight task ended h eight = only_pipe (served_so ReadsBeyond) task ended h (omega (arith, eight)) (λ name entries is pipes.
      only_served (served_so ReadsBeyond) name entries ended pipes (omega (arith, eight)) (λ how project status reads serves. Told-map {R = ServesAlone project entries how} {S = ReadsBeyond} (λ x y s. beyond_at project entries how (sym status ∙ eight) x y s) serves))

  module _ (words : List (String Global)) where
    pub task_nine : (task : Task) (ended : Ended) → AsksFor (map string_bytes words) task → DoesTask outside task ended → status_of ended ≡ 9 → FillsHistory outside words
    task_nine task ended asks h nine = only_pipe (FillsHistory outside words) task ended h (omega (arith, nine)) (λ name entries is pipes.
        only_served (FillsHistory outside words) name entries ended pipes (omega (arith, nine)) (λ how project status reads serves. record {
          name = name;
          entries = entries;
          asks = subst (λ some. AsksFor (map string_bytes words) some) is asks;
          project = project;
          declared = told_before {R = FindsProject failed name (Ok project)} (λ content. DeclaresProject (content name) project) (λ x y found. found.so) outside.files_before outside.files_now reads;
          too_much = Told-map {R = ServesAlone project entries how} {S = ReadsTooMuch project entries} (λ x y s. full_at project entries how (sym status ∙ nine) x y s) serves;
        }))

    module _ (output : Output) where
      -- why a run ends with 6
      pub names_refused : (task : Task) (ended : Ended) → AsksFor (map string_bytes words) task → DoesTask outside task ended → Told (Speaks ended output.faults_before output.faults_now) output.before output.now → status_of ended ≡ 6 → NamesRefused outside output words
      names_refused task ended asks h told six = record { task = task; asks = asks; ended = ended; status_is = six; message = six_speaks ended six output.faults_before output.faults_now output.before output.now told; refused = task_six task ended h six }

      -- ---- statuses 0 and 1

      module _ (good : Bool) (ended : Ended) (status_is : status_of ended ≡ status_by good) (told : Told (Speaks ended output.faults_before output.faults_now) output.before output.now) where
        judges : (task : Task) (report : Report) → AsksFor (map string_bytes words) task → IsReport task → EndsIn report ended → IfSome outside.files_before (λ content. IsReportOf content task report) → Judges outside output words good
        judges task report asks is_report ends over =
            let whole = whole_by report ended good ends status_is in
            record { task = task; asks = asks; is_report = is_report; report = report; judged = whole.1; over = over; printed = subst (λ some. Told (Speaks some output.faults_before output.faults_now) output.before output.now) whole.0 told }

        -- what a report says of what it was asked over
        pub task_judges : (task : Task) → AsksFor (map string_bytes words) task → IsReport task → DoesTask outside task ended → Judges outside output words good
        task_judges (Pipe project entries) asks is_report h = absurd is_report
        task_judges (Check project trace) asks is_report h = by h.reports_so
          where
            by : ReportsSo failed outside.files_before outside.files_now check_report project trace ended → Judges outside output words good
            by (ReportsSo.reported found heard first second ends) = judges (Check project trace) (check_report found heard) asks is_report ends (over_trace failed check_report project trace found heard outside.files_before outside.files_now first second)
            by (ReportsSo.refused kind refuses) = absurd (file_by_neither ended good kind status_is)
            by (ReportsSo.no_memory gone is) = absurd (never_by 3 good (λ d. omega (arith, d)) (λ d. omega (arith, d)) (sym (ap status_of is) ∙ status_is))
        task_judges (Replay project trace) asks is_report h = by h.reports_so
          where
            by : ReportsSo failed outside.files_before outside.files_now replay_report project trace ended → Judges outside output words good
            by (ReportsSo.reported found heard first second ends) = judges (Replay project trace) (replay_report found heard) asks is_report ends (over_trace failed replay_report project trace found heard outside.files_before outside.files_now first second)
            by (ReportsSo.refused kind refuses) = absurd (file_by_neither ended good kind status_is)
            by (ReportsSo.no_memory gone is) = absurd (never_by 3 good (λ d. omega (arith, d)) (λ d. omega (arith, d)) (sym (ap status_of is) ∙ status_is))
        task_judges (ListUnits project) asks is_report h = by h.lists_so
          where
            by : ListsSo failed outside.files_before outside.files_now project ended → Judges outside output words good
            by (ListsSo.reported found sources built outcomes stay listing ends) = judges (ListUnits project) (list_report found outcomes) asks is_report ends
                (told_before (λ content. IsOverUnits content project (list_report found outcomes)) (λ x y kept. record { project = found; sources = sources; built = built; outcomes = outcomes; holds = kept.so; listing = listing; report_is = refl }) outside.files_before outside.files_now stay)
            by (ListsSo.refused kind gone) = absurd (file_by_neither ended good kind status_is)
        task_judges (Generate folder units seed) asks is_report h = absurd is_report
