use Rattle.std.proofs.Common.{◌≡◌, rules, subst}
use Rattle.mm_outside.specs.Causes.{Rose}
use Rattle.mapper_commands.specs.Endings.{OutOfMemory, Tells, output_of, told_by}
use Rattle.mapper_commands.specs.ListRuns.{HoldsProject, ended_by}
use Rattle.mapper_commands.proofs.Gatherings.{built_have_names}
use Rattle.mapper_commands.proofs.Reporting.{rose_since}
use Rattle.mapper_commands.proofs.Listers.{all_taken, file_refused, of_stop, out_run, reported_run, told_run, unit_stops}
use Rattle.mapper_commands.proofs.Statuses.{keeps_since, kept_told}
use Rattle.mapper_commands.proofs.list.run_list.Goals as goal

pub gather-requires : goal.gather-requires
gather-requires g c = record { named = built_have_names c.in-Ok.project c.in-Ok.ensures.declared c.units_differ.ensures.kinds }

pub returns-in-Err-clause-run : goal.returns-in-Err-clause-run
returns-in-Err-clause-run g c = told_run _ _ _ c.args.name.now _ _ (told_by c.in-Err.ending) c.in-Err.ensures.kind c.tell.ensures (file_refused _ c.args.name.now (told_by c.in-Err.ending) _ _ c.in-Err.ensures.content)

pub returns-in-Err-clause-unhidden : goal.returns-in-Err-clause-unhidden
returns-in-Err-clause-unhidden g c = kept_told (told_by c.in-Err.ending) _ _ _ _ c.in-Err.ensures.kept c.tell.ensures

pub returns-in-Ok-report_on-clause-run : goal.returns-in-Ok-report_on-clause-run
returns-in-Ok-report_on-clause-run g c =
    reported_run _ _ _ c.args.name.now _ _ c.in-Ok.project c.in-Ok-gather.gathered.sources c.in-Ok-gather.gathered.built
    (all_taken (Rose (g.F.Files.read_faults c.args.files.now) (g.F.Files.read_faults c.read_project.new.files)) c.args.name.now c.in-Ok.project c.in-Ok-gather.gathered.sources c.in-Ok-gather.gathered.built _ _ _ c.in-Ok.ensures.content c.in-Ok-gather.ensures.files)
    c.in-Ok-report_on.ensures.issued

pub returns-in-Ok-gather-clause-run : goal.returns-in-Ok-gather-clause-run
returns-in-Ok-gather-clause-run g c =
    let same : c.report_on.new.out ≡ c.args.out.now = search rules in
    out_run _ _ _ c.args.name.now _ _ (HoldsProject c.args.name.now c.in-Ok.project c.in-Ok-gather.gathered.sources c.in-Ok-gather.gathered.built)
    (all_taken (Rose (g.F.Files.read_faults c.args.files.now) (g.F.Files.read_faults c.read_project.new.files)) c.args.name.now c.in-Ok.project c.in-Ok-gather.gathered.sources c.in-Ok-gather.gathered.built _ _ _ c.in-Ok.ensures.content c.in-Ok-gather.ensures.files)
    (subst (λ old. Tells OutOfMemory (output_of g.K.Sink.written g.K.Sink.faults old c.tell_memory.new.out) c.tell_memory.result) same c.tell_memory.ensures)

pub returns-clause-run : goal.returns-clause-run
returns-clause-run g c =
    told_run _ _ _ c.args.name.now _ _ (ended_by c.in-Ok.project c.in-Err-gather.stop) (of_stop c.in-Ok.project c.in-Err-gather.stop) c.tell_stop.ensures
    (unit_stops (Rose (g.F.Files.read_faults c.args.files.now) (g.F.Files.read_faults c.read_project.new.files)) (Rose (g.F.Files.read_faults c.read_project.new.files) (g.F.Files.read_faults c.gather.new.files)) (Rose (g.F.Files.read_faults c.args.files.now) (g.F.Files.read_faults c.gather.new.files))
    (rose_since (g.F.Files.read_faults c.args.files.now) (g.F.Files.read_faults c.read_project.new.files) (g.F.Files.read_faults c.gather.new.files) c.in-Ok.ensures.read_faults)
    c.args.name.now c.in-Ok.project (ended_by c.in-Ok.project c.in-Err-gather.stop) _ _ _ c.in-Ok.ensures.content c.in-Err-gather.ensures.files)

pub returns-clause-unhidden : goal.returns-clause-unhidden
returns-clause-unhidden g c =
    kept_told (ended_by c.in-Ok.project c.in-Err-gather.stop) _ _ _ _ (keeps_since (ended_by c.in-Ok.project c.in-Err-gather.stop) _ _ _ c.in-Ok.ensures.kept c.in-Err-gather.ensures.kept) c.tell_stop.ensures

pub tell_stop-requires-clause-named : goal.tell_stop-requires-clause-named
tell_stop-requires-clause-named g c = built_have_names c.in-Ok.project c.in-Ok.ensures.declared c.units_differ.ensures.kinds
