use Rattle.std.proofs.Common.{ap, refl, subst}
use Rattle.mapper_commands.specs.Commands.{Pipe, Check, Replay, ListUnits, Generate, task_of, AsksFor}
use Rattle.mapper_commands.proofs.PrintLemmas.{ends_map}
use Rattle.mapper_commands.proofs.Runnings.{piped_unhidden}
use Rattle.mapper_commands.proofs.Tasks.{ends_same, gen_bounds}
use Rattle.mapper_commands.proofs.Writings.{gen_kept}
use Rattle.mapper_commands.proofs.alone.run_command.Goals as goal

pub run_gen-requires : goal.run_gen-requires
run_gen-requires g c =
    let bounds = gen_bounds c.requires.0 c.in-Gen.folder.now c.in-Gen.units c.in-Gen.seed (subst (λ task. AsksFor c.requires.0 task) (ap task_of c.in-Gen.is) c.requires.1) in
    record { folder = bounds.0; units = bounds.1 }

pub returns-in-Pipe-clause-run : goal.returns-in-Pipe-clause-run
returns-in-Pipe-clause-run g c = ends_same _ (Pipe c.in-Pipe.project.now c.in-Pipe.entries) _ _ _ (ap task_of c.in-Pipe.is) c.run_pipe.ensures.run

pub returns-in-Check-clause-run : goal.returns-in-Check-clause-run
returns-in-Check-clause-run g c = ends_same _ (Check c.in-Check.project.now c.in-Check.trace.now) _ _ _ (ap task_of c.in-Check.is) (ends_map (λ ended so. record { reports_so = so; link = refl }) c.run_check.ensures.run)

pub returns-in-Replay-clause-run : goal.returns-in-Replay-clause-run
returns-in-Replay-clause-run g c = ends_same _ (Replay c.in-Replay.project.now c.in-Replay.trace.now) _ _ _ (ap task_of c.in-Replay.is) (ends_map (λ ended so. record { reports_so = so; link = refl }) c.run_replay.ensures.run)

pub returns-in-List-clause-run : goal.returns-in-List-clause-run
returns-in-List-clause-run g c = ends_same _ (ListUnits c.in-List.project.now) _ _ _ (ap task_of c.in-List.is) (ends_map (λ ended so. record { lists_so = so; link = refl }) c.run_list.ensures.run)

pub returns-in-Gen-clause-run : goal.returns-in-Gen-clause-run
returns-in-Gen-clause-run g c = ends_same _ (Generate c.in-Gen.folder.now c.in-Gen.units c.in-Gen.seed) _ _ _ (ap task_of c.in-Gen.is) (ends_map (λ ended so. record { generates_so = so; reads = c.run_gen.ensures.read_faults; link = refl }) c.run_gen.ensures.run)

pub returns-in-Pipe-clause-unhidden : goal.returns-in-Pipe-clause-unhidden
returns-in-Pipe-clause-unhidden g c =
    let run = c.run_pipe.ensures.run in
    piped_unhidden _ c.in-Pipe.project.now c.in-Pipe.entries run.ending _ run.status_is run.so c.run_pipe.ensures.files (λ same. ap (λ link. g.L.Link.read_faults link) same) (λ same. ap (λ link. g.L.Link.write_faults link) same)

pub returns-in-Check-clause-unhidden : goal.returns-in-Check-clause-unhidden
returns-in-Check-clause-unhidden g c = record { file_reads = c.run_check.ensures.unhidden; file_writes = λ five. c.run_check.ensures.files; link_reads = λ four. refl; link_writes = λ five. refl }

pub returns-in-Replay-clause-unhidden : goal.returns-in-Replay-clause-unhidden
returns-in-Replay-clause-unhidden g c = record { file_reads = c.run_replay.ensures.unhidden; file_writes = λ five. c.run_replay.ensures.files; link_reads = λ four. refl; link_writes = λ five. refl }

pub returns-in-List-clause-unhidden : goal.returns-in-List-clause-unhidden
returns-in-List-clause-unhidden g c = record { file_reads = c.run_list.ensures.unhidden; file_writes = λ five. c.run_list.ensures.files; link_reads = λ four. refl; link_writes = λ five. refl }

pub returns-in-Gen-clause-unhidden : goal.returns-in-Gen-clause-unhidden
returns-in-Gen-clause-unhidden g c =
    let run = c.run_gen.ensures.run in
    record { file_reads = λ three four. c.run_gen.ensures.read_faults; file_writes = gen_kept _ _ _ _ c.in-Gen.folder.now c.in-Gen.units c.in-Gen.seed run.ending _ run.status_is run.so; link_reads = λ four. refl; link_writes = λ five. refl }

pub returns-in-Pipe-clause-files : goal.returns-in-Pipe-clause-files
returns-in-Pipe-clause-files g c = λ none. c.run_pipe.ensures.files

pub returns-in-Check-clause-files : goal.returns-in-Check-clause-files
returns-in-Check-clause-files g c = λ none. c.run_check.ensures.files

pub returns-in-Replay-clause-files : goal.returns-in-Replay-clause-files
returns-in-Replay-clause-files g c = λ none. c.run_replay.ensures.files

pub returns-in-List-clause-files : goal.returns-in-List-clause-files
returns-in-List-clause-files g c = λ none. c.run_list.ensures.files

pub returns-in-Gen-clause-files : goal.returns-in-Gen-clause-files
returns-in-Gen-clause-files g c = λ none. absurd (none c.in-Gen.folder.now c.in-Gen.units c.in-Gen.seed (ap task_of c.in-Gen.is))
