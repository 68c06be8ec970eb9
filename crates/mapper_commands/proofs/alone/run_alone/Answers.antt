use Rattle.std.proofs.Common.{true, false, refl, sym, subst, ◌∙◌}
use Rattle.std.specs.Prelude.{map, string_bytes}
use Rattle.mm_outside.proofs.ToldLemmas.{Told-same}
use Rattle.mapper_commands.specs.Commands.{Pipe, task_of, AsksFor}
use Rattle.mapper_commands.specs.Endings.{BadWords}
use Rattle.mapper_commands.specs.Running.{IsReport, nothing, asked}
use Rattle.mapper_commands.proofs.Fitting.{task_fits}
use Rattle.mapper_commands.proofs.Forms.{one_task}
use Rattle.mapper_commands.proofs.MeaningLemmas.{names_refused, task_eight, task_judges, task_nine, task_seven}
use Rattle.mapper_commands.proofs.PrintLemmas.{ends_map}
use Rattle.mapper_commands.proofs.Tasks.{none_whole, task_one, task_two, task_untouched, task_four, task_five, task_keeps, task_reads, task_whole}
use Rattle.mapper_commands.proofs.Runnings.{done_well}
use Rattle.mapper_commands.proofs.Statuses.{ends_well}
use Rattle.mapper_commands.proofs.alone.run_alone.Goals as goal

pub returns-in-Some-clause-run : goal.returns-in-Some-clause-run
returns-in-Some-clause-run g c = ends_map (λ ended so. asked (task_of c.in-Some.command) c.in-Some.ensures.asked so) c.run_command.ensures.run

pub returns-in-Some-clause-words : goal.returns-in-Some-clause-words
returns-in-Some-clause-words g c =
    let run = c.run_command.ensures.run in
    (λ two. absurd (task_two _ (task_of c.in-Some.command) run.ending run.so (sym run.status_is ∙ two)), λ none. absurd (none _ c.in-Some.ensures.asked))

pub returns-in-Some-clause-untouched : goal.returns-in-Some-clause-untouched
returns-in-Some-clause-untouched g c =
    let run = c.run_command.ensures.run in
    task_untouched _ (task_of c.in-Some.command) run.ending _ run.status_is run.so

pub returns-in-Some-clause-idle : goal.returns-in-Some-clause-idle
returns-in-Some-clause-idle g c = λ two.
    let run = c.run_command.ensures.run in
    absurd (task_two _ (task_of c.in-Some.command) run.ending run.so (sym run.status_is ∙ two))

pub returns-in-Some-clause-read_fault : goal.returns-in-Some-clause-read_fault
returns-in-Some-clause-read_fault g c = λ four.
    let run = c.run_command.ensures.run in
    task_four _ c.args.words.now (task_of c.in-Some.command) run.ending c.in-Some.ensures.asked run.so (sym run.status_is ∙ four)

pub returns-in-Some-clause-write_fault : goal.returns-in-Some-clause-write_fault
returns-in-Some-clause-write_fault g c = λ five.
    let run = c.run_command.ensures.run in
    task_five _ (task_of c.in-Some.command) run.ending _ _ run.so run.cause (sym run.status_is ∙ five)

pub returns-in-Some-clause-unfailing : goal.returns-in-Some-clause-unfailing
returns-in-Some-clause-unfailing g c = λ done. done_well _ _ _ c.run_command.ensures.unhidden (ends_well c.run_command.ensures.run done) done

pub returns-in-Some-clause-reads : goal.returns-in-Some-clause-reads
returns-in-Some-clause-reads g c = λ there.
    let run = c.run_command.ensures.run in
    task_reads _ c.args.words.now (task_of c.in-Some.command) run.ending c.in-Some.ensures.asked run.so there

pub returns-in-Some-clause-whole : goal.returns-in-Some-clause-whole
returns-in-Some-clause-whole g c =
    let run = c.run_command.ensures.run in
    task_whole _ c.args.words.now _ (task_of c.in-Some.command) run.ending _ c.in-Some.ensures.asked run.status_is run.so run.cause

pub returns-in-Some-clause-well : goal.returns-in-Some-clause-well
returns-in-Some-clause-well g c = λ zero_is there.
    let run = c.run_command.ensures.run in
    task_judges _ c.args.words.now _ true run.ending (sym run.status_is ∙ zero_is) run.spoken (task_of c.in-Some.command) c.in-Some.ensures.asked
    (subst IsReport (one_task (map string_bytes c.args.words.now) there.task (task_of c.in-Some.command) there.asks c.in-Some.ensures.asked) there.is_report) run.so

pub returns-in-Some-clause-ill : goal.returns-in-Some-clause-ill
returns-in-Some-clause-ill g c = λ one.
    let run = c.run_command.ensures.run in
    task_judges _ c.args.words.now _ false run.ending (sym run.status_is ∙ one) run.spoken (task_of c.in-Some.command) c.in-Some.ensures.asked
    (task_one _ (task_of c.in-Some.command) run.ending run.so (sym run.status_is ∙ one)) run.so

pub returns-in-Some-clause-refused : goal.returns-in-Some-clause-refused
returns-in-Some-clause-refused g c = λ six.
    let run = c.run_command.ensures.run in
    names_refused _ c.args.words.now _ (task_of c.in-Some.command) run.ending c.in-Some.ensures.asked run.so run.spoken (sym run.status_is ∙ six)

pub returns-in-Some-clause-cut : goal.returns-in-Some-clause-cut
returns-in-Some-clause-cut g c = λ seven.
    let run = c.run_command.ensures.run in
    task_seven _ (task_of c.in-Some.command) run.ending run.so (sym run.status_is ∙ seven)

pub returns-in-Some-clause-beyond : goal.returns-in-Some-clause-beyond
returns-in-Some-clause-beyond g c = λ eight.
    let run = c.run_command.ensures.run in
    task_eight _ (task_of c.in-Some.command) run.ending run.so (sym run.status_is ∙ eight)

pub returns-in-Some-clause-fits : goal.returns-in-Some-clause-fits
returns-in-Some-clause-fits g c = λ nine five.
    let run = c.run_command.ensures.run in
    task_fits _ c.args.words.now (task_of c.in-Some.command) run.ending c.in-Some.ensures.asked run.so (λ e. nine (run.status_is ∙ e)) (λ e. five (run.status_is ∙ e))

pub returns-in-Some-clause-full : goal.returns-in-Some-clause-full
returns-in-Some-clause-full g c = λ nine.
    let run = c.run_command.ensures.run in
    task_nine _ c.args.words.now (task_of c.in-Some.command) run.ending c.in-Some.ensures.asked run.so (sym run.status_is ∙ nine)

pub returns-in-Some-clause-others : goal.returns-in-Some-clause-others
returns-in-Some-clause-others g c =
    let run = c.run_command.ensures.run in
    task_keeps _ c.args.words.now (task_of c.in-Some.command) run.ending c.in-Some.ensures.asked run.so

pub returns-in-Some-clause-files : goal.returns-in-Some-clause-files
returns-in-Some-clause-files g c = λ none. c.run_command.ensures.files (λ folder units seed is. none (record { folder = folder; units = units; seed = seed; asks = subst (λ task. AsksFor (map string_bytes c.args.words.now) task) is c.in-Some.ensures.asked }))

pub returns-in-None-clause-run : goal.returns-in-None-clause-run
returns-in-None-clause-run g c = record { ending = BadWords; status_is = refl; spoken = c.print_text.ensures.written; cause = c.print_text.ensures.cause; so = nothing c.in-None.ensures.none refl (record { files = Told-same (λ x. refl); link = refl }) }

pub returns-in-None-clause-words : goal.returns-in-None-clause-words
returns-in-None-clause-words g c = (λ two. c.in-None.ensures.none, λ none. refl)

pub returns-in-None-clause-fits : goal.returns-in-None-clause-fits
returns-in-None-clause-fits g c = λ nine five name entries project asks known. absurd (c.in-None.ensures.none (Pipe name entries) asks)

pub returns-in-None-clause-whole : goal.returns-in-None-clause-whole
returns-in-None-clause-whole g c = λ hinders. absurd (none_whole _ _ c.args.words.now c.in-None.ensures.none hinders)

pub returns-in-None-clause-others : goal.returns-in-None-clause-others
returns-in-None-clause-others g c = Told-same (λ x. λ name spared. refl)

pub returns-in-None-clause-unhidden : goal.returns-in-None-clause-unhidden
returns-in-None-clause-unhidden g c = record { file_reads = λ three four. refl; file_writes = λ five. refl; link_reads = λ four. refl; link_writes = λ five. refl }

pub returns-in-None-clause-idle : goal.returns-in-None-clause-idle
returns-in-None-clause-idle g c = λ two. refl

pub returns-in-None-clause-files : goal.returns-in-None-clause-files
returns-in-None-clause-files g c = λ none. refl
