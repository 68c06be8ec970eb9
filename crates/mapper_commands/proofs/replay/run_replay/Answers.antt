use Rattle.std.proofs.Common.{◌≡◌, rules, subst}
use Rattle.mapper_commands.specs.Endings.{OutOfMemory, Tells, output_of, told_by}
use Rattle.mapper_commands.proofs.Reporting.{report_issued, report_out, report_refused}
use Rattle.mapper_commands.proofs.Statuses.{kept_told}
use Rattle.mapper_commands.proofs.replay.run_replay.Goals as goal

pub returns-in-Ok-replay_trace-clause-run : goal.returns-in-Ok-replay_trace-clause-run
returns-in-Ok-replay_trace-clause-run g c = report_issued _ _ _ _ _ _ _ _ c.in-Ok.sources.project c.in-Ok.sources.trace c.in-Ok.ensures.found.0 c.in-Ok.ensures.found.1 c.in-Ok-replay_trace.ensures.issued

pub returns-in-Ok-clause-run : goal.returns-in-Ok-clause-run
returns-in-Ok-clause-run g c =
    let same : c.replay_trace.new.out ≡ c.args.out.now = search rules in
    report_out _ _ _ _ _ _ _ _ c.in-Ok.sources.project c.in-Ok.sources.trace c.in-Ok.ensures.found.0 c.in-Ok.ensures.found.1
    (subst (λ old. Tells OutOfMemory (output_of g.K.Sink.written g.K.Sink.faults old c.tell_memory.new.out) c.tell_memory.result) same c.tell_memory.ensures)

pub returns-clause-run : goal.returns-clause-run
returns-clause-run g c = report_refused _ _ _ _ _ _ _ _ (told_by c.in-Err.ending) c.in-Err.ensures.kind c.in-Err.ensures.found c.tell.ensures

pub returns-clause-unhidden : goal.returns-clause-unhidden
returns-clause-unhidden g c = kept_told (told_by c.in-Err.ending) _ _ _ _ c.in-Err.ensures.kept c.tell.ensures
