use Rattle.std.proofs.Common.{IfOk, sym, subst}
use Rattle.trace_text.specs.Legal.{TellsIllegal}
use Rattle.mapper_commands.specs.Endings.{Issues, output_of}
use Rattle.mapper_commands.specs.Replays.{whole_report}
use Rattle.mapper_commands.proofs.Reporting.{legal_is}
use Rattle.mapper_commands.proofs.replay.replay_trace.Goals as goal

pub returns-in-Ok-clause-issued : goal.returns-in-Ok-clause-issued
returns-in-Ok-clause-issued g c =
    subst (λ report. IfOk c.issue_replay.result (λ status. Issues report (output_of g.K.Sink.written g.K.Sink.faults c.args.out.now c.issue_replay.new.out) status))
    (sym (legal_is c.args.project.now c.args.trace.now (whole_report c.args.project.now c.args.trace.now) c.in-Ok.ensures.legal)) c.issue_replay.ensures.issued

pub issue_fault-requires-clause-fault : goal.issue_fault-requires-clause-fault
issue_fault-requires-clause-fault g c =
    rw c.in-Err-Illegal.field-0-is (subst (λ error. TellsIllegal c.args.project.now c.args.trace.now error) c.in-Err-Illegal.field-0-is c.in-Err-Illegal.ensures.illegal)
