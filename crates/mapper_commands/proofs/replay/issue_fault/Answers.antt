use Rattle.std.proofs.Common.{sym}
use Rattle.mapper_commands.specs.Reports.{illegal_report}
use Rattle.mapper_commands.specs.Replays.{replay_report, whole_report}
use Rattle.mapper_commands.proofs.Reporting.{issues_same, illegal_is}
use Rattle.mapper_commands.proofs.replay.issue_fault.Goals as goal

pub returns : goal.returns
returns g c =
    issues_same (illegal_report c.args.place c.args.reason) (replay_report c.args.project.now c.args.trace.now) _ c.issue_illegal.result
    (sym (illegal_is c.args.project.now c.args.trace.now (whole_report c.args.project.now c.args.trace.now) c.args.place c.args.reason c.requires.fault)) c.issue_illegal.ensures
