use Rattle.mapper_commands.specs.Replays.{whole_report}
use Rattle.mapper_commands.proofs.Reporting.{issues_cut, issues_whole}
use Rattle.mapper_commands.proofs.replay.issue_replay.Goals as goal

pub returns-in-Ok-clause-issued : goal.returns-in-Ok-clause-issued
returns-in-Ok-clause-issued g c =
    issues_whole (whole_report c.args.project.now c.args.trace.now) _ c.in-Ok.field-0 c.in-Ok.ensures.cause.kept c.in-Ok.ensures.text

pub returns-clause-issued : goal.returns-clause-issued
returns-clause-issued g c =
    issues_cut (whole_report c.args.project.now c.args.trace.now) _ c.in-Err.field-0 c.in-Err.ensures.cause.failed c.in-Err.ensures.text
