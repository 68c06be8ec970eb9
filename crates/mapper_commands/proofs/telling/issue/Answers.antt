use Rattle.std.proofs.Common.{◌≡◌, true, false, rules}
use Rattle.mapper_commands.proofs.Reporting.{issues_cut, issues_good, issues_bad}
use Rattle.mapper_commands.proofs.telling.issue.Goals as goal

pub returns-in-Ok : goal.returns-in-Ok
returns-in-Ok g c =
    let well : c.args.good ≡ true = search rules in
    issues_good c.args.report.now c.args.good _ c.in-Ok.field-0 well c.in-Ok.ensures.cause.kept c.in-Ok.ensures.written

pub returns-in-Ok-2 : goal.returns-in-Ok-2
returns-in-Ok-2 g c =
    let ill : c.args.good ≡ false = search rules in
    issues_bad c.args.report.now c.args.good _ c.in-Ok-2.field-0 ill c.in-Ok-2.ensures.cause.kept c.in-Ok-2.ensures.written

pub returns-in-Err : goal.returns-in-Err
returns-in-Err g c = issues_cut (record { text = c.args.report.now; good = c.args.good }) _ c.in-Err.field-0 c.in-Err.ensures.cause.failed c.in-Err.ensures.written
