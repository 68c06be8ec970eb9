use Rattle.std.proofs.Common.{length, sym, ap, subst, ◌∙◌}
use Rattle.trace_text.specs.Legal.{TellsIllegal}
use Rattle.mapper_commands.specs.Reports.{check_report, illegal_report, legal_report}
use Rattle.mapper_commands.proofs.Reporting.{issues_same, illegal_is, legal_is}
use Rattle.mapper_commands.proofs.check.check_trace.Goals as goal

pub returns-in-Ok-clause-issued : goal.returns-in-Ok-clause-issued
returns-in-Ok-clause-issued g c =
    issues_same (legal_report c.len.result) (check_report c.args.project.now c.args.trace.now) _ _
    (ap legal_report c.len.ensures ∙ sym (legal_is c.args.project.now c.args.trace.now (legal_report (length c.args.trace.now.entries)) c.in-Ok.ensures.legal)) c.issue_legal.ensures

pub returns-in-Err-Illegal-clause-issued : goal.returns-in-Err-Illegal-clause-issued
returns-in-Err-Illegal-clause-issued g c =
    issues_same (illegal_report c.in-Err-Illegal.place c.in-Err-Illegal.reason) (check_report c.args.project.now c.args.trace.now) _ _
    (sym (illegal_is c.args.project.now c.args.trace.now (legal_report (length c.args.trace.now.entries)) c.in-Err-Illegal.place c.in-Err-Illegal.reason (subst (λ error. TellsIllegal c.args.project.now c.args.trace.now error) c.in-Err-Illegal.field-0-is c.in-Err-Illegal.ensures.illegal))) c.issue_illegal.ensures
