use Rattle.std.proofs.Common.{arith, ap, subst, ◌∙◌}
use Rattle.std.specs.Prelude.{Result, Err}
use Rattle.export_lists.specs.declared.distinct.LineError.{LineError}
use Rattle.export_lists.specs.declared.draft.Draft.{Draft}
use Rattle.export_lists.specs.Drafts.{TakesLine}
use Rattle.export_lists.proofs.RowTexts.{clean_from}
use Rattle.export_lists.proofs.CmiRows.{line_faulty, read_none, read_more, ended_well, ended_badly}
use Rattle.export_lists.proofs.cmi_reader.read_cmi.Goals as goal

pub loop-line-init : goal.loop-line-init
loop-line-init c = (read_none c.args.octets.now, omega arith)

pub loop-line-preserved : goal.loop-line-preserved
loop-line-preserved c =
    let taken = c.in-Ok.ensures in (
      read_more c.args.octets.now c.loop-line.draft c.in-Ok.next c.loop-line.number c.loop-line.rest.now c.in-Some.line.now c.in-Some.behind.now taken.0
          c.loop-line.invariant.0 c.in-Some.ensures.whole taken.1 taken.2,
      omega (arith, c.in-Some.ensures.shorter, c.loop-line.invariant.1),
    )

pub returns-in-Err-Fault-clause-fault : goal.returns-in-Err-Fault-clause-fault
returns-in-Err-Fault-clause-fault c =
    line_faulty c.args.octets.now c.loop-line.draft c.loop-line.number c.loop-line.rest.now c.in-Some.line.now c.in-Some.behind.now
    c.loop-line.invariant.0 c.in-Some.ensures.whole (clean_from c.in-Some.line.now c.in-Some.ensures.front)
    (subst (λ (r : Result Draft LineError). TakesLine r c.loop-line.draft c.in-Some.line.now) (c.in-Err-Fault.is ∙ ap Err c.in-Err-Fault.field-0-is) c.with_line.ensures)

pub returns-clause-cmi : goal.returns-clause-cmi
returns-clause-cmi c = ended_well c.args.octets.now c.loop-line.draft c.loop-line.number c.loop-line.rest.now c.end_draft.result c.loop-line.invariant.0 c.end_draft.ensures

pub returns-clause-fault : goal.returns-clause-fault
returns-clause-fault c =
    ended_badly c.args.octets.now c.loop-line.draft c.loop-line.number c.loop-line.rest.now c.end_draft.result c.loop-line.invariant.0
    (clean_from c.loop-line.rest.now c.in_default.ensures.none) c.end_draft.ensures
