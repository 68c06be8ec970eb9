use Rattle.std.proofs.Common.{◌||◌, ◌+◌, ◌∙◌, arith, sym, ap, subst}
use Rattle.export_lists.proofs.RoundParts.{IsPart, part_more, part_all}
use Rattle.export_lists.proofs.rounds.round.Goals as goal
use Rattle.export_lists.proofs.rounds.round.Goals.{then-changed, else-changed}

pub loop-number-preserved : goal.loop-number-preserved
loop-number-preserved c =
    let next : IsPart c.args.project.now c.args.slots.now c.write_outcome-written.new.slots (c.loop-number.number + 1) (c.loop-number.changed || c.write_outcome-written.result) =
    part_more c.args.project.now c.args.slots.now c.loop-number.slots c.write_outcome-written.new.slots c.loop-number.number c.loop-number.changed c.write_outcome-written.result c.in_ok-outcome.outcome
    c.in_ok-outcome.ensures c.write_outcome-written.ensures.slots c.write_outcome-written.ensures.written c.loop-number.invariant in
    elim c.if-changed.branch [
      | then-changed w ↦ subst (IsPart c.args.project.now c.args.slots.now c.write_outcome-written.new.slots (c.loop-number.number + 1)) (ap (λ b. b || c.write_outcome-written.result) w.if-changed.true ∙ sym w.if-changed.true ∙ sym w.changed-is) next
      | else-changed w ↦ subst (IsPart c.args.project.now c.args.slots.now c.write_outcome-written.new.slots (c.loop-number.number + 1)) (ap (λ b. b || c.write_outcome-written.result) w.if-changed.false ∙ sym w.changed-is) next
    ]

pub returns : goal.returns
returns c = part_all c.args.project.now c.args.slots.now c.loop-number.slots c.loop-number.number c.loop-number.changed (omega (arith, c.requires, c.unit_count-number-end.ensures.count)) c.loop-number.invariant
