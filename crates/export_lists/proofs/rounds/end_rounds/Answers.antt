use Rattle.std.proofs.Common.{arith}
use Rattle.export_lists.proofs.RoundParts.{end_more, end_all}
use Rattle.export_lists.proofs.rounds.end_rounds.Goals as goal

pub loop-number-preserved : goal.loop-number-preserved
loop-number-preserved c =
    end_more c.args.project.now c.args.slots.now c.loop-number.slots c.write_outcome.new.slots c.loop-number.number c.in_ok-outcome.outcome c.in_ok-outcome.ensures c.write_outcome.ensures.slots c.loop-number.invariant

pub returns-clause-over : goal.returns-clause-over
returns-clause-over c = end_all c.args.project.now c.args.slots.now c.loop-number.slots c.loop-number.number (omega (arith, c.requires.count, c.unit_count-number-end.ensures.count)) c.loop-number.invariant
