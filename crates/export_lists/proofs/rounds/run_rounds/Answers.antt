use Rattle.std.proofs.Common.{arith}
use Rattle.export_lists.proofs.RoundParts.{rounds_start, rounds_all}
use Rattle.export_lists.proofs.rounds.run_rounds.Goals as goal

pub loop-round-init : goal.loop-round-init
loop-round-init c = rounds_start c.args.project.now c.args.slots.now

pub returns-clause-stuck : goal.returns-clause-stuck
returns-clause-stuck c = rounds_all c.args.project.now c.args.slots.now c.loop-round.slots c.loop-round._round (omega (arith, c.requires, c.unit_count-round-end.ensures.count)) c.loop-round.invariant
