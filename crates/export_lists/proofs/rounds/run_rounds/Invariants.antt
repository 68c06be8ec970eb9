use Rattle.export_lists.proofs.RoundParts.{AreRounds}
use Rattle.export_lists.proofs.rounds.run_rounds.Given as goal

abbrev pub invariant-loop-round : goal.invariant-loop-round
invariant-loop-round l = AreRounds l.project l.fn.slots l.slots l._round
