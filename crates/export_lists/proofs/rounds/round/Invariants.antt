use Rattle.export_lists.proofs.RoundParts.{IsPart}
use Rattle.export_lists.proofs.rounds.round.Given as goal

abbrev pub invariant-loop-number : goal.invariant-loop-number
invariant-loop-number l = IsPart l.project l.fn.slots l.slots l.number l.changed
