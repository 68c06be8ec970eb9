use Rattle.export_lists.proofs.RoundParts.{IsEnd}
use Rattle.export_lists.proofs.rounds.end_rounds.Given as goal

abbrev pub invariant-loop-number : goal.invariant-loop-number
invariant-loop-number l = IsEnd l.project l.fn.slots l.slots l.number
