use Rattle.trace_text.proofs.Following.{Follows}
use Rattle.trace_text.proofs.legal.check_legal.Given as goal

abbrev pub invariant-loop-place : goal.invariant-loop-place
invariant-loop-place l = Follows l.project l.trace l.tally l.place
