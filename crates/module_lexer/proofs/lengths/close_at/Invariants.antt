use Rattle.std.proofs.Common.{ℕ, ◌<◌}
use Rattle.module_lexer.proofs.Runs.{NoCloseAt}
use Rattle.module_lexer.proofs.lengths.close_at.Given as goal

abbrev pub invariant-loop-place : goal.invariant-loop-place
invariant-loop-place l = (k : ℕ) → k < l.place → NoCloseAt l.octets k
