use Rattle.std.proofs.Common.{length, ◌-◌}
use Rattle.module_lexer.proofs.Cuts.{CutBefore}
use Rattle.module_lexer.proofs.lexed.Lexed.read.Given as goal

abbrev pub invariant-loop-place : goal.invariant-loop-place
invariant-loop-place l = CutBefore l.text l.tokens l.place l.line

abbrev pub decreases-loop-place : goal.decreases-loop-place
decreases-loop-place l = length l.text - l.place
