use Rattle.std.proofs.Common.{arith}
use Rattle.module_lexer.proofs.Runs.{has_close-take, has_close_none}
use Rattle.module_lexer.proofs.lengths.close_at.Goals as goal

pub returns-then-octets-lt2-clause-none : goal.returns-then-octets-lt2-clause-none
returns-then-octets-lt2-clause-none c = has_close_none c.args.octets.now (λ k lt. absurd (omega arith))

pub returns-then-octets-place-eq47-clause-first : goal.returns-then-octets-place-eq47-clause-first
returns-then-octets-place-eq47-clause-first c = has_close-take _ _ (λ k lt. c.loop-place.invariant k (omega arith))

pub returns-clause-none : goal.returns-clause-none
returns-clause-none c = has_close_none c.args.octets.now (λ k lt. c.loop-place.invariant k (omega arith))
