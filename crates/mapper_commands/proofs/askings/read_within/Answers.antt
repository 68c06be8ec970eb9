use Rattle.std.proofs.Common.{arith}
use Rattle.mapper_commands.proofs.AskedLemmas.{lies_between}
use Rattle.mapper_commands.proofs.askings.read_within.Goals as goal

pub returns-else-low-number-clause-none : goal.returns-else-low-number-clause-none
returns-else-low-number-clause-none c = λ number h.
    let bounds = lies_between c.args.low c.args.high c.args.word.now c.in-Some.number number (omega arith) c.in-Some.ensures.number (omega arith) h in
    omega (arith, bounds.0, bounds.1, c.else-low-number.either)
