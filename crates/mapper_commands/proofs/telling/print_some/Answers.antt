use Rattle.mm_outside.specs.declared.errors.Failed.{Failed}
use Rattle.mapper_server.proofs.Printed.{told_prints}
use Rattle.mapper_commands.proofs.telling.print_some.Goals as goal

pub returns-clause-written : goal.returns-clause-written
returns-clause-written g c = told_prints (Unit {0}) Failed c.print.result _ _ _ _ _ c.print.ensures.cause c.print.ensures.written
