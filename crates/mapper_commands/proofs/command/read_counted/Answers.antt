use Rattle.std.proofs.Common.{refl}
use Rattle.mapper_commands.specs.Commands.{counted}
use Rattle.mapper_commands.proofs.command.read_counted.Goals as goal

pub returns-in-Some-clause-asked : goal.returns-in-Some-clause-asked
returns-in-Some-clause-asked c = counted c.args.project.now c.args.word.now c.in-Some.entries refl c.in-Some.ensures.number refl
