use Rattle.std.proofs.Common.{refl}
use Rattle.mapper_commands.specs.ProjectFiles.{at_file}
use Rattle.mapper_commands.proofs.trace_file.read_trace.Goals as goal

pub returns-in-Err-Failed-clause-kept : goal.returns-in-Err-Failed-clause-kept
returns-in-Err-Failed-clause-kept g c = at_file c.args.name.now refl
