use Rattle.mapper_commands.proofs.Gatherings.{source_so}
use Rattle.mapper_commands.proofs.unit_files.read_source.Goals as goal

pub returns-clause-file : goal.returns-clause-file
returns-clause-file g c = source_so _ c.args.project.now c.args.unit c.read_file.result c.ident.result.now _ _ c.requires.source c.ident.ensures.ident c.read_file.ensures.file
