use Rattle.module_units.proofs.Runs.{read_unit}
use Rattle.module_units.proofs.unit.Unit.read.Goals as goal

pub returns-clause-unit : goal.returns-clause-unit
returns-clause-unit c = (read_unit c.args.text.now _ c.in_ok-reader.reader _ c.finish.result c.in_ok-lexed.ensures.tokens c.in_ok-reader.ensures.read c.end_line.ensures c.finish.ensures).0

pub returns-clause-refused : goal.returns-clause-refused
returns-clause-refused c = (read_unit c.args.text.now _ c.in_ok-reader.reader _ c.finish.result c.in_ok-lexed.ensures.tokens c.in_ok-reader.ensures.read c.end_line.ensures c.finish.ensures).1
