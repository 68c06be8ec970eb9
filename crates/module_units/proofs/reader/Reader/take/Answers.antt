use Rattle.module_units.proofs.Taking.{taken}
use Rattle.module_units.proofs.reader.Reader.take.Goals as goal

pub returns : goal.returns
returns c = taken c.args.self c.args.terminal _ c.requires.reader c.in_ok-parser.ensures c.behind_of-behind.ensures c.in_ok-fault.ensures.fault c.in_ok-fault.ensures.names
