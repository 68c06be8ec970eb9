use Rattle.modmap.specs.Adapters.{opened}
use Rattle.modmap.proofs.disk.read_file.Goals as goal

pub returns-in-Ok-open-clause-file : goal.returns-in-Ok-open-clause-file
returns-in-Ok-open-clause-file g c = opened c.in-Ok-open.file c.read_whole.ensures.octets
