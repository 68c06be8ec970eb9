use Rattle.modmap.specs.Adapters.{made}
use Rattle.modmap.proofs.disk.write_file.Goals as goal

pub returns-in-Some-clause-file : goal.returns-in-Some-clause-file
returns-in-Some-clause-file g c = made c.in-Some.file c.write_whole.new.writer c.write_whole.ensures.octets
