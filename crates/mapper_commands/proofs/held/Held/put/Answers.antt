use Rattle.std.proofs.Common.{[]}
use Rattle.mapper_commands.proofs.Puttings.{puts_then}
use Rattle.mapper_commands.proofs.held.Held.put.Goals as goal

pub returns-in-Ok-clause-text : goal.returns-in-Ok-clause-text
returns-in-Ok-clause-text g c = puts_then _ _ _ c.put_anew.result c.in-Ok.field-0 [] c.args.text.now c.args.self.now.octets c.flush.new.self.octets c.put_anew.new.self.octets c.in-Ok.ensures.text c.put_anew.ensures.text
