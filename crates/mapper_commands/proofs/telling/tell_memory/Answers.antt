use Rattle.std.proofs.Common.{inl, refl}
use Rattle.mapper_commands.specs.Endings.{OutOfMemory}
use Rattle.mapper_commands.proofs.telling.tell_memory.Goals as goal

pub returns : goal.returns
returns g c = record { ending = OutOfMemory; status_is = refl; spoken = c.print_text.ensures.written; cause = c.print_text.ensures.cause; so = inl refl }
