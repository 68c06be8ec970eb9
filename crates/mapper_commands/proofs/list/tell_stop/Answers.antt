use Rattle.mapper_commands.proofs.Listers.{out_in_place}
use Rattle.mapper_commands.proofs.list.tell_stop.Goals as goal

pub returns-in-Err : goal.returns-in-Err
returns-in-Err g c = out_in_place _ _ _ c.tell_memory.ensures
