use Rattle.histories.proofs.LegalCounts.{room_is_used_up}
use Rattle.histories.proofs.laws.room_is_used_up.Goals as goal

pub returns : goal.returns
returns c = room_is_used_up
