use Rattle.std.proofs.Common.{rules}
use Rattle.ruled_history.proofs.Turns.{passes_at}
use Rattle.ruled_history.proofs.turn.pass_turn.Goals as goal

pub fetch_add-requires : goal.fetch_add-requires
fetch_add-requires g c = (search rules, search rules, passes_at _ _ _ _ _ _ c.requires.served)
