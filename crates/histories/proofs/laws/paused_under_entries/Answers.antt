use Rattle.histories.proofs.Pauses.{paused_own, paused_since}
use Rattle.histories.proofs.laws.paused_under_entries.Goals as goal

pub returns-clause-own : goal.returns-clause-own
returns-clause-own c = paused_own

pub returns-clause-others : goal.returns-clause-others
returns-clause-others c = paused_since
