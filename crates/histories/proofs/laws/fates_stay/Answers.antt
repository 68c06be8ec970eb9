use Rattle.histories.proofs.Fates.{fates_stay, compiled_stays_so}
use Rattle.histories.proofs.laws.fates_stay.Goals as goal

pub returns-clause-ended : goal.returns-clause-ended
returns-clause-ended c = fates_stay

pub returns-clause-compiled : goal.returns-clause-compiled
returns-clause-compiled c = compiled_stays_so
