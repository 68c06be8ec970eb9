use Rattle.histories.proofs.Told.{told_own, told_compiled, told_failed}
use Rattle.histories.proofs.laws.replies_tell_fates.Goals as goal

pub returns-clause-path : goal.returns-clause-path
returns-clause-path c = told_own

pub returns-clause-compiled : goal.returns-clause-compiled
returns-clause-compiled c = told_compiled

pub returns-clause-failed : goal.returns-clause-failed
returns-clause-failed c = told_failed
