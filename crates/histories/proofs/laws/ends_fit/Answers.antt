use Rattle.histories.proofs.LegalCounts.{enough_workers, ends_fit}
use Rattle.histories.proofs.laws.ends_fit.Goals as goal

pub returns-clause-workers : goal.returns-clause-workers
returns-clause-workers c = enough_workers

pub returns-clause-limit : goal.returns-clause-limit
returns-clause-limit c = ends_fit
