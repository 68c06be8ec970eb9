use Rattle.trace_text.proofs.Outcomes.{one_trace, one_fault, never_both}
use Rattle.trace_text.proofs.laws.one_reading.Goals as goal

pub returns-clause-workers : goal.returns-clause-workers
returns-clause-workers c = λ text workers others limit bound history other p q. (one_trace text workers others limit bound history other p q).0

pub returns-clause-limit : goal.returns-clause-limit
returns-clause-limit c = λ text workers others limit bound history other p q. (one_trace text workers others limit bound history other p q).1

pub returns-clause-history : goal.returns-clause-history
returns-clause-history c = λ text workers others limit bound history other p q. (one_trace text workers others limit bound history other p q).2

pub returns-clause-line : goal.returns-clause-line
returns-clause-line c = λ text line other reason why p q. (one_fault text line other reason why p q).0

pub returns-clause-reason : goal.returns-clause-reason
returns-clause-reason c = λ text line other reason why p q. (one_fault text line other reason why p q).1

pub returns-clause-apart : goal.returns-clause-apart
returns-clause-apart c = never_both
