use Rattle.trace_text.proofs.Differing.{same_heads, same_entries}
use Rattle.trace_text.proofs.laws.equal_traces.Goals as goal

pub returns-clause-workers : goal.returns-clause-workers
returns-clause-workers c = λ workers others limit bound history other p q e. (same_heads workers others limit bound history other p q e).0

pub returns-clause-limit : goal.returns-clause-limit
returns-clause-limit c = λ workers others limit bound history other p q e. (same_heads workers others limit bound history other p q e).1

pub returns-clause-history : goal.returns-clause-history
returns-clause-history c = same_entries
