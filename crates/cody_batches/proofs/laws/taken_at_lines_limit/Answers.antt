use Rattle.cody_batches.proofs.LimitLaws as lemma
use Rattle.cody_batches.proofs.laws.taken_at_lines_limit.Goals as goal

pub returns-clause-taken : goal.returns-clause-taken
returns-clause-taken c = λ octets more lt fits long. (lemma.taken_at_lines_limit octets more lt fits long).0

pub returns-clause-long : goal.returns-clause-long
returns-clause-long c = λ octets more lt long. lemma.long_at_lines_limit octets more lt long
