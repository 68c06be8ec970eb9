use Rattle.cody_batches.proofs.LimitLaws as lemma
use Rattle.cody_batches.proofs.laws.taken_at_octets_limit.Goals as goal

pub returns-clause-taken : goal.returns-clause-taken
returns-clause-taken c = λ octets more full fits. (lemma.taken_at_octets_limit octets more full fits).0

pub returns-clause-fits : goal.returns-clause-fits
returns-clause-fits c = λ octets more full fits. (lemma.taken_at_octets_limit octets more full fits).1

pub returns-clause-passes : goal.returns-clause-passes
returns-clause-passes c = λ octets more octet full. lemma.passes_at_octets_limit octets more octet full
