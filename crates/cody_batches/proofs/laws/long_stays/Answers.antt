use Rattle.cody_batches.proofs.BlockLaws as lemma
use Rattle.cody_batches.proofs.laws.long_stays.Goals as goal

pub returns-clause-stays : goal.returns-clause-stays
returns-clause-stays c = λ octets more e. lemma.long_stays octets more e

pub returns-clause-begins : goal.returns-clause-begins
returns-clause-begins c = λ octets more e. lemma.long_stays-begins octets more e
