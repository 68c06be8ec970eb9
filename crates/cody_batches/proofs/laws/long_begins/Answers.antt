use Rattle.cody_batches.proofs.BlockLaws as lemma
use Rattle.cody_batches.proofs.laws.long_begins.Goals as goal

pub returns-clause-there : goal.returns-clause-there
returns-clause-there c = λ fed octet fits long. lemma.long_begins fed octet fits long

pub returns-clause-always : goal.returns-clause-always
returns-clause-always c = λ fed some full. lemma.long_begins-always fed some full
