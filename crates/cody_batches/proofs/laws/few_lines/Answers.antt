use Rattle.cody_batches.proofs.BlockLaws as lemma
use Rattle.cody_batches.proofs.laws.few_lines.Goals as goal

pub returns-clause-blocks : goal.returns-clause-blocks
returns-clause-blocks c = λ octets e. (lemma.few_lines octets e).0

pub returns-clause-begun : goal.returns-clause-begun
returns-clause-begun c = λ octets e. (lemma.few_lines octets e).1
