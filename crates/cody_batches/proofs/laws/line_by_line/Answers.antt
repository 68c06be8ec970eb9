use Rattle.cody_batches.proofs.BlockLaws as lemma
use Rattle.cody_batches.proofs.laws.line_by_line.Goals as goal

pub returns-clause-joined : goal.returns-clause-joined
returns-clause-joined c = λ octets. (lemma.line_by_line octets).0

pub returns-clause-blocks : goal.returns-clause-blocks
returns-clause-blocks c = λ octets. (lemma.line_by_line octets).1

pub returns-clause-begun : goal.returns-clause-begun
returns-clause-begun c = λ octets. (lemma.line_by_line octets).2
