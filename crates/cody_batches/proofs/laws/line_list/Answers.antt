use Rattle.cody_batches.proofs.BlockLaws as lemma
use Rattle.cody_batches.proofs.laws.line_list.Goals as goal

pub returns-clause-joined : goal.returns-clause-joined
returns-clause-joined c = λ octets. (lemma.line_list octets).0

pub returns-clause-lines : goal.returns-clause-lines
returns-clause-lines c = λ octets. (lemma.line_list octets).1

pub returns-clause-begun : goal.returns-clause-begun
returns-clause-begun c = λ octets. (lemma.line_list octets).2
