use Rattle.cody_batches.proofs.BlockLaws as lemma
use Rattle.cody_batches.proofs.laws.run_within.Goals as goal

pub returns-clause-blocks : goal.returns-clause-blocks
returns-clause-blocks c = λ fed run h. (lemma.run_within fed run h).0

pub returns-clause-block : goal.returns-clause-block
returns-clause-block c = λ fed run h. (lemma.run_within fed run h).1

pub returns-clause-line : goal.returns-clause-line
returns-clause-line c = λ fed run h. (lemma.run_within fed run h).2

pub returns-clause-long : goal.returns-clause-long
returns-clause-long c = λ fed run h. (lemma.run_within fed run h).3
