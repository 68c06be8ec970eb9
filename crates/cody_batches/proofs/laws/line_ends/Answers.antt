use Rattle.cody_batches.proofs.BlockLaws as lemma
use Rattle.cody_batches.proofs.laws.line_ends.Goals as goal

pub returns-clause-joins_blocks : goal.returns-clause-joins_blocks
returns-clause-joins_blocks c = λ fed some m. (lemma.line_ends-marked fed some m).0

pub returns-clause-joins_block : goal.returns-clause-joins_block
returns-clause-joins_block c = λ fed some m. (lemma.line_ends-marked fed some m).1

pub returns-clause-ends_blocks : goal.returns-clause-ends_blocks
returns-clause-ends_blocks c = λ fed some m. (lemma.line_ends-unmarked fed some m).0

pub returns-clause-ends_block : goal.returns-clause-ends_block
returns-clause-ends_block c = λ fed some m. (lemma.line_ends-unmarked fed some m).1

pub returns-clause-line : goal.returns-clause-line
returns-clause-line c = λ fed. lemma.begun_line-ended fed
