use Rattle.cody_batches.proofs.BlockLaws as lemma
use Rattle.cody_batches.proofs.laws.blank_line_ends.Goals as goal

pub returns-clause-blocks : goal.returns-clause-blocks
returns-clause-blocks c = λ fed h. (lemma.blank_line_ends fed h).0

pub returns-clause-block : goal.returns-clause-block
returns-clause-block c = λ fed h. (lemma.blank_line_ends fed h).1

pub returns-clause-line : goal.returns-clause-line
returns-clause-line c = λ fed. lemma.begun_line-ended fed

pub returns-clause-long : goal.returns-clause-long
returns-clause-long c = λ fed h. (lemma.blank_line_ends fed h).3
