use Rattle.cody_words.proofs.Canon as lemma
use Rattle.cody_words.proofs.laws.no_newline_within.Goals as goal

pub returns-clause-text : goal.returns-clause-text
returns-clause-text c = λ words more. lemma.no_newline words more

pub returns-clause-line : goal.returns-clause-line
returns-clause-line c = λ words more. lemma.canonical_line_is words more
