use Rattle.mapper_replies.proofs.Written as lemma
use Rattle.mapper_replies.proofs.laws.written_is_read.Goals as goal

pub returns-clause-words : goal.returns-clause-words
returns-clause-words c = λ value h. lemma.words_are value h

pub returns-clause-line : goal.returns-clause-line
returns-clause-line c = λ value more h le. lemma.line_says value more h le

pub returns-clause-back : goal.returns-clause-back
returns-clause-back c = λ value more again words h says. lemma.read_back value more again words h says
