use Rattle.cody_words.proofs.Fits as lemma
use Rattle.cody_words.proofs.laws.words_fit.Goals as goal

pub returns-clause-short : goal.returns-clause-short
returns-clause-short c = λ line words more h. (lemma.words_fit line words more h).0

pub returns-clause-room : goal.returns-clause-room
returns-clause-room c = λ line words more h. (lemma.words_fit line words more h).1
