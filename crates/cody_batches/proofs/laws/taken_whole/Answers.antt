use Rattle.cody_batches.proofs.LimitLaws as lemma
use Rattle.cody_batches.proofs.laws.taken_whole.Goals as goal

pub returns : goal.returns
returns c = λ octets le fits. lemma.taken_whole octets le fits
