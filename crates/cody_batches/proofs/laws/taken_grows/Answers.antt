use Rattle.cody_batches.proofs.LimitLaws as lemma
use Rattle.cody_batches.proofs.laws.taken_grows.Goals as goal

pub returns : goal.returns
returns c = λ octets more. lemma.taken_grows octets more
