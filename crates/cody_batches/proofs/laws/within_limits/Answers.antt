use Rattle.cody_batches.proofs.LimitLaws as lemma
use Rattle.cody_batches.proofs.laws.within_limits.Goals as goal

pub returns-clause-within : goal.returns-clause-within
returns-clause-within c = λ octets le fits. lemma.within_limits octets le fits

pub returns-clause-octets : goal.returns-clause-octets
returns-clause-octets c = λ octets h. lemma.within_limits-octets octets h

pub returns-clause-lines : goal.returns-clause-lines
returns-clause-lines c = λ octets h. lemma.within_limits-lines octets h
