use Rattle.cody_batches.proofs.LimitLaws as lemma
use Rattle.cody_batches.proofs.laws.limits_stay.Goals as goal

pub returns-clause-passed : goal.returns-clause-passed
returns-clause-passed c = λ octets more h. lemma.limits_stay octets more h

pub returns-clause-taken : goal.returns-clause-taken
returns-clause-taken c = λ octets more h. lemma.limits_stay-taken octets more h
