use Rattle.header_units.proofs.Stems as lemma
use Rattle.header_units.proofs.laws.distinct_components.Goals as goal

pub returns : goal.returns
returns c = λ part other e. lemma.distinct_components part other e
