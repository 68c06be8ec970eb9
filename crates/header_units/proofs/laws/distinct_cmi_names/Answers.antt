use Rattle.header_units.proofs.Stems as lemma
use Rattle.header_units.proofs.laws.distinct_cmi_names.Goals as goal

pub returns-clause-same : goal.returns-clause-same
returns-clause-same c = λ kind other name another h g e. lemma.distinct_cmi_names kind other name another h g e

pub returns-clause-differ : goal.returns-clause-differ
returns-clause-differ c = λ kind other name another h g differ e. differ (lemma.distinct_cmi_names kind other name another h g e)
