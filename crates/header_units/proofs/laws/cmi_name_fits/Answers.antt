use Rattle.header_units.proofs.Lengths as lemma
use Rattle.header_units.proofs.laws.cmi_name_fits.Goals as goal

pub returns : goal.returns
returns c = λ kind name h. lemma.length-cmi_name name h.short
