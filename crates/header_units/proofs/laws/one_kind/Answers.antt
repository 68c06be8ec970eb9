use Rattle.header_units.proofs.Forms as lemma
use Rattle.header_units.proofs.laws.one_kind.Goals as goal

pub returns : goal.returns
returns c = λ kind other name h g. lemma.one_kind kind other name h g
