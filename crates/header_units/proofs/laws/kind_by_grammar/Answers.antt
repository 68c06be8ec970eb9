use Rattle.header_units.proofs.Forms as lemma
use Rattle.header_units.proofs.laws.kind_by_grammar.Goals as goal

pub returns-clause-is_name : goal.returns-clause-is_name
returns-clause-is_name c = λ kind name e. lemma.kind_is kind name e

pub returns-clause-has_kind : goal.returns-clause-has_kind
returns-clause-has_kind c = λ kind name h. lemma.found_kind kind name h

pub returns-clause-no_name : goal.returns-clause-no_name
returns-clause-no_name c = λ name e kind h. lemma.no_kind name e kind h
