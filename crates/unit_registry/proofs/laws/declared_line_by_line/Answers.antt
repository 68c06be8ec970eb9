use Rattle.unit_registry.proofs.Grammars as lemma
use Rattle.unit_registry.proofs.laws.declared_line_by_line.Goals as goal

pub returns-clause-reached : goal.returns-clause-reached
returns-clause-reached c = λ text project h. lemma.declared_reaches text project h

pub returns-clause-declared : goal.returns-clause-declared
returns-clause-declared c = λ text project h. lemma.reached_declares text project h
