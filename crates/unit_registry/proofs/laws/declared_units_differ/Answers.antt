use Rattle.unit_registry.proofs.Grammars.{declared_reaches}
use Rattle.unit_registry.proofs.Led as lemma
use Rattle.unit_registry.proofs.laws.declared_units_differ.Goals as goal

pub returns-clause-idents : goal.returns-clause-idents
returns-clause-idents c = λ text project d. lemma.reached_idents text project (declared_reaches text project d)

pub returns-clause-names : goal.returns-clause-names
returns-clause-names c = λ text project d. lemma.reached_names text project (declared_reaches text project d)

pub returns-clause-kinds : goal.returns-clause-kinds
returns-clause-kinds c = λ text project d. lemma.reached_fit text project (declared_reaches text project d)
