use Rattle.unit_registry.proofs.Grammars.{declared_reaches}
use Rattle.unit_registry.proofs.Outcomes as lemma
use Rattle.unit_registry.proofs.laws.one_reading.Goals as goal

pub returns-clause-project : goal.returns-clause-project
returns-clause-project c = λ text project other p q. lemma.one_project text project other (declared_reaches text project p) (declared_reaches text other q)

pub returns-clause-line : goal.returns-clause-line
returns-clause-line c = λ text line other reason why p q. (lemma.one_fault text line other reason why p q).0

pub returns-clause-reason : goal.returns-clause-reason
returns-clause-reason c = λ text line other reason why p q. (lemma.one_fault text line other reason why p q).1

pub returns-clause-apart : goal.returns-clause-apart
returns-clause-apart c = λ text project line reason p q. lemma.never_both text project line reason (declared_reaches text project p) q
