use Rattle.histories.proofs.Reports.{held_unbuilt, reported_unbuilt, reported_first}
use Rattle.histories.proofs.laws.reported_once.Goals as goal

pub returns-clause-held : goal.returns-clause-held
returns-clause-held c = held_unbuilt

pub returns-clause-reported : goal.returns-clause-reported
returns-clause-reported c = reported_unbuilt

pub returns-clause-first : goal.returns-clause-first
returns-clause-first c = reported_first
