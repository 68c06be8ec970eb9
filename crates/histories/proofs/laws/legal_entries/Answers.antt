use Rattle.histories.proofs.Legality.{noted_push, length-noted_of, legal_prefix, legal_one_more}
use Rattle.histories.proofs.laws.legal_entries.Goals as goal

pub returns-clause-noted : goal.returns-clause-noted
returns-clause-noted c = noted_push

pub returns-clause-len : goal.returns-clause-len
returns-clause-len c = length-noted_of

pub returns-clause-front : goal.returns-clause-front
returns-clause-front c = legal_prefix

pub returns-clause-one_more : goal.returns-clause-one_more
returns-clause-one_more c = legal_one_more
