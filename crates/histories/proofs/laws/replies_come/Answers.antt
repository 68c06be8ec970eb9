use Rattle.histories.proofs.ReplyLaws.{reply_own, reply_unasked, reply_ended}
use Rattle.histories.proofs.NoReply.{reply_nothing, reply_gone}
use Rattle.histories.proofs.laws.replies_come.Goals as goal

pub returns-clause-own : goal.returns-clause-own
returns-clause-own c = reply_own

pub returns-clause-unasked : goal.returns-clause-unasked
returns-clause-unasked c = reply_unasked

pub returns-clause-ended : goal.returns-clause-ended
returns-clause-ended c = reply_ended

pub returns-clause-nothing : goal.returns-clause-nothing
returns-clause-nothing c = reply_nothing

pub returns-clause-gone : goal.returns-clause-gone
returns-clause-gone c = reply_gone
