use Rattle.mapper_requests.specs.Asked.{asked_by}
use Rattle.client_core.proofs.Hearing.{none_allowed}
use Rattle.client_core.proofs.replies.reply_to.Goals as goal

pub returns-in_default : goal.returns-in_default
returns-in_default c = none_allowed (asked_by c.args.request.now) c.args.words.now c.in_default.ensures.none
