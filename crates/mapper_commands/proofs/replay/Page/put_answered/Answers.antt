use Rattle.std.proofs.Common.{◌∙◌}
use Rattle.registry_core.specs.Ledgers.{answered_last}
use Rattle.mapper_commands.proofs.Played.{puts_reply_next, puts_reply_stop}
use Rattle.mapper_commands.proofs.replay.Page.put_answered.Goals as goal

pub loop-place-preserved : goal.loop-place-preserved
loop-place-preserved g c = record {
  text = puts_reply_next c.args.project.now c.args.book.now.ledger c.answered-place-items.result.now (answered_last c.args.book.now.ledger) c.answered-place-items.ensures c.loop-place.place-index c.loop-place-test.true c.look.result c.look.ensures _ _ _ c.args.self.now.held.octets c.loop-place.self.held.octets c.put_reply.new.self.held.octets tt c.in-Ok.field-0 c.loop-place.invariant.text c.in-Ok.ensures.text;
  faults = c.in-Ok.ensures.cause.kept ∙ c.loop-place.invariant.faults;
}

pub returns-in-Err-clause-text : goal.returns-in-Err-clause-text
returns-in-Err-clause-text g c = puts_reply_stop c.args.project.now c.args.book.now.ledger c.answered-place-items.result.now (answered_last c.args.book.now.ledger) c.answered-place-items.ensures c.loop-place.place-index c.loop-place-test.true c.look.result c.look.ensures _ _ _ c.args.self.now.held.octets c.loop-place.self.held.octets c.put_reply.new.self.held.octets tt c.in-Err.field-0 c.loop-place.invariant.text c.in-Err.ensures.text
