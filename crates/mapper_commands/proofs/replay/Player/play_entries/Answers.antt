use Rattle.std.proofs.Common.{◌∙◌}
use Rattle.mapper_commands.proofs.Played.{next_passes, played_next, puts_next, puts_stop}
use Rattle.mapper_commands.proofs.replay.Player.play_entries.Goals as goal

pub play-requires-clause-passes : goal.play-requires-clause-passes
play-requires-clause-passes g c = next_passes c.args.project.now c.args.trace.now c.loop-place.place c.get-entry.result.now c.get-entry.ensures c.loop-place.self.book.ledger c.loop-place.invariant.played c.requires.legal

pub loop-place-preserved : goal.loop-place-preserved
loop-place-preserved g c = record {
  text = puts_next c.args.project.now c.args.trace.now c.loop-place.place c.get-entry.result.now c.get-entry.ensures c.loop-place.self.book.ledger c.loop-place.invariant.played _ _ _ c.args.self.now.page.held.octets c.loop-place.self.page.held.octets c.play.new.self.page.held.octets tt c.in-Ok.field-0 c.loop-place.invariant.text c.in-Ok.ensures.text;
  faults = c.in-Ok.ensures.cause.kept ∙ c.loop-place.invariant.faults;
  played = played_next c.args.project.now c.args.trace.now c.loop-place.place c.get-entry.result.now c.get-entry.ensures c.loop-place.self.book.ledger c.loop-place.invariant.played c.play.new.self.book.ledger c.play.ensures.entered;
}

pub returns-in-Err-clause-text : goal.returns-in-Err-clause-text
returns-in-Err-clause-text g c = puts_stop c.args.project.now c.args.trace.now c.loop-place.place c.get-entry.result.now c.get-entry.ensures c.loop-place.self.book.ledger c.loop-place.invariant.played _ _ _ c.args.self.now.page.held.octets c.loop-place.self.page.held.octets c.play.new.self.page.held.octets tt c.in-Err.field-0 c.loop-place.invariant.text c.in-Err.ensures.text
