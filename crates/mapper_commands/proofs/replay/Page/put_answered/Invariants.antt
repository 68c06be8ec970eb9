use Rattle.std.proofs.Common.{◌≡◌, take}
use Rattle.mm_outside.specs.Told.{Told}
use Rattle.registry_core.specs.Ledgers.{answered_last}
use Rattle.mapper_commands.specs.Paging.{GoesOut}
use Rattle.mapper_commands.specs.Plays.{replies_text}
use Rattle.mapper_commands.proofs.replay.Page.put_answered.Given as goal

abbrev pub invariant-loop-place : goal.invariant-loop-place
invariant-loop-place g l = record {
  text : Told (GoesOut (replies_text l.project l.book.ledger (take l.place-index (answered_last l.book.ledger))) l.initial.self.held.octets l.self.held.octets) (g.K.Sink.written l.initial.out) (g.K.Sink.written l.out);
  faults : g.K.Sink.faults l.out ≡ g.K.Sink.faults l.initial.out;
}
