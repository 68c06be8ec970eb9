use Rattle.std.proofs.Common.{◌≡◌, [], take}
use Rattle.mm_outside.specs.Told.{Told}
use Rattle.mapper_commands.specs.Paging.{GoesOut}
use Rattle.mapper_commands.specs.Plays.{played}
use Rattle.mapper_commands.specs.Replays.{entries_text}
use Rattle.mapper_commands.proofs.replay.Player.play_entries.Given as goal

abbrev pub invariant-loop-place : goal.invariant-loop-place
invariant-loop-place g l = record {
  text : Told (GoesOut (entries_text l.project l.trace.workers [] (take l.place l.trace.entries)) l.initial.self.page.held.octets l.self.page.held.octets) (g.K.Sink.written l.initial.out) (g.K.Sink.written l.out);
  faults : g.K.Sink.faults l.out ≡ g.K.Sink.faults l.initial.out;
  played : l.self.book.ledger ≡ played l.project l.trace l.place;
}
