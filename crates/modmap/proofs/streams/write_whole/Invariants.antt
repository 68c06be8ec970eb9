use Rattle.std.proofs.Common.{◌≡◌, ◌≤◌, ◌-◌, length}
use Rattle.mm_outside.specs.Told.{Told}
use Rattle.mm_outside.specs.Sending.{PrintedFirst}
use Rattle.modmap.proofs.streams.write_whole.Given as goal

abbrev pub invariant-loop-at : goal.invariant-loop-at
invariant-loop-at g l = record {
  within : l.at ≤ length l.piece;
  written : Told (PrintedFirst l.piece l.at) (g.W.Write.contents l.initial.writer) (g.W.Write.contents l.writer);
  faults : l.faults ≡ l.initial.faults;
}

abbrev pub decreases-loop-at : goal.decreases-loop-at
decreases-loop-at g l = length l.piece - l.at
