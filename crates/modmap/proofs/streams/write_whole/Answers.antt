use Rattle.std.proofs.Common.{arith, rules}
use Rattle.mm_outside.proofs.SendLemmas.{printed-more}
use Rattle.modmap.proofs.streams.write_whole.Goals as goal

pub loop-at-preserved : goal.loop-at-preserved
loop-at-preserved g c = record {
  within = grind arith;
  written = printed-more c.args.piece.now _ c.loop-at.at c.in_ok-at.field-0 _ _ _ c.split_at.ensures.back c.loop-at.invariant.written c.in_ok-at.ensures.octets;
  faults = search rules;
}
