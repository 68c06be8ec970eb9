use Rattle.std.proofs.Common.{◌≡◌, ◌+◌, ◌++◌, drop, length}
use Rattle.std.specs.Vec.{vec_capacity}
use Rattle.connection_core.specs.Answers.{first_malformed, refusals, refusals_from}
use Rattle.connection_core.proofs.replying.refuse_lines.Given as goal

abbrev pub invariant-loop-k : goal.invariant-loop-k
invariant-loop-k l = record {
  text : l.replies.items ++ refusals_from l.first (l.k + 1) (drop l.k l.asked) ≡ l.initial.replies.items ++ refusals l.asked;
  first : l.first ≡ first_malformed l.asked;
  count : length l.replies.items ≡ length l.initial.replies.items + l.k;
  capacity : vec_capacity l.replies ≡ vec_capacity l.initial.replies;
}
