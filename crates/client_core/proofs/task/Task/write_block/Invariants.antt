use Rattle.std.proofs.Common.{◌≡◌, ◌+◌, ◌++◌, length, drop}
use Rattle.client_core.specs.Scripts.{block_text, requests_in}
use Rattle.client_core.proofs.task.Task.write_block.Given as goal

abbrev pub invariant-loop-k : goal.invariant-loop-k
invariant-loop-k l = record {
  room : l.line.spare + length l.line.octets ≡ 1618;
  text : l.out ++ block_text (drop l.k (requests_in l.second l.self)) ≡ l.initial.out ++ block_text (requests_in l.second l.self);
}
