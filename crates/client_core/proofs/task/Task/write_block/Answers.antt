use Rattle.mapper_requests.specs.Asked.{asked_by}
use Rattle.client_core.specs.Scripts.{requests_in}
use Rattle.client_core.proofs.Writing.{block_step}
use Rattle.client_core.proofs.task.Task.write_block.Goals as goal

pub loop-k-preserved : goal.loop-k-preserved
loop-k-preserved c = record {
  room = c.in_ok-write_line.ensures.room;
  text = block_step (requests_in c.args.second c.args.self.now) c.loop-k.k c.request_count-count.result (asked_by c.request.result) c.loop-k.out c.write_line.new.out _ c.request.ensures.request c.request_count-count.ensures.count c.in_ok-write_line.ensures.text c.loop-k.invariant.text;
}
