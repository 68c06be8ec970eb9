use Rattle.std.proofs.Common.{◌∙◌, List, ℕ, get_or, ap}
use Rattle.registry_tables.proofs.Counted.{zero_behind}
use Rattle.registry_tables.proofs.wait_counts.write_up_to.Goals as goal

pub loop-counts-preserved : goal.loop-counts-preserved
loop-counts-preserved c = record {
  same = λ other. ap (λ (xs : List ℕ). get_or xs other 0) c.push_reserved.ensures.items ∙ zero_behind c.loop-counts.counts.items other ∙ c.loop-counts.invariant.same other;
  capacity = c.push_reserved.ensures.capacity ∙ c.loop-counts.invariant.capacity;
}
