use Rattle.std.proofs.Common.{◌≡◌, ◌+◌, length, drop, []}
use Rattle.std.specs.List.{sum_by}
use Rattle.mm_outside.specs.Plan.{planned}
use Rattle.mm_outside.specs.MemFiles.{content_of, space_of, plan_of, HasNoFaults}
use Rattle.mm_outside.specs.Named.{HoldsFirst}
use Rattle.mm_outside.proofs.mem_files.MemFiles.new.Given as goal

abbrev pub invariant-loop-k : goal.invariant-loop-k
invariant-loop-k l = record {
  content : HoldsFirst l.k l.names l.contents (content_of l.files);
  reads : (plan_of l.files).reads ≡ planned [] l.failing_reads;
  writes : (plan_of l.files).writes ≡ planned [] l.failing_writes;
  names : (space_of l.files).names + l.k ≡ l.more + length l.names;
  octets : (space_of l.files).octets ≡ l.room + (sum_by length (drop l.k l.names) + sum_by length (drop l.k l.contents));
  faults : HasNoFaults l.files;
}
