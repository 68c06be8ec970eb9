-- A sink in memory.
use Rattle.std.specs.Prelude.{ℕ, ◌<◌, ◌-◌, ◌⊎◌, List}
use Rattle.mm_outside.specs.Plan.{Plan, IsDue, called}
use Rattle.mm_outside.specs.declared.mem_sink.MemSink.{MemSink}

-- what was written to a sink in memory
abbrev pub written_of : MemSink → List ℕ
written_of sink = sink.output.octets

-- how often a write has failed
abbrev pub faults_of : MemSink → ℕ
faults_of sink = sink.faults

-- what its writes go by, and how many octets can still be written
pub record SinkPlan : Type 0 where
  pub writes : Plan
  pub spare : ℕ

-- what the sink's calls go by
abbrev pub plan_of : MemSink → SinkPlan
plan_of sink = record { writes = sink.writes; spare = sink.output.spare }

-- the next write is to fail, or so many octets have no room
abbrev pub LacksWrite : SinkPlan → ℕ → Type 0
LacksWrite plan count = IsDue plan.writes ⊎ (plan.spare < count)

-- a write was made that took so many octets
abbrev pub write_once : ℕ → SinkPlan → SinkPlan
write_once count plan = record { writes = called plan.writes; spare = plan.spare - count }
