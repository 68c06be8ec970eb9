-- A link in memory.
use Rattle.std.specs.Prelude.{◌≡◌, ℕ, ◌<◌, ◌-◌, ◌⊎◌}
use Rattle.mm_outside.specs.Octets.{Octets}
use Rattle.mm_outside.specs.Plan.{Plan, IsDue, next_size, called}
use Rattle.mm_outside.specs.declared.mem_link.MemLink.{MemLink}

-- what a link in memory tells
abbrev pub octets_of : MemLink → Octets
octets_of link = record { read = link.input.read; to_come = link.input.to_come; written = link.output.octets }

-- how often a read has failed
abbrev pub read_faults_of : MemLink → ℕ
read_faults_of link = link.read_faults

-- how often a write has failed
abbrev pub write_faults_of : MemLink → ℕ
write_faults_of link = link.write_faults

-- what its reads and its writes go by, and how many octets can still be written
pub record LinkPlan : Type 0 where
  pub reads : Plan
  pub writes : Plan
  pub spare : ℕ

-- what the link's calls go by
abbrev pub plan_of : MemLink → LinkPlan
plan_of link = record { reads = link.reads; writes = link.writes; spare = link.output.spare }

-- the next write is to fail, or what it would take of so many octets has no room
abbrev pub LacksWrite : LinkPlan → ℕ → Type 0
LacksWrite plan count = IsDue plan.writes ⊎ (plan.spare < next_size plan.writes count)

-- a read was made
abbrev pub read_once : LinkPlan → LinkPlan
read_once plan = record plan { reads = called plan.reads }

-- a write was made that took so many octets
abbrev pub write_once : ℕ → LinkPlan → LinkPlan
write_once count plan = record plan { writes = called plan.writes; spare = plan.spare - count }

-- nothing failed yet
pub record HasNoFaults (link : MemLink) : Type 0 where
  pub reads : read_faults_of link ≡ 0
  pub writes : write_faults_of link ≡ 0
