-- Files in memory.
use Rattle.std.specs.Prelude.{◌≡◌, ℕ, ◌+◌, ◌-◌, ◌<◌, ◌≤◌, ◌⊎◌, List, Option, Some, None, Result, Ok, Err, length}
use Rattle.mm_outside.specs.Named.{HoldsFirst}
use Rattle.mm_outside.specs.Slots.{lookup}
use Rattle.mm_outside.specs.Plan.{Plan, IsDue, called}
use Rattle.mm_outside.specs.declared.files.ReadAllError.{ReadAllError}
use Rattle.mm_outside.specs.declared.files.ReadAllError.TheVariants.{Failed, Absent, TooLong, Memory}
use Rattle.mm_outside.specs.declared.mem_files.MemFiles.{MemFiles}

-- what a name holds
abbrev pub content_of : MemFiles → List ℕ → Option (List ℕ)
content_of files = lookup files.page.octets files.slots.items

-- how often a read has failed
abbrev pub read_faults_of : MemFiles → ℕ
read_faults_of files = files.read_faults

-- how often a write has failed
abbrev pub write_faults_of : MemFiles → ℕ
write_faults_of files = files.write_faults

-- so many names, and so many octets
pub record Space : Type 0 where
  pub names : ℕ
  pub octets : ℕ

-- what its reads and its writes go by, and the space that writes can still take
pub record FilesPlan : Type 0 where
  pub reads : Plan
  pub writes : Plan
  pub space : Space

-- how many names writes can still add, and how many octets they can still take
abbrev pub space_of : MemFiles → Space
space_of files = record { names = files.free; octets = files.page.spare }

-- what the files' calls go by
abbrev pub plan_of : MemFiles → FilesPlan
plan_of files = record { reads = files.reads; writes = files.writes; space = space_of files }

-- the space that a write takes where the name holds that: a name that is there takes none
abbrev pub space_for : Option (List ℕ) → List ℕ → List ℕ → Space
space_for (Some held) name octets = record { names = 0; octets = length octets }
space_for None name octets = record { names = 1; octets = length name + length octets }

-- there is less space than that
abbrev pub IsShort : Space → Space → Type 0
IsShort space need = (space.names < need.names) ⊎ (space.octets < need.octets)

-- there is that much space
pub record HasSpace (space need : Space) : Type 0 where
  pub names : need.names ≤ space.names
  pub octets : need.octets ≤ space.octets

-- the next write is to fail, or lacks space
abbrev pub LacksWrite : FilesPlan → Space → Type 0
LacksWrite plan need = IsDue plan.writes ⊎ IsShort plan.space need

-- what is left of the space
abbrev pub space_left : Space → Space → Space
space_left space need = record { names = space.names - need.names; octets = space.octets - need.octets }

-- a read was made; one that wanted memory isn't counted
abbrev pub read_once : Result (List ℕ) ReadAllError → FilesPlan → FilesPlan
read_once (Ok octets) plan = record plan { reads = called plan.reads }
read_once (Err Failed) plan = record plan { reads = called plan.reads }
read_once (Err Absent) plan = record plan { reads = called plan.reads }
read_once (Err TooLong) plan = record plan { reads = called plan.reads }
read_once (Err Memory) plan = plan

-- a write was made, which took the space unless it failed
abbrev pub write_once : {T E : Type 0} → Result T E → Space → FilesPlan → FilesPlan
write_once (Ok _) need plan = record plan { writes = called plan.writes; space = space_left plan.space need }
write_once (Err _) need plan = record plan { writes = called plan.writes }

-- the names hold these contents, and no other name holds any
abbrev pub Holds : List (List ℕ) → List (List ℕ) → (List ℕ → Option (List ℕ)) → Type 0
Holds names contents content = HoldsFirst (length names) names contents content

-- nothing failed yet
pub record HasNoFaults (files : MemFiles) : Type 0 where
  pub reads : read_faults_of files ≡ 0
  pub writes : write_faults_of files ≡ 0

-- all but the content and the space stays
pub record KeepsRest (old new : MemFiles) : Type 0 where
  pub read_faults : read_faults_of new ≡ read_faults_of old
  pub write_faults : write_faults_of new ≡ write_faults_of old
  pub reads : (plan_of new).reads ≡ (plan_of old).reads
  pub writes : (plan_of new).writes ≡ (plan_of old).writes
