-- A hall in memory.
use Rattle.std.specs.Prelude.{◌≡◌, ℕ, [], reverse, vec_len}
use Rattle.mm_outside.specs.Plan.{Plan, planned}
use Rattle.mm_outside.specs.Hall.{Links}
use Rattle.mm_outside.specs.HallCounts.{HallCounts}
use Rattle.mm_outside.specs.declared.mem_link.MemLink.{MemLink}
use Rattle.mm_outside.specs.declared.mem_hall.MemHall.{MemHall}

-- what a hall in memory tells
abbrev pub links_of : MemHall → Links MemLink
links_of hall = record { to_give = reverse hall.waiting.items; back = hall.back.items }

-- how many links it gave and got back
abbrev pub counts_of : MemHall → HallCounts
counts_of hall = record { given = hall.given; back = vec_len hall.back }

-- how often `accept` has failed
abbrev pub faults_of : MemHall → ℕ
faults_of hall = hall.faults

-- what its calls of `accept` go by
abbrev pub plan_of : MemHall → Plan
plan_of hall = hall.accepts

-- no link was given back
abbrev pub IsUnused : MemHall → Type 0
IsUnused hall = (counts_of hall).back ≡ 0

-- it gives no link, and no call of it fails
pub record IsEmptyHall (hall : MemHall) : Type 0 where
  pub links : links_of hall ≡ record { to_give = []; back = [] }
  pub counts : counts_of hall ≡ record { given = 0; back = 0 }
  pub plan : plan_of hall ≡ planned [] []
  pub faults : faults_of hall ≡ 0
