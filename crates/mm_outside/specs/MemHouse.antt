-- A house in memory.
use Rattle.std.specs.Prelude.{◌≡◌, ℕ, ◌<◌, ◌⊎◌, List, [], length, Result, Ok, Err, Vec, vec_len}
use Rattle.std.specs.declared.alloc.Global.{Global}
use Rattle.mm_outside.specs.Plan.{Plan, IsDue, called}
use Rattle.mm_outside.specs.HouseCounts.{HouseCounts}
use Rattle.mm_outside.specs.House.{Stock}
use Rattle.mm_outside.specs.declared.house.HouseError.{HouseError}
use Rattle.mm_outside.specs.declared.house.HouseError.TheVariants.{Failed, Memory}
use Rattle.mm_outside.specs.declared.mem_link.MemLink.{MemLink}
use Rattle.mm_outside.specs.declared.mem_hall.MemHall.{MemHall}
use Rattle.mm_outside.specs.declared.mem_house.MemHouse.{MemHouse}

-- what a house in memory tells
abbrev pub stock_of : MemHouse → Stock MemHall MemLink
stock_of house = record {
  halls = house.halls.items;
  halls_back = house.halls_back.items;
  links = house.links.items;
  links_back = house.links_back.items;
  binds = house.asked_binds.items;
  connects = house.asked_connects.items;
}

-- how many halls and links it gave and got back
abbrev pub counts_of : MemHouse → HouseCounts
counts_of house = record { bound = house.bound; taken_back = vec_len house.halls_back; connected = house.connected; hung_up = vec_len house.links_back }

-- how often `bind` or `connect` has failed
abbrev pub faults_of : MemHouse → ℕ
faults_of house = house.faults

-- what its calls of `bind` and of `connect` go by
pub record HousePlan : Type 0 where
  pub binds : Plan
  pub connects : Plan

-- what the house's calls go by
abbrev pub plan_of : MemHouse → HousePlan
plan_of house = record { binds = house.binds; connects = house.connects }

-- the next `bind` is to fail, or there are not so many halls left
abbrev pub LacksHalls : HousePlan → List MemHall → ℕ → Type 0
LacksHalls plan halls workers = IsDue plan.binds ⊎ (length halls < workers)

-- the next `connect` is to fail, or no link is left
abbrev pub LacksLink : HousePlan → List MemLink → Type 0
LacksLink plan links = IsDue plan.connects ⊎ (links ≡ [])

-- a `bind` was made; one that wanted memory isn't counted
abbrev pub bind_once : Result (Vec MemHall Global) HouseError → HousePlan → HousePlan
bind_once (Ok halls) plan = record plan { binds = called plan.binds }
bind_once (Err Failed) plan = record plan { binds = called plan.binds }
bind_once (Err Memory) plan = plan

-- a `connect` was made
abbrev pub connect_once : HousePlan → HousePlan
connect_once plan = record plan { connects = called plan.connects }
