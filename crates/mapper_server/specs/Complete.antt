-- When nothing hinders serving one link alone, so that it closes, or the links of all halls, so that the status is 0.
use Rattle.std.specs.Prelude.{◌≡◌, ℕ, ◌+◌, ◌≤◌, ◌⊎◌, List, length, All, Option, Some, IsSomeAnd, sum_by}
use Rattle.std.specs.List.{flat_map}
use Rattle.std.specs.Option.{option_map_or}
use Rattle.mm_outside.specs.Causes.{Rose}
use Rattle.mm_outside.specs.Hall.{Links}
use Rattle.mm_outside.specs.Octets.{Octets}
use Rattle.mm_outside.specs.declared.hall.Back.{Back}
use Rattle.cody_batches.specs.Blocks.{blocks, held, PassesLimits}
use Rattle.unit_registry.specs.Projects.{ProjectView}
use Rattle.connection_core.specs.Asking.{acts}
use Rattle.mapper_server.specs.Backs.{new_back}
use Rattle.mapper_server.specs.Headline.{SomePair, told_all}

-- the octets that are still to come pass no limit, and end after a whole block
pub record IsWhole (octets : Octets) : Type 0 where
  pub within : PassesLimits octets.to_come → ⊥
  pub none_held : held octets.to_come ≡ 0

-- how many entries a connection asks for that sends these octets: it opens, enters what its blocks ask, and goes
abbrev pub entries_asked : ProjectView → List ℕ → ℕ
entries_asked project octets = length (acts project (blocks octets)) + 2

-- the octets are whole, and a history with one worker that has at most so many entries has room for what they ask for
pub record FitsAlone (project : ProjectView) (limit : ℕ) (octets : Octets) : Type 0 where
  pub whole : IsWhole octets
  pub fits : 1 + entries_asked project octets.to_come ≤ limit

-- Nothing hinders serving a link alone: it told its octets, these fit, and no read and no write of it failed.
pub record NothingHindersOne (project : ProjectView) (limit : ℕ) (told : Option Octets) (reads_before reads_now writes_before writes_now : ℕ) : Type 0 where
  pub fits : IsSomeAnd told (FitsAlone project limit)
  pub reads_stood : Rose reads_before reads_now → ⊥
  pub writes_stood : Rose writes_before writes_now → ⊥

-- how many entries these links ask for by the octets that are still to come
abbrev pub asked_by : {L : Type 0} → (L → Option Octets) → ProjectView → List L → ℕ
asked_by octets project links = sum_by (λ link. option_map_or (λ told. entries_asked project told.to_come) (octets link) 0) links

-- the links that the halls can give, hall by hall
abbrev pub all_to_give : {L : Type 0} → List (Links L) → List L
all_to_give halls = flat_map (λ hall. hall.to_give) halls

-- a read or a write of the link has failed between how it was given and how it was given back
abbrev pub HasFailed : {L : Type 0} → (L → ℕ) → (L → ℕ) → L → Back L → Type 0
HasFailed read_faults write_faults link back = Rose (read_faults link) (read_faults back.link) ⊎ Rose (write_faults link) (write_faults back.link)

module _ {H L : Type 0} (links : H → Option (Links L)) (hall_faults : H → ℕ) (octets : L → Option Octets) (read_faults write_faults : L → ℕ) where
  -- Nothing hinders serving. Each hall tells its links, before and now. Each link that they could give told its octets,
  -- which are whole. The limit has room for the ends of all workers, and for the entries that these links ask for. And
  -- nothing failed: no hall, no link, and not the printing.
  pub record NothingHinders (project : ProjectView) (workers limit : ℕ) (before now : List H) (sink_before sink_now : ℕ) : Type 0 where
    pub were : List (Links L)
    pub are : List (Links L)
    pub told_before : told_all links before ≡ Some were
    pub told_now : told_all links now ≡ Some are
    pub whole : All (λ link. IsSomeAnd (octets link) IsWhole) (all_to_give were)
    pub fits : workers + asked_by octets project (all_to_give were) ≤ limit
    pub halls_stood : SomePair (λ (old new : H). Rose (hall_faults old) (hall_faults new)) before now → ⊥
    pub links_stood : SomePair (λ (old new : Links L). SomePair (HasFailed read_faults write_faults) old.to_give (new_back old new)) were are → ⊥
    pub sink_stood : Rose sink_before sink_now → ⊥
