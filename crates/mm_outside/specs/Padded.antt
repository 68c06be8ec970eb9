-- A list that is cut, or filled up with empty members.
use Rattle.std.specs.Prelude.{◌≡◌, ℕ, List, [], length, take, drop, All}
use Rattle.mm_outside.specs.Plan.{planned}
use Rattle.mm_outside.specs.MemHall.{IsEmptyHall}
use Rattle.mm_outside.specs.MemLink.{octets_of, plan_of, HasNoFaults}
use Rattle.mm_outside.specs.declared.mem_hall.MemHall.{MemHall}
use Rattle.mm_outside.specs.declared.mem_link.MemLink.{MemLink}

-- these members first, then ones without content
pub record Pads {A : Type 0} (IsEmpty : A → Type 0) (room : ℕ) (old new : List A) : Type 0 where
  pub count : length new ≡ room
  pub front : take (length old) new ≡ take room old
  pub rest : All IsEmpty (drop (length old) new)

-- these halls first, then ones without content
abbrev pub PadsHalls : ℕ → List MemHall → List MemHall → Type 0
PadsHalls = Pads IsEmptyHall

-- a link without content: it gives no octet, has no room, and no call is planned to fail
pub record IsEmptyLink (link : MemLink) : Type 0 where
  pub octets : octets_of link ≡ record { read = []; to_come = []; written = [] }
  pub plan : plan_of link ≡ record { reads = planned [] []; writes = planned [] []; spare = 0 }
  pub faults : HasNoFaults link

-- these links first, then ones without content
abbrev pub PadsLinks : ℕ → List MemLink → List MemLink → Type 0
PadsLinks = Pads IsEmptyLink

-- some members, and then ones without content
pub record Fills {A : Type 0} (IsEmpty : A → Type 0) (old new : List A) : Type 0 where
  pub front : take (length old) new ≡ old
  pub rest : All IsEmpty (drop (length old) new)
