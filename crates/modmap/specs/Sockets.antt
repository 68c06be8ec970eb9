-- Halls, houses and links over sockets.
use Rattle.std.specs.Prelude.{◌≡◌, ◌+◌, ℕ, ⊤}
use Rattle.mm_outside.specs.HallCounts.{HallCounts}
use Rattle.mm_outside.specs.HouseCounts.{HouseCounts}
use Rattle.mm_outside.specs.declared.hall.Accepted.{Accepted}
use Rattle.mm_outside.specs.declared.hall.Accepted.TheVariants.{Link, NoMore, Failed}
use Rattle.modmap.specs.declared.sockets.hall.SocketHall.{SocketHall}
use Rattle.modmap.specs.declared.sockets.link.SocketLink.{SocketLink}
use Rattle.modmap.specs.declared.sockets.link.Stream.{Stream}
use Rattle.modmap.specs.declared.sockets.house.SocketHouse.{SocketHouse}

-- the link is over this socket, and nothing failed yet
pub record IsLinkOver (stream : Stream) (link : SocketLink) : Type 0 where
  pub stream_is : link.stream ≡ stream
  pub no_read_faults : link.read_faults ≡ 0
  pub no_write_faults : link.write_faults ≡ 0

-- how many links the hall gave, and how many it got back
abbrev pub links_of : {R : Type 0} → SocketHall R → HallCounts
links_of hall = record { given = hall.given; back = hall.back }

-- how often its `accept` has failed
abbrev pub accept_faults_of : {R : Type 0} → SocketHall R → ℕ
accept_faults_of hall = hall.faults

-- the most links that the hall gives
abbrev pub most_links : {R : Type 0} → SocketHall R → ℕ
most_links hall = hall.given + hall.left

-- the hall gives at most so many links, gave none yet and got none back, and no accept failed
pub record IsReady {R : Type 0} (links : ℕ) (hall : SocketHall R) : Type 0 where
  pub most : most_links hall ≡ links
  pub counts : links_of hall ≡ record { given = 0; back = 0 }
  pub no_faults : accept_faults_of hall ≡ 0

-- there is no further link
abbrev pub IsNoMore : {L : Type 0} → Accepted L → Type 0
IsNoMore (Link link) = ⊥
IsNoMore NoMore = ⊤
IsNoMore Failed = ⊥

-- how many halls and links the house gave and got back
abbrev pub counts_of : {R : Type 0} → SocketHouse R → HouseCounts
counts_of house = record { bound = house.bound; taken_back = house.taken_back; connected = house.connected; hung_up = house.hung_up }

-- how often its `bind` or `connect` has failed
abbrev pub faults_of : {R : Type 0} → SocketHouse R → ℕ
faults_of house = house.faults

-- the house gave nothing yet, and nothing failed
pub record IsNew {R : Type 0} (house : SocketHouse R) : Type 0 where
  pub counts : counts_of house ≡ record { bound = 0; taken_back = 0; connected = 0; hung_up = 0 }
  pub no_faults : faults_of house ≡ 0
