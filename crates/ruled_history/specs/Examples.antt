-- The worked examples: which entries are made, at which places, and what is told of them.
use Rattle.std.specs.Prelude.{◌≡◌, ℕ, ◌+◌, ◌<◌, suc, false, List, [], ◌∷◌, ◌++◌, map, codes, slice_get, length, Option, Some, None, IsTrue, IsFalse, Contains}
use Rattle.unit_registry.specs.declared.kind.Kind.TheVariants.{Module, Header, Plain}
use Rattle.unit_registry.specs.declared.act.Act.{Act}
use Rattle.unit_registry.specs.declared.act.Act.TheVariants.{Open, Hello, Repo, Export, Import, Compiled, Left}
use Rattle.unit_registry.specs.Projects.{ProjectView}
use Rattle.histories.specs.declared.entry.Entry.{Entry}
use Rattle.histories.specs.declared.answer.Answer.{Answer}
use Rattle.histories.specs.declared.answer.Answer.TheVariants.{Path, Done as Accepted}
use Rattle.histories.specs.Histories.{reply}
use Rattle.registry_core.specs.Ledgers.{LedgerView, entry, is_open_in, reply_at}
use Rattle.registry_core.specs.Desks.{DeskState, Stays, Adds}
use Rattle.ruled_history.specs.declared.board.View.{View}
use Rattle.ruled_history.specs.Runs.{AreAllPlaces}
use Rattle.ruled_history.specs.Seats.{Shared, Sitting}

-- the modules a and b, the header ./x.h, and main.cc, which has no name
abbrev pub four_units : ProjectView
four_units = record {
  repo = codes "gcm.cache";
  units = record { kind = Module; name = codes "a"; ident = codes "a.cc"; built = false }
      ∷ record { kind = Module; name = codes "b"; ident = codes "b.cc"; built = false }
      ∷ record { kind = Header; name = codes "./x.h"; ident = codes "x.h"; built = false }
      ∷ record { kind = Plain; name = []; ident = codes "main.cc"; built = false }
      ∷ [];
}

-- the history of two workers without an entry
abbrev pub blank : ℕ → LedgerView
blank limit = record { project = four_units; workers = 2; limit = limit; entries = [] }

-- an entry and its place
abbrev pub Placed : Type 0
Placed = ℕ × Entry

-- the act of the connection, at a place
abbrev pub at : ℕ → ℕ → Act → Placed
at place conn act = (place, entry conn act)

-- the entries at the places from this one on
abbrev pub placed_from : ℕ → List Entry → List Placed
placed_from place [] = []
placed_from place (newest ∷ more) = (place, newest) ∷ placed_from (suc place) more

-- each entry stands at its place
abbrev pub Stand : List Entry → List Placed → Type 0
Stand entries [] = Unit {0}
Stand entries (placed ∷ more) = (slice_get entries placed.0 ≡ Some placed.1) × Stand entries more

-- the places are those of these entries, in this order, and each entry stands at its place
pub record Made (entries : List Entry) (places : List ℕ) (made : List Placed) : Type 0 where
  pub places_are : places ≡ map (λ placed. placed.0) made
  pub stand : Stand entries made

-- connection 0 opens, holds unit 0, exports it and reports it
abbrev pub reporting : List Entry
reporting = entry 0 Open ∷ entry 0 (Hello 1 (Some 0)) ∷ entry 0 (Export (Some 0)) ∷ entry 0 (Compiled (Some 0) false) ∷ []

-- connection 1 opens at a place, is a guest, and imports unit 0
abbrev pub importing : ℕ → List Placed
importing opened_at = at opened_at 1 Open ∷ at 5 1 (Hello 1 None) ∷ at 6 1 (Import (Some 0) false) ∷ []

-- the seven entries of both
abbrev pub both_seats : List Entry
both_seats =
    entry 0 Open ∷ entry 0 (Hello 1 (Some 0)) ∷ entry 0 (Export (Some 0)) ∷ entry 0 (Compiled (Some 0) false)
    ∷ entry 1 Open ∷ entry 1 (Hello 1 None) ∷ entry 1 (Import (Some 0) false) ∷ []

-- a desk that has made no entry, has a worker left, and isn't bound to a room of its own
pub record IsFresh {Held : Type 0} (desk : DeskState Held) : Type 0 where
  pub worker : desk.opened + desk.dones < desk.share
  pub loose : IsFalse desk.metered
  pub bare : desk.places ≡ []

-- a desk of which the connection is open, and that isn't bound to a room of its own
pub record HasOpen {Held : Type 0} (conn : ℕ) (desk : DeskState Held) : Type 0 where
  pub own : Contains desk.connections conn
  pub there : IsTrue (is_open_in desk.seen conn)
  pub loose : IsFalse desk.metered

-- a desk that has a worker left, and room for three entries
pub record IsRoomy {Held : Type 0} (desk : DeskState Held) : Type 0 where
  pub worker : desk.opened + desk.dones < desk.share
  pub room_is : desk.room ≡ 3

-- a desk of which the connection is open, and that has this much room
pub record HasOpenIn {Held : Type 0} (conn room : ℕ) (desk : DeskState Held) : Type 0 where
  pub own : Contains desk.connections conn
  pub there : IsTrue (is_open_in desk.seen conn)
  pub room_is : desk.room ≡ room

-- the desk's first entry opens the connection
pub record Opened {Held : Type 0} (conn : ℕ) (before after : DeskState Held) : Type 0 where
  pub opened_at : ℕ
  pub within : opened_at < length after.seen.entries
  pub made : Made after.seen.entries after.places (at opened_at conn Open ∷ [])
  pub has_open : HasOpen conn after
  pub stays : Stays before after

-- the desk made the entry at this place, and its connection is open
pub record Entered {Held : Type 0} (conn : ℕ) (act : Act) (place : ℕ) (before after : DeskState Held) : Type 0 where
  pub adds : Adds before (entry conn act) place after
  pub has_open : HasOpen conn after

-- the desk's two entries open the connection and greet at this place
pub record Greeted {Held : Type 0} (conn : ℕ) (unit : Option ℕ) (place : ℕ) (before after : DeskState Held) : Type 0 where
  pub opened_at : ℕ
  pub earlier : opened_at < place
  pub made : Made after.seen.entries after.places (at opened_at conn Open ∷ at place conn (Hello 1 unit) ∷ [])
  pub has_open : HasOpen conn after
  pub stays : Stays before after

-- the desk made two entries more, at the places 2 and 3: unit 0 is exported and reported
pub record HandsOver {Held : Type 0} (before after : DeskState Held) : Type 0 where
  pub made : (others : List Placed) → Made before.seen.entries before.places others → Made after.seen.entries after.places (others ++ at 2 0 (Export (Some 0)) ∷ at 3 0 (Compiled (Some 0) false) ∷ [])
  pub stays : Stays before after

-- The desk's entries are these at these places, and the answer is the reply to the one at this place.
pub record Told {Held : Type 0} (made : List Placed) (place : ℕ) (answer : Option Answer) (before after : DeskState Held) : Type 0 where
  pub made_are : Made after.seen.entries after.places made
  pub answer_is : answer ≡ reply_at after.seen place
  pub stays : Stays before after

-- the places that the first seat is told of its greeting, its export and its report
pub record ToldFirst (hello exported compiled : ℕ) : Type 0 where
  pub hello_is : hello ≡ 1
  pub exported_is : exported ≡ 2
  pub compiled_is : compiled ≡ 3

-- the places that the second seat is told of its greeting and its import
pub record ToldSecond (hello imported : ℕ) : Type 0 where
  pub hello_is : hello ≡ 5
  pub imported_is : imported ≡ 6

-- a seat that has made no entry and has one worker
pub record IsFreshSeat (view : View) : Type 0 where
  pub share : view.share ≡ 1
  pub opened : view.opened ≡ 0
  pub dones : view.dones ≡ 0
  pub bare : view.places ≡ []

-- The seat's entries are these at these places, and the answer is the reply to the one at this place in the history
-- that it has seen. Its run is what it was.
pub record ToldAt (made : List Placed) (place : ℕ) (answer : Option Answer) (before after : Sitting) : Type 0 where
  pub made_are : Made after.knows.seen after.knows.places made
  pub answer_is : answer ≡ reply four_units 2 after.knows.seen place
  pub registry_is : after.registry ≡ before.registry
  pub first_is : after.knows.first ≡ before.knows.first
  pub share_is : after.knows.share ≡ before.knows.share

-- a registry of two workers without an entry, which isn't metered, and its two seats
pub record Divided {S : Type 0} (limit : ℕ) (registry : Shared S) (one two : Sitting) : Type 0 where
  pub opening_is : registry.opening.ledger ≡ blank limit
  pub loose : IsFalse registry.metered
  pub one_registry : one.registry ≡ registry.name
  pub two_registry : two.registry ≡ registry.name
  pub one_fresh : IsFreshSeat one.knows
  pub two_fresh : IsFreshSeat two.knows
  pub next : two.knows.first ≡ one.knows.first + one.knows.share

-- a metered registry, and its two seats, which have made no entry, with one worker and room for three entries each
pub record HaveRooms {S : Type 0} (registry : Shared S) (one two : Sitting) : Type 0 where
  pub metered : IsTrue registry.metered
  pub one_registry : one.registry ≡ registry.name
  pub two_registry : two.registry ≡ registry.name
  pub one_fresh : IsFreshSeat one.knows
  pub two_fresh : IsFreshSeat two.knows
  pub one_room : one.knows.room ≡ 3
  pub two_room : two.knows.room ≡ 3

-- Two seats of a share each, whose entries are the first four and the last three of the seven, and the seat that they
-- are joined to: it has all workers, and its places are those from 0 to 6, where the seven entries stand. These are the
-- answers.
pub record Finished {S : Type 0} (registry : Shared S) (one two seat : Sitting) (reported imported : Option Answer) : Type 0 where
  pub one_share : one.knows.share ≡ 1
  pub two_share : two.knows.share ≡ 1
  pub one_places : one.knows.places ≡ 0 ∷ 1 ∷ 2 ∷ 3 ∷ []
  pub two_places : two.knows.places ≡ 4 ∷ 5 ∷ 6 ∷ []
  pub registry_is : seat.registry ≡ registry.name
  pub share_is : seat.knows.share ≡ registry.opening.ledger.workers
  pub made_are : Made seat.knows.seen seat.knows.places (placed_from 0 both_seats)
  pub reported_is : reported ≡ Some Accepted
  pub imported_is : imported ≡ Some (Path 0)

-- the connection asks where interfaces are kept, at these places
abbrev pub asked_at : ℕ → List ℕ → List Placed
asked_at conn told = map (λ place. at place conn Repo) told

-- the connection opens, asks at these places, and leaves
abbrev pub round_at : ℕ → ℕ → List ℕ → ℕ → List Placed
round_at conn opened_at told left_at = at opened_at conn Open ∷ asked_at conn told ++ at left_at conn Left ∷ []

-- the desk made so many entries more: its open connection asked at these places
pub record Asked {Held : Type 0} (conn count : ℕ) (told : List ℕ) (before after : DeskState Held) : Type 0 where
  pub made : (others : List Placed) → Made before.seen.entries before.places others → Made after.seen.entries after.places (others ++ asked_at conn told)
  pub count_is : length told ≡ count
  pub has_open : HasOpen conn after
  pub stays : Stays before after

-- the desk's entries are those of one connection, which asked so often, at these places
pub record Rounds {Held : Type 0} (conn count : ℕ) (told : List ℕ) (before after : DeskState Held) : Type 0 where
  pub opened_at : ℕ
  pub left_at : ℕ
  pub made : Made after.seen.entries after.places (round_at conn opened_at told left_at)
  pub count_is : length told ≡ count
  pub stays : Stays before after

-- the seat's entries are those of one connection, which asked so often, at these places
pub record RoundsAt (conn count : ℕ) (told : List ℕ) (before after : Sitting) : Type 0 where
  pub opened_at : ℕ
  pub left_at : ℕ
  pub made : Made after.knows.seen after.knows.places (round_at conn opened_at told left_at)
  pub count_is : length told ≡ count
  pub registry_is : after.registry ≡ before.registry
  pub first_is : after.knows.first ≡ before.knows.first
  pub share_is : after.knows.share ≡ before.knows.share

-- the entries of a connection that opened, asked so often at these places, and left
pub record IsRound (conn count : ℕ) (told : List ℕ) (made : List Placed) : Type 0 where
  pub opened_at : ℕ
  pub left_at : ℕ
  pub made_is : made ≡ round_at conn opened_at told left_at
  pub count_is : length told ≡ count

-- The seat has all workers, and its entries are those of two connections, which both opened, asked so often at these
-- places, and left.
pub record BothServed {S : Type 0} (registry : Shared S) (seat : Sitting) (count one : ℕ) (told : List ℕ) (two : ℕ) (other : List ℕ) : Type 0 where
  pub registry_is : seat.registry ≡ registry.name
  pub share_is : seat.knows.share ≡ registry.opening.ledger.workers
  pub first : List Placed
  pub second : List Placed
  pub first_is : IsRound one count told first
  pub second_is : IsRound two count other second
  pub made : Made seat.knows.seen seat.knows.places (first ++ second)

-- The entries are those of two connections, which both opened, asked so often at these places, and left: each stands at
-- its place, and there is no further one.
pub record AreTwoRounds (entries : List Entry) (count one : ℕ) (told : List ℕ) (two : ℕ) (other : List ℕ) : Type 0 where
  pub first : List Placed
  pub second : List Placed
  pub first_is : IsRound one count told first
  pub second_is : IsRound two count other second
  pub stand : Stand entries (first ++ second)
  pub all : AreAllPlaces (map (λ placed. placed.0) (first ++ second)) (length entries)
