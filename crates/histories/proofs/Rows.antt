-- Worked histories, and the replies that the definitions compute for them.
use Rattle.std.proofs.Common.{◌≡◌, ℕ, ◌+◌, ◌%◌, true, false, List, [], ◌∷◌, ◌++◌, filter_map, length, Option, Some, None, is_some, refl}
use Rattle.std.specs.Prelude.{codes, option_map, if◌then◌else◌}
use Rattle.std.specs.List.{range_with_len}
use Rattle.unit_registry.specs.declared.kind.Kind.TheVariants.{Module, Header, Plain}
use Rattle.unit_registry.specs.declared.act.Act.{Act}
use Rattle.unit_registry.specs.declared.act.Act.TheVariants.{Open, Hello, Repo, Export, Import, Compiled, Pause, Left, Lost, Done}
use Rattle.unit_registry.specs.Projects.{ProjectView}
use Rattle.mapper_replies.specs.declared.refusal.Refusal.TheVariants.{UnitFailed, ImportCycle}
use Rattle.histories.specs.declared.entry.Entry.{Entry}
use Rattle.histories.specs.declared.illegal_reason.IllegalReason.TheVariants.{NotOpen, Full}
use Rattle.histories.specs.declared.answer.Answer.{Answer}
use Rattle.histories.specs.declared.answer.Answer.TheVariants.{Hello as Greeting, Repo as Repository, Path, Done as Accepted, Refused}
use Rattle.histories.specs.Entries.{has_its_connection, has_its_unit, IsEntry}
use Rattle.histories.specs.Answered.{open_count}
use Rattle.histories.specs.Noted.{Noted, answered_of, reply_in, coming_reply, pending}
use Rattle.histories.specs.Histories.{noted_of, is_legal_after, first_fault}

-- the modules a and b, the header ./x.h, and main.cc, which has no name
abbrev four_units : ProjectView
four_units = record {
  repo = codes "gcm.cache";
  units = record { kind = Module; name = codes "a"; ident = codes "a.cc"; built = false }
      ∷ record { kind = Module; name = codes "b"; ident = codes "b.cc"; built = false }
      ∷ record { kind = Header; name = codes "./x.h"; ident = codes "x.h"; built = false }
      ∷ record { kind = Plain; name = []; ident = codes "main.cc"; built = false }
      ∷ [];
}

abbrev by : ℕ → Act → Entry
by conn act = record { conn = conn; act = act }

abbrev hello : ℕ → Act
hello unit = Hello 1 (Some unit)

abbrev importing : ℕ → Act
importing unit = Import (Some unit) false

abbrev exporting : ℕ → Act
exporting unit = Export (Some unit)

abbrev compiling : ℕ → Act
compiling unit = Compiled (Some unit) false

abbrev last_done : Entry
last_done = by 4294967295 Done

-- a place and the reply to it
abbrev Replied : Type 0
Replied = ℕ × Answer

-- the reply that comes to the place with the newest entry
abbrev coming_at : ProjectView → Noted → List Noted → ℕ → Option Replied
coming_at project newest before place =
    if is_some (reply_in project before place) then None
    else option_map (λ answer. (place, answer)) (coming_reply project newest before place)

-- the replies that come with each entry
abbrev all_coming : ProjectView → List Noted → List (List Replied)
all_coming project [] = []
all_coming project (newest ∷ before) =
    all_coming project before
    ++ filter_map (coming_at project newest before) (range_with_len 0 (length before + 1)) ∷ []

-- The history is legal, these replies come with its entries, and so many connections are open and so many imports wait
-- after it.
record Replays (project : ProjectView) (workers limit : ℕ) (history : List Entry) (replies : List (List Replied)) (open_after waiting_after : ℕ) : Type 0 where
  legal : is_legal_after project workers limit [] history ≡ true
  coming : all_coming project (noted_of project workers history) ≡ replies
  still_open : open_count (answered_of (noted_of project workers history)) ≡ open_after
  waiting : length (pending project (noted_of project workers history)) ≡ waiting_after

-- an import waits until its unit is compiled
waits_for_compiled : Replays four_units 2 40
    (by 0 Open ∷ by 0 (hello 0) ∷ by 0 (importing 1) ∷ by 0 Pause ∷ by 1 Open ∷ by 1 (hello 1) ∷ by 1 (exporting 1) ∷ by 1 (compiling 1) ∷ [])
    ([] ∷ ((1, Greeting) ∷ []) ∷ [] ∷ [] ∷ [] ∷ ((5, Greeting) ∷ []) ∷ ((6, Path 1) ∷ []) ∷ ((2, Path 1) ∷ (7, Accepted) ∷ []) ∷ [])
    2 0
waits_for_compiled = record { legal = refl; coming = refl; still_open = refl; waiting = refl }

-- an import that would close a cycle of two is refused at once, also where its unit is compiled later
cycle_is_refused : Replays four_units 2 40
    (by 0 Open ∷ by 0 (hello 0) ∷ by 1 Open ∷ by 1 (hello 1) ∷ by 1 (importing 0) ∷ by 1 Pause ∷ by 0 (exporting 0) ∷ by 0 (importing 1) ∷ by 0 (compiling 0) ∷ by 0 Pause ∷ [])
    ([] ∷ ((1, Greeting) ∷ []) ∷ [] ∷ ((3, Greeting) ∷ []) ∷ [] ∷ [] ∷ ((6, Path 0) ∷ []) ∷ ((7, Refused ImportCycle) ∷ []) ∷ ((4, Path 0) ∷ (8, Accepted) ∷ []) ∷ [] ∷ [])
    2 0
cycle_is_refused = record { legal = refl; coming = refl; still_open = refl; waiting = refl }

-- and so is that of the unit held
own_import_is_refused : Replays four_units 1 65536
    (by 0 Open ∷ by 0 (hello 0) ∷ by 0 (importing 0) ∷ by 0 Pause ∷ by 0 Left ∷ last_done ∷ [])
    ([] ∷ ((1, Greeting) ∷ []) ∷ ((2, Refused ImportCycle) ∷ []) ∷ [] ∷ [] ∷ [] ∷ [])
    0 0
own_import_is_refused = record { legal = refl; coming = refl; still_open = refl; waiting = refl }

-- three units, each of which imports the next
abbrev ring : ProjectView
ring = record {
  repo = codes "gcm.cache";
  units = record { kind = Module; name = codes "x"; ident = codes "x.cc"; built = false }
      ∷ record { kind = Module; name = codes "y"; ident = codes "y.cc"; built = false }
      ∷ record { kind = Module; name = codes "z"; ident = codes "z.cc"; built = false }
      ∷ [];
}

abbrev next_in_ring : ℕ → ℕ
next_in_ring unit = (unit + 1) % 3

-- the first two imports wait, and the third is refused
abbrev RingIsRefused : ℕ → ℕ → ℕ → Type 0
RingIsRefused first second third = Replays ring 4 40
    (by 0 Open ∷ by 0 (hello 0) ∷ by 1 Open ∷ by 1 (hello 1) ∷ by 2 Open ∷ by 2 (hello 2) ∷ by first (importing (next_in_ring first)) ∷ by second (importing (next_in_ring second)) ∷ by third (importing (next_in_ring third)) ∷ [])
    ([] ∷ ((1, Greeting) ∷ []) ∷ [] ∷ ((3, Greeting) ∷ []) ∷ [] ∷ ((5, Greeting) ∷ []) ∷ [] ∷ [] ∷ ((8, Refused ImportCycle) ∷ []) ∷ [])
    3 2

ring_0_1_2 : RingIsRefused 0 1 2
ring_0_1_2 = record { legal = refl; coming = refl; still_open = refl; waiting = refl }

ring_0_2_1 : RingIsRefused 0 2 1
ring_0_2_1 = record { legal = refl; coming = refl; still_open = refl; waiting = refl }

ring_1_0_2 : RingIsRefused 1 0 2
ring_1_0_2 = record { legal = refl; coming = refl; still_open = refl; waiting = refl }

ring_1_2_0 : RingIsRefused 1 2 0
ring_1_2_0 = record { legal = refl; coming = refl; still_open = refl; waiting = refl }

ring_2_0_1 : RingIsRefused 2 0 1
ring_2_0_1 = record { legal = refl; coming = refl; still_open = refl; waiting = refl }

ring_2_1_0 : RingIsRefused 2 1 0
ring_2_1_0 = record { legal = refl; coming = refl; still_open = refl; waiting = refl }

-- a unit whose holder goes without having reported it has failed, for all that wait for it
holder_goes : Replays four_units 3 40
    (by 0 Open ∷ by 0 (hello 0) ∷ by 0 (importing 1) ∷ by 0 Pause ∷ by 1 Open ∷ by 1 (hello 3) ∷ by 1 (importing 1) ∷ by 1 Pause ∷ by 2 Open ∷ by 2 (hello 1) ∷ by 2 Left ∷ [])
    ([] ∷ ((1, Greeting) ∷ []) ∷ [] ∷ [] ∷ [] ∷ ((5, Greeting) ∷ []) ∷ [] ∷ [] ∷ [] ∷ ((9, Greeting) ∷ []) ∷ ((2, Refused UnitFailed) ∷ (6, Refused UnitFailed) ∷ []) ∷ [])
    2 0
holder_goes = record { legal = refl; coming = refl; still_open = refl; waiting = refl }

-- an import whose connection has left before its unit is compiled never has a reply
left_before_compiled : Replays four_units 2 40
    (by 0 Open ∷ by 0 (hello 0) ∷ by 0 (importing 1) ∷ by 0 Left ∷ by 1 Open ∷ by 1 (hello 1) ∷ by 1 (exporting 1) ∷ by 1 (compiling 1) ∷ [])
    ([] ∷ ((1, Greeting) ∷ []) ∷ [] ∷ [] ∷ [] ∷ ((5, Greeting) ∷ []) ∷ ((6, Path 1) ∷ []) ∷ ((7, Accepted) ∷ []) ∷ [])
    1 0
left_before_compiled = record { legal = refl; coming = refl; still_open = refl; waiting = refl }

-- where the one connection waits for a unit that nobody holds, the unit is given up
stall_gives_up : Replays four_units 1 65536
    (by 0 Open ∷ by 0 (hello 0) ∷ by 0 (importing 1) ∷ by 0 Pause ∷ by 0 Left ∷ last_done ∷ [])
    ([] ∷ ((1, Greeting) ∷ []) ∷ [] ∷ ((2, Refused UnitFailed) ∷ []) ∷ [] ∷ [] ∷ [])
    0 0
stall_gives_up = record { legal = refl; coming = refl; still_open = refl; waiting = refl }

-- a full history has room for the ends alone
full_history : Replays four_units 1 6
    (by 0 Open ∷ by 0 (hello 0) ∷ by 0 Repo ∷ by 0 (exporting 0) ∷ by 0 Lost ∷ last_done ∷ [])
    ([] ∷ ((1, Greeting) ∷ []) ∷ ((2, Repository) ∷ []) ∷ ((3, Path 0) ∷ []) ∷ [] ∷ [] ∷ [])
    0 0
full_history = record { legal = refl; coming = refl; still_open = refl; waiting = refl }

-- one more request would leave no room for them
past_full : first_fault four_units 1 6 0 [] (by 0 Open ∷ by 0 (hello 0) ∷ by 0 Repo ∷ by 0 (exporting 0) ∷ by 0 (compiling 0) ∷ []) ≡ Some (4, Full)
past_full = refl

-- a connection that has left asks nothing more
after_left : first_fault four_units 1 9 0 [] (by 0 Open ∷ by 0 Left ∷ by 0 Repo ∷ []) ≡ Some (2, NotOpen)
after_left = refl

-- a Done is of no connection
done_is_entry : IsEntry last_done
done_is_entry = refl

done_of_none : has_its_connection (by 0 Done) ≡ false
done_of_none = refl

open_of_none : has_its_connection (by 4294967295 Open) ≡ false
open_of_none = refl

-- an item that was handed in is of a declared unit
stored_of_none : has_its_unit (Compiled None true) ≡ false
stored_of_none = refl
