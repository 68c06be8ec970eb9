-- The imports that wait, the replies of all places, and the graph, as callers see them.
use Rattle.std.specs.Prelude.{◌≡◌, ◌⊎◌, ℕ, ◌<◌, ◌≤◌, List, ◌∷◌, length, map, reverse, filter, filter_map, get_or, Bool, not, true, ◌&&◌, ◌||◌, ◌==◌, Option, Some, None, is_none, false, vec_capacity}
use Rattle.std.specs.List.{list_any}
use Rattle.std.specs.Global.{Vec}
use Rattle.histories.specs.declared.answer.Answer.{Answer}
use Rattle.unit_registry.specs.declared.act.Act.{Act}
use Rattle.histories.specs.declared.standing.Fate.{Fate}
use Rattle.histories.specs.declared.answer.Said.{Said}
use Rattle.histories.specs.declared.answer.Said.TheVariants.{Waits}
use Rattle.histories.specs.declared.standing.Who.{Who}
use Rattle.histories.specs.declared.standing.Who.TheVariants.{Holder}
use Rattle.unit_registry.specs.Acts.{is_done, goes}
use Rattle.unit_registry.specs.declared.act.Act.TheVariants.{Compiled}
use Rattle.histories.specs.declared.answered.Answered.{Answered}
use Rattle.histories.specs.Answered.{is_accepted}
use Rattle.wait_graph.specs.Walks.{Leads}
use Rattle.histories.specs.Members.{In}
use Rattle.histories.specs.Noted.{answer_by}
use Rattle.wait_graph.specs.Graph.{Graph}
use Rattle.registry_tables.specs.declared.imports.Waiting.{Waiting}
use Rattle.registry_tables.specs.Tabled.{Tabled, fate_in}

-- the number of units, for how many connections there is a number, the room for places, the imports that wait, the newest first, the replies by place, and the
-- places of the imports that got theirs last
pub record Imported : Type 0 where
  pub units : ℕ
  pub conns : ℕ
  pub room : ℕ
  pub waiting : List Waiting
  pub replies : List (Option Answer)
  pub answered : List ℕ

-- the pair of the unit held and the one awaited, where one is held
abbrev pub pair_by : Option ℕ → ℕ → Option (ℕ × ℕ)
pair_by (Some holder) unit = Some (holder, unit)
pair_by None unit = None

-- the pairs of a held unit and one that it waits for
abbrev pub pairs_in : List Waiting → List (ℕ × ℕ)
pairs_in waiting = filter_map (λ waiter. pair_by waiter.holder waiter.unit) waiting

-- the pairs but those of the held unit
abbrev pub without : Option ℕ → List (ℕ × ℕ) → List (ℕ × ℕ)
without (Some unit) pairs = filter (λ pair. not (pair.0 == unit)) pairs
without None pairs = pairs

-- how many of them are of the connection
abbrev pub count_of : List Waiting → ℕ → ℕ
count_of waiting conn = length (filter (λ waiter. waiter.conn == conn) waiting)

-- what the imports keep: the graph's pairs are those of the waiting imports, the number of each connection is that of
-- its imports that wait, no more wait than there is room for, and there is room for as many as promised
pub record IsImported (waiting : Vec Waiting) (replies : Vec (Option Answer)) (answered counts : Vec ℕ) (conns : ℕ) (graph : Graph) : Type 0 where
  pub pairs : graph.pairs ≡ pairs_in waiting.items
  pub has_room : graph.edges ≤ vec_capacity waiting
  pub has_reply_room : graph.edges ≤ vec_capacity replies
  pub has_answered_room : graph.edges ≤ vec_capacity answered
  pub has_count_room : conns ≤ vec_capacity counts
  pub counted : (conn : ℕ) → get_or counts.items conn 0 ≡ count_of waiting.items conn
  pub few : length waiting.items ≤ graph.edges

-- The replies of those whose unit has ended are these, and what no such import waits for is right already.
pub record Settles (tables : Tabled) (waiting : List Waiting) (old : List (Option Answer)) (reply : ℕ → Option Answer) : Type 0 where
  pub ended : (waiter : Waiting) → In waiter waiting → (fate : Fate) → fate_in tables waiter.unit ≡ Some fate → reply waiter.place ≡ Some (answer_by fate waiter.unit)
  pub others : (place : ℕ) → place < length old → (get_or old place None ≡ reply place) ⊎ ((waiter : Waiting) × In waiter waiting × (waiter.place ≡ place) × (is_none (fate_in tables waiter.unit) ≡ false))

-- each of them waits for one of so many units, at one of so many places
pub record AllWithin (waiting : List Waiting) (unit_count place_count : ℕ) : Type 0 where
  pub units : (waiter : Waiting) → In waiter waiting → waiter.unit < unit_count
  pub places : (waiter : Waiting) → In waiter waiting → waiter.place < place_count

-- an import is of the connection exactly where it is of the unit that this holds
pub record IsTied (conn : ℕ) (holder : Option ℕ) (waiter : Waiting) : Type 0 where
  pub same_holder : waiter.conn ≡ conn → waiter.holder ≡ holder
  pub same_conn : (unit : ℕ) → waiter.holder ≡ Some unit → holder ≡ Some unit → waiter.conn ≡ conn

-- whether one of them waits for this unit, and it has ended
abbrev pub is_ended_in : Tabled → List Waiting → ℕ → Bool
is_ended_in tables waiting unit = list_any (λ waiter. not (is_none (fate_in tables waiter.unit)) && waiter.unit == unit) waiting

-- the places of those whose unit has ended, the oldest first
abbrev pub ended_places : Tabled → List Waiting → List ℕ
ended_places tables waiting = reverse (map (λ waiter. waiter.place) (filter (λ waiter. not (is_none (fate_in tables waiter.unit))) waiting))

-- the unit that a connection holds
abbrev pub held : Who → Option ℕ
held (Holder unit) = Some unit
held _ = None

-- with the import that was told to wait, if one was
abbrev pub newest_waiting : Said → ℕ → ℕ → Option ℕ → List Waiting → List Waiting
newest_waiting (Waits unit) place conn holder waiting = record { place = place; conn = conn; unit = unit; holder = holder } ∷ waiting
newest_waiting _ place conn holder waiting = waiting

-- what is told to wait is of a connection, and waits for one of so many units
abbrev pub WaitsWell : Said → Act → ℕ → Type 0
WaitsWell (Waits unit) act count = (unit < count) × (is_done act ≡ false)
WaitsWell _ act count = Unit {0}

-- a pair of the unit held and this one closes no circle of waits
abbrev pub ClosesNone : List Waiting → Option ℕ → ℕ → Type 0
ClosesNone waiting (Some held) unit = ¬ Leads (pairs_in waiting) unit held
ClosesNone waiting None unit = Unit {0}

-- whether the act reports an interface as compiled
abbrev pub is_report : Act → Bool
is_report (Compiled unit stored) = true
is_report _ = false

-- whether a unit may end with the entry: its connection goes, or it is a report that was accepted
abbrev pub may_end_unit : Answered → Bool
may_end_unit newest = goes newest.act || (is_accepted newest.said && is_report newest.act)
