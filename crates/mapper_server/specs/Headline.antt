-- What serving means: one legal history for all connections, which is printed.
use Rattle.std.specs.Prelude.{◌≡◌, ℕ, ◌+◌, ◌≤◌, List, [], ◌∷◌, ◌++◌, Option, Some, None, ⊤, ◌⊎◌, length, Contains, Vec}
use Rattle.mm_outside.specs.Octets.{Octets}
use Rattle.mm_outside.specs.Causes.{Rose}
use Rattle.mm_outside.specs.Told.{Told}
use Rattle.mm_outside.specs.Hall.{Links}
use Rattle.mm_outside.specs.HallCounts.{HallCounts}
use Rattle.mm_outside.specs.declared.hall.Back.{Back}
use Rattle.trace_text.specs.Texts.{trace}
use Rattle.unit_registry.specs.Projects.{ProjectView}
use Rattle.registry_core.specs.Ledgers.{LedgerView, IsLedger, done_in, open_in, opened_in}
use Rattle.ruled_history.specs.Runs.{AreAllPlaces}
use Rattle.std.specs.declared.alloc.Global.{Global}
use Rattle.mapper_server.specs.declared.serving.ServeError.{ServeError}
use Rattle.mapper_server.specs.declared.serving.ServeError.TheVariants.{Memory}
use Rattle.mapper_server.specs.Backs.{Works, conns_of, new_back}
use Rattle.mapper_server.specs.Printing.{Prints}
use Rattle.mapper_server.specs.Statuses.{IsLeast, IsUpTo, Grew, statuses_of}

-- ---- two lists, member by member

-- there are as many, and this holds of the first of each, of the second of each, and so on
abbrev pub EachPair : {A B : Type 0} → (A → B → Type 0) → List A → List B → Type 0
EachPair R [] [] = ⊤
EachPair R [] (y ∷ ys) = ⊥
EachPair R (x ∷ xs) [] = ⊥
EachPair R (x ∷ xs) (y ∷ ys) = R x y × EachPair R xs ys

-- this holds of the first of each, or of the second of each, or of a later pair
abbrev pub SomePair : {A B : Type 0} → (A → B → Type 0) → List A → List B → Type 0
SomePair R [] ys = ⊥
SomePair R (x ∷ xs) [] = ⊥
SomePair R (x ∷ xs) (y ∷ ys) = R x y ⊎ SomePair R xs ys

-- ---- what all halls tell

-- what one tells before what others do, if all of them tell it
abbrev pub told_with : {A : Type 0} → Option A → Option (List A) → Option (List A)
told_with (Some a) (Some told) = Some (a ∷ told)
told_with (Some a) None = None
told_with None told = None

-- what all of them tell, if each tells it
abbrev pub told_all : {H A : Type 0} → (H → Option A) → List H → Option (List A)
told_all tell [] = Some []
told_all tell (hall ∷ halls) = told_with (tell hall) (told_all tell halls)

-- the links that the halls got back meanwhile, hall by hall
abbrev pub new_backs : {L : Type 0} → List (Links L) → List (Links L) → List (Back L)
new_backs (before ∷ befores) (now ∷ nows) = new_back before now ++ new_backs befores nows
new_backs [] nows = []
new_backs (before ∷ befores) [] = []

-- ---- the headline

-- the history is legal, all its workers are done, and no connection of it is open
pub record IsOver (history : LedgerView) : Type 0 where
  pub legal : IsLedger history
  pub done : done_in history ≡ history.workers
  pub closed : open_in history ≡ 0

-- the history is of this project, of so many workers, with this limit, and has so many entries
pub record IsOf (project : ProjectView) (workers limit count : ℕ) (history : LedgerView) : Type 0 where
  pub project_is : history.project ≡ project
  pub workers_is : history.workers ≡ workers
  pub limit_is : history.limit ≡ limit
  pub count_is : count ≡ length history.entries

-- the history has at most one entry less than its limit allows
abbrev pub IsUsedUp : LedgerView → Type 0
IsUsedUp history = history.limit ≤ length history.entries + 1

-- the hall can give no further link, or it has failed meanwhile
abbrev pub GivesNoMore : {H L : Type 0} → (H → Option (Links L)) → (H → ℕ) → H → H → Type 0
GivesNoMore {H} {L} links hall_faults before now = Told (λ (was is : Links L). is.to_give ≡ []) (links before) (links now) ⊎ Rose (hall_faults before) (hall_faults now)

-- a number that a link or a hall ended with; `Counts` says when a hall's count of faults gives its number
abbrev pub EndsWith : {H L : Type 0} → (H → ℕ) → (ℕ → ℕ → Type 0) → List H → List H → List (Back L) → ℕ → Type 0
EndsWith {H} {L} hall_faults Counts before now backs status =
    Contains (statuses_of backs) status
    ⊎ ((status ≡ 4) × SomePair (λ (old new : H). Counts (hall_faults old) (hall_faults new)) before now)

-- the number that the printing of a trace ended with
abbrev pub EndsPrinting : (ℕ → ℕ → Type 0) → ℕ → ℕ → ℕ → Type 0
EndsPrinting Counts sink_before sink_now status = (status ≡ 5) × Counts sink_before sink_now

-- a number that a link, a hall or the printing ended with
abbrev pub EndsServing : {H L : Type 0} → (H → ℕ) → (ℕ → ℕ → Type 0) → List H → List H → List (Back L) → ℕ → ℕ → ℕ → Type 0
EndsServing hall_faults Counts before now backs sink_before sink_now status =
    EndsWith hall_faults Counts before now backs status ⊎ EndsPrinting Counts sink_before sink_now status

-- the count of some hall has grown
abbrev pub SomeGrew : {H : Type 0} → (H → ℕ) → List H → List H → Type 0
SomeGrew hall_faults = SomePair (λ old new. Grew (hall_faults old) (hall_faults new))

-- as many links were given back as were given
pub record ReturnsAll (before now : HallCounts) : Type 0 where
  pub as_many : now.back + before.given ≡ now.given + before.back

module _ {H L : Type 0} (links : H → Option (Links L)) (hall_faults : H → ℕ) (octets : L → Option Octets) (read_faults write_faults : L → ℕ) where
  -- One history for all connections. It is printed. Each hall got back every link that it gave, served by this history.
  -- The links that had a connection are one for each connection of it. No hall can give a further link, but for a fault.
  -- The status is the least above 0 that a link, a hall or the printing ended with; a fault of a hall or of the sink counts
  -- whatever the halls tell.
  pub record Serves (history : LedgerView) (before now : List H) (status sink_before sink_now : ℕ) (out_before out_now : Option (List ℕ)) : Type 0 where
    pub printed : Told (Prints (trace history.workers history.limit history.entries) sink_before sink_now) out_before out_now
    pub over : IsOver history
    pub served : EachPair (λ (old new : H). Told (Works octets read_faults write_faults history (IsUsedUp history)) (links old) (links new)) before now
    pub one_each : Told (λ (old new : List (Links L)). AreAllPlaces (conns_of (new_backs old new)) (opened_in history)) (told_all links before) (told_all links now)
    pub used_up : EachPair (GivesNoMore links hall_faults) before now
    pub status_is : Told (λ (old new : List (Links L)).
        IsLeast (EndsServing hall_faults Rose before now (new_backs old new) sink_before sink_now) (EndsServing hall_faults Grew before now (new_backs old new) sink_before sink_now) status)
        (told_all links before) (told_all links now)
    pub hall_fault : SomeGrew hall_faults before now → IsUpTo 4 status
    pub sink_fault : Grew sink_before sink_now → IsUpTo 5 status

-- the halls come back as they were
abbrev pub HandsBack : {H : Type 0} → Vec H Global → ServeError H → Type 0
HandsBack halls (Memory back) = back ≡ halls
