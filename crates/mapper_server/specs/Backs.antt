-- The links that a hall gave, and got back once they were served.
use Rattle.std.specs.Prelude.{◌≡◌, ℕ, ◌<◌, List, [], ◌∷◌, ◌++◌, Option, Some, None, ⊤, drop, length, filter_map}
use Rattle.mm_outside.specs.Octets.{Octets}
use Rattle.mm_outside.specs.Told.{Told}
use Rattle.mm_outside.specs.Hall.{Links}
use Rattle.mm_outside.specs.declared.hall.Back.{Back}
use Rattle.registry_core.specs.Ledgers.{LedgerView, opened_in}
use Rattle.connection_core.specs.declared.conn_end.ConnEnd.{ConnEnd}
use Rattle.connection_core.specs.Ends.{HasCauses, status_of}
use Rattle.mapper_server.specs.Serving.{ServesIn, TellsWasFull}

-- none of these links has a connection
abbrev pub NoneHasConnection : {L : Type 0} → List (Back L) → Type 0
NoneHasConnection [] = ⊤
NoneHasConnection (back ∷ backs) = (back.conn ≡ None) × NoneHasConnection backs

-- the connections of these links, in order
abbrev pub conns_of : {L : Type 0} → List (Back L) → List ℕ
conns_of = filter_map (λ back. back.conn)

-- the links that a hall got back meanwhile
abbrev pub new_back : {L : Type 0} → Links L → Links L → List (Back L)
new_back before now = drop (length before.back) now.back

-- How links were given back over a history; `Full` says that it had no room for a further connection.
module _ {L : Type 0} (octets : L → Option Octets) (read_faults write_faults : L → ℕ) (history : LedgerView) (Full : Type 0) where
  -- a link was served as a connection of the history, and ended with this status
  pub record IsServed (conn : ℕ) (old new : L) (status : ℕ) : Type 0 where
    pub opened : conn < opened_in history
    pub how : ConnEnd
    pub status_is : status ≡ status_of how
    pub served : Told (ServesIn history conn how) (octets old) (octets new)
    pub causes : HasCauses (read_faults old) (read_faults new) (write_faults old) (write_faults new) how
    pub was_full : TellsWasFull how history

  -- a link had no connection: it is as it was, and so is every link that its hall gave after it
  pub record IsTurnedAway (old new : L) (status : ℕ) (later : List (Back L)) : Type 0 where
    pub same : new ≡ old
    pub status_is : status ≡ 9
    pub others : NoneHasConnection later
    pub full : Full

  -- a link was served, or turned away
  abbrev pub IsReturned : L → L → Option ℕ → ℕ → List (Back L) → Type 0
  IsReturned old new (Some conn) status later = IsServed conn old new status
  IsReturned old new None status later = IsTurnedAway old new status later

  -- each of these links was given back, in this order
  abbrev pub AreReturned : List L → List (Back L) → Type 0
  AreReturned [] [] = ⊤
  AreReturned [] (back ∷ backs) = ⊥
  AreReturned (link ∷ links) [] = ⊥
  AreReturned (link ∷ links) (back ∷ backs) = IsReturned link back.link back.conn back.status backs × AreReturned links backs

  -- a hall gave links and got back each of them, in that order
  pub record Works (before now : Links L) : Type 0 where
    pub given : List L
    pub backs : List (Back L)
    pub taken : before.to_give ≡ given ++ now.to_give
    pub back : now.back ≡ before.back ++ backs
    pub returned : AreReturned given backs
