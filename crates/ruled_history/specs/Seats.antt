-- What a contract sees of registries, seats and desks.
use Rattle.std.specs.Prelude.{◌≡◌, ℕ, ◌-◌, Bool, ◌||◌, List, [], ◌∷◌, Option, is_some, if◌then◌else◌}
use Rattle.atomic_table.specs.Seated.{TableId}
use Rattle.atomic_table.specs.declared.shared.Seat.{Seat as Chair}
use Rattle.histories.specs.declared.entry.Entry.{Entry}
use Rattle.histories.specs.Answered.{is_stored}
use Rattle.registry_core.specs.Ledgers.{LedgerView, said_in, is_open_in}
use Rattle.registry_core.specs.Books.{BookView}
use Rattle.registry_core.specs.Desks.{DeskState}
use Rattle.ruled_history.specs.declared.board.Stage.TheVariants.{Serves}
use Rattle.ruled_history.specs.declared.board.View.{View}
use Rattle.ruled_history.specs.Runs.{Has}
use Rattle.ruled_history.specs.Views.{with_entries, sees, at_stage, spent}
use Rattle.ruled_history.specs.Steps.{InHand, InTurn, TurnIs}

-- The book is the opening's, and stands after these entries: its project, its workers, its limit and what its shelf
-- holds besides its items are the opening's, and its shelf keeps the units that the opening's keeps and those that are
-- stored in the entries, and no others.
pub record StandsAfter {S Item Held : Type 0} (kept : S → ℕ → Option Item) (held : S → Held) (opening book : BookView S) (entries : List Entry) : Type 0 where
  pub is_ledger : book.ledger ≡ with_entries opening.ledger entries
  pub is_held : held book.shelf ≡ held opening.shelf
  pub is_kept : (unit : ℕ) → is_some (kept book.shelf unit) ≡ (is_some (kept opening.shelf unit) || is_stored (said_in book.ledger) unit)

-- whether an item of the unit is kept after these entries: the opening has it, or it is stored in them
abbrev pub is_kept_after : {S Item : Type 0} → (S → ℕ → Option Item) → BookView S → List Entry → ℕ → Bool
is_kept_after kept opening entries unit = is_some (kept opening.shelf unit) || is_stored (said_in (with_entries opening.ledger entries)) unit

-- a registry: which one it is, the book that it was made of, and whether each seat has a room of its own
pub record Shared (S : Type 0) : Type 0 where
  pub name : TableId
  pub opening : BookView S
  pub metered : Bool

-- a seat: the registry that it is of, and what it knows
pub record Sitting : Type 0 where
  pub registry : TableId
  pub knows : View

-- a desk: the book that its registry was made of, whether each seat has a room of its own, whether it keeps its turn,
-- and its seat as it is once the turn is passed
pub record Seated (S : Type 0) : Type 0 where
  pub opening : BookView S
  pub metered : Bool
  pub holds : Bool
  pub seat : Sitting

-- the room of the first seat: all entries but the ends of the workers, where each seat has a room of its own
abbrev pub first_room : {S : Type 0} → Bool → BookView S → ℕ
first_room metered opening = if metered then opening.ledger.limit - opening.ledger.workers else 0

-- the one view in the list
abbrev pub one_of : List View → View
one_of [] = spent
one_of (view ∷ views) = view

-- the same seat of the same registry
abbrev pub IsSame : {S : Type 0} → Chair S View → Chair S View → Type 0
IsSame before after = (after.table_id ≡ before.table_id) × (after.id ≡ before.id)

-- the seat is served, and may have seen more
abbrev pub IsServing : View → View → Type 0
IsServing before after = (ticket : ℕ) × (after ≡ sees after.seen (at_stage (Serves ticket) before))

-- the seat is served, with a book in hand that is the opening's
abbrev pub IsServed : {S Item Held : Type 0} → (S → ℕ → Option Item) → (S → Held) → BookView S → InHand (BookView S) → Type 0
IsServed kept held opening me = InTurn (StandsAfter kept held opening) opening.ledger me

-- the seat is served, with a book in hand that is the opening's, or is out, as the first says
abbrev pub IsServedIf : {S Item Held : Type 0} → Bool → (S → ℕ → Option Item) → (S → Held) → BookView S → InHand (BookView S) → Type 0
IsServedIf serving kept held opening me = TurnIs serving (StandsAfter kept held opening) opening.ledger me

-- the own connections of a seat are open after this history where they are after the other
abbrev pub StillOpen : LedgerView → List ℕ → List Entry → List Entry → Type 0
StillOpen opening connections before after = (conn : ℕ) → Has conn connections → is_open_in (with_entries opening after) conn ≡ is_open_in (with_entries opening before) conn

-- a registry's name as numbers
abbrev pub name_of : TableId → List ℕ
name_of registry = registry.words ∷ registry.slots ∷ registry.views_name ∷ registry.atom ∷ registry.block ∷ registry.offset ∷ registry.slot_names

-- what a desk tells
abbrev pub told_seated : {S Item Held : Type 0} → (S → ℕ → Option Item) → (S → Held) → Seated S → DeskState Held
told_seated kept held desk =
    record {
      seen = with_entries desk.opening.ledger desk.seat.knows.seen;
      name = name_of desk.seat.registry;
      places = desk.seat.knows.places;
      connections = desk.seat.knows.connections;
      opened = desk.seat.knows.opened;
      dones = desk.seat.knows.dones;
      room = desk.seat.knows.room;
      metered = desk.metered;
      first = desk.seat.knows.first;
      share = desk.seat.knows.share;
      kept = λ unit. is_some (kept desk.opening.shelf unit);
      held = held desk.opening.shelf;
    }
