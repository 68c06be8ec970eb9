-- What a seat does with the book in its slot while it is served.
use Rattle.std.proofs.Common.{◌≡◌, ℕ, ◌+◌, Bool, List, [], ◌∷◌, ◌++◌, Some, sym, ap, subst, ◌∙◌}
use Rattle.std.specs.Prelude.{Option}
use Rattle.atomic_table.specs.Table.{Me, rest}
use Rattle.histories.specs.declared.entry.Entry.{Entry}
use Rattle.registry_core.specs.Books.{BookView}
use Rattle.registry_core.specs.Ledgers.{LedgerView, Appends, Passes}
use Rattle.ruled_history.specs.declared.board.View.{View}
use Rattle.ruled_history.specs.Seats.{StandsAfter, IsServed, IsServing}
use Rattle.ruled_history.specs.Steps.{InTurn, IsEntering}
use Rattle.ruled_history.specs.Views.{at_stage, MayAdd}

module _ {B : Type 0} where
  -- what stands first in the hand
  abbrev first_of : Option B → List (ℕ × Option B) → Option B
  first_of other [] = other
  first_of other (x ∷ xs) = x.1

  -- the value that is lent is that in the hand
  pub lent : (hand : List (ℕ × Option B)) (x y : Option B) → hand ≡ (0, y) ∷ [] → hand ≡ (0, x) ∷ rest hand → x ≡ y
  lent hand x y is value = ap (first_of x) (sym value ∙ is)

  -- nothing else is in the hand
  pub hand_with : (hand : List (ℕ × Option B)) (x y : Option B) → hand ≡ (0, y) ∷ [] → ◌≡◌ {A = List (ℕ × Option B)} ((0, x) ∷ rest hand) ((0, x) ∷ [])
  hand_with hand x y is = ap (λ (xs : List (ℕ × Option B)). (0, x) ∷ rest xs) is

-- who is served sees what it has seen
pub serving_still : {B : Type 0} (Stands : B → List Entry → Type 0) (opening : LedgerView) (m : Me (Option B) View) → InTurn Stands opening m → IsServing m.0 m.0
serving_still Stands opening m turn = (turn.ticket, ap (λ s. at_stage s m.0) turn.serves)

module _ {S Item Held : Type 0} (kept : S → ℕ → Option Item) (held : S → Held) (opening : BookView S) (m : Me (Option (BookView S)) View) (turn : IsServed kept held opening m) where
  -- the book in hand after one more entry may be recorded
  pub entering : (metered : Bool) (m' : Me (Option (BookView S)) View) (book after : BookView S) (newest : Entry) → book ≡ turn.book → m' ≡ (m.0, (0, Some after) ∷ rest m.1) → Appends book.ledger newest after.ledger → StandsAfter kept held opening after (m.0.seen ++ newest ∷ []) → MayAdd metered m.0 newest
      → IsEntering (StandsAfter kept held opening) metered opening.ledger newest m'
  entering metered m' book after newest same now appends stands may = subst (IsEntering (StandsAfter kept held opening) metered opening.ledger newest) (sym now) record {
    ticket = turn.ticket;
    book = after;
    serves = turn.serves;
    hand = hand_with m.1 (Some after) (Some turn.book) turn.hand;
    stands = stands;
    passes = subst (λ (l : LedgerView). Passes l newest) (ap (λ (b : BookView S). b.ledger) same ∙ turn.told.stands.is_ledger) appends.passes;
    is_entry = appends.is_entry;
    may = may;
  }

  -- the book in hand that is as it was
  pub untouched : (m' : Me (Option (BookView S)) View) (book : BookView S) → book ≡ turn.book → m' ≡ (m.0, (0, Some book) ∷ rest m.1) → m' ≡ m
  untouched m' book same now = now ∙ ap (λ (xs : List (ℕ × Option (BookView S))). (m.0, xs)) (hand_with m.1 (Some book) (Some turn.book) turn.hand ∙ (ap (λ (b : BookView S). (0, Some b) ∷ []) same ∙ sym turn.hand))

  -- it stands after what was seen
  pub book_stands : (book : BookView S) → book ≡ turn.book → StandsAfter kept held opening book m.0.seen
  book_stands book same = subst (λ (b : BookView S). StandsAfter kept held opening b m.0.seen) (sym same) turn.told.stands

-- the slot of who is served has a book
pub in_slot : {S Item Held : Type 0} (kept : S → ℕ → Option Item) (held : S → Held) (opening : BookView S) (m : Me (Option (BookView S)) View) → IsServed kept held opening m → (x : Option (BookView S)) × (m.1 ≡ (0, x) ∷ rest m.1)
in_slot {S} kept held opening m turn = (Some turn.book, turn.hand ∙ ap (λ (l : List (ℕ × Option (BookView S))). (0, Some turn.book) ∷ rest l) (sym turn.hand))
