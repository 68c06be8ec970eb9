-- What a desk tells, by what its seat knows, before and after a turn.
use Rattle.std.proofs.Common.{◌≡◌, ℕ, ◌-◌, ◌<◌, ◌≤◌, Bool, true, false, ◌||◌, ◌&&◌, List, [], ◌∷◌, ◌++◌, length, All, get_or, Option, Some, None, is_some, refl, sym, ap, ap₂, subst, ◌∙◌, arith, true≢false}
use Rattle.std.specs.Prelude.{if◌then◌else◌, Result, Ok, Err, IfOk}
use Rattle.std.proofs.Math.Bool.{and-false, or-false, or-true}
use Rattle.std.proofs.lemmas.Bool.{and_parts}
use Rattle.std.proofs.lemmas.List.Elements.{Contains-get_or}
use mathlib.Core.Logic.{dite}
use native.Mathlib.Decide.{dec_lt}
use Rattle.unit_registry.specs.Acts.{names}
use Rattle.histories.specs.declared.entry.Entry.{Entry}
use Rattle.histories.specs.declared.answered.Answered.{Answered}
use Rattle.histories.specs.Answered.{is_accepted, is_stored, stored_unit, stores}
use Rattle.histories.specs.Histories.{with_said}
use Rattle.histories.specs.Counts.{Effect, Opens, Asks, Goes, Ends, effect_of, ChangesOpen, ChangesDone}
use Rattle.registry_core.specs.Books.{BookView}
use Rattle.registry_core.specs.Ledgers.{LedgerView, Appends, said_in, said_to, with_entry, is_open_in, leaving}
use Rattle.registry_core.specs.declared.leaving.Leaving.{Leaving}
use Rattle.registry_core.specs.declared.leaving.Leaving.TheVariants.{Left as AsLeft, Lost as AsLost}
use Rattle.registry_core.specs.Shelves.{ComesWith, kept_after}
use Rattle.registry_core.specs.Desks.{connections_with, uses, Adds, IsSound}
use Rattle.registry_core.proofs.Keeping.{said_after}
use Rattle.ruled_history.specs.declared.board.View.{View}
use Rattle.ruled_history.specs.declared.board.Stage.{Stage}
use Rattle.ruled_history.specs.declared.board.Stage.TheVariants.{Idle}
use Rattle.ruled_history.specs.Runs.{StartsWith, Has, times}
use Rattle.ruled_history.specs.Views.{with_entries, adds, at_stage, opened_after, dones_after, Knows}
use Rattle.ruled_history.specs.Seats.{Seated, StandsAfter, IsServing, told_seated}
use Rattle.ruled_history.proofs.Counts.{has_contained, contains_had, count_some}
use Rattle.ruled_history.proofs.Histories.{goes}

-- ---- what holds of a desk

below_all : (places : List ℕ) (n : ℕ) → ((place : ℕ) → n ≤ place → times place places ≡ 0) → All (λ place. place < n) places
below_all places n early k d lt =
    let place : ℕ = get_or places k d in
    let has : Has place places = has_contained place places (Contains-get_or places k d lt) in
    dite (dec_lt place n) (λ low. low) (λ late. absurd (let none_late = early place (omega arith) in omega arith))

pub told_sound : {S Item Held : Type 0} (kept : S → ℕ → Option Item) (held : S → Held) (desk : Seated S) → Knows desk.opening.ledger desk.seat.knows → IsSound (told_seated kept held desk)
told_sound kept held desk knows = record {
  ledger = knows.ledger;
  places_within = below_all desk.seat.knows.places (length desk.seat.knows.seen) knows.early;
  own_places = λ place newest at has. contains_had place desk.seat.knows.places (knows.own_places place newest at (has_contained newest.conn desk.seat.knows.connections has));
  own_connections = λ place newest at has not_end. contains_had newest.conn desk.seat.knows.connections (knows.own_connections place newest at (has_contained place desk.seat.knows.places has) not_end);
  opened_is = knows.opened_is;
  dones_is = knows.dones_is;
  enough = knows.enough;
}

-- ---- a turn

opened_changes : (effect : Effect) (opened : ℕ) → goes effect ≤ opened → ChangesOpen effect opened (opened_after effect opened)
opened_changes Opens opened some_open = refl
opened_changes Asks opened some_open = refl
opened_changes Goes opened some_open = omega arith
opened_changes Ends opened some_open = refl

dones_changes : (effect : Effect) (dones : ℕ) → ChangesDone effect dones (dones_after effect dones)
dones_changes Opens dones = refl
dones_changes Asks dones = refl
dones_changes Goes dones = refl
dones_changes Ends dones = refl

-- a desk with another view, which keeps its turn or not
abbrev pub knowing : {S : Type 0} → Seated S → Bool → View → Seated S
knowing desk holds view = record { opening = desk.opening; metered = desk.metered; holds = holds; seat = record { registry = desk.seat.registry; knows = view } }

-- what holds of a seat holds of it at any stage
pub known_at : (opening : LedgerView) (stage : Stage) (view : View) → Knows opening view → Knows opening (at_stage stage view)
known_at opening stage view knows = record {
  ledger = knows.ledger;
  heard = knows.heard;
  places_once = knows.places_once;
  early = knows.early;
  connections_once = knows.connections_once;
  own_places = knows.own_places;
  own_connections = knows.own_connections;
  opened_is = knows.opened_is;
  dones_is = knows.dones_is;
  enough = knows.enough;
  of_nobody = knows.of_nobody;
  numbered = knows.numbered;
  bare = knows.bare;
}

module _ {S Item Held : Type 0} (kept : S → ℕ → Option Item) (held : S → Held) (desk : Seated S) (served : View) (serving : IsServing desk.seat.knows served) (more : StartsWith served.seen desk.seat.knows.seen) where
  pub turn_adds : (holds : Bool) (newest : Entry) (place : ℕ) → place ≡ length served.seen → goes (effect_of newest.act) ≤ served.opened → Adds (told_seated kept held desk) newest place (told_seated kept held (knowing desk holds (at_stage Idle (adds newest served))))
  turn_adds holds newest place is some_open =
      let opened : served.opened ≡ desk.seat.knows.opened = ap (λ (v : View). v.opened) serving.1 in
      let dones : served.dones ≡ desk.seat.knows.dones = ap (λ (v : View). v.dones) serving.1 in
      record {
        since = more.0;
        history = ap (λ (es : List Entry). es ++ newest ∷ []) more.1;
        place_is = is ∙ ap length more.1;
        places = ap₂ (λ (ps : List ℕ) (p : ℕ). ps ++ p ∷ []) (ap (λ (v : View). v.places) serving.1) (sym is);
        connections = ap (λ (v : View). connections_with (effect_of newest.act) newest.conn v.connections) serving.1;
        opened = subst (λ (z : ℕ). ChangesOpen (effect_of newest.act) z (opened_after (effect_of newest.act) served.opened)) opened (opened_changes (effect_of newest.act) served.opened some_open);
        dones = subst (λ (z : ℕ). ChangesDone (effect_of newest.act) z (dones_after (effect_of newest.act) served.dones)) dones (dones_changes (effect_of newest.act) served.dones);
        room = ap (λ (v : View). v.room - uses (effect_of newest.act)) serving.1;
        stays = record { project = refl; workers = refl; limit = refl; name = refl; metered = refl; first = ap (λ (v : View). v.first) serving.1; share = ap (λ (v : View). v.share) serving.1; kept = λ unit. refl; held = refl };
      }

-- some connection is open where an own one is
pub one_open : (opening : LedgerView) (view : View) (conn : ℕ) → Knows opening view → Has conn view.connections → is_open_in (with_entries opening view.seen) conn ≡ true → 1 ≤ view.opened
one_open opening view conn knows has is = let some = count_some (is_open_in (with_entries opening view.seen)) conn view.connections has is in omega (arith, knows.opened_is)

-- ---- the book, after an entry

module _ {S Item Held : Type 0} (kept : S → ℕ → Option Item) (held : S → Held) (opening book after : BookView S) (entries : List Entry) (newest : Entry) (stands : StandsAfter kept held opening book entries) (appends : Appends book.ledger newest after.ledger) where
  said_then : said_in after.ledger ≡ with_said newest (said_to book.ledger newest.conn newest.act) ∷ said_in book.ledger
  said_then = ap said_in appends.appended ∙ said_after book.ledger newest

  ledger_then : after.ledger ≡ with_entries opening.ledger (entries ++ newest ∷ [])
  ledger_then = appends.appended ∙ ap (λ (l : LedgerView). with_entry l newest) stands.is_ledger

  with_kept : held after.shelf ≡ held book.shelf → (item : Option Item) → ((unit : ℕ) → kept after.shelf unit ≡ kept_after (kept book.shelf) (with_said newest (said_to book.ledger newest.conn newest.act)) item unit)
      → ((unit : ℕ) → names (stored_unit newest.act) unit ≡ true → is_some item ≡ true) → StandsAfter kept held opening after (entries ++ newest ∷ [])
  with_kept same item keeps there = record {
    is_ledger = ledger_then;
    is_held = same ∙ stands.is_held;
    is_kept = λ unit. ap (λ (o : Option Item). is_some o) (keeps unit) ∙ (by unit (stores unit said) refl ∙ sym (ap (λ (all : List Answered). is_some (kept opening.shelf unit) || is_stored all unit) said_then));
  }
    where
      said : Answered
      said = with_said newest (said_to book.ledger newest.conn newest.act)

      by : (unit : ℕ) (b : Bool) → stores unit said ≡ b → is_some (if stores unit said then item else kept book.shelf unit) ≡ (is_some (kept opening.shelf unit) || (stores unit said || is_stored (said_in book.ledger) unit))
      by unit true is = rw is (there unit (and_parts (is_accepted said.said) (names (stored_unit newest.act) unit) is).1 ∙ sym (or-true (is_some (kept opening.shelf unit))))
      by unit false is = rw is (stands.is_kept unit)

  -- an entry that comes with no item
  pub stands_entered : after.shelf ≡ book.shelf → stored_unit newest.act ≡ None → StandsAfter kept held opening after (entries ++ newest ∷ [])
  stands_entered same none_stored = with_kept (ap held same) None
      (λ unit. ap (λ (s : S). kept s unit) same ∙ sym (ap (λ (b : Bool). if b then None else kept book.shelf unit) (never unit)))
      (λ unit is. absurd (true≢false (sym is ∙ ap (λ (o : Option ℕ). names o unit) none_stored)))
    where
      never : (unit : ℕ) → stores unit (with_said newest (said_to book.ledger newest.conn newest.act)) ≡ false
      never unit = ap (λ (o : Option ℕ). is_accepted (said_to book.ledger newest.conn newest.act) && names o unit) none_stored ∙ and-false (is_accepted (said_to book.ledger newest.conn newest.act))

  comes : (fits : ℕ → Item → Type 0) (o : Option ℕ) (item : Option Item) (unit : ℕ) → ComesWith fits o item → names o unit ≡ true → is_some item ≡ true
  comes fits (Some named) (Some item) unit with_item is = refl
  comes fits (Some named) None unit with_item is = absurd with_item
  comes fits None item unit with_item is = absurd (true≢false (sym is))

  -- an entry that may come with an item
  pub stands_with_item : (fits : ℕ → Item → Type 0) (item : Option Item) → held after.shelf ≡ held book.shelf → ComesWith fits (stored_unit newest.act) item
      → ((unit : ℕ) → kept after.shelf unit ≡ kept_after (kept book.shelf) (with_said newest (said_to book.ledger newest.conn newest.act)) item unit) → StandsAfter kept held opening after (entries ++ newest ∷ [])
  stands_with_item fits item same with_item keeps = with_kept same item keeps (λ unit is. comes fits (stored_unit newest.act) item unit with_item is)

-- a book without entries stands at the start
pub stands_first : {S Item Held : Type 0} (kept : S → ℕ → Option Item) (held : S → Held) (book : BookView S) → book.ledger.entries ≡ [] → StandsAfter kept held book book []
stands_first kept held book empty = record {
  is_ledger = ap (λ (es : List Entry). with_entries book.ledger es) empty;
  is_held = refl;
  is_kept = λ unit. sym (ap (λ (es : List Entry). is_some (kept book.shelf unit) || is_stored (said_in (with_entries book.ledger es)) unit) empty ∙ or-false (is_some (kept book.shelf unit)));
}

-- ---- the same, where a desk's view changed by a turn

module _ {S Item Held : Type 0} (kept : S → ℕ → Option Item) (held : S → Held) (before after : Seated S) (served : View) (serving : IsServing before.seat.knows served) (more : StartsWith served.seen before.seat.knows.seen) where
  pub told_adds : (holds : Bool) (newest : Entry) (place : ℕ) → place ≡ length served.seen → goes (effect_of newest.act) ≤ served.opened → after ≡ knowing before holds (at_stage Idle (adds newest served)) → Adds (told_seated kept held before) newest place (told_seated kept held after)
  told_adds holds newest place is some_open now = subst (λ (d : Seated S). Adds (told_seated kept held before) newest place (told_seated kept held d)) (sym now) (turn_adds kept held before served serving more holds newest place is some_open)

-- a connection goes with its act
pub leaving_goes : (how : Leaving) → effect_of (leaving how) ≡ Goes
leaving_goes AsLeft = refl
leaving_goes AsLost = refl

-- what follows of a result that is Ok
pub if_ok : {A E : Type 0} (P Q : A → Type 0) (result : Result A E) → IfOk result P → ((a : A) → P a → Q a) → IfOk result Q
if_ok P Q (Ok a) h f = f a h
if_ok P Q (Err e) h f = tt
