-- The other connections of a desk, while it is called for one of them.
use Rattle.std.proofs.Common.{◌≡◌, ◌≢◌, inl, inr, ℕ, suc, ◌+◌, ◌<◌, List, [], ◌∷◌, ◌++◌, length, fold, Contains, Option, Some, refl, sym, ap, subst, ◌∙◌, arith}
use Rattle.std.proofs.lemmas.List.{append-nil}
use Rattle.std.proofs.lemmas.List.Elements.{All-contains, Contains-append_cases}
use Rattle.std.specs.Option.{option_map_or}
use Rattle.std.specs.Prelude.{slice_get}
use Rattle.unit_registry.specs.declared.act.Act.{Act as Acts}
use Rattle.unit_registry.specs.declared.act.Act.TheVariants as act
use Rattle.unit_registry.specs.Projects.{ProjectView}
use Rattle.histories.specs.declared.entry.Entry.{Entry}
use Rattle.histories.specs.Answered.{is_open}
use Rattle.histories.specs.Noted.{Noted, answered_of}
use Rattle.histories.specs.Histories.{and_then, noted_of, answered_in}
use Rattle.histories.proofs.Members.{In}
use Rattle.histories.proofs.Acyclic.{answered_entry}
use Rattle.histories.proofs.Passing.{other_open}
use Rattle.registry_core.specs.Ledgers.{LedgerView, entry, is_open_in}
use Rattle.registry_core.specs.Desks.{DeskState, Looks, Adds, IsSound, IsEntryOf, GoesOnFor}
use Rattle.registry_core.proofs.Desks.{slice_get_behind, adds_own, adds_apart, adds_is_open, opens_own}
use Rattle.connection_core.specs.Entering.{Enters, IsServing}
use Rattle.connection_core.proofs.Enterings.{enters_looks}

-- what entering for a connection and looking leave of a desk
pub enters_for : {Held : Type 0} (conn : ℕ) (asked : List Acts) (requested : List ℕ) (before after : DeskState Held) → Enters conn asked requested before after → GoesOnFor conn before after
enters_for conn asked requested before after h = record {
  since = h.since;
  history = h.history;
  own = h.own;
  places = h.places;
  of_conn = h.of_conn;
  connections = h.connections;
  stays = h.stays;
}

pub looks_for : {Held : Type 0} (conn : ℕ) (before after : DeskState Held) → Looks before after → GoesOnFor conn before after
looks_for conn before after looks = record {
  since = looks.since;
  history = looks.history;
  own = [];
  places = looks.places ∙ sym (append-nil before.places);
  of_conn = λ k d below. absurd (omega (arith, below));
  connections = looks.connections;
  stays = looks.stays;
}

-- a block was entered, and its replies were looked at
pub answered_for : {Held : Type 0} (conn : ℕ) (asked : List Acts) (requested : List ℕ) (before between after : DeskState Held) → Enters conn asked requested before between → IsServing conn between → IsSound after → Looks between after → GoesOnFor conn before after
answered_for conn asked requested before between after h serving sound looks =
    enters_for conn asked requested before after (enters_looks conn asked requested before between after h serving sound looks)

at_place : {A : Type 0} (x : A) → (xs : List A) → In x xs → (k : ℕ) × (slice_get xs k ≡ Some x)
at_place x [] h = absurd h
at_place x (y ∷ xs) (inl e) = (0, ap (λ z. Some z) e)
at_place x (y ∷ xs) (inr h) = let p = at_place x xs h in (suc p.0, p.1)

fold_on : {A B : Type 0} (f : B → A → B) → (xs ys : List A) (b : B) → fold f b (xs ++ ys) ≡ fold f (fold f b xs) ys
fold_on f [] ys b = refl
fold_on f (x ∷ xs) ys b = fold_on f xs ys (f b x)

open_along : (project : ProjectView) (workers conn : ℕ) → (since : List Entry) (noted : List Noted) → ((entry : Entry) → In entry since → entry.conn ≢ conn) → is_open (answered_of (fold (and_then project workers) noted since)) conn ≡ is_open (answered_of noted) conn
open_along project workers conn [] noted apart = refl
open_along project workers conn (entry ∷ since) noted apart =
    open_along project workers conn since (and_then project workers noted entry) (λ x there. apart x (inr there))
    ∙ other_open (answered_entry project noted entry) (answered_of noted) conn (apart entry (inl refl))

-- entries of others leave open what is
open_on : (project : ProjectView) (workers conn : ℕ) (history since : List Entry) → ((entry : Entry) → In entry since → entry.conn ≢ conn) → is_open (answered_in project workers (history ++ since)) conn ≡ is_open (answered_in project workers history) conn
open_on project workers conn history since apart =
    ap (λ n. is_open (answered_of n) conn) (fold_on (and_then project workers) history since [])
    ∙ open_along project workers conn since (noted_of project workers history) apart

open_seen : (ledger : LedgerView) (project : ProjectView) (workers : ℕ) (entries : List Entry) → ledger.project ≡ project → ledger.workers ≡ workers → ledger.entries ≡ entries → (conn : ℕ) → is_open_in ledger conn ≡ is_open (answered_in project workers entries) conn
open_seen ledger project workers entries p w e conn = λ j. is_open (answered_in (p j) (w j) (e j)) conn

module _ {Held : Type 0} (conn : ℕ) (before after : DeskState Held) (h : GoesOnFor conn before after) (was : IsSound before) (now : IsSound after) where
  -- no entry of another connection of the desk was made since
  pub beside_apart : (other : ℕ) → Contains before.connections other → other ≢ conn → (e : Entry) → In e h.since → e.conn ≢ other
  beside_apart other own different e there same =
      let p = at_place e h.since there in
      let place : ℕ = length before.seen.entries + p.0 in
      let at : slice_get after.seen.entries place ≡ Some e = ap (λ (es : List Entry). slice_get es place) h.history ∙ slice_get_behind before.seen.entries h.since p.0 place refl ∙ p.1 in
      let mine : Contains after.places place = now.own_places place e at (subst (λ (c : ℕ). Contains after.connections c) (sym same) (subst (λ (cs : List ℕ). Contains cs other) (sym h.connections) own)) in
      elim (Contains-append_cases before.places h.own place (subst (λ (ps : List ℕ). Contains ps place) h.places mine)) [
        | inl earlier ↦ (let below : place < length before.seen.entries = All-contains (λ (q : ℕ). q < length before.seen.entries) before.places place was.places_within earlier in absurd (omega (arith, below)))
        | inr newer ↦ (
            let of = All-contains (IsEntryOf conn after.seen.entries) h.own place h.of_conn newer in
            let named : e.conn ≡ conn = ap (λ (r : Option Entry). option_map_or (λ (x : Entry). x.conn) r conn) (sym at ∙ of.there) in
            different (sym same ∙ named))
      ]

  -- another connection of the desk stays open and the desk's
  pub serving_beside : (other : ℕ) → IsServing other before → other ≢ conn → IsServing other after
  serving_beside other serving different = record {
    own = subst (λ (cs : List ℕ). Contains cs other) (sym h.connections) serving.own;
    there = open_seen after.seen before.seen.project before.seen.workers (before.seen.entries ++ h.since) h.stays.project h.stays.workers h.history other
        ∙ open_on before.seen.project before.seen.workers other before.seen.entries h.since (beside_apart other serving.own different)
        ∙ serving.there;
    sound = now;
  }

-- the connection that was opened is the desk's and open
pub opens_serving : {Held : Type 0} (conn place : ℕ) (before after : DeskState Held) → IsSound after → Adds before (entry conn act.Open) place after → IsServing conn after
opens_serving conn place before after now adds = record {
  own = opens_own before after (entry conn act.Open) place adds refl;
  there = adds_is_open before after (entry conn act.Open) place now adds (inl refl);
  sound = now;
}

-- an entry of one connection leaves another one of the desk open and the desk's
pub adds_beside : {Held : Type 0} (newest : Entry) (place : ℕ) (before after : DeskState Held) → IsSound after → Adds before newest place after → (other : ℕ) → IsServing other before → other ≢ newest.conn → IsServing other after
adds_beside newest place before after now adds other serving different = record {
  own = adds_own before after newest place adds other serving.own;
  there = open_seen after.seen before.seen.project before.seen.workers ((before.seen.entries ++ adds.since) ++ newest ∷ []) adds.stays.project adds.stays.workers adds.history other
      ∙ open_on before.seen.project before.seen.workers other (before.seen.entries ++ adds.since) (newest ∷ []) (only newest (λ same. different (sym same)))
      ∙ open_on before.seen.project before.seen.workers other before.seen.entries adds.since (adds_apart before after newest place serving.sound now adds other serving.own)
      ∙ serving.there;
  sound = now;
}
  where
    only : (e : Entry) → e.conn ≢ other → (x : Entry) → In x (e ∷ []) → x.conn ≢ other
    only e apart x (inl is) = λ same. apart (ap (λ (y : Entry). y.conn) is ∙ same)
    only e apart x (inr none) = absurd none
