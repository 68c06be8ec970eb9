-- What follows from the calls of a desk.
use Rattle.std.proofs.Common.{◌≡◌, ◌≢◌, ◌⊎◌, inl, inr, ℕ, zero, suc, ◌+◌, ◌<◌, Bool, true, List, [], ◌∷◌, ◌++◌, length, fold, get_or, Contains, Some, refl, sym, ap, subst, ◌∙◌, arith, append-nil}
use Rattle.std.proofs.lemmas.List.{append_assoc}
use Rattle.std.proofs.lemmas.List.Elements.{All-nil, All-cons, All-append, All-contains, Contains-append_left, Contains-push, Contains-push_cases}
use Rattle.std.proofs.lemmas.Option.{slice_get_within}
use Rattle.std.specs.Prelude.{slice_get}
use Rattle.unit_registry.specs.Projects.{ProjectView}
use Rattle.histories.specs.declared.entry.Entry.{Entry}
use Rattle.histories.specs.declared.answer.Answer.{Answer}
use Rattle.histories.specs.Answered.{is_open}
use Rattle.histories.specs.Noted.{Noted, answered_of}
use Rattle.histories.specs.Histories.{and_then, noted_of, answered_in, reply, IsLegal}
use Rattle.histories.specs.Counts.{Effect, Opens, Asks, Goes, Ends, effect_of, ChangesOwn}
use Rattle.histories.proofs.Members.{In}
use Rattle.histories.proofs.Acyclic.{answered_entry}
use Rattle.histories.proofs.LegalCounts.{own_with}
use Rattle.histories.proofs.Passing.{other_open}
use Rattle.histories.proofs.Stay.{replies_stay}
use Rattle.registry_core.specs.Ledgers.{LedgerView, is_open_in, reply_at}
use Rattle.registry_core.specs.Desks.{DeskState, Stays, Looks, Adds, IsSound, GoesOn, GoesOnFor, IsEntryOf, connections_with}

-- ---- lists

pub slice_get_behind : {A : Type 0} → (xs ys : List A) (k p : ℕ) → p ≡ length xs + k → slice_get (xs ++ ys) p ≡ slice_get ys k
slice_get_behind [] ys k p e = ap (slice_get ys) (let same : p ≡ k = omega arith in same)
slice_get_behind (x ∷ xs) ys k zero e = absurd (omega arith)
slice_get_behind (x ∷ xs) ys k (suc p) e = slice_get_behind xs ys k p (omega arith)

pub slice_get_before : {A : Type 0} → (xs ys : List A) (k : ℕ) (x : A) → slice_get xs k ≡ Some x → slice_get (xs ++ ys) k ≡ Some x
slice_get_before [] ys k x h = absurd (cc)
slice_get_before (y ∷ xs) ys zero x h = h
slice_get_before (y ∷ xs) ys (suc k) x h = slice_get_before xs ys k x h

position_of : {A : Type 0} (x : A) → (xs : List A) → In x xs → (k : ℕ) × (slice_get xs k ≡ Some x)
position_of x [] h = absurd h
position_of x (y ∷ xs) (inl e) = (0, ap (λ z. Some z) e)
position_of x (y ∷ xs) (inr h) = let p = position_of x xs h in (suc p.0, p.1)

fold_behind : {A B : Type 0} (f : B → A → B) → (xs ys : List A) (b : B) → fold f b (xs ++ ys) ≡ fold f (fold f b xs) ys
fold_behind f [] ys b = refl
fold_behind f (x ∷ xs) ys b = fold_behind f xs ys (f b x)

-- ---- entries of others leave open what is

open_along : (project : ProjectView) (workers conn : ℕ) → (since : List Entry) (noted : List Noted) → ((entry : Entry) → In entry since → entry.conn ≢ conn) → is_open (answered_of (fold (and_then project workers) noted since)) conn ≡ is_open (answered_of noted) conn
open_along project workers conn [] noted apart = refl
open_along project workers conn (entry ∷ since) noted apart =
    open_along project workers conn since (and_then project workers noted entry) (λ x there. apart x (inr there))
    ∙ other_open (answered_entry project noted entry) (answered_of noted) conn (apart entry (inl refl))

open_behind : (project : ProjectView) (workers conn : ℕ) (history since : List Entry) → ((entry : Entry) → In entry since → entry.conn ≢ conn) → is_open (answered_in project workers (history ++ since)) conn ≡ is_open (answered_in project workers history) conn
open_behind project workers conn history since apart =
    ap (λ n. is_open (answered_of n) conn) (fold_behind (and_then project workers) history since [])
    ∙ open_along project workers conn since (noted_of project workers history) apart

-- what is asked of a history, where the project, the workers and the entries are these
open_at : (ledger : LedgerView) (project : ProjectView) (workers : ℕ) (entries : List Entry) → ledger.project ≡ project → ledger.workers ≡ workers → ledger.entries ≡ entries → (conn : ℕ) → is_open_in ledger conn ≡ is_open (answered_in project workers entries) conn
open_at ledger project workers entries p w e conn = λ j. is_open (answered_in (p j) (w j) (e j)) conn

reply_of : (ledger : LedgerView) (project : ProjectView) (workers : ℕ) (entries : List Entry) → ledger.project ≡ project → ledger.workers ≡ workers → ledger.entries ≡ entries → (place : ℕ) → reply_at ledger place ≡ reply project workers entries place
reply_of ledger project workers entries p w e place = λ j. reply (p j) (w j) (e j) place

legal_at : (ledger : LedgerView) (project : ProjectView) (workers limit : ℕ) (entries : List Entry) → ledger.project ≡ project → ledger.workers ≡ workers → ledger.limit ≡ limit → ledger.entries ≡ entries → IsLegal ledger.project ledger.workers ledger.limit ledger.entries ≡ IsLegal project workers limit entries
legal_at ledger project workers limit entries p w l e = λ j. IsLegal (p j) (w j) (l j) (e j)

-- ---- the entries that others made since are of no connection of the desk

apart_by : {Held : Type 0} (after : DeskState Held) (past since rest : List Entry) (conn : ℕ) → IsSound after → after.seen.entries ≡ (past ++ since) ++ rest → ((place : ℕ) → place < length (past ++ since) → Contains after.places place → place < length past) → Contains after.connections conn → (entry : Entry) → In entry since → entry.conn ≢ conn
apart_by after past since rest conn sound history old own entry there same =
    let p = position_of entry since there in
    let here : slice_get (past ++ since) (length past + p.0) ≡ Some entry = slice_get_behind past since p.0 (length past + p.0) refl ∙ p.1 in
    let within : length past + p.0 < length (past ++ since) = slice_get_within (past ++ since) (length past + p.0) entry here in
    let at : slice_get after.seen.entries (length past + p.0) ≡ Some entry = ap (λ (es : List Entry). slice_get es (length past + p.0)) history ∙ slice_get_before (past ++ since) rest (length past + p.0) entry here in
    let mine : Contains after.places (length past + p.0) = sound.own_places (length past + p.0) entry at (subst (λ (c : ℕ). Contains after.connections c) (sym same) own) in
    let below = old (length past + p.0) within mine in
    omega arith

pub looks_apart : {Held : Type 0} (before after : DeskState Held) → IsSound before → IsSound after → (looks : Looks before after) → (conn : ℕ) → Contains before.connections conn → (entry : Entry) → In entry looks.since → entry.conn ≢ conn
looks_apart before after was now looks conn own =
    apart_by after before.seen.entries looks.since [] conn now (looks.history ∙ sym (append-nil (before.seen.entries ++ looks.since))) (λ place within there. All-contains (λ (p : ℕ). p < length before.seen.entries) before.places place was.places_within (subst (λ (ps : List ℕ). Contains ps place) looks.places there)) (subst (λ (cs : List ℕ). Contains cs conn) (sym looks.connections) own)

own_stay : (effect : Effect) (newest : ℕ) (connections : List ℕ) (conn : ℕ) → Contains connections conn → Contains (connections_with effect newest connections) conn
own_stay Opens newest connections conn own = Contains-append_left connections (newest ∷ []) conn own
own_stay Asks newest connections conn own = own
own_stay Goes newest connections conn own = own
own_stay Ends newest connections conn own = own

-- the connections of a desk stay its own
pub adds_own : {Held : Type 0} (before after : DeskState Held) (entry : Entry) (place : ℕ) → Adds before entry place after → (conn : ℕ) → Contains before.connections conn → Contains after.connections conn
adds_own before after entry place adds conn own = subst (λ (cs : List ℕ). Contains cs conn) (sym adds.connections) (own_stay (effect_of entry.act) entry.conn before.connections conn own)

-- the connection that it opens is its own
pub opens_own : {Held : Type 0} (before after : DeskState Held) (entry : Entry) (place : ℕ) → Adds before entry place after → effect_of entry.act ≡ Opens → Contains after.connections entry.conn
opens_own before after entry place adds opens =
    subst (λ (cs : List ℕ). Contains cs entry.conn) (sym (adds.connections ∙ ap (λ (x : Effect). connections_with x entry.conn before.connections) opens)) (Contains-push before.connections entry.conn)

pub adds_apart : {Held : Type 0} (before after : DeskState Held) (newest : Entry) (place : ℕ) → IsSound before → IsSound after → (adds : Adds before newest place after) → (conn : ℕ) → Contains before.connections conn → (entry : Entry) → In entry adds.since → entry.conn ≢ conn
adds_apart before after newest place was now adds conn own =
    apart_by after before.seen.entries adds.since (newest ∷ []) conn now adds.history old (adds_own before after newest place adds conn own)
  where
    old : (p : ℕ) → p < length (before.seen.entries ++ adds.since) → Contains after.places p → p < length before.seen.entries
    old p within there = elim (Contains-push_cases before.places place p (subst (λ (ps : List ℕ). Contains ps p) adds.places there)) [
      | inl earlier ↦ All-contains (λ (q : ℕ). q < length before.seen.entries) before.places p was.places_within earlier
      | inr same ↦ (let e : place ≡ p = same in let n : place ≡ length (before.seen.entries ++ adds.since) = adds.place_is in absurd (omega arith))
    ]

-- ---- what is open

-- a look leaves the own connections as they are
pub looks_open : {Held : Type 0} (before after : DeskState Held) → IsSound before → IsSound after → Looks before after → (conn : ℕ) → Contains before.connections conn → is_open_in after.seen conn ≡ is_open_in before.seen conn
looks_open before after was now looks conn own =
    open_at after.seen before.seen.project before.seen.workers (before.seen.entries ++ looks.since) looks.stays.project looks.stays.workers looks.history conn
    ∙ open_behind before.seen.project before.seen.workers conn before.seen.entries looks.since (looks_apart before after was now looks conn own)

after_open : {Held : Type 0} (before after : DeskState Held) (newest : Entry) (place : ℕ) → (adds : Adds before newest place after) → (conn : ℕ) → is_open_in after.seen conn ≡ is_open (answered_in before.seen.project before.seen.workers ((before.seen.entries ++ adds.since) ++ newest ∷ [])) conn
after_open before after newest place adds conn =
    open_at after.seen before.seen.project before.seen.workers ((before.seen.entries ++ adds.since) ++ newest ∷ []) adds.stays.project adds.stays.workers adds.history conn

-- what an entry does to its own connection goes by the kind of its act
pub adds_own_open : {Held : Type 0} (before after : DeskState Held) (newest : Entry) (place : ℕ) → IsSound after → (adds : Adds before newest place after) → ChangesOwn (effect_of newest.act) (is_open (answered_in before.seen.project before.seen.workers (before.seen.entries ++ adds.since)) newest.conn) (is_open_in after.seen newest.conn)
adds_own_open before after newest place now adds =
    subst (λ (b : Bool). ChangesOwn (effect_of newest.act) (is_open (answered_in before.seen.project before.seen.workers (before.seen.entries ++ adds.since)) newest.conn) b) (sym (after_open before after newest place adds newest.conn))
    (own_with before.seen.project before.seen.workers before.seen.limit (before.seen.entries ++ adds.since) newest (subst (λ (T : Type 0). T) (legal_at after.seen before.seen.project before.seen.workers before.seen.limit ((before.seen.entries ++ adds.since) ++ newest ∷ []) adds.stays.project adds.stays.workers adds.stays.limit adds.history) now.ledger.legal))

stays_open : (effect : Effect) (was now : Bool) → (effect ≡ Opens) ⊎ (effect ≡ Asks) → ChangesOwn effect was now → now ≡ true
stays_open Opens was now kind h = h.1
stays_open Asks was now kind h = h.1
stays_open Goes was now (inl e) h = absurd (cc)
stays_open Goes was now (inr e) h = absurd (cc)
stays_open Ends was now (inl e) h = absurd (cc)
stays_open Ends was now (inr e) h = absurd (cc)

-- the connection of an entry that neither goes nor ends is open after it
pub adds_is_open : {Held : Type 0} (before after : DeskState Held) (newest : Entry) (place : ℕ) → IsSound after → Adds before newest place after → (effect_of newest.act ≡ Opens) ⊎ (effect_of newest.act ≡ Asks) → is_open_in after.seen newest.conn ≡ true
adds_is_open before after newest place now adds kind = stays_open (effect_of newest.act) _ (is_open_in after.seen newest.conn) kind (adds_own_open before after newest place now adds)

-- an entry that the desk makes stands at its place
pub adds_at : {Held : Type 0} (before after : DeskState Held) (newest : Entry) (place : ℕ) → Adds before newest place after → slice_get after.seen.entries place ≡ Some newest
adds_at before after newest place adds =
    ap (λ (es : List Entry). slice_get es place) adds.history
    ∙ slice_get_behind (before.seen.entries ++ adds.since) (newest ∷ []) 0 place (let q : place ≡ length (before.seen.entries ++ adds.since) = adds.place_is in omega arith)

-- ---- calls one after the other

pub stays_same : {Held : Type 0} (desk : DeskState Held) → Stays desk desk
stays_same desk = record { project = refl; workers = refl; limit = refl; name = refl; metered = refl; first = refl; share = refl; kept = λ unit. refl; held = refl }

pub stays_further : {Held : Type 0} (first second third : DeskState Held) → Stays first second → Stays second third → Stays first third
stays_further first second third s t = record {
  project = t.project ∙ s.project;
  workers = t.workers ∙ s.workers;
  limit = t.limit ∙ s.limit;
  name = t.name ∙ s.name;
  metered = t.metered ∙ s.metered;
  first = t.first ∙ s.first;
  share = t.share ∙ s.share;
  kept = λ unit. t.kept unit ∙ s.kept unit;
  held = t.held ∙ s.held;
}

-- what any number of calls leave of a desk: none leaves all as it is, and more calls go on from there
pub goes_on_same : {Held : Type 0} (desk : DeskState Held) → GoesOn desk desk
goes_on_same desk = record { since = []; history = sym (append-nil desk.seen.entries); more_places = []; places = sym (append-nil desk.places); more_connections = []; connections = sym (append-nil desk.connections); stays = stays_same desk }

pub looks_go_on : {Held : Type 0} (before after : DeskState Held) → Looks before after → GoesOn before after
looks_go_on before after looks = record { since = looks.since; history = looks.history; more_places = []; places = looks.places ∙ sym (append-nil before.places); more_connections = []; connections = looks.connections ∙ sym (append-nil before.connections); stays = looks.stays }

grown : (effect : Effect) (conn : ℕ) (connections : List ℕ) → (more : List ℕ) × (connections_with effect conn connections ≡ connections ++ more)
grown Opens conn connections = (conn ∷ [], refl)
grown Asks conn connections = ([], sym (append-nil connections))
grown Goes conn connections = ([], sym (append-nil connections))
grown Ends conn connections = ([], sym (append-nil connections))

pub adds_go_on : {Held : Type 0} (before after : DeskState Held) (newest : Entry) (place : ℕ) → Adds before newest place after → GoesOn before after
adds_go_on before after newest place adds =
    let g = grown (effect_of newest.act) newest.conn before.connections in
    record { since = adds.since ++ newest ∷ []; history = adds.history ∙ append_assoc before.seen.entries adds.since (newest ∷ []); more_places = place ∷ []; places = adds.places; more_connections = g.0; connections = adds.connections ∙ g.1; stays = adds.stays }

pub goes_on_further : {Held : Type 0} (first second third : DeskState Held) → GoesOn first second → GoesOn second third → GoesOn first third
goes_on_further first second third s t = record {
  since = s.since ++ t.since;
  history = t.history ∙ ap (λ (es : List Entry). es ++ t.since) s.history ∙ append_assoc first.seen.entries s.since t.since;
  more_places = s.more_places ++ t.more_places;
  places = t.places ∙ ap (λ (ps : List ℕ). ps ++ t.more_places) s.places ∙ append_assoc first.places s.more_places t.more_places;
  more_connections = s.more_connections ++ t.more_connections;
  connections = t.connections ∙ ap (λ (cs : List ℕ). cs ++ t.more_connections) s.connections ∙ append_assoc first.connections s.more_connections t.more_connections;
  stays = stays_further first second third s.stays t.stays;
}

pub looks_go_on_for : {Held : Type 0} (conn : ℕ) (before after : DeskState Held) → Looks before after → GoesOnFor conn before after
looks_go_on_for conn before after looks = record { since = looks.since; history = looks.history; own = []; places = looks.places ∙ sym (append-nil before.places); of_conn = All-nil (IsEntryOf conn after.seen.entries); connections = looks.connections; stays = looks.stays }

same_connections : (effect : Effect) (conn : ℕ) (connections : List ℕ) → effect ≢ Opens → connections_with effect conn connections ≡ connections
same_connections Opens conn connections apart = absurd (apart refl)
same_connections Asks conn connections apart = refl
same_connections Goes conn connections apart = refl
same_connections Ends conn connections apart = refl

-- an entry of the connection that opens none
pub adds_go_on_for : {Held : Type 0} (conn : ℕ) (before after : DeskState Held) (newest : Entry) (place : ℕ) → Adds before newest place after → newest.conn ≡ conn → effect_of newest.act ≢ Opens → GoesOnFor conn before after
adds_go_on_for conn before after newest place adds of_conn apart =
    record { since = adds.since ++ newest ∷ []; history = adds.history ∙ append_assoc before.seen.entries adds.since (newest ∷ []); own = place ∷ []; places = adds.places; of_conn = All-cons (IsEntryOf conn after.seen.entries) place [] own (All-nil (IsEntryOf conn after.seen.entries)); connections = adds.connections ∙ same_connections (effect_of newest.act) newest.conn before.connections apart; stays = adds.stays }
  where
    own : IsEntryOf conn after.seen.entries place
    own = record { act = newest.act; there = adds_at before after newest place adds ∙ ap (λ (c : ℕ). Some (let e : Entry = record { conn = c; act = newest.act } in e)) of_conn }

entry_stays : (conn : ℕ) (entries since : List Entry) (place : ℕ) → IsEntryOf conn entries place → IsEntryOf conn (entries ++ since) place
entry_stays conn entries since place is = record { act = is.act; there = slice_get_before entries since place (record { conn = conn; act = is.act }) is.there }

pub goes_on_for_further : {Held : Type 0} (conn : ℕ) (first second third : DeskState Held) → GoesOnFor conn first second → GoesOnFor conn second third → GoesOnFor conn first third
goes_on_for_further conn first second third s t = record {
  since = s.since ++ t.since;
  history = t.history ∙ ap (λ (es : List Entry). es ++ t.since) s.history ∙ append_assoc first.seen.entries s.since t.since;
  own = s.own ++ t.own;
  places = t.places ∙ ap (λ (ps : List ℕ). ps ++ t.own) s.places ∙ append_assoc first.places s.own t.own;
  of_conn = All-append (IsEntryOf conn third.seen.entries) s.own t.own (λ k d below. subst (λ (es : List Entry). IsEntryOf conn es (get_or s.own k d)) (sym t.history) (entry_stays conn second.seen.entries t.since (get_or s.own k d) (s.of_conn k d below))) t.of_conn;
  connections = t.connections ∙ s.connections;
  stays = stays_further first second third s.stays t.stays;
}

pub goes_on_for_same : {Held : Type 0} (conn : ℕ) (desk : DeskState Held) → GoesOnFor conn desk desk
goes_on_for_same conn desk = record { since = []; history = sym (append-nil desk.seen.entries); own = []; places = sym (append-nil desk.places); of_conn = All-nil (IsEntryOf conn desk.seen.entries); connections = refl; stays = stays_same desk }

-- calls for one connection are calls
pub goes_on_by : {Held : Type 0} (conn : ℕ) (before after : DeskState Held) → GoesOnFor conn before after → GoesOn before after
goes_on_by conn before after goes = record { since = goes.since; history = goes.history; more_places = goes.own; places = goes.places; more_connections = []; connections = goes.connections ∙ sym (append-nil before.connections); stays = goes.stays }

pub looks_further : {Held : Type 0} (first second third : DeskState Held) → Looks first second → Looks second third → Looks first third
looks_further first second third s t = record {
  since = s.since ++ t.since;
  history = t.history ∙ ap (λ (es : List Entry). es ++ t.since) s.history ∙ append_assoc first.seen.entries s.since t.since;
  places = t.places ∙ s.places;
  connections = t.connections ∙ s.connections;
  opened = t.opened ∙ s.opened;
  dones = t.dones ∙ s.dones;
  room = t.room ∙ s.room;
  stays = stays_further first second third s.stays t.stays;
}

-- ---- what stays

-- a reply that has come stays
pub reply_stays : {Held : Type 0} (before after : DeskState Held) → GoesOn before after → (place : ℕ) (answer : Answer) → reply_at before.seen place ≡ Some answer → reply_at after.seen place ≡ Some answer
reply_stays before after goes place answer there =
    reply_of after.seen before.seen.project before.seen.workers (before.seen.entries ++ goes.since) goes.stays.project goes.stays.workers goes.history place
    ∙ replies_stay before.seen.project before.seen.workers before.seen.entries goes.since place answer there
