-- A connection that is served alone, and has paused, waits for no reply.
use Rattle.std.proofs.Common.{◌≡◌, inl, inr, ℕ, ◌+◌, ◌==◌, ◌&&◌, Bool, true, false, cond, List, [], ◌∷◌, ◌++◌, length, Some, None, IsTrue, refl, sym, ap, subst, ◌∙◌, append_assoc, arith, eqb-true, true≢false}
use Rattle.std.proofs.lemmas.Bool.{and_parts}
use Rattle.std.proofs.lemmas.List.{length-append}
use Rattle.std.specs.Prelude.{slice_get}
use Rattle.unit_registry.specs.declared.act.Act.{Act}
use Rattle.unit_registry.specs.declared.act.Act.TheVariants.{Open, Hello, Repo, Export, Import, Compiled, Translate, Bad, Pause, Left, Lost, Done}
use Rattle.unit_registry.specs.Projects.{ProjectView}
use Rattle.histories.specs.declared.entry.Entry.{Entry}
use Rattle.histories.specs.Answered.{is_open, is_paused, open_connections, open_count, done_count}
use Rattle.histories.specs.Histories.{noted_of, answered_in, asks_nothing, reply, is_waiting, IsLegal}
use Rattle.histories.proofs.Members.{In, In-from_Contains}
use Rattle.histories.proofs.LegalCounts.{open_members}
use Rattle.histories.proofs.OneEntry.{slice_get-append, slice_get-last}
use Rattle.histories.proofs.Stalls.{someone_goes_on}
use Rattle.histories.proofs.Unanswered.{unanswered_conn}
use Rattle.connection_core.specs.Answers.{is_request, request_places}

-- ---- where the request of a place stands

-- a request of the connection stands at the place, in a history whose first entry has the other place
pub record Asks (first conn place : ℕ) (history : List Entry) : Type 0 where
  pub front : List Entry
  pub newest : Entry
  pub behind : List Entry
  pub are : history ≡ front ++ newest ∷ behind
  pub place_is : place ≡ first + length front
  pub own : newest.conn ≡ conn
  pub request : is_request newest.act ≡ true

asks_next : (first conn place : ℕ) (newest : Entry) (history : List Entry) → Asks (first + 1) conn place history → Asks first conn place (newest ∷ history)
asks_next first conn place newest history h = record { front = newest ∷ h.front; newest = h.newest; behind = h.behind; are = ap (λ (xs : List Entry). newest ∷ xs) h.are; place_is = omega (arith, h.place_is); own = h.own; request = h.request }

pub asks_at : (first conn place : ℕ) (history : List Entry) → In place (request_places first conn history) → Asks first conn place history
asks_at first conn place [] there = absurd there
asks_at first conn place (newest ∷ history) there = by (newest.conn == conn && is_request newest.act) refl (asks_at (first + 1) conn place history) there
  where
    by : (b : Bool) → (newest.conn == conn && is_request newest.act) ≡ b → (In place (request_places (first + 1) conn history) → Asks (first + 1) conn place history) → In place (cond b (first ∷ request_places (first + 1) conn history) (request_places (first + 1) conn history)) → Asks first conn place (newest ∷ history)
    by true e later (inl at) = let both = and_parts (newest.conn == conn) (is_request newest.act) e in record { front = []; newest = newest; behind = history; are = refl; place_is = omega (arith, at); own = eqb-true newest.conn conn both.0; request = both.1 }
    by true e later (inr behind) = asks_next first conn place newest history (later behind)
    by false e later behind = asks_next first conn place newest history (later behind)

-- ---- one connection alone

one_alike : {A : Type 0} (xs : List A) (x y : A) → length xs ≡ 1 → In x xs → In y xs → x ≡ y
one_alike [] x y one h k = absurd h
one_alike (z ∷ []) x y one (inl h) (inl k) = sym h ∙ k
one_alike (z ∷ []) x y one (inl h) (inr k) = absurd k
one_alike (z ∷ []) x y one (inr h) k = absurd h
one_alike (z ∷ w ∷ xs) x y one h k = absurd (omega (arith, one))

-- where the only worker serves a connection that has paused, that one waits for nothing
pub goes_on_alone : (project : ProjectView) (limit : ℕ) (history : List Entry) (conn : ℕ) → IsLegal project 1 limit history → open_count (answered_in project 1 history) ≡ 1 → done_count (answered_in project 1 history) ≡ 0
    → is_open (answered_in project 1 history) conn ≡ true → is_paused (answered_in project 1 history) conn ≡ true → is_waiting project (noted_of project 1 history) conn ≡ false
goes_on_alone project limit history conn legal one none there paused =
    let goes = someone_goes_on project 1 limit history legal (omega (arith, one, none)) (λ e. omega (arith, one, e)) (λ other is_there. subst (λ (k : ℕ). IsTrue (is_paused (answered_in project 1 history) k)) (only other is_there) paused) in
    subst (λ (k : ℕ). is_waiting project (noted_of project 1 history) k ≡ false) (sym (only goes.0 goes.1)) goes.2
  where
    only : (other : ℕ) → IsTrue (is_open (answered_in project 1 history) other) → conn ≡ other
    only other is_there = one_alike (open_connections (answered_in project 1 history)) conn other one
        (In-from_Contains conn (open_connections (answered_in project 1 history)) ((open_members (answered_in project 1 history) conn).1 there))
        (In-from_Contains other (open_connections (answered_in project 1 history)) ((open_members (answered_in project 1 history) other).1 is_there))

asks_something : (act : Act) → is_request act ≡ true → asks_nothing act ≡ false
asks_something Open asks = absurd (true≢false (sym asks))
asks_something (Hello version unit) asks = refl
asks_something Repo asks = refl
asks_something (Export unit) asks = refl
asks_something (Import unit name_only) asks = refl
asks_something (Compiled unit stored) asks = refl
asks_something (Translate header) asks = refl
asks_something (Bad why) asks = refl
asks_something Pause asks = absurd (true≢false (sym asks))
asks_something Left asks = absurd (true≢false (sym asks))
asks_something Lost asks = absurd (true≢false (sym asks))
asks_something Done asks = absurd (true≢false (sym asks))

-- so each of its requests has a reply
pub replies_alone : (project : ProjectView) (limit : ℕ) (before since : List Entry) (conn place : ℕ) → IsLegal project 1 limit (before ++ since) → open_count (answered_in project 1 (before ++ since)) ≡ 1 → done_count (answered_in project 1 (before ++ since)) ≡ 0
    → is_open (answered_in project 1 (before ++ since)) conn ≡ true → is_paused (answered_in project 1 (before ++ since)) conn ≡ true → In place (request_places (length before) conn since) → reply project 1 (before ++ since) place ≡ None → ⊥
replies_alone project limit before since conn place legal one none there paused asked no_reply =
    let at = asks_at (length before) conn place since asked in
    let parts : before ++ since ≡ ((before ++ at.front) ++ at.newest ∷ []) ++ at.behind = ap (λ (xs : List Entry). before ++ xs) at.are ∙ sym (append_assoc before at.front (at.newest ∷ at.behind)) ∙ sym (append_assoc (before ++ at.front) (at.newest ∷ []) at.behind) in
    let here : slice_get (before ++ since) place ≡ Some at.newest = ap (λ (xs : List Entry). slice_get xs place) parts ∙ slice_get-append at.newest ((before ++ at.front) ++ at.newest ∷ []) at.behind place (slice_get-last at.newest (before ++ at.front) place (at.place_is ∙ sym (length-append before at.front))) in
    let waits : is_waiting project (noted_of project 1 (before ++ since)) at.newest.conn ≡ true = unanswered_conn project 1 (before ++ since) place at.newest here (asks_something at.newest.act at.request) (ap (is_open (answered_in project 1 (before ++ since))) at.own ∙ there) no_reply in
    true≢false (sym waits ∙ ap (is_waiting project (noted_of project 1 (before ++ since))) at.own ∙ goes_on_alone project limit (before ++ since) conn legal one none there paused)
