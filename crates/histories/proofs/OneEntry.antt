-- What one more entry changes of what stands in a noted history.
use Rattle.std.proofs.Common.{◌≡◌, ℕ, Bool, true, false, not, ◌||◌, ◌&&◌, ◌==◌, ◌⊎◌, inl, inr, List, [], ◌∷◌, length, Option, Some, None, is_some, is_none, refl, sym, ap, subst, ◌∙◌, arith, true≢false, eq-eqb, eqb-true}
use Rattle.std.proofs.lemmas.Bool.{not-true, or_parts, or_from, and_parts, and_from, not_from_false, cond-true}
use Rattle.std.specs.Prelude.{if◌then◌else◌, slice_get, ◌++◌, ◌<◌, zero, suc, reverse}
use Rattle.std.proofs.lemmas.List.{reverse-append, length-reverse}
use Rattle.std.specs.List.{cons_option}
use Rattle.std.specs.Option.{option_map_or}
use Rattle.histories.specs.declared.answer.Said.{Said}
use Rattle.histories.specs.declared.answer.Said.TheVariants.{Reply, Waits, Nothing}
use Rattle.histories.specs.declared.standing.Fate.TheVariants.{Compiled, Failed}
use Rattle.unit_registry.specs.Acts.{is_open_act}
use Rattle.unit_registry.specs.Projects.{ProjectView, is_built}
use Rattle.histories.specs.declared.answered.Wait.{Wait}
use Rattle.histories.specs.Answered.{has_gone, was_opened, opening, opened, is_open, who, who_by, accepted_hello, holder, is_reported, wait_of, told_to_wait}
use Rattle.histories.specs.Noted.{Noted, answered_of, is_given_up, fate}
use Rattle.histories.specs.declared.answered.Answered.{Answered}
use Rattle.histories.specs.Answers.{is_nobody, is_connected}
use Rattle.histories.proofs.Members.{In, In-filter_map, In-filter_map_from, any_to, any_from}

-- the test of an opening, and the list
opening_of : (e : Answered) (conn : ℕ) (b : Bool) → (if b then Some e.conn else None) ≡ Some conn → (b ≡ true) × (e.conn ≡ conn)
opening_of e conn true h = (refl, cc)
opening_of e conn false h = absurd (cc)

pub in_opened : (answered : List Answered) (conn : ℕ) → was_opened answered conn ≡ true → In conn (opened answered)
in_opened answered conn h =
    let found = any_to (λ e. e.conn == conn && is_open_act e.act) answered h in
    let parts = and_parts (found.0.conn == conn) (is_open_act found.0.act) found.2 in
    let same : found.0.conn ≡ conn = eqb-true found.0.conn conn parts.0 in
    In-filter_map_from opening conn found.0 (cond-true _ (Some found.0.conn) None parts.1 ∙ ap (λ c. Some c) same) answered found.1

pub opened_in : (answered : List Answered) (conn : ℕ) → In conn (opened answered) → was_opened answered conn ≡ true
opened_in answered conn h =
    let found = In-filter_map opening conn answered h in
    let parts = opening_of found.0 conn (is_open_act found.0.act) found.2 in
    any_from (λ e. e.conn == conn && is_open_act e.act) found.0 (and_from _ _ (eq-eqb found.0.conn conn parts.1) parts.0) answered found.1

-- an open connection was opened and hasn't gone
pub is_open-parts : (answered : List Answered) (conn : ℕ) → is_open answered conn ≡ true → In conn (opened answered) × (has_gone answered conn ≡ false)
is_open-parts answered conn h =
    let parts = and_parts (was_opened answered conn) (not (has_gone answered conn)) h in
    (in_opened answered conn parts.0, not-true (has_gone answered conn) parts.1)

pub is_open-from : (answered : List Answered) (conn : ℕ) → In conn (opened answered) → has_gone answered conn ≡ false → is_open answered conn ≡ true
is_open-from answered conn there stays =
    and_from _ _ (opened_in answered conn there) (not_from_false (has_gone answered conn) stays)

-- a connection that was opened stays so
pub opened-more : (e : Answered) (answered : List Answered) (conn : ℕ) → In conn (opened answered) → In conn (opened (e ∷ answered))
opened-more e answered conn h = step (is_open_act e.act)
  where
    step : (b : Bool) → In conn (cons_option (if b then Some e.conn else None) (opened answered))
    step true = inr h
    step false = h

-- how a unit that hasn't ended stands
none_parts : (compiled failed : Bool) → is_none (if compiled then Some Compiled else (if failed then Some Failed else None)) ≡ true → (compiled ≡ false) × (failed ≡ false)
none_parts true failed h = absurd (true≢false (sym h))
none_parts false true h = absurd (true≢false (sym h))
none_parts false false h = (refl, refl)

none_from : (compiled failed : Bool) → compiled ≡ false → failed ≡ false → is_none (if compiled then Some Compiled else (if failed then Some Failed else None)) ≡ true
none_from true failed c f = absurd (true≢false c)
none_from false true c f = absurd (true≢false f)
none_from false false c f = refl

pub record HasNotEnded (project : ProjectView) (noted : List Noted) (unit : ℕ) : Type 0 where
  pub not_built : is_built project unit ≡ false
  pub not_reported : is_reported (answered_of noted) unit ≡ false
  pub not_given_up : is_given_up noted unit ≡ false
  pub holder_stays : option_map_or (has_gone (answered_of noted)) (holder (answered_of noted) unit) false ≡ false

pub HasNotEnded-from : (project : ProjectView) (noted : List Noted) (unit : ℕ) → is_none (fate project noted unit) ≡ true → HasNotEnded project noted unit
HasNotEnded-from project noted unit h =
    let parts = none_parts (is_built project unit || is_reported (answered_of noted) unit) (is_given_up noted unit || option_map_or (has_gone (answered_of noted)) (holder (answered_of noted) unit) false) h in
    let first = or_parts (is_built project unit) (is_reported (answered_of noted) unit) parts.0 in
    let second = or_parts (is_given_up noted unit) (option_map_or (has_gone (answered_of noted)) (holder (answered_of noted) unit) false) parts.1 in
    record {
      not_built = first.0;
      not_reported = first.1;
      not_given_up = second.0;
      holder_stays = second.1;
    }

pub none_from_HasNotEnded : (project : ProjectView) (noted : List Noted) (unit : ℕ) → HasNotEnded project noted unit → is_none (fate project noted unit) ≡ true
none_from_HasNotEnded project noted unit h =
    none_from (is_built project unit || is_reported (answered_of noted) unit) (is_given_up noted unit || option_map_or (has_gone (answered_of noted)) (holder (answered_of noted) unit) false) (or_from _ _ h.not_built h.not_reported) (or_from _ _ h.not_given_up h.holder_stays)

-- Who a connection is, after one more entry.
who_step : (e : Answered) (answered : List Answered) (conn : ℕ) (b : Bool) → b ≡ false → (if b then who_by (accepted_hello e) else who answered conn) ≡ who answered conn
who_step e answered conn true h = absurd (true≢false h)
who_step e answered conn false h = refl

pub who-same : (e : Answered) (answered : List Answered) (conn : ℕ) → (e.conn == conn && is_some (accepted_hello e)) ≡ false → who (e ∷ answered) conn ≡ who answered conn
who-same e answered conn h = who_step e answered conn (e.conn == conn && is_some (accepted_hello e)) h

some_is : {A : Type 0} (o : Option A) → is_some o ≡ true → (x : A) × (o ≡ Some x)
some_is None h = absurd (true≢false (sym h))
some_is (Some x) h = (x, refl)

who_by-some : (named : Option ℕ) → is_nobody (who_by (Some named)) ≡ false
who_by-some None = refl
who_by-some (Some unit) = refl

-- a connection stays connected
connected_step : (e : Answered) (answered : List Answered) (conn : ℕ) → is_connected answered conn ≡ true → (b : Bool) → (b ≡ true → is_some (accepted_hello e) ≡ true) → not (is_nobody (if b then who_by (accepted_hello e) else who answered conn)) ≡ true
connected_step e answered conn connected true greets =
    let named = some_is (accepted_hello e) (greets refl) in
    subst (λ o. not (is_nobody (who_by o)) ≡ true) (sym named.1) (not_from_false _ (who_by-some named.0))
connected_step e answered conn connected false greets = connected

pub connected-more : (e : Answered) (answered : List Answered) (conn : ℕ) → is_connected answered conn ≡ true → is_connected (e ∷ answered) conn ≡ true
connected-more e answered conn connected =
    connected_step e answered conn connected (e.conn == conn && is_some (accepted_hello e)) (λ h. (and_parts (e.conn == conn) (is_some (accepted_hello e)) h).1)

-- who is told to wait, after one more entry
pub answered-cases : (e : Answered) (answered : List Answered) (w : Wait) → In w (told_to_wait (e ∷ answered)) → ((e.said ≡ Waits w.unit) × (e.conn ≡ w.conn)) ⊎ In w (told_to_wait answered)
answered-cases e answered w h = by_said e.said refl h
  where
    by_said : (said : Said) → e.said ≡ said → In w (wait_of said (length answered) e.conn (told_to_wait answered)) → ((e.said ≡ Waits w.unit) × (e.conn ≡ w.conn)) ⊎ In w (told_to_wait answered)
    by_said (Waits unit) s (inl same) = inl (s ∙ ap (λ (x : Wait). Waits x.unit) same, ap (λ (x : Wait). x.conn) same)
    by_said (Waits unit) s (inr there) = inr there
    by_said (Reply answer) s there = inr there
    by_said Nothing s there = inr there

-- the entry of an import that was told to wait stands at its place
pub record StandsAt (answered : List Answered) (w : Wait) : Type 0 where
  pub entry : Answered
  pub is_there : slice_get (reverse answered) w.place ≡ Some entry
  pub within : w.place < length answered
  pub said : entry.said ≡ Waits w.unit
  pub conn : entry.conn ≡ w.conn

pub slice_get-append : {A : Type 0} (x : A) → (xs ys : List A) (k : ℕ) → slice_get xs k ≡ Some x → slice_get (xs ++ ys) k ≡ Some x
slice_get-append x [] ys k h = absurd (cc)
slice_get-append x (y ∷ xs) ys zero h = h
slice_get-append x (y ∷ xs) ys (suc k) h = slice_get-append x xs ys k h

pub slice_get-last : {A : Type 0} (x : A) → (xs : List A) (k : ℕ) → k ≡ length xs → slice_get (xs ++ x ∷ []) k ≡ Some x
slice_get-last x [] k h = ap (λ n. slice_get (x ∷ []) n) h
slice_get-last x (y ∷ xs) zero h = absurd (omega arith)
slice_get-last x (y ∷ xs) (suc k) h = slice_get-last x xs k (omega arith)

stands_step : (e : Answered) (answered : List Answered) (w : Wait) → StandsAt answered w → StandsAt (e ∷ answered) w
stands_step e answered w at = record {
  entry = at.entry;
  is_there = ap (λ xs. slice_get xs w.place) (reverse-append (e ∷ []) answered) ∙ slice_get-append at.entry (reverse answered) (e ∷ []) w.place at.is_there;
  within = let l = at.within in omega arith;
  said = at.said;
  conn = at.conn;
}

pub stands_at : (answered : List Answered) (w : Wait) → In w (told_to_wait answered) → StandsAt answered w
stands_at [] w h = absurd h
stands_at (e ∷ answered) w h = by_said e.said refl h (stands_at answered w)
  where
    by_said : (said : Said) → e.said ≡ said → In w (wait_of said (length answered) e.conn (told_to_wait answered)) → (In w (told_to_wait answered) → StandsAt answered w) → StandsAt (e ∷ answered) w
    by_said (Waits unit) s (inl same) ih =
        let place : length answered ≡ w.place = ap (λ (x : Wait). x.place) same in
        record {
          entry = e;
          is_there = ap (λ xs. slice_get xs w.place) (reverse-append (e ∷ []) answered) ∙ slice_get-last e (reverse answered) w.place (sym place ∙ sym (length-reverse answered));
          within = omega arith;
          said = s ∙ ap (λ (x : Wait). Waits x.unit) same;
          conn = ap (λ (x : Wait). x.conn) same;
        }
    by_said (Waits unit) s (inr there) ih = stands_step e answered w (ih there)
    by_said (Reply answer) s there ih = stands_step e answered w (ih there)
    by_said Nothing s there ih = stands_step e answered w (ih there)
