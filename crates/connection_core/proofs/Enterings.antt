-- Acts that are entered at a desk, one after another.
use Rattle.std.proofs.Common.{◌≡◌, ◌≢◌, inl, inr, ℕ, suc, ◌+◌, ◌≤◌, ◌==◌, ◌&&◌, ◌||◌, Bool, true, false, cond, List, [], ◌∷◌, ◌++◌, length, drop, get_or, All, Contains, Option, Some, None, Ok, Err, Result, IfOk, IfErr, IsTrue, refl, sym, ap, subst, ◌∙◌, append_assoc, arith}
use Rattle.std.proofs.lemmas.Bool.{ne_eqb, eq-eqb}
use Rattle.std.proofs.lemmas.List.{append-nil, length-append, drop_all}
use Rattle.std.proofs.lemmas.List.Elements.{All-push}
use Rattle.std.specs.Prelude.{slice_get}
use Rattle.std.specs.List.{AllByRecursion, list_any}
use Rattle.unit_registry.specs.declared.act.Act.{Act as Acts}
use Rattle.unit_registry.specs.declared.act.Act.TheVariants as act
use Rattle.histories.specs.declared.entry.Entry.{Entry}
use Rattle.histories.specs.Counts.{Effect, Asks, effect_of, ChangesOpen, ChangesDone}
use Rattle.histories.proofs.Members.{In}
use Rattle.registry_core.specs.declared.full.Full.{Full}
use Rattle.registry_core.specs.Ledgers.{entry, IsFull}
use Rattle.registry_core.specs.Desks.{DeskState, Looks, Adds, IsSound, IsEntryOf, connections_with, uses}
use Rattle.registry_core.proofs.Desks.{slice_get_before, slice_get_behind, looks_open, looks_apart, adds_apart, adds_own, adds_is_open, stays_further, stays_same}
use Rattle.connection_core.specs.declared.asked.Asked.{Asked}
use Rattle.connection_core.specs.declared.asked.Asked.TheVariants.{Act, Malformed}
use Rattle.connection_core.specs.declared.entering.Stash.{Stash}
use Rattle.connection_core.specs.Asking.{reports, with_item, stored_for, requests_of, entered_by, is_refused}
use Rattle.connection_core.specs.Answers.{acts_of, request_places, is_request}
use Rattle.connection_core.specs.Entering.{Enters, EntersPart, EntersSo, EntersLine, IsServing, as_entered, unit_kept, stash_left, stash_behind, LineCanAsk}
use Rattle.connection_core.specs.Working.{EntersSoFar}

-- ---- the acts and the requests of a connection in more of a history

pub acts-append : (conn : ℕ) (first second : List Entry) → acts_of conn (first ++ second) ≡ acts_of conn first ++ acts_of conn second
acts-append conn [] second = refl
acts-append conn (e ∷ first) second = by (e.conn == conn) (acts-append conn first second)
  where
    by : (b : Bool) → acts_of conn (first ++ second) ≡ acts_of conn first ++ acts_of conn second
        → cond b (e.act ∷ acts_of conn (first ++ second)) (acts_of conn (first ++ second)) ≡ cond b (e.act ∷ acts_of conn first) (acts_of conn first) ++ acts_of conn second
    by true h = ap (λ (xs : List Acts). e.act ∷ xs) h
    by false h = h

acts-apart : (conn : ℕ) (since : List Entry) → ((e : Entry) → In e since → e.conn ≢ conn) → acts_of conn since ≡ []
acts-apart conn [] apart = refl
acts-apart conn (e ∷ since) apart =
    ap (λ b. cond b (e.act ∷ acts_of conn since) (acts_of conn since)) (ne_eqb e.conn conn (apart e (inl refl))) ∙ acts-apart conn since (λ x there. apart x (inr there))

pub places-append : (conn at : ℕ) (first second : List Entry) → request_places at conn (first ++ second) ≡ request_places at conn first ++ request_places (at + length first) conn second
places-append conn at [] second = ap (λ n. request_places n conn second) (omega arith)
places-append conn at (e ∷ first) second = by (e.conn == conn && is_request e.act) (places-append conn (at + 1) first second ∙ ap (λ n. request_places (at + 1) conn first ++ request_places n conn second) (omega arith))
  where
    by : (b : Bool) → request_places (at + 1) conn (first ++ second) ≡ request_places (at + 1) conn first ++ request_places (at + length (e ∷ first)) conn second
        → cond b (at ∷ request_places (at + 1) conn (first ++ second)) (request_places (at + 1) conn (first ++ second)) ≡ cond b (at ∷ request_places (at + 1) conn first) (request_places (at + 1) conn first) ++ request_places (at + length (e ∷ first)) conn second
    by true h = ap (λ (xs : List ℕ). at ∷ xs) h
    by false h = h

places-apart : (conn at : ℕ) (since : List Entry) → ((e : Entry) → In e since → e.conn ≢ conn) → request_places at conn since ≡ []
places-apart conn at [] apart = refl
places-apart conn at (e ∷ since) apart =
    ap (λ b. cond (b && is_request e.act) (at ∷ request_places (at + 1) conn since) (request_places (at + 1) conn since)) (ne_eqb e.conn conn (apart e (inl refl)))
    ∙ places-apart conn (at + 1) since (λ x there. apart x (inr there))

-- the place of an act, where it is a request
abbrev pub place_if : Acts → ℕ → List ℕ
place_if asked place = cond (is_request asked) (place ∷ []) []

own_act : (conn : ℕ) (asked : Acts) → acts_of conn (entry conn asked ∷ []) ≡ asked ∷ []
own_act conn asked = ap (λ b. cond b (asked ∷ []) []) (eq-eqb conn conn refl)

own_place : (conn place : ℕ) (asked : Acts) → request_places place conn (entry conn asked ∷ []) ≡ place_if asked place
own_place conn place asked = ap (λ b. cond (b && is_request asked) (place ∷ []) []) (eq-eqb conn conn refl)

-- ---- entering

pub enters_nothing : {Held : Type 0} (conn : ℕ) (desk : DeskState Held) → Enters conn [] [] desk desk
enters_nothing conn desk = record {
  since = [];
  history = sym (append-nil desk.seen.entries);
  own_acts = refl;
  requests = refl;
  own = [];
  places = sym (append-nil desk.places);
  as_many = refl;
  of_conn = λ k d below. absurd (omega (arith, below));
  connections = refl;
  opened = refl;
  dones = refl;
  room = omega arith;
  stays = stays_same desk;
}

-- entries stay where they are in a longer history
entries_of : (conn : ℕ) (before since after : List Entry) (own : List ℕ) → after ≡ before ++ since → All (IsEntryOf conn before) own → All (IsEntryOf conn after) own
entries_of conn before since after own history all = λ k d below. let at = all k d below in record {
  act = at.act;
  there = ap (λ (es : List Entry). slice_get es (get_or own k d)) history ∙ slice_get_before before since (get_or own k d) (entry conn at.act) at.there;
}

-- the newest entry is at its place
newest_of : (conn place : ℕ) (asked : Acts) (before after : List Entry) → after ≡ before ++ entry conn asked ∷ [] → place ≡ length before → IsEntryOf conn after place
newest_of conn place asked before after history at = record {
  act = asked;
  there = ap (λ (es : List Entry). slice_get es place) history ∙ slice_get_behind before (entry conn asked ∷ []) 0 place (omega (arith, at));
}

asks_opened : (effect : Effect) (before after : ℕ) → effect ≡ Asks → ChangesOpen effect before after → after ≡ before
asks_opened effect before after e h = subst (λ (x : Effect). ChangesOpen x before after) e h

asks_dones : (effect : Effect) (before after : ℕ) → effect ≡ Asks → ChangesDone effect before after → after ≡ before
asks_dones effect before after e h = subst (λ (x : Effect). ChangesDone x before after) e h

module _ {Held : Type 0} (conn : ℕ) (asked : List Acts) (requested : List ℕ) (first before after : DeskState Held) (h : Enters conn asked requested first before) where
  -- one act more
  pub enters_more : (newest : Acts) (place : ℕ) → effect_of newest ≡ Asks → IsServing conn before → IsSound after → Adds before (entry conn newest) place after
      → Enters conn (asked ++ newest ∷ []) (requested ++ place_if newest place) first after
  enters_more newest place asks serving sound adds =
      let apart = adds_apart before after (entry conn newest) place serving.sound sound adds conn serving.own in
      let at : place ≡ (length first.seen.entries + length h.since) + length adds.since = omega (arith, adds.place_is, length-append before.seen.entries adds.since, ap length h.history, length-append first.seen.entries h.since) in
      record {
        since = h.since ++ (adds.since ++ entry conn newest ∷ []);
        history = adds.history ∙ ap (λ (es : List Entry). (es ++ adds.since) ++ entry conn newest ∷ []) h.history ∙ ap (λ (es : List Entry). es ++ entry conn newest ∷ []) (append_assoc first.seen.entries h.since adds.since)
            ∙ append_assoc first.seen.entries (h.since ++ adds.since) (entry conn newest ∷ []) ∙ ap (λ (es : List Entry). first.seen.entries ++ es) (append_assoc h.since adds.since (entry conn newest ∷ []));
        own_acts = acts-append conn h.since (adds.since ++ entry conn newest ∷ []) ∙ ap (λ (xs : List Acts). xs ++ acts_of conn (adds.since ++ entry conn newest ∷ [])) h.own_acts
            ∙ ap (λ (xs : List Acts). asked ++ xs) (acts-append conn adds.since (entry conn newest ∷ []) ∙ ap (λ (xs : List Acts). xs ++ acts_of conn (entry conn newest ∷ [])) (acts-apart conn adds.since apart) ∙ own_act conn newest);
        requests = places-append conn (length first.seen.entries) h.since (adds.since ++ entry conn newest ∷ [])
            ∙ ap (λ (xs : List ℕ). xs ++ request_places (length first.seen.entries + length h.since) conn (adds.since ++ entry conn newest ∷ [])) h.requests
            ∙ ap (λ (xs : List ℕ). requested ++ xs)
            (places-append conn (length first.seen.entries + length h.since) adds.since (entry conn newest ∷ [])
            ∙ ap (λ (xs : List ℕ). xs ++ request_places ((length first.seen.entries + length h.since) + length adds.since) conn (entry conn newest ∷ [])) (places-apart conn (length first.seen.entries + length h.since) adds.since apart)
            ∙ ap (λ (n : ℕ). request_places n conn (entry conn newest ∷ [])) (sym at) ∙ own_place conn place newest);
        own = h.own ++ place ∷ [];
        places = adds.places ∙ ap (λ (xs : List ℕ). xs ++ place ∷ []) h.places ∙ append_assoc first.places h.own (place ∷ []);
        as_many = length-append h.own (place ∷ []) ∙ ap (λ n. n + 1) h.as_many ∙ sym (length-append asked (newest ∷ []));
        of_conn = All-push (IsEntryOf conn after.seen.entries) h.own place
            (entries_of conn before.seen.entries (adds.since ++ entry conn newest ∷ []) after.seen.entries h.own (adds.history ∙ append_assoc before.seen.entries adds.since (entry conn newest ∷ [])) h.of_conn)
            (newest_of conn place newest (before.seen.entries ++ adds.since) after.seen.entries adds.history adds.place_is);
        connections = adds.connections ∙ ap (λ (x : Effect). connections_with x conn before.connections) asks ∙ h.connections;
        opened = asks_opened (effect_of newest) before.opened after.opened asks adds.opened ∙ h.opened;
        dones = asks_dones (effect_of newest) before.dones after.dones asks adds.dones ∙ h.dones;
        room = omega (arith, adds.room, ap uses asks, h.room, length-append asked (newest ∷ []));
        stays = stays_further first before after h.stays adds.stays;
      }

  -- others entered more
  pub enters_looks : IsServing conn before → IsSound after → Looks before after → Enters conn asked requested first after
  enters_looks serving sound looks =
      let apart = looks_apart before after serving.sound sound looks conn serving.own in
      record {
        since = h.since ++ looks.since;
        history = looks.history ∙ ap (λ (es : List Entry). es ++ looks.since) h.history ∙ append_assoc first.seen.entries h.since looks.since;
        own_acts = acts-append conn h.since looks.since ∙ ap (λ (xs : List Acts). acts_of conn h.since ++ xs) (acts-apart conn looks.since apart) ∙ append-nil (acts_of conn h.since) ∙ h.own_acts;
        requests = places-append conn (length first.seen.entries) h.since looks.since
            ∙ ap (λ (xs : List ℕ). request_places (length first.seen.entries) conn h.since ++ xs) (places-apart conn (length first.seen.entries + length h.since) looks.since apart)
            ∙ append-nil (request_places (length first.seen.entries) conn h.since) ∙ h.requests;
        own = h.own;
        places = looks.places ∙ h.places;
        as_many = h.as_many;
        of_conn = entries_of conn before.seen.entries looks.since after.seen.entries h.own looks.history h.of_conn;
        connections = looks.connections ∙ h.connections;
        opened = looks.opened ∙ h.opened;
        dones = looks.dones ∙ h.dones;
        room = looks.room ∙ h.room;
        stays = stays_further first before after h.stays looks.stays;
      }

-- a connection that asks stays open and the desk's
pub serving_adds : {Held : Type 0} (conn : ℕ) (newest : Acts) (place : ℕ) (before after : DeskState Held) → effect_of newest ≡ Asks → IsServing conn before → IsSound after → Adds before (entry conn newest) place after → IsServing conn after
serving_adds conn newest place before after asks serving sound adds = record {
  own = adds_own before after (entry conn newest) place adds conn serving.own;
  there = adds_is_open before after (entry conn newest) place sound adds (inr asks);
  sound = sound;
}

pub serving_looks : {Held : Type 0} (conn : ℕ) (before after : DeskState Held) → IsServing conn before → IsSound after → Looks before after → IsServing conn after
serving_looks conn before after serving sound looks = record {
  own = subst (λ (cs : List ℕ). Contains cs conn) (sym looks.connections) serving.own;
  there = looks_open before after serving.sound sound looks conn serving.own ∙ serving.there;
  sound = sound;
}

-- ---- the kept item

-- the first of the acts as it is entered, and the others
stored-next : {Item : Type 0} (stash : Option (Stash Item)) (asked : Acts) (rest : List Acts) → stored_for (unit_kept stash) (asked ∷ rest) ≡ as_entered (unit_kept stash) asked ∷ stored_for (unit_kept (stash_left stash asked)) rest
stored-next None asked rest = refl
stored-next (Some kept) asked rest = by (reports kept.unit asked)
  where
    by : (b : Bool) → cond b (act.Compiled (Some kept.unit) true ∷ rest) (asked ∷ with_item kept.unit rest) ≡ cond b (act.Compiled (Some kept.unit) true) asked ∷ stored_for (unit_kept (cond b None (Some kept))) rest
    by true = refl
    by false = refl

-- what is kept behind the first of the acts and then behind the others
behind_next : {Item : Type 0} (stash : Option (Stash Item)) (asked : Acts) (rest : List Acts) → stash_behind stash (asked ∷ rest) ≡ stash_behind (stash_left stash asked) rest
behind_next None asked rest = refl
behind_next (Some kept) asked rest = by (reports kept.unit asked)
  where
    by : (b : Bool) → cond (b || list_any (reports kept.unit) rest) None (Some kept) ≡ stash_behind (cond b None (Some kept)) rest
    by true = refl
    by false = refl

-- ---- line by line

stored_none : (kept : Option ℕ) → stored_for kept [] ≡ []
stored_none None = refl
stored_none (Some unit) = refl

asks_entered : (kept : Option ℕ) (asked : Acts) → effect_of asked ≡ Asks → effect_of (as_entered kept asked) ≡ Asks
asks_entered None asked e = e
asks_entered (Some unit) asked e = by (reports unit asked)
  where
    by : (b : Bool) → effect_of (cond b (act.Compiled (Some unit) true) asked) ≡ Asks
    by true = refl
    by false = e

request_entered : (kept : Option ℕ) (asked : Acts) → is_request asked ≡ true → is_request (as_entered kept asked) ≡ true
request_entered None asked e = e
request_entered (Some unit) asked e = by (reports unit asked)
  where
    by : (b : Bool) → is_request (cond b (act.Compiled (Some unit) true) asked) ≡ true
    by true = refl
    by false = e

place_of_request : (kept : Option ℕ) (asked : Acts) (place : ℕ) → is_request asked ≡ true → place_if (as_entered kept asked) place ≡ place ∷ []
place_of_request kept asked place e = ap (λ b. cond b (place ∷ []) []) (request_entered kept asked e)

pub lines_begin : {Item Held : Type 0} (conn : ℕ) (asked : List Asked) (kept : Option (Stash Item)) (old : List ℕ) (desk : DeskState Held) → AllByRecursion (LineCanAsk desk.seen.project) asked → IsServing conn desk
    → EntersSoFar conn asked 0 kept kept old old desk desk
lines_begin conn asked kept old desk can serving = record {
  done = [];
  requested = [];
  entered = enters_nothing conn desk;
  places = sym (append-nil old);
  acts = refl;
  few = omega arith;
  few_places = omega arith;
  as_many = omega arith;
  left_is = refl;
  can = can;
  serving = serving;
}

module _ {Item Held : Type 0} (conn : ℕ) (asked : List Asked) (k : ℕ) (kept left : Option (Stash Item)) (old now : List ℕ) (first before : DeskState Held) (h : EntersSoFar conn asked k kept left old now first before) where
  can_now : (line : Asked) → drop k asked ≡ line ∷ drop (k + 1) asked → LineCanAsk first.seen.project line × AllByRecursion (LineCanAsk first.seen.project) (drop (k + 1) asked)
  can_now line next = subst (λ (xs : List Asked). AllByRecursion (LineCanAsk first.seen.project) xs) next h.can

  -- the act as it is entered
  abbrev entered_as : Acts → Acts
  entered_as asks = as_entered (unit_kept left) asks

  acts_next : (asks : Acts) → drop k asked ≡ Act asks ∷ drop (k + 1) asked → (h.done ++ entered_as asks ∷ []) ++ stored_for (unit_kept (stash_left left asks)) (requests_of (drop (k + 1) asked)) ≡ stored_for (unit_kept kept) (requests_of asked)
  acts_next asks next =
      append_assoc h.done (entered_as asks ∷ []) (stored_for (unit_kept (stash_left left asks)) (requests_of (drop (k + 1) asked)))
      ∙ ap (λ (xs : List Acts). h.done ++ xs) (sym (stored-next left asks (requests_of (drop (k + 1) asked))))
      ∙ ap (λ (xs : List Asked). h.done ++ stored_for (unit_kept left) (requests_of xs)) (sym next) ∙ h.acts

  left_next : (asks : Acts) → drop k asked ≡ Act asks ∷ drop (k + 1) asked → stash_behind (stash_left left asks) (requests_of (drop (k + 1) asked)) ≡ stash_behind kept (requests_of asked)
  left_next asks next = sym (behind_next left asks (requests_of (drop (k + 1) asked))) ∙ ap (λ (xs : List Asked). stash_behind left (requests_of xs)) (sym next) ∙ h.left_is

  -- one line more
  pub line_more : (line : Asked) (left' : Option (Stash Item)) (new : List ℕ) (after : DeskState Held) → drop k asked ≡ line ∷ drop (k + 1) asked
      → EntersLine (Ok tt) conn line left left' now new before after → IsSound after → EntersSoFar conn asked (k + 1) kept left' old new first after
  line_more (Act asks) left' new after next e sound =
      let can = (can_now (Act asks) next).0 in
      let asking = asks_entered (unit_kept left) asks can.asks in
      let at = place_of_request (unit_kept left) asks e.0 can.request in
      record {
        done = h.done ++ entered_as asks ∷ [];
        requested = h.requested ++ e.0 ∷ [];
        entered = subst (λ (ps : List ℕ). Enters conn (h.done ++ entered_as asks ∷ []) (h.requested ++ ps) first after) at (enters_more conn h.done h.requested first before after h.entered (entered_as asks) e.0 asking h.serving sound e.1);
        places = e.2 ∙ ap (λ (ps : List ℕ). ps ++ e.0 ∷ []) h.places ∙ append_assoc old h.requested (e.0 ∷ []);
        acts = ap (λ (u : Option (Stash Item)). (h.done ++ entered_as asks ∷ []) ++ stored_for (unit_kept u) (requests_of (drop (k + 1) asked))) e.3 ∙ acts_next asks next;
        few = omega (arith, h.few, length-append h.done (entered_as asks ∷ []));
        few_places = omega (arith, h.few_places, length-append h.requested (e.0 ∷ []));
        as_many = omega (arith, h.as_many, length-append h.requested (e.0 ∷ []), ap (λ (xs : List Asked). length (requests_of xs)) next);
        left_is = ap (λ (u : Option (Stash Item)). stash_behind u (requests_of (drop (k + 1) asked))) e.3 ∙ left_next asks next;
        can = (can_now (Act asks) next).1;
        serving = serving_adds conn (entered_as asks) e.0 before after asking h.serving sound e.1;
      }
  line_more (Malformed reason) left' new after next e sound = record {
    done = h.done;
    requested = h.requested;
    entered = subst (λ (d : DeskState Held). Enters conn h.done h.requested first d) e.0 h.entered;
    places = e.1 ∙ h.places;
    acts = ap (λ (u : Option (Stash Item)). h.done ++ stored_for (unit_kept u) (requests_of (drop (k + 1) asked))) e.2 ∙ ap (λ (xs : List Asked). h.done ++ stored_for (unit_kept left) (requests_of xs)) (sym next) ∙ h.acts;
    few = omega (arith, h.few);
    few_places = omega (arith, h.few_places);
    as_many = ap (λ (xs : List Asked). length h.requested + length (requests_of xs)) (sym next) ∙ h.as_many;
    left_is = ap (λ (u : Option (Stash Item)). stash_behind u (requests_of (drop (k + 1) asked))) e.2 ∙ ap (λ (xs : List Asked). stash_behind left (requests_of xs)) (sym next) ∙ h.left_is;
    can = (can_now (Malformed reason) next).1;
    serving = subst (λ (d : DeskState Held). IsServing conn d) e.0 h.serving;
  }

  -- no room for a line
  pub line_stops : (line : Asked) (left' : Option (Stash Item)) (new : List ℕ) (full : Full) (after : DeskState Held) → drop k asked ≡ line ∷ drop (k + 1) asked
      → EntersLine (Err full) conn line left left' now new before after → IsSound after
      → ((requested : List ℕ) × EntersPart conn (stored_for (unit_kept kept) (requests_of asked)) full first after × (new ≡ old ++ requested)) × IsServing conn after
  line_stops (Act asks) left' new full after next e sound = (
    (
      h.requested,
      record {
        part = h.done;
        missing = entered_as asks ∷ stored_for (unit_kept (stash_left left asks)) (requests_of (drop (k + 1) asked));
        parts = sym (acts_next asks next) ∙ append_assoc h.done (entered_as asks ∷ []) (stored_for (unit_kept (stash_left left asks)) (requests_of (drop (k + 1) asked)));
        some_missing = λ none. absurd (cc none);
        requested = h.requested;
        entered = enters_looks conn h.done h.requested first before after h.entered h.serving sound e.0;
        is_full = e.1;
      },
      e.2 ∙ h.places,
    ),
    serving_looks conn before after h.serving sound e.0,
  )
  line_stops (Malformed reason) left' new full after next e sound = absurd e

  -- all lines were entered
  pub places_end : length asked ≤ k → length now ≡ length old + length (requests_of asked)
  places_end le = omega (arith, ap length h.places, length-append old h.requested, h.as_many, ap (λ (xs : List Asked). length (requests_of xs)) (drop_all k asked le))

-- ---- a block

refused_enters : (lines : List Asked) → is_refused lines ≡ true → entered_by lines ≡ []
refused_enters lines e = ap (λ b. cond b [] (requests_of lines ++ act.Pause ∷ [])) e

with_pause : (unit : ℕ) (asked : List Acts) → with_item unit (asked ++ act.Pause ∷ []) ≡ with_item unit asked ++ act.Pause ∷ []
with_pause unit [] = refl
with_pause unit (a ∷ asked) = by (reports unit a) (with_pause unit asked)
  where
    by : (b : Bool) → with_item unit (asked ++ act.Pause ∷ []) ≡ with_item unit asked ++ act.Pause ∷ []
        → cond b (act.Compiled (Some unit) true ∷ (asked ++ act.Pause ∷ [])) (a ∷ with_item unit (asked ++ act.Pause ∷ [])) ≡ cond b (act.Compiled (Some unit) true ∷ asked) (a ∷ with_item unit asked) ++ act.Pause ∷ []
    by true h = refl
    by false h = ap (λ (xs : List Acts). a ∷ xs) h

stored_pause : (kept : Option ℕ) (asked : List Acts) → stored_for kept (asked ++ act.Pause ∷ []) ≡ stored_for kept asked ++ act.Pause ∷ []
stored_pause None asked = refl
stored_pause (Some unit) asked = with_pause unit asked

pub refused_so : {Held : Type 0} (conn : ℕ) (kept : Option ℕ) (lines : List Asked) (desk : DeskState Held) (old : List ℕ) → is_refused lines ≡ true
    → (requested : List ℕ) × Enters conn (stored_for kept (entered_by lines)) requested desk desk × (old ≡ old ++ requested)
refused_so {Held} conn kept lines desk old e =
    ([], subst (λ (xs : List Acts). Enters conn xs [] desk desk) (sym (ap (stored_for kept) (refused_enters lines e) ∙ stored_none kept)) (enters_nothing conn desk), sym (append-nil old))

module _ {Held : Type 0} (conn : ℕ) (kept : Option ℕ) (lines : List Asked) (first before after : DeskState Held) where
  -- all was entered, and the Pause
  paused : (requested : List ℕ) (place : ℕ) → Enters conn (stored_for kept (requests_of lines)) requested first before → IsServing conn before → IsSound after
      → Adds before (entry conn act.Pause) place after → Enters conn (stored_for kept (requests_of lines ++ act.Pause ∷ [])) requested first after
  paused requested place h serving sound adds =
      subst (λ (xs : List Acts). Enters conn xs requested first after) (sym (stored_pause kept (requests_of lines)))
      (subst (λ (ps : List ℕ). Enters conn (stored_for kept (requests_of lines) ++ act.Pause ∷ []) ps first after) (append-nil requested)
      (enters_more conn (stored_for kept (requests_of lines)) requested first before after h act.Pause place refl serving sound adds))

  -- all was entered but the Pause
  not_paused : (requested : List ℕ) (full : Full) → Enters conn (stored_for kept (requests_of lines)) requested first before → IsServing conn before → IsSound after
      → Looks before after → IsFull after.seen 0 full → EntersPart conn (stored_for kept (requests_of lines ++ act.Pause ∷ [])) full first after
  not_paused requested full h serving sound looks is_full = record {
    part = stored_for kept (requests_of lines);
    missing = act.Pause ∷ [];
    parts = stored_pause kept (requests_of lines);
    some_missing = λ none. absurd (cc none);
    requested = requested;
    entered = enters_looks conn (stored_for kept (requests_of lines)) requested first before after h serving sound looks;
    is_full = is_full;
  }

  -- only some of the requests were entered
  pub block_part : (full : Full) → EntersPart conn (stored_for kept (requests_of lines)) full first after → EntersPart conn (stored_for kept (requests_of lines ++ act.Pause ∷ [])) full first after
  block_part full h = record {
    part = h.part;
    missing = h.missing ++ act.Pause ∷ [];
    parts = stored_pause kept (requests_of lines) ∙ ap (λ (xs : List Acts). xs ++ act.Pause ∷ []) h.parts ∙ append_assoc h.part h.missing (act.Pause ∷ []);
    some_missing = λ none. some h.missing none;
    requested = h.requested;
    entered = h.entered;
    is_full = h.is_full;
  }
    where
      some : (xs : List Acts) → xs ++ act.Pause ∷ [] ≡ [] → ⊥
      some [] e = absurd (cc e)
      some (x ∷ xs) e = absurd (cc e)

-- the Pause was entered, or had no room
pub block_ends : {Held : Type 0} (result : Result (Unit {0}) Full) (conn : ℕ) (kept : Option ℕ) (lines : List Asked) (requested old new : List ℕ) (first before after : DeskState Held)
    → Enters conn (stored_for kept (requests_of lines)) requested first before → new ≡ old ++ requested → IsServing conn before → IsSound after
    → IfOk result (λ _. (place : ℕ) × Adds before (entry conn act.Pause) place after) → IfErr result (λ full. Looks before after) → IfErr result (λ full. IsFull after.seen 0 full)
    → ((requested : List ℕ) × EntersSo result conn (stored_for kept (requests_of lines ++ act.Pause ∷ [])) requested first after × (new ≡ old ++ requested)) × IsServing conn after
block_ends (Ok done) conn kept lines requested old new first before after h places serving sound adds looks full =
    ((requested, paused conn kept lines first before after requested adds.0 h serving sound adds.1, places), serving_adds conn act.Pause adds.0 before after refl serving sound adds.1)
block_ends (Err full) conn kept lines requested old new first before after h places serving sound adds looks is_full =
    ((requested, not_paused conn kept lines first before after requested full h serving sound looks is_full, places), serving_looks conn before after serving sound looks)

-- ---- how many requests there are

requests_few : (lines : List Asked) → length (requests_of lines) ≤ length lines
requests_few [] = omega arith
requests_few (Act a ∷ lines) = omega (arith, requests_few lines)
requests_few (Malformed reason ∷ lines) = omega (arith, requests_few lines)

item_length : (unit : ℕ) (asked : List Acts) → length (with_item unit asked) ≡ length asked
item_length unit [] = refl
item_length unit (a ∷ asked) = by (reports unit a) (item_length unit asked)
  where
    by : (b : Bool) → length (with_item unit asked) ≡ length asked → length (cond b (act.Compiled (Some unit) true ∷ asked) (a ∷ with_item unit asked)) ≡ length (a ∷ asked)
    by true h = refl
    by false h = ap suc h

stored_length : (kept : Option ℕ) (asked : List Acts) → length (stored_for kept asked) ≡ length asked
stored_length None asked = refl
stored_length (Some unit) asked = item_length unit asked

-- room for the Pause is left
pub pause_room : {Held : Type 0} (conn : ℕ) (kept : Option ℕ) (lines : List Asked) (requested : List ℕ) (first before : DeskState Held) → Enters conn (stored_for kept (requests_of lines)) requested first before
    → length lines + 1 ≤ first.room → 1 ≤ before.room
pause_room conn kept lines requested first before h le = omega (arith, h.room, stored_length kept (requests_of lines), requests_few lines, le)

pub same_metered : {Held : Type 0} (conn : ℕ) (asked : List Acts) (requested : List ℕ) (first before : DeskState Held) → Enters conn asked requested first before → IsTrue before.metered → IsTrue first.metered
same_metered conn asked requested first before h e = sym h.stays.metered ∙ e

-- a good block has as many requests as lines
pub good_count : (lines : List Asked) → is_refused lines ≡ false → length (requests_of lines) ≡ length lines
good_count [] e = refl
good_count (Act a ∷ lines) e = ap suc (good_count lines e)
good_count (Malformed reason ∷ lines) e = absurd cc

pub ok_places : (result : Result (Unit {0}) Full) (lines : List Asked) (before after : ℕ) → after ≡ before + length (requests_of lines) → IfOk result (λ _. is_refused lines ≡ false → after ≡ before + length lines)
ok_places (Ok done) lines before after e = λ good. e ∙ ap (λ n. before + n) (good_count lines good)
ok_places (Err full) lines before after e = tt
