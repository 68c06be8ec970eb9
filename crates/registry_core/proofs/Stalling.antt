-- A stall over the tables is the history's, and gives up the same units.
use Rattle.histories.specs.Answered.{open_count}
use Rattle.std.proofs.Common.{◌≡◌, ℕ, ◌+◌, Bool, true, false, cond, not, ◌||◌, ◌&&◌, ◌==◌, List, [], ◌∷◌, filter, map, get_or, Option, Some, None, is_none, refl, sym, ap, ap₂, subst, ◌∙◌, true≢false, eqb-true}
use Rattle.std.proofs.lemmas.Bool.{cond-true, cond-false}
use Rattle.std.specs.Prelude.{if◌then◌else◌}
use Rattle.std.specs.List.{list_any, list_all}
use Rattle.std.specs.Option.{option_map_or}
use Rattle.histories.specs.declared.entry.Entry.{Entry}
use Rattle.histories.specs.declared.standing.Fate.TheVariants.{Compiled, Failed}
use Rattle.histories.specs.declared.answered.Answered.{Answered}
use Rattle.histories.specs.declared.answered.Wait.{Wait}
use Rattle.histories.proofs.Members.{In}
use Rattle.unit_registry.specs.Projects.{ProjectView, is_built}
use Rattle.histories.specs.Answered.{has_gone, is_open, opened, open_connections, done_count, is_paused, holder, is_reported}
use Rattle.histories.specs.Noted.{Noted, answered_of, fate, is_given_up, pending}
use Rattle.histories.specs.Histories.{and_then, is_stalled, is_waiting, fault}
use Rattle.histories.proofs.Members.{In-filter}
use Rattle.histories.proofs.OneEntry.{is_open-from}
use Rattle.histories.proofs.Steps.{IsStanding}
use Rattle.histories.proofs.GoingOn.{candidates, still}
use Rattle.registry_tables.specs.declared.imports.Waiting.{Waiting}
use Rattle.registry_tables.specs.Tabled.{Tabled, fate_in}
use Rattle.registry_tables.specs.Stalled.{is_stalled_in, is_waiting_in, gives_up}
use Rattle.registry_core.specs.Standing.{waiting_of}
use Rattle.registry_core.proofs.Entering.{any_alike_in, all_alike_in, any_map, any_filter, fate_is, middle, pending_middle, open_is}

-- the tables tell of these noted entries
pub record Tells (t : Tabled) (noted : List Noted) : Type 0 where
  pub answered : t.answered ≡ answered_of noted
  pub given : (unit : ℕ) → get_or t.given unit false ≡ is_given_up noted unit

pub fate_told : (t : Tabled) (noted : List Noted) → Tells t noted → (unit : ℕ) → fate_in t unit ≡ fate t.project noted unit
fate_told t noted tells unit = fate_is t.project noted t.answered t.given unit tells.answered (tells.given unit)

-- who waits among the candidates, for an open connection
three : (o f e : Bool) → (e ≡ true → o ≡ true) → ((o && f) && e) ≡ (e && f)
three true true true h = refl
three true true false h = refl
three true false true h = refl
three true false false h = refl
three false f true h = absurd (true≢false (sym (h refl)))
three false f false h = refl

waits_among : (project : ProjectView) (noted : List Noted) (ws : List Wait) (conn : ℕ) → is_open (answered_of noted) conn ≡ true → list_any (λ w. w.conn == conn) (filter (still project noted) ws) ≡ list_any (λ w. w.conn == conn && is_none (fate project noted w.unit)) ws
waits_among project noted ws conn is_open_now =
    any_filter (λ w. w.conn == conn) (still project noted) ws
    ∙ any_alike_in (λ w. still project noted w && w.conn == conn) (λ w. w.conn == conn && is_none (fate project noted w.unit)) ws (λ w there. three (is_open (answered_of noted) w.conn) (is_none (fate project noted w.unit)) (w.conn == conn) (λ e. subst (λ c. is_open (answered_of noted) c ≡ true) (sym (eqb-true w.conn conn e)) is_open_now))

waiting_is : (t : Tabled) (noted : List Noted) (entry : Entry) (hold : List Noted) → IsStanding t.project noted → Tells t (middle t.project noted entry) → (conn : ℕ) → is_open (answered_of (middle t.project noted entry)) conn ≡ true → is_waiting t.project (middle t.project noted entry) conn ≡ is_waiting_in t (map (waiting_of hold) (candidates t.project noted entry)) conn
waiting_is t noted entry hold s tells conn is_open_now =
    ap (λ (ws : List Wait). list_any (λ w. w.conn == conn) ws) (pending_middle t.project noted entry s)
    ∙ waits_among t.project mid (candidates t.project noted entry) conn is_open_now
    ∙ sym (any_map (waiting_of hold) (λ w. w.conn == conn && is_none (fate_in t w.unit)) (candidates t.project noted entry)
    ∙ any_alike_in (λ w. w.conn == conn && is_none (fate_in t w.unit)) (λ w. w.conn == conn && is_none (fate t.project mid w.unit)) (candidates t.project noted entry) (λ w there. ap (λ o. w.conn == conn && is_none o) (fate_told t mid tells w.unit)))
  where
    mid : List Noted
    mid = middle t.project noted entry

pub stalled_is : (t : Tabled) (workers : ℕ) (noted : List Noted) (entry : Entry) (hold : List Noted) → IsStanding t.project noted → Tells t (middle t.project noted entry) → is_stalled t.project workers (middle t.project noted entry) ≡ is_stalled_in t workers (map (waiting_of hold) (candidates t.project noted entry))
stalled_is t workers noted entry hold s tells =
    ap (λ b. not (open_count (answered_of mid) == 0) && open_count (answered_of mid) + done_count (answered_of mid) == workers && b)
    (all_alike_in (λ c. is_paused (answered_of mid) c && is_waiting t.project mid c) (λ c. is_paused (answered_of mid) c && is_waiting_in t ws c) (open_connections (answered_of mid)) (λ c there. ap (λ b. is_paused (answered_of mid) c && b) (waiting_is t noted entry hold s tells c (open_there c there))))
    ∙ ap (λ (a : List Answered). not (open_count a == 0) && open_count a + done_count a == workers && list_all (λ c. is_paused a c && is_waiting_in t ws c) (open_connections a)) (sym tells.answered)
  where
    mid : List Noted
    mid = middle t.project noted entry

    ws : List Waiting
    ws = map (waiting_of hold) (candidates t.project noted entry)

    open_there : (c : ℕ) → In c (open_connections (answered_of mid)) → is_open (answered_of mid) c ≡ true
    open_there c there =
        let parts = In-filter (λ x. not (has_gone (answered_of mid) x)) c (opened (answered_of mid)) there in
        is_open-from (answered_of mid) c parts.0 (flip (has_gone (answered_of mid) c) parts.1)
      where
        flip : (b : Bool) → not b ≡ true → b ≡ false
        flip false h = refl
        flip true h = absurd (true≢false (sym h))

-- the units that a stall gives up
given_step : (p : ℕ → Bool) (u : ℕ) (x : ℕ) (xs : List ℕ) → (b : Bool) → p x ≡ b → list_any (λ v. v == u) (cond b (x ∷ filter p xs) (filter p xs)) ≡ ((x == u && p x) || list_any (λ v. v == u) (filter p xs))
given_step p u x xs true e = ap (λ b. b || list_any (λ v. v == u) (filter p xs)) (sym (and_true (x == u) (p x) e))
  where
    and_true : (a b : Bool) → b ≡ true → (a && b) ≡ a
    and_true true b h = h
    and_true false b h = refl
given_step p u x xs false e = ap (λ b. b || list_any (λ v. v == u) (filter p xs)) (sym (and_none (x == u) (p x) e))
  where
    and_none : (a b : Bool) → b ≡ false → (a && b) ≡ false
    and_none true b h = h
    and_none false b h = refl

any_given : (p : ℕ → Bool) (u : ℕ) → (ws : List Wait) → list_any (λ v. v == u) (filter p (map (λ (w : Wait). w.unit) ws)) ≡ list_any (λ w. w.unit == u && p w.unit) ws
any_given p u [] = refl
any_given p u (w ∷ ws) = given_step p u w.unit (map (λ (x : Wait). x.unit) ws) (p w.unit) refl ∙ ap (λ b. (w.unit == u && p w.unit) || b) (any_given p u ws)

-- a unit that no connection holds: it has not ended exactly where it is neither built nor reported nor given up
free_table : (gone built_reported given none_held holder_gone : Bool) → given ≡ false → (none_held ≡ true → holder_gone ≡ false) → ((not gone && is_none (if built_reported then Some Compiled else (if given || holder_gone then Some Failed else None))) && none_held) ≡ (not gone && (none_held && not built_reported))
free_table gone br true nh hg g h = absurd (true≢false g)
free_table true br false nh hg g h = refl
free_table false true false true hg g h = refl
free_table false true false false hg g h = refl
free_table false false false true true g h = absurd (true≢false (h refl))
free_table false false false true false g h = refl
free_table false false false false true g h = refl
free_table false false false false false g h = refl

none_gone : (answered : List Answered) (o : Option ℕ) → is_none o ≡ true → option_map_or (has_gone answered) o false ≡ false
none_gone answered None h = refl
none_gone answered (Some c) h = absurd (true≢false (sym h))

regroup : (s e n x : Bool) → (e ≡ true → (s && n) ≡ x) → (s && (e && n)) ≡ (e && x)
regroup s true n x h = h refl
regroup true false n x h = refl
regroup false false n x h = refl

or_flip : (a g b : Bool) → (g ≡ false → a ≡ b) → (a || g) ≡ (g || b)
or_flip true true b h = refl
or_flip false true b h = refl
or_flip true false b h = h refl
or_flip false false b h = h refl

pub given_is : (t : Tabled) (workers limit : ℕ) (noted : List Noted) (entry : Entry) (hold : List Noted) → IsStanding t.project noted → is_none (fault t.project workers limit noted entry) ≡ true → Tells t (middle t.project noted entry) → (unit : ℕ) → is_given_up (and_then t.project workers noted entry) unit ≡ (get_or t.given unit false || (is_stalled_in t workers (map (waiting_of hold) (candidates t.project noted entry)) && list_any (λ w. w.unit == unit && gives_up t w) (map (waiting_of hold) (candidates t.project noted entry))))
given_is t workers limit noted entry hold s passes tells unit =
    by (is_stalled t.project workers mid) refl
  where
    mid : List Noted
    mid = middle t.project noted entry

    cs : List Wait
    cs = candidates t.project noted entry

    ws : List Waiting
    ws = map (waiting_of hold) cs

    flags : is_given_up noted unit ≡ get_or t.given unit false
    flags = sym (tells.given unit)

    one : is_given_up noted unit ≡ false → (w : Wait) → In w cs → (still t.project mid w && (w.unit == unit && is_none (holder (answered_of mid) w.unit))) ≡ (w.unit == unit && gives_up t (waiting_of hold w))
    one bare w there = regroup (still t.project mid w) (w.unit == unit) (is_none (holder (answered_of mid) w.unit)) (gives_up t (waiting_of hold w)) (λ e.
        ap (λ o. (o && is_none (fate t.project mid w.unit)) && is_none (holder (answered_of mid) w.unit)) (open_is t.project workers limit noted entry s passes w there)
        ∙ free_table (has_gone (answered_of mid) w.conn) (is_built t.project w.unit || is_reported (answered_of mid) w.unit) (is_given_up mid w.unit) (is_none (holder (answered_of mid) w.unit)) (option_map_or (has_gone (answered_of mid)) (holder (answered_of mid) w.unit) false) (ap (λ u. is_given_up mid u) (eqb-true w.unit unit e) ∙ bare) (none_gone (answered_of mid) (holder (answered_of mid) w.unit))
        ∙ ap (λ (a : List Answered). not (has_gone a w.conn) && (is_none (holder a w.unit) && not (is_built t.project w.unit || is_reported a w.unit))) (sym tells.answered))

    all : is_given_up noted unit ≡ false → list_any (λ v. v == unit) (filter (λ u. is_none (holder (answered_of mid) u)) (map (λ (w : Wait). w.unit) (pending t.project mid))) ≡ list_any (λ w. w.unit == unit && gives_up t w) ws
    all bare =
        ap (λ (ps : List Wait). list_any (λ v. v == unit) (filter (λ u. is_none (holder (answered_of mid) u)) (map (λ (w : Wait). w.unit) ps))) (pending_middle t.project noted entry s)
        ∙ any_given (λ u. is_none (holder (answered_of mid) u)) unit (filter (still t.project mid) cs)
        ∙ any_filter (λ w. w.unit == unit && is_none (holder (answered_of mid) w.unit)) (still t.project mid) cs
        ∙ any_alike_in (λ w. still t.project mid w && (w.unit == unit && is_none (holder (answered_of mid) w.unit))) (λ w. w.unit == unit && gives_up t (waiting_of hold w)) cs (one bare)
        ∙ sym (any_map (waiting_of hold) (λ w. w.unit == unit && gives_up t w) cs)

    by : (b : Bool) → is_stalled t.project workers mid ≡ b → is_given_up (and_then t.project workers noted entry) unit ≡ (get_or t.given unit false || (is_stalled_in t workers ws && list_any (λ w. w.unit == unit && gives_up t w) ws))
    by true e =
        ap (λ (g : List ℕ). list_any (λ v. v == unit) g || is_given_up noted unit) (cond-true _ _ _ e)
        ∙ or_flip (list_any (λ v. v == unit) (filter (λ u. is_none (holder (answered_of mid) u)) (map (λ (w : Wait). w.unit) (pending t.project mid)))) (is_given_up noted unit) (list_any (λ w. w.unit == unit && gives_up t w) ws) all
        ∙ ap₂ (λ g b. g || (b && list_any (λ w. w.unit == unit && gives_up t w) ws)) flags (sym e ∙ stalled_is t workers noted entry hold s tells)
    by false e =
        ap (λ (g : List ℕ). list_any (λ v. v == unit) g || is_given_up noted unit) (cond-false _ _ _ e)
        ∙ or_none (is_given_up noted unit) (list_any (λ w. w.unit == unit && gives_up t w) ws)
        ∙ ap₂ (λ g b. g || (b && list_any (λ w. w.unit == unit && gives_up t w) ws)) flags (sym e ∙ stalled_is t workers noted entry hold s tells)
      where
        or_none : (g x : Bool) → g ≡ (g || (false && x))
        or_none true x = refl
        or_none false x = refl
