-- What the ledger keeps stands after one more entry.
use Rattle.unit_registry.specs.Projects.{unit_count}
use Rattle.std.proofs.Common.{◌≡◌, ℕ, zero, suc, ◌+◌, ◌<◌, ◌≤◌, Bool, true, false, cond, not, ◌||◌, ◌&&◌, ◌==◌, ◌⊎◌, inl, inr, List, [], ◌∷◌, ◌++◌, length, filter, fold, map, reverse, get_or, Option, Some, None, is_none, IfSome, refl, sym, ap, ap₂, subst, ◌∙◌, arith, length-append, vec_capacity, All}
use Rattle.std.proofs.lemmas.Bool.{and_parts, and_right, cases_eq, or_parts}
use Rattle.std.proofs.lemmas.List.{length-map, get_or_push}
use Rattle.std.proofs.lemmas.List.Elements.{All-push}
use Rattle.std.specs.Global.{Vec}
use Rattle.std.specs.List.{list_any}
use Rattle.unit_registry.specs.declared.act.Act.{Act}
use Rattle.histories.specs.declared.answer.Answer.{Answer}
use Rattle.histories.specs.declared.entry.Entry.{Entry}
use Rattle.histories.specs.Entries.{IsTraceEntry}
use Rattle.histories.specs.declared.standing.Fate.{Fate}
use Rattle.histories.specs.declared.answer.Said.{Said}
use Rattle.histories.specs.declared.answer.Said.TheVariants.{Reply, Waits, Nothing}
use Rattle.histories.specs.declared.answered.Answered.{Answered}
use Rattle.histories.specs.declared.answered.Wait.{Wait}
use Rattle.histories.specs.declared.standing.Who.{Who}
use Rattle.histories.specs.declared.standing.Who.TheVariants.{Nobody, Guest, Holder}
use Rattle.histories.proofs.Members.{In}
use Rattle.unit_registry.specs.Acts.{is_open_act, goes, is_done, unit_of}
use Rattle.unit_registry.specs.Projects.{ProjectView}
use Rattle.histories.specs.Answered.{has_gone, is_open, who, wait_of, told_to_wait}
use Rattle.histories.specs.Noted.{Noted, answered_of, answer_in, answer_by, fate, pending, reply_in, is_given_up}
use Rattle.histories.specs.Histories.{and_then, noted_of, fault, IsLegal}
use Rattle.histories.proofs.Members.{In-filter, In-map, In-map_from}
use Rattle.histories.proofs.OneEntry.{who-same, is_open-parts}
use Rattle.histories.proofs.WhatIsSaid.{waits_by_import, IsToldToWait}
use Rattle.histories.proofs.Acyclic.{answered_entry, not_greeted}
use Rattle.histories.proofs.Steps.{IsStanding, stands_open, standing, standing-more}
use Rattle.histories.proofs.Legality.{noted_push, legal_push}
use Rattle.histories.proofs.GoingOn.{candidates, still, pending_after, reply_new, ended_reply, reply_goes_on}
use Rattle.registry_tables.specs.declared.imports.Waiting.{Waiting}
use Rattle.registry_tables.specs.Tabled.{Tabled, fate_in}
use Rattle.registry_tables.specs.Stalled.{AreWithin, is_stalled_in, gives_up}
use Rattle.registry_tables.specs.Imported.{Imported, AllWithin, ended_places, IsTied, Settles, held, newest_waiting, WaitsWell, ClosesNone, may_end_unit}
use Rattle.registry_core.specs.Ledgers.{answered_with}
use Rattle.registry_core.specs.Standing.{Stands, waiting_of}
use Rattle.registry_core.proofs.Answering.{answered_are, places_mapped}
use Rattle.registry_tables.proofs.Pairs.{filter_alike_in}
use Rattle.registry_tables.proofs.Openings.{filter_twice}
use Rattle.registry_core.proofs.Entering.{middle, map_alike_in, filter_mapped, open_is}
use Rattle.registry_core.proofs.Circles.{closes_none}
use Rattle.registry_core.proofs.Idle.{fate_with, same_fate}
use Rattle.registry_core.proofs.Stalling.{Tells, fate_told, given_is}

-- there are as many noted entries as entries
noted_length : (project : ProjectView) (workers : ℕ) → (entries : List Entry) (noted : List Noted) → length (fold (and_then project workers) noted entries) ≡ length noted + length entries
noted_length project workers [] noted = omega arith
noted_length project workers (e ∷ entries) noted = let a : length (fold (and_then project workers) (and_then project workers noted e) entries) ≡ suc (length noted) + length entries = noted_length project workers entries (and_then project workers noted e) in omega arith

pub lengths : (project : ProjectView) (workers : ℕ) (entries : List Entry) (noted : List Noted) → noted ≡ noted_of project workers entries → length noted ≡ length entries
lengths project workers entries noted is = let a : length noted ≡ length (noted_of project workers entries) = ap length is in let b : length (noted_of project workers entries) ≡ 0 + length entries = noted_length project workers entries [] in omega arith

-- no more wait than there are entries
wait_few : (said : Said) (p c : ℕ) (ws : List Wait) → length (wait_of said p c ws) ≤ length ws + 1
wait_few (Waits unit) p c ws = omega arith
wait_few (Reply answer) p c ws = omega arith
wait_few Nothing p c ws = omega arith

told_few : (answered : List Answered) → length (told_to_wait answered) ≤ length answered
told_few [] = omega arith
told_few (e ∷ answered) = let a = told_few answered in let b = wait_few e.said (length answered) e.conn (told_to_wait answered) in omega arith

filter_few_step : {A : Type 0} (b : Bool) (x : A) (xs : List A) (n : ℕ) → length xs ≤ n → length (cond b (x ∷ xs) xs) ≤ suc n
filter_few_step true x xs n h = omega arith
filter_few_step false x xs n h = omega arith

filter_few : {A : Type 0} (p : A → Bool) → (xs : List A) → length (filter p xs) ≤ length xs
filter_few p [] = omega arith
filter_few p (x ∷ xs) = filter_few_step (p x) x (filter p xs) (length xs) (filter_few p xs)

pub pending_few : (project : ProjectView) (noted : List Noted) → length (pending project noted) ≤ length noted
pending_few project noted =
    let a = filter_few (λ (w : Wait). is_open (answered_of noted) w.conn && is_none (reply_in project noted w.place)) (told_to_wait (answered_of noted)) in
    let b = told_few (answered_of noted) in
    let c : length (answered_of noted) ≡ length noted = length-map noted (λ (x : Noted). x.answered) in
    omega arith

pub waiting_few : (t : Tabled) (i : Imported) (entries : Vec Entry) (workers limit : ℕ) (noted : List Noted) → Stands t i entries workers limit noted → length i.waiting ≤ length entries.items
waiting_few t i entries workers limit noted s =
    let a : length i.waiting ≡ length (map (waiting_of noted) (pending t.project noted)) = ap length s.is_waiting in
    let b : length (map (waiting_of noted) (pending t.project noted)) ≡ length (pending t.project noted) = length-map (pending t.project noted) (waiting_of noted) in
    let c = pending_few t.project noted in
    let d = lengths t.project workers entries.items noted s.is_noted in
    omega arith

-- what stands after a ledger's entries
pub stands_on : (t : Tabled) (i : Imported) (entries : Vec Entry) (workers limit : ℕ) (noted : List Noted) → Stands t i entries workers limit noted → IsStanding t.project noted
stands_on t i entries workers limit noted s = subst (λ n. IsStanding t.project n) (sym s.is_noted) (standing t.project workers limit entries.items s.legal)

-- what is told to wait is of a connection and of a unit of the project
unit_is : (count unit : ℕ) (act : Act) → unit_of act ≡ Some unit → IfSome (unit_of act) (λ u. u < count) → unit < count
unit_is count unit act e h = subst (λ (o : Option ℕ). IfSome o (λ u. u < count)) e h

pub waits_well : (project : ProjectView) (noted : List Noted) (conn : ℕ) (act : Act) (said : Said) (count : ℕ) → said ≡ Rattle.histories.specs.Answers.at_once project noted conn act → IfSome (unit_of act) (λ u. u < count) → WaitsWell said act count
waits_well project noted conn act (Waits unit) count e within =
    let told : IsToldToWait project noted conn act unit = waits_by_import project noted conn act unit (sym e) in
    (unit_is count unit act (ap unit_of told.is_import) within, ap is_done told.is_import)
waits_well project noted conn act (Reply answer) count e within = tt
waits_well project noted conn act Nothing count e within = tt

-- the imports that may wait after the entry
pub newest_within : (said : Said) (act : Act) (place conn : ℕ) (holder : Option ℕ) (ws : List Waiting) (count : ℕ) → AllWithin ws count place → WaitsWell said act count → AllWithin (newest_waiting said place conn holder ws) count (place + 1)
newest_within (Waits unit) act place conn holder ws count a h = record { units = u; places = p }
  where
    new : Waiting
    new = record { place = place; conn = conn; unit = unit; holder = holder }

    u : (w : Waiting) → In w (new ∷ ws) → w.unit < count
    u w (inl e) = let s : unit ≡ w.unit = ap (λ (x : Waiting). x.unit) e in let l : unit < count = h.0 in omega arith
    u w (inr there) = a.units w there

    p : (w : Waiting) → In w (new ∷ ws) → w.place < place + 1
    p w (inl e) = let s : place ≡ w.place = ap (λ (x : Waiting). x.place) e in omega arith
    p w (inr there) = let l = a.places w there in omega arith
newest_within (Reply answer) act place conn holder ws count a h = record { units = a.units; places = λ w there. (let l = a.places w there in omega arith) }
newest_within Nothing act place conn holder ws count a h = record { units = a.units; places = λ w there. (let l = a.places w there in omega arith) }

pub newest_conns : (said : Said) (act : Act) (place conn : ℕ) (holder : Option ℕ) (ws : List Waiting) (count limit : ℕ) → ((w : Waiting) → In w ws → w.conn < limit) → WaitsWell said act count → (is_done act ≡ false → conn < limit) → (w : Waiting) → In w (newest_waiting said place conn holder ws) → w.conn < limit
newest_conns (Waits unit) act place conn holder ws count limit a h below w (inl e) = let s : conn ≡ w.conn = ap (λ (x : Waiting). x.conn) e in let l = below h.1 in omega arith
newest_conns (Waits unit) act place conn holder ws count limit a h below w (inr there) = a w there
newest_conns (Reply answer) act place conn holder ws count limit a h below w there = a w there
newest_conns Nothing act place conn holder ws count limit a h below w there = a w there

-- what is told with the entry, or was before
pub cases_of : (said : Said) (place conn : ℕ) (ws : List Wait) (w : Wait) → In w (wait_of said place conn ws) → ((said ≡ Waits w.unit) × (conn ≡ w.conn)) ⊎ In w ws
cases_of (Waits unit) place conn ws w (inl same) = inl (ap (λ (x : Wait). Waits x.unit) same, ap (λ (x : Wait). x.conn) same)
cases_of (Waits unit) place conn ws w (inr there) = inr there
cases_of (Reply answer) place conn ws w there = inr there
cases_of Nothing place conn ws w there = inr there

module _ (t0 : Tabled) (i0 : Imported) (entries : Vec Entry) (workers limit : ℕ) (noted : List Noted) (entry : Entry) where
  abbrev pub newest : Answered
  newest = answered_entry t0.project noted entry

  abbrev pub after : List Noted
  after = and_then t0.project workers noted entry

  -- the imports that may wait, over the tables
  abbrev pub waiting1 : List Waiting
  waiting1 = newest_waiting newest.said (length entries.items) entry.conn (held (who (newest ∷ t0.answered) entry.conn)) i0.waiting

  abbrev pub tables1 : Tabled
  tables1 = record t0 { answered = newest ∷ t0.answered }

  old_is : Stands t0 i0 entries workers limit noted → (w : Wait) → In w (pending t0.project noted) → waiting_of noted w ≡ waiting_of after w
  old_is s w there =
      let st = stands_on t0 i0 entries workers limit noted s in
      let told = (In-filter (λ x. is_open (answered_of noted) x.conn && is_none (reply_in t0.project noted x.place)) w (told_to_wait (answered_of noted)) there).0 in
      ap (λ (h : Who). with_holder w (held h)) (sym (who-same newest (answered_of noted) w.conn (not_greeted t0.project noted entry w.conn (st.kept.was_connected w told))))
    where
      with_holder : Wait → Option ℕ → Waiting
      with_holder w h = record { place = w.place; conn = w.conn; unit = w.unit; holder = h }

  newest_is : (said : Said) (place place' : ℕ) (h h' : Option ℕ) (ws : List Waiting) (vs : List Wait) → place ≡ place' → h ≡ held (who (answered_of after) entry.conn) → ws ≡ map (waiting_of after) vs → newest_waiting said place entry.conn h ws ≡ map (waiting_of after) (wait_of said place' entry.conn vs)
  newest_is (Waits unit) place place' h h' ws vs p e r = λ i. (record { place = p i; conn = entry.conn; unit = unit; holder = e i }) ∷ r i
  newest_is (Reply answer) place place' h h' ws vs p e r = r
  newest_is Nothing place place' h h' ws vs p e r = r

  pub waiting_is : Stands t0 i0 entries workers limit noted → waiting1 ≡ map (waiting_of after) (candidates t0.project noted entry)
  waiting_is s =
      newest_is newest.said (length entries.items) (length noted) (held (who (newest ∷ t0.answered) entry.conn)) None i0.waiting (pending t0.project noted) (sym (lengths t0.project workers entries.items noted s.is_noted)) (ap (λ (a : List Answered). held (who (newest ∷ a) entry.conn)) s.is_answered) (s.is_waiting ∙ map_alike_in (waiting_of noted) (waiting_of after) (pending t0.project noted) (old_is s))

  pub tells_middle : Stands t0 i0 entries workers limit noted → Tells tables1 (middle t0.project noted entry)
  tells_middle s = record { answered = ap (λ (a : List Answered). newest ∷ a) s.is_answered; given = s.is_given }

  -- the tables when the units of a stall are given up
  abbrev pub tables2 : List Bool → Tabled
  tables2 given = record tables1 { given = given }

  abbrev pub GivesUp : List Bool → Type 0
  GivesUp given = (unit : ℕ) → get_or given unit false ≡ (get_or t0.given unit false || (is_stalled_in tables1 workers waiting1 && list_any (λ w. w.unit == unit && gives_up tables1 w) waiting1))

  abbrev pub Passing : Type 0
  Passing = is_none (fault t0.project workers limit noted entry) ≡ true

  pub tells_after : Stands t0 i0 entries workers limit noted → Passing → (given : List Bool) → GivesUp given → Tells (tables2 given) after
  tells_after s passes given gives = record {
    answered = ap (λ (a : List Answered). newest ∷ a) s.is_answered;
    given = λ unit. gives unit
        ∙ ap (λ (ws : List Waiting). get_or t0.given unit false || (is_stalled_in tables1 workers ws && list_any (λ w. w.unit == unit && gives_up tables1 w) ws)) (waiting_is s)
        ∙ sym (given_is tables1 workers limit noted entry after (stands_on t0 i0 entries workers limit noted s) passes (tells_middle s) unit);
  }

  place_in : Stands t0 i0 entries workers limit noted → (r : Option Answer) → (k : ℕ) → k < length (i0.replies ++ r ∷ []) → (k ≡ length noted) ⊎ (k < length noted)
  place_in s r k below =
      let a : length (i0.replies ++ r ∷ []) ≡ length i0.replies + 1 = length-append i0.replies (r ∷ []) in
      let b = lengths t0.project workers entries.items noted s.is_noted in
      let c = s.replies_len in
      elim (cases_eq k (length noted)) [ inl e ↦ inl e | inr ne ↦ inr (omega arith) ]

  get_before : {A : Type 0} (xs : List A) (y d : A) (k : ℕ) → k < length xs → get_or (xs ++ y ∷ []) k d ≡ get_or xs k d
  get_before [] y d k h = absurd (omega arith)
  get_before (x ∷ xs) y d zero h = refl
  get_before (x ∷ xs) y d (suc k) h = get_before xs y d k (omega arith)

  pub settles : (s : Stands t0 i0 entries workers limit noted) → Passing → (given : List Bool) → GivesUp given → Settles (tables2 given) waiting1 (i0.replies ++ answer_in newest.said ∷ []) (reply_in t0.project after)
  settles s passes given gives = record { ended = ended; others = others }
    where
      standing_now : IsStanding t0.project noted
      standing_now = stands_on t0 i0 entries workers limit noted s

      tells : Tells (tables2 given) after
      tells = tells_after s passes given gives

      ended : (w : Waiting) → In w waiting1 → (f : Fate) → fate_in (tables2 given) w.unit ≡ Some f → reply_in t0.project after w.place ≡ Some (answer_by f w.unit)
      ended w there f e =
          let found = In-map (waiting_of after) w (candidates t0.project noted entry) (subst (λ (ws : List Waiting). In w ws) (waiting_is s) there) in
          subst (λ (x : Waiting). reply_in t0.project after x.place ≡ Some (answer_by f x.unit)) found.2 (ended_reply t0.project workers limit noted entry standing_now passes found.0 found.1 f (sym (fate_told (tables2 given) after tells found.0.unit) ∙ ap (λ (x : Waiting). fate_in (tables2 given) x.unit) found.2 ∙ e))

      others : (k : ℕ) → k < length (i0.replies ++ answer_in newest.said ∷ []) → (get_or (i0.replies ++ answer_in newest.said ∷ []) k None ≡ reply_in t0.project after k) ⊎ ((w : Waiting) × In w waiting1 × (w.place ≡ k) × (is_none (fate_in (tables2 given) w.unit) ≡ false))
      others k below = elim (place_in s (answer_in newest.said) k below) [
        | inl e ↦ inl (get_or_push i0.replies (answer_in newest.said) None k (s.replies_len ∙ sym (lengths t0.project workers entries.items noted s.is_noted) ∙ sym e) ∙ sym (ap (λ p. reply_in t0.project after p) e ∙ reply_new t0.project workers noted entry))
        | inr lt ↦ (let l = lengths t0.project workers entries.items noted s.is_noted in let m = s.replies_len in let k_in : k < length entries.items = omega arith in let k_there : k < length i0.replies = omega arith in elim (reply_goes_on t0.project workers noted entry standing_now k lt) [
          | inl same ↦ inl (get_before i0.replies (answer_in newest.said) None k k_there ∙ s.is_reply k k_in ∙ same)
          | inr w ↦ inr (waiting_of after w.0, subst (λ (ws : List Waiting). In (waiting_of after w.0) ws) (sym (waiting_is s)) (In-map_from (waiting_of after) w.0 (candidates t0.project noted entry) w.1), w.2, ap (λ o. is_none o) (fate_told (tables2 given) after tells w.0.unit) ∙ w.3)
        ])
      ]

  -- an import that is told to wait closes no circle
  pub no_circle : Stands t0 i0 entries workers limit noted → (unit : ℕ) → newest.said ≡ Waits unit → ClosesNone (reverse i0.waiting) (held (who (newest ∷ t0.answered) entry.conn)) unit
  no_circle s unit h =
      let told : IsToldToWait t0.project noted entry.conn entry.act unit = waits_by_import t0.project noted entry.conn entry.act unit h in
      subst (λ (whose : Who). ClosesNone (reverse i0.waiting) (held whose) unit) (sym (ap (λ (a : List Answered). who (newest ∷ a) entry.conn) s.is_answered ∙ who-same newest (answered_of noted) entry.conn (not_greeted t0.project noted entry entry.conn told.connected)))
      (closes_none t0.project noted i0.waiting s.is_waiting unit (who (answered_of noted) entry.conn) told.no_circle)

  -- where the entry ends no unit, none of the imports is of one that has ended
  not_ended : Stands t0 i0 entries workers limit noted → (v : Wait) → ((newest.said ≡ Waits v.unit) × (entry.conn ≡ v.conn)) ⊎ In v (pending t0.project noted) → is_none (fate t0.project noted v.unit) ≡ true
  not_ended s v (inl new) =
      let told : IsToldToWait t0.project noted entry.conn entry.act v.unit = waits_by_import t0.project noted entry.conn entry.act v.unit new.0 in told.not_ended
  not_ended s v (inr old) =
      let kept = In-filter (λ x. is_open (answered_of noted) x.conn && is_none (reply_in t0.project noted x.place)) v (told_to_wait (answered_of noted)) old in
      let parts = and_parts (is_open (answered_of noted) v.conn) (is_none (reply_in t0.project noted v.place)) kept.1 in
      sym ((stands_on t0 i0 entries workers limit noted s).agreed v kept.0 parts.0) ∙ parts.1

  -- by the marks of the units that were given up before it, none of them has ended with an entry that ends none
  unended : (s : Stands t0 i0 entries workers limit noted) → Passing → (given : List Bool) → ((unit : ℕ) → get_or given unit false ≡ is_given_up noted unit) → may_end_unit newest ≡ false → (w : Waiting) → In w waiting1 → is_none (fate_in (tables2 given) w.unit) ≡ true
  unended s passes given flag ends w there =
      let found = In-map (waiting_of after) w (candidates t0.project noted entry) (subst (λ (ws : List Waiting). In w ws) (waiting_is s) there) in
      subst (λ (x : Waiting). is_none (fate_in (tables2 given) x.unit) ≡ true) found.2
      (ap (λ o. is_none o) (same found.0.unit) ∙ not_ended s found.0 (cases_of newest.said (length noted) entry.conn (pending t0.project noted) found.0 found.1))
    where
      same : (unit : ℕ) → fate_in (tables2 given) unit ≡ fate t0.project noted unit
      same unit =
          ap₂ (λ (a : List Answered) (b : Bool). fate_with t0.project (newest ∷ a) b unit) s.is_answered (flag unit)
          ∙ same_fate t0.project workers limit noted entry (stands_on t0 i0 entries workers limit noted s) passes ends (is_given_up noted unit) unit

  pub idle : (s : Stands t0 i0 entries workers limit noted) → Passing → (given : List Bool) → GivesUp given → is_stalled_in tables1 workers waiting1 ≡ false → may_end_unit newest ≡ false → (w : Waiting) → In w waiting1 → is_none (fate_in (tables2 given) w.unit) ≡ true
  idle s passes given gives stays ends w there = unended s passes given flag ends w there
    where
      flag : (unit : ℕ) → get_or given unit false ≡ is_given_up noted unit
      flag unit = gives unit ∙ ap (λ b. get_or t0.given unit false || (b && list_any (λ w. w.unit == unit && gives_up tables1 w) waiting1)) stays ∙ or_none (get_or t0.given unit false) ∙ s.is_given unit
        where
          or_none : (b : Bool) → (b || false) ≡ b
          or_none true = refl
          or_none false = refl

  -- who still waits
  open_test : Stands t0 i0 entries workers limit noted → Passing → (w : Wait) → In w (candidates t0.project noted entry) → is_open (answered_of after) w.conn ≡ not (goes entry.act && w.conn == entry.conn)
  open_test s passes w there =
      open_is t0.project workers limit noted entry st passes w there ∙ ap not (by (cases_of newest.said (length noted) entry.conn (pending t0.project noted) w there))
    where
      st : IsStanding t0.project noted
      st = stands_on t0 i0 entries workers limit noted s

      turn : (a b : ℕ) → (a == b) ≡ (b == a)
      turn a b = grind arith

      and_turn : (a g : Bool) → (a && g) ≡ (g && a)
      and_turn true true = refl
      and_turn true false = refl
      and_turn false true = refl
      and_turn false false = refl

      or_none : (x g : Bool) → g ≡ false → (x || g) ≡ x
      or_none true g h = refl
      or_none false g h = h

      by : ((newest.said ≡ Waits w.unit) × (entry.conn ≡ w.conn)) ⊎ In w (pending t0.project noted) → has_gone (newest ∷ answered_of noted) w.conn ≡ (goes entry.act && w.conn == entry.conn)
      by (inl new) =
          let told : IsToldToWait t0.project noted entry.conn entry.act w.unit = waits_by_import t0.project noted entry.conn entry.act w.unit new.0 in
          let open_there = stands_open t0.project workers limit noted entry passes (ap (λ a. is_open_act a || is_done a) told.is_import) in
          ap (λ g. (entry.conn == w.conn && g) || has_gone (answered_of noted) w.conn) (ap (λ a. goes a) told.is_import)
          ∙ ap (λ b. b || has_gone (answered_of noted) w.conn) (and_right (entry.conn == w.conn) false refl)
          ∙ ap (λ c. has_gone (answered_of noted) c) (sym new.1) ∙ (is_open-parts (answered_of noted) entry.conn open_there).1
          ∙ sym (ap (λ a. goes a && w.conn == entry.conn) told.is_import)
      by (inr old) =
          let kept = In-filter (λ x. is_open (answered_of noted) x.conn && is_none (reply_in t0.project noted x.place)) w (told_to_wait (answered_of noted)) old in
          let parts = and_parts (is_open (answered_of noted) w.conn) (is_none (reply_in t0.project noted w.place)) kept.1 in
          or_none (entry.conn == w.conn && goes entry.act) (has_gone (answered_of noted) w.conn) (is_open-parts (answered_of noted) w.conn parts.0).1
          ∙ ap (λ b. b && goes entry.act) (turn entry.conn w.conn)
          ∙ and_turn (w.conn == entry.conn) (goes entry.act)

  pub waiting_after : (s : Stands t0 i0 entries workers limit noted) → Passing → (given : List Bool) → GivesUp given → filter (λ w. not (goes entry.act && w.conn == entry.conn)) (filter (λ w. is_none (fate_in (tables2 given) w.unit)) waiting1) ≡ map (waiting_of after) (pending t0.project after)
  waiting_after s passes given gives =
      filter_twice (λ w. not (goes entry.act && w.conn == entry.conn)) (λ w. is_none (fate_in (tables2 given) w.unit)) waiting1
      ∙ ap (λ (ws : List Waiting). filter (λ w. is_none (fate_in (tables2 given) w.unit) && not (goes entry.act && w.conn == entry.conn)) ws) (waiting_is s)
      ∙ filter_mapped (waiting_of after) (λ w. is_none (fate_in (tables2 given) w.unit) && not (goes entry.act && w.conn == entry.conn)) (candidates t0.project noted entry)
      ∙ ap (map (waiting_of after)) (filter_alike_in (λ w. is_none (fate_in (tables2 given) w.unit) && not (goes entry.act && w.conn == entry.conn)) (still t0.project after) (candidates t0.project noted entry) (λ w there. ap₂ (λ a b. is_none a && b) (fate_told (tables2 given) after (tells_after s passes given gives) w.unit) (sym (open_test s passes w there)) ∙ and_flip (is_none (fate t0.project after w.unit)) (is_open (answered_of after) w.conn)))
      ∙ sym (ap (map (waiting_of after)) (pending_after t0.project workers noted entry (stands_on t0 i0 entries workers limit noted s)))
    where
      and_flip : (a b : Bool) → (a && b) ≡ (b && a)
      and_flip true true = refl
      and_flip true false = refl
      and_flip false true = refl
      and_flip false false = refl

  -- whose import it is, by the unit that is held
  pub tied : (s : Stands t0 i0 entries workers limit noted) → Passing → (w : Waiting) → In w waiting1 → IsTied entry.conn (held (who (newest ∷ t0.answered) entry.conn)) w
  tied s passes w there =
      let found = In-map (waiting_of after) w (candidates t0.project noted entry) (subst (λ (ws : List Waiting). In w ws) (waiting_is s) there) in
      subst (λ (a : List Answered). IsTied entry.conn (held (who a entry.conn)) w) (sym (ap (λ (a : List Answered). newest ∷ a) s.is_answered)) (subst (λ (x : Waiting). IsTied entry.conn (held (who (answered_of after) entry.conn)) x) found.2 (record { same_holder = λ e. ap (λ c. held (who (answered_of after) c)) e; same_conn = λ unit e h. same unit found.0.conn e h }))
    where
      known : IsStanding t0.project after
      known = standing-more t0.project workers limit noted entry passes (stands_on t0 i0 entries workers limit noted s)

      holder_of : (h : Who) (unit : ℕ) → held h ≡ Some unit → h ≡ Holder unit
      holder_of (Holder u) unit e = let q : u ≡ unit = cc in ap (λ x. Holder x) q
      holder_of Nobody unit e = absurd (cc)
      holder_of Guest unit e = absurd (cc)

      same : (unit conn : ℕ) → held (who (answered_of after) conn) ≡ Some unit → held (who (answered_of after) entry.conn) ≡ Some unit → conn ≡ entry.conn
      same unit conn a b =
          let p = known.known unit conn (holder_of (who (answered_of after) conn) unit a) in
          let q = known.known unit entry.conn (holder_of (who (answered_of after) entry.conn) unit b) in
          let r : Some conn ≡ Some entry.conn = sym p ∙ q in cc

  -- the imports that got their replies with the entry
  pub answered_is : (s : Stands t0 i0 entries workers limit noted) → Passing → (given : List Bool) → GivesUp given → ended_places (tables2 given) waiting1 ≡ answered_with t0.project after
  answered_is s passes given gives =
      ap (λ (ws : List Waiting). ended_places (tables2 given) ws) (waiting_is s)
      ∙ ap (λ (ws : List Waiting). reverse (map (λ (w : Waiting). w.place) ws)) (filter_mapped (waiting_of after) (λ w. not (is_none (fate_in (tables2 given) w.unit))) (candidates t0.project noted entry))
      ∙ ap reverse (places_mapped (waiting_of after) (λ (w : Wait). w.place) (λ (w : Waiting). w.place) (λ w. refl) (filter (λ (w : Wait). not (is_none (fate_in (tables2 given) w.unit))) (candidates t0.project noted entry)))
      ∙ ap (λ (ws : List Wait). reverse (map (λ (w : Wait). w.place) ws)) (filter_alike_in (λ (w : Wait). not (is_none (fate_in (tables2 given) w.unit))) (λ w. not (is_none (fate t0.project after w.unit))) (candidates t0.project noted entry) (λ w there. ap (λ o. not (is_none o)) (fate_told (tables2 given) after (tells_after s passes given gives) w.unit))
      ∙ answered_are t0.project workers limit noted entry (stands_on t0 i0 entries workers limit noted s) passes)

  -- the imports when those of a connection that goes wait no more
  abbrev pub imports3 : Imported → Imported
  imports3 i2 = record i2 { waiting = filter (λ w. not (goes entry.act && w.conn == entry.conn)) i2.waiting }

  pub noted_is : Stands t0 i0 entries workers limit noted → (entries' : Vec Entry) → entries'.items ≡ entries.items ++ entry ∷ [] → after ≡ noted_of t0.project workers entries'.items
  noted_is s entries' items =
      ap (λ (n : List Noted). and_then t0.project workers n entry) s.is_noted
      ∙ sym (noted_push t0.project workers entries.items entry)
      ∙ sym (ap (λ (es : List Entry). noted_of t0.project workers es) items)

  pub stands_after : (s : Stands t0 i0 entries workers limit noted) → Passing → IsTraceEntry entry → (given : List Bool) → GivesUp given → (i2 : Imported) → i2.waiting ≡ filter (λ w. is_none (fate_in (tables2 given) w.unit)) waiting1 → ((reply : ℕ → Option Answer) → Settles (tables2 given) waiting1 (i0.replies ++ answer_in newest.said ∷ []) reply → (k : ℕ) → k < length (i0.replies ++ answer_in newest.said ∷ []) → get_or i2.replies k None ≡ reply k) → i2.answered ≡ ended_places (tables2 given) waiting1 → length i2.replies ≡ length (i0.replies ++ answer_in newest.said ∷ []) → i2.room ≡ i0.room → i2.units ≡ i0.units → i2.conns ≡ i0.conns → (entries' : Vec Entry) → entries'.items ≡ entries.items ++ entry ∷ [] → limit ≤ vec_capacity entries' → WaitsWell newest.said entry.act (unit_count t0.project) → (is_done entry.act ≡ false → entry.conn < t0.room) → Stands (tables2 given) (imports3 i2) entries' workers limit (noted_of t0.project workers entries'.items)
  stands_after s passes written given gives i2 waits replies lasts len room units conns entries' items capacity well below =
      subst (λ (n : List Noted). Stands (tables2 given) (imports3 i2) entries' workers limit n) (noted_is s entries' items) (record {
        is_noted = noted_is s entries' items;
        legal = subst (λ (es : List Entry). IsLegal t0.project workers limit es) (sym items) (legal_push t0.project workers limit entries.items entry s.legal (subst (λ (n : List Noted). is_none (fault t0.project workers limit n entry) ≡ true) s.is_noted passes));
        each = subst (All IsTraceEntry) (sym items) (All-push IsTraceEntry entries.items entry s.each written);
        is_answered = (tells_after s passes given gives).answered;
        is_given = (tells_after s passes given gives).given;
        is_waiting = ap (λ (ws : List Waiting). filter (λ w. not (goes entry.act && w.conn == entry.conn)) ws) waits ∙ waiting_after s passes given gives;
        is_last = lasts ∙ answered_is s passes given gives;
        is_reply = λ k h. replies (reply_in t0.project after) (settles s passes given gives) k (in_replies k h);
        replies_len = reply_len;
        within = record { units = λ w there. all_within.units w (was w there); places = λ w there. (let l = all_within.places w (was w there) in let m = count in omega arith) };
        conns = λ w there. newest_conns newest.said entry.act (length entries.items) entry.conn (held (who (newest ∷ t0.answered) entry.conn)) i0.waiting (unit_count t0.project) t0.room s.conns well below w (was w there);
        has_room = s.has_room;
        has_seats = s.has_seats;
        has_places = s.has_places;
        has_conns = conns ∙ s.has_conns;
        has_import_room = room ∙ s.has_import_room;
        has_units = units ∙ s.has_units;
        some = s.some;
        few = s.few;
        has_entry_room = capacity;
        small = s.small;
      })
    where
      count : length entries'.items ≡ length entries.items + 1
      count = ap length items ∙ length-append entries.items (entry ∷ [])

      pushed : length (i0.replies ++ answer_in newest.said ∷ []) ≡ length i0.replies + 1
      pushed = length-append i0.replies (answer_in newest.said ∷ [])

      reply_len : length i2.replies ≡ length entries'.items
      reply_len = let a = pushed in let b = count in let c = len in let d = s.replies_len in omega arith

      in_replies : (k : ℕ) → k < length entries'.items → k < length (i0.replies ++ answer_in newest.said ∷ [])
      in_replies k h = let a = reply_len in let c = len in omega arith

      was : (w : Waiting) → In w (filter (λ x. not (goes entry.act && x.conn == entry.conn)) i2.waiting) → In w waiting1
      was w there =
          let a = (In-filter (λ x. not (goes entry.act && x.conn == entry.conn)) w i2.waiting there).0 in
          (In-filter (λ x. is_none (fate_in (tables2 given) x.unit)) w waiting1 (subst (λ (ws : List Waiting). In w ws) waits a)).0

      all_within : AllWithin waiting1 (unit_count t0.project) (length entries.items + 1)
      all_within = newest_within newest.said entry.act (length entries.items) entry.conn (held (who (newest ∷ t0.answered) entry.conn)) i0.waiting (unit_count t0.project) s.within well

  abbrev pub imports1 : Imported
  imports1 = record i0 { waiting = waiting1; replies = i0.replies ++ answer_in newest.said ∷ [] }

  abbrev GivesFrom : Tabled → Imported → List Bool → Type 0
  GivesFrom t1 i1 given = (unit : ℕ) → get_or given unit false ≡ (get_or t1.given unit false || (is_stalled_in t1 workers i1.waiting && list_any (λ w. w.unit == unit && gives_up t1 w) i1.waiting))

  abbrev RepliesFrom : Tabled → Imported → Imported → Type 0
  RepliesFrom t2 i1 i2 = (reply : ℕ → Option Answer) → Settles t2 i1.waiting i1.replies reply → (k : ℕ) → k < length i1.replies → get_or i2.replies k None ≡ reply k

  -- the same, by what the calls ensure
  pub stands_by : Stands t0 i0 entries workers limit noted → Passing → IsTraceEntry entry → (t1 t2 : Tabled) (i1 i2 i3 : Imported) (entries' : Vec Entry) → t1 ≡ tables1 → i1 ≡ imports1 → t2 ≡ record t1 { given = t2.given } → GivesFrom t1 i1 t2.given → i2.waiting ≡ filter (λ w. is_none (fate_in t2 w.unit)) i1.waiting → RepliesFrom t2 i1 i2 → i2.answered ≡ ended_places t2 i1.waiting → i2.conns ≡ i1.conns → (i2.units ≡ i1.units) × (i2.room ≡ i1.room) × (length i2.replies ≡ length i1.replies) → i3 ≡ imports3 i2 → entries'.items ≡ entries.items ++ entry ∷ [] → limit ≤ vec_capacity entries' → WaitsWell newest.said entry.act (unit_count t0.project) → (is_done entry.act ≡ false → entry.conn < t0.room) → Stands t2 i3 entries' workers limit (noted_of t2.project workers entries'.items)
  stands_by s passes written t1 t2 i1 i2 i3 entries' e1 ei e2 gives waits replies lasts conns sizes e3 items capacity well below =
      let t2_is : t2 ≡ tables2 t2.given = e2 ∙ ap (λ (t : Tabled). with_given t t2.given) e1 in
      let gives1 : GivesFrom tables1 imports1 t2.given = subst (λ (t : Tabled). GivesFrom t imports1 t2.given) e1 (subst (λ (i : Imported). GivesFrom t1 i t2.given) ei gives) in
      let waits1 : i2.waiting ≡ filter (λ w. is_none (fate_in (tables2 t2.given) w.unit)) waiting1 = waits ∙ ap₂ (λ (t : Tabled) (i : Imported). filter (λ w. is_none (fate_in t w.unit)) i.waiting) t2_is ei in
      let lasts1 : i2.answered ≡ ended_places (tables2 t2.given) waiting1 = lasts ∙ ap₂ (λ (t : Tabled) (i : Imported). ended_places t i.waiting) t2_is ei in
      let replies1 : RepliesFrom (tables2 t2.given) imports1 i2 = subst (λ (t : Tabled). RepliesFrom t imports1 i2) t2_is (subst (λ (i : Imported). RepliesFrom t2 i i2) ei replies) in
      subst (λ (i : Imported). Stands t2 i entries' workers limit (noted_of t2.project workers entries'.items)) (sym e3)
      (subst (λ (t : Tabled). Stands t (imports3 i2) entries' workers limit (noted_of t.project workers entries'.items)) (sym t2_is)
      (stands_after s passes written t2.given gives1 i2 waits1 replies1 lasts1 (sizes.2 ∙ ap (λ (i : Imported). length i.replies) ei) (sizes.1 ∙ ap (λ (i : Imported). i.room) ei) (sizes.0 ∙ ap (λ (i : Imported). i.units) ei) (conns ∙ ap (λ (i : Imported). i.conns) ei) entries' items capacity well below))
    where
      with_given : Tabled → List Bool → Tabled
      with_given t given = record t { given = given }

  within1 : Stands t0 i0 entries workers limit noted → WaitsWell newest.said entry.act (unit_count t0.project) → AllWithin waiting1 (unit_count t0.project) (length entries.items + 1)
  within1 s well = newest_within newest.said entry.act (length entries.items) entry.conn (held (who (newest ∷ t0.answered) entry.conn)) i0.waiting (unit_count t0.project) s.within well

  -- what the calls require
  pub are_within : Stands t0 i0 entries workers limit noted → WaitsWell newest.said entry.act (unit_count t0.project) → (is_done entry.act ≡ false → entry.conn < t0.room) → (t1 : Tabled) (i1 : Imported) → t1 ≡ tables1 → i1 ≡ imports1 → AreWithin t1 i1.waiting
  are_within s well below t1 i1 e1 ei =
      subst (λ (t : Tabled). AreWithin t i1.waiting) (sym e1) (record { units = λ w there. (within1 s well).units w (was w there); conns = λ w there. (newest_conns newest.said entry.act (length entries.items) entry.conn (held (who (newest ∷ t0.answered) entry.conn)) i0.waiting (unit_count t0.project) t0.room s.conns well below w (was w there)) })
    where
      was : (w : Waiting) → In w i1.waiting → In w waiting1
      was w there = subst (λ (xs : List Waiting). In w xs) (ap (λ (i : Imported). i.waiting) ei) there

  pub all_within_by : Stands t0 i0 entries workers limit noted → WaitsWell newest.said entry.act (unit_count t0.project) → (t1 t2 : Tabled) (i1 : Imported) → t1 ≡ tables1 → i1 ≡ imports1 → t2 ≡ record t1 { given = t2.given } → AllWithin i1.waiting (unit_count t2.project) (length i1.replies)
  all_within_by s well t1 t2 i1 e1 ei e2 =
      subst (λ (i : Imported). AllWithin i.waiting (unit_count t2.project) (length i.replies)) (sym ei)
      (subst (λ (n : ℕ). AllWithin waiting1 n (length (i0.replies ++ answer_in newest.said ∷ []))) (sym (ap (λ (t : Tabled). unit_count t.project) e2 ∙ ap (λ (t : Tabled). unit_count t.project) e1))
      (subst (λ (n : ℕ). AllWithin waiting1 (unit_count t0.project) n) (sym (length-append i0.replies (answer_in newest.said ∷ []) ∙ ap (λ n. n + 1) s.replies_len)) (within1 s well)))

  pub tied_by : Stands t0 i0 entries workers limit noted → Passing → (t1 t2 : Tabled) (i1 i2 : Imported) → t1 ≡ tables1 → i1 ≡ imports1 → t2 ≡ record t1 { given = t2.given } → i2.waiting ≡ filter (λ w. is_none (fate_in t2 w.unit)) i1.waiting → (w : Waiting) → In w i2.waiting → IsTied entry.conn (held (who t2.answered entry.conn)) w
  tied_by s passes t1 t2 i1 i2 e1 ei e2 waits w there =
      subst (λ (a : List Answered). IsTied entry.conn (held (who a entry.conn)) w) (sym (ap (λ (t : Tabled). t.answered) e2 ∙ ap (λ (t : Tabled). t.answered) e1)) (tied s passes w (subst (λ (i : Imported). In w i.waiting) ei (In-filter (λ x. is_none (fate_in t2 x.unit)) w i1.waiting (subst (λ (xs : List Waiting). In w xs) waits there)).0))

  pub idle_first : (s : Stands t0 i0 entries workers limit noted) → Passing → (t1 : Tabled) (i1 : Imported) → t1 ≡ tables1 → i1 ≡ imports1 → may_end_unit newest ≡ false → (w : Waiting) → In w i1.waiting → is_none (fate_in t1 w.unit) ≡ true
  idle_first s passes t1 i1 e1 ei ends w there =
      subst (λ (t : Tabled). is_none (fate_in t w.unit) ≡ true) (sym e1) (unended s passes t0.given s.is_given ends w (subst (λ (i : Imported). In w i.waiting) ei there))

  pub idle_by : Stands t0 i0 entries workers limit noted → Passing → (t1 t2 : Tabled) (i1 : Imported) (stalled ends : Bool) → t1 ≡ tables1 → i1 ≡ imports1 → t2 ≡ record t1 { given = t2.given } → GivesFrom t1 i1 t2.given → stalled ≡ is_stalled_in t1 workers i1.waiting → ends ≡ (stalled || may_end_unit newest) → ends ≡ false → (w : Waiting) → In w i1.waiting → is_none (fate_in t2 w.unit) ≡ true
  idle_by s passes t1 t2 i1 stalled ends e1 ei e2 gives is_stall is none w there =
      let parts = or_parts stalled (may_end_unit newest) (sym is ∙ none) in
      let gives1 : GivesFrom tables1 imports1 t2.given = subst (λ (t : Tabled). GivesFrom t imports1 t2.given) e1 (subst (λ (i : Imported). GivesFrom t1 i t2.given) ei gives) in
      let stays : is_stalled_in tables1 workers waiting1 ≡ false = sym (ap₂ (λ (t : Tabled) (i : Imported). is_stalled_in t workers i.waiting) e1 ei) ∙ sym is_stall ∙ parts.0 in
      subst (λ (t : Tabled). is_none (fate_in t w.unit) ≡ true) (sym (e2 ∙ ap (λ (t : Tabled). with_given t t2.given) e1)) (idle s passes t2.given gives1 stays parts.1 w (subst (λ (i : Imported). In w i.waiting) ei there))
    where
      with_given : Tabled → List Bool → Tabled
      with_given t given = record t { given = given }
