-- The waits of a legal history lead in no circle: kept by each entry.
use Rattle.std.proofs.Common.{◌≡◌, ℕ, Bool, true, false, not, ◌||◌, ◌&&◌, ◌==◌, ◌⊎◌, inl, inr, List, [], ◌∷◌, fold, Contains, Option, Some, None, is_some, is_none, refl, sym, ap, subst, ◌∙◌, true≢false, eq-eqb, eqb-true}
use Rattle.std.proofs.lemmas.Bool.{both_ways, not-false, or_parts, and_parts, and_from, false_from_ne_true, cond-true}
use Rattle.std.specs.Prelude.{if◌then◌else◌}
use Rattle.std.specs.Option.{option_map_or, option_or}
use Rattle.histories.specs.declared.answer.Answer.{Answer}
use Rattle.unit_registry.specs.declared.act.Act.{Act}
use Rattle.unit_registry.specs.declared.act.Act.TheVariants.{Import, Hello}
use Rattle.histories.specs.declared.entry.Entry.{Entry}
use Rattle.histories.specs.declared.answer.Said.{Said}
use Rattle.histories.specs.declared.answer.Said.TheVariants.{Reply, Waits, Nothing}
use Rattle.histories.specs.declared.standing.Who.{Who}
use Rattle.histories.specs.declared.standing.Who.TheVariants.{Nobody, Guest, Holder}
use Rattle.histories.specs.declared.illegal_reason.IllegalReason.{IllegalReason}
use Rattle.histories.specs.declared.illegal_reason.IllegalReason.TheVariants.{OutOfOrder, NotOpen}
use Rattle.wait_graph.specs.Walks.{IsAcyclic, Leads, leads}
use Rattle.unit_registry.specs.Acts.{names, hello_of, is_open_act, is_done}
use Rattle.unit_registry.specs.Projects.{ProjectView}
use Rattle.histories.specs.Answered.{is_accepted}
use Rattle.histories.specs.declared.answered.Wait.{Wait}
use Rattle.histories.specs.Answered.{opened, is_open, has_gone, who, who_by, accepted_hello, takes, holder, told_to_wait}
use Rattle.histories.specs.Noted.{Noted, answered_of, reply_in, coming_reply, pending, pair_of, waits}
use Rattle.histories.specs.declared.answered.Answered.{Answered}
use Rattle.histories.specs.Answers.{at_once, is_nobody, is_connected, leads_to_held}
use Rattle.histories.specs.Histories.{and_then, note, with_said, fault, is_legal_after, noted_of, IsLegal}
use Rattle.histories.proofs.Members.{In, In-from_Contains, Contains-from_In, In-filter, In-filter_from, In-filter_map, In-filter_map_from}
use Rattle.wait_graph.proofs.WalkLaws.{Same, IsAcyclic-fewer, IsAcyclic-one_more}
use Rattle.wait_graph.proofs.ShortWalks.{leads-from}
use Rattle.histories.proofs.WhatIsSaid.{waits_by_import, greeted}
use Rattle.histories.proofs.OneEntry.{opened-more, is_open-parts, is_open-from, answered-cases, connected-more, who-same}

-- what each entry keeps: whoever was told to wait was opened and is connected, and the waits lead in no circle
pub record IsKept (project : ProjectView) (noted : List Noted) : Type 0 where
  pub was_opened : (w : Wait) → In w (told_to_wait (answered_of noted)) → In w.conn (opened (answered_of noted))
  pub was_connected : (w : Wait) → In w (told_to_wait (answered_of noted)) → is_connected (answered_of noted) w.conn ≡ true
  pub holder_opened : (unit conn : ℕ) → holder (answered_of noted) unit ≡ Some conn → In conn (opened (answered_of noted))
  pub holder_holds : (unit conn : ℕ) → holder (answered_of noted) unit ≡ Some conn → who (answered_of noted) conn ≡ Holder unit
  pub acyclic : IsAcyclic (waits project noted)

-- an entry answered what is said to it, and noted
abbrev pub answered_entry : ProjectView → List Noted → Entry → Answered
answered_entry project noted entry = with_said entry (at_once project noted entry.conn entry.act)

abbrev pub noted_entry : ProjectView → List Noted → Entry → List ℕ → Noted
noted_entry project noted entry given = note entry (at_once project noted entry.conn entry.act) given

-- its Hello, if accepted, was of a connection that was none yet, for a unit that was free
greets_new : (project : ProjectView) (noted : List Noted) (entry : Entry) → is_some (accepted_hello (answered_entry project noted entry)) ≡ true → is_connected (answered_of noted) entry.conn ≡ false
greets_new project noted entry h = by_hello (accepted_hello (answered_entry project noted entry)) refl h
  where
    by_hello : (o : Option (Option ℕ)) → accepted_hello (answered_entry project noted entry) ≡ o → is_some o ≡ true → is_connected (answered_of noted) entry.conn ≡ false
    by_hello None e h = absurd (true≢false (sym h))
    by_hello (Some named) e h = (greeted project noted entry.conn entry.act named e).0

-- a reply that hasn't come after one more entry had not before
pub none_before : (o p : Option Answer) → is_none (option_or o p) ≡ true → is_none o ≡ true
none_before None p h = refl
none_before (Some x) p h = h

-- the pair of one who is answered with the entry to wait
record IsNewWait (project : ProjectView) (noted : List Noted) (entry : Entry) (p : ℕ × ℕ) : Type 0 where
  said : at_once project noted entry.conn entry.act ≡ Waits p.1
  holds : who (answered_of noted) entry.conn ≡ Holder p.0

pub pair_parts : (h : Who) (awaited : ℕ) (p : ℕ × ℕ) → pair_of h awaited ≡ Some p → (h ≡ Holder p.0) × (awaited ≡ p.1)
pair_parts (Holder unit) awaited p h =
    let same : Some (unit, awaited) ≡ Some p = h in
    let e : (unit, awaited) ≡ p = cc in
    (ap (λ q. Holder q.0) e, ap (λ q. q.1) e)
pair_parts Nobody awaited p h = absurd (cc)
pair_parts Guest awaited p h = absurd (cc)

-- a wait that still stands after the entry is one from before, or is answered with it
pub wait_before : (project : ProjectView) (noted : List Noted) (entry : Entry) (given : List ℕ) → IsKept project noted → (w : Wait) → In w (told_to_wait (answered_of noted)) → (is_open (answered_entry project noted entry ∷ answered_of noted) w.conn && is_none (reply_in project (noted_entry project noted entry given ∷ noted) w.place)) ≡ true → In w (pending project noted)
wait_before project noted entry given kept w there stands =
    let e : Noted = noted_entry project noted entry given in
    let parts = and_parts (is_open (e.answered ∷ answered_of noted) w.conn) (is_none (reply_in project (e ∷ noted) w.place)) stands in
    let here = (is_open-parts (e.answered ∷ answered_of noted) w.conn parts.0).1 in
    let stays : has_gone (answered_of noted) w.conn ≡ false = (or_parts _ (has_gone (answered_of noted) w.conn) here).1 in
    let open_before : is_open (answered_of noted) w.conn ≡ true = is_open-from (answered_of noted) w.conn (kept.was_opened w there) stays in
    let not_ended : is_none (reply_in project noted w.place) ≡ true = none_before (reply_in project noted w.place) (coming_reply project e noted w.place) parts.1 in
    In-filter_from (λ x. is_open (answered_of noted) x.conn && is_none (reply_in project noted x.place)) w (and_from _ _ open_before not_ended) (told_to_wait (answered_of noted)) there

-- a connection that was connected is greeted no more
pub not_greeted : (project : ProjectView) (noted : List Noted) (entry : Entry) (conn : ℕ) → is_connected (answered_of noted) conn ≡ true → (entry.conn == conn && is_some (accepted_hello (answered_entry project noted entry))) ≡ false
not_greeted project noted entry conn connected =
    false_from_ne_true _ (λ h. let parts = and_parts (entry.conn == conn) _ h in
    let same : entry.conn ≡ conn = eqb-true entry.conn conn parts.0 in
    both_ways (is_connected (answered_of noted) conn) (subst (λ c. is_connected (answered_of noted) c ≡ false) same (greets_new project noted entry parts.1)) connected)

newer_by : (project : ProjectView) (noted : List Noted) (entry : Entry) (given : List ℕ) → IsKept project noted → (p : ℕ × ℕ) (w : Wait) → ((at_once project noted entry.conn entry.act ≡ Waits w.unit) × (entry.conn ≡ w.conn)) ⊎ In w (told_to_wait (answered_of noted)) → (is_open (answered_entry project noted entry ∷ answered_of noted) w.conn && is_none (reply_in project (noted_entry project noted entry given ∷ noted) w.place)) ≡ true → pair_of (who (answered_entry project noted entry ∷ answered_of noted) w.conn) w.unit ≡ Some p → In p (waits project noted) ⊎ IsNewWait project noted entry p
newer_by project noted entry given kept p w (inr there) stands gives =
    let e : Noted = noted_entry project noted entry given in
    let same : who (e.answered ∷ answered_of noted) w.conn ≡ who (answered_of noted) w.conn = who-same e.answered (answered_of noted) w.conn (not_greeted project noted entry w.conn (kept.was_connected w there)) in
    inl (In-filter_map_from (λ x. pair_of (who (answered_of noted) x.conn) x.unit) p w (subst (λ h. pair_of h w.unit ≡ Some p) same gives) (pending project noted) (wait_before project noted entry given kept w there stands))
newer_by project noted entry given kept p w (inl new) stands gives =
    let e : Noted = noted_entry project noted entry given in
    let is_told = waits_by_import project noted entry.conn entry.act w.unit new.0 in
    let connected : is_connected (answered_of noted) w.conn ≡ true = subst (λ c. is_connected (answered_of noted) c ≡ true) new.1 is_told.connected in
    let same : who (e.answered ∷ answered_of noted) w.conn ≡ who (answered_of noted) w.conn = who-same e.answered (answered_of noted) w.conn (not_greeted project noted entry w.conn connected) in
    let parts = pair_parts (who (e.answered ∷ answered_of noted) w.conn) w.unit p gives in
    inr (record {
      said = new.0 ∙ ap (λ u. Waits u) parts.1;
      holds = ap (λ c. who (answered_of noted) c) new.1 ∙ sym same ∙ parts.0;
    })

newer : (project : ProjectView) (noted : List Noted) (entry : Entry) (given : List ℕ) → IsKept project noted → (p : ℕ × ℕ) → Contains (waits project (noted_entry project noted entry given ∷ noted)) p → Contains (waits project noted) p ⊎ IsNewWait project noted entry p
newer project noted entry given kept p c =
    let e : Noted = noted_entry project noted entry given in
    let found = In-filter_map (λ x. pair_of (who (e.answered ∷ answered_of noted) x.conn) x.unit) p (pending project (e ∷ noted)) (In-from_Contains p (waits project (e ∷ noted)) c) in
    let kept_now = In-filter (λ x. is_open (e.answered ∷ answered_of noted) x.conn && is_none (reply_in project (e ∷ noted) x.place)) found.0 (told_to_wait (e.answered ∷ answered_of noted)) found.1 in
    elim (newer_by project noted entry given kept p found.0 (answered-cases e.answered (answered_of noted) found.0 kept_now.0) kept_now.1 found.2) [
      | inl there ↦ inl (Contains-from_In p (waits project noted) there)
      | inr new ↦ inr new
    ]

-- no walk leads from the unit that is waited for to the one held
no_way : (pairs : List (ℕ × ℕ)) (unit held : ℕ) → leads pairs unit held ≡ false → ¬ Leads pairs unit held
no_way pairs unit held h walk = both_ways (leads pairs unit held) h (leads-from pairs unit held walk)

acyclic_by : (project : ProjectView) (noted : List Noted) (entry : Entry) (given : List ℕ) → IsKept project noted → (said : Said) → at_once project noted entry.conn entry.act ≡ said → (h : Who) → who (answered_of noted) entry.conn ≡ h → IsAcyclic (waits project (noted_entry project noted entry given ∷ noted))
acyclic_by project noted entry given kept (Waits unit) s (Holder held) h =
    let is_told = waits_by_import project noted entry.conn entry.act unit s in
    let no_circle : leads (waits project noted) unit held ≡ false = subst (λ x. leads_to_held (waits project noted) unit x ≡ false) h is_told.no_circle in
    IsAcyclic-one_more (waits project noted) (waits project (noted_entry project noted entry given ∷ noted)) held unit (λ p c. elim (newer project noted entry given kept p c) [
      | inl old ↦ inl old
      | inr new ↦ inr (same_pair p new)
    ]) (no_way (waits project noted) unit held no_circle) kept.acyclic
  where
    same_pair : (p : ℕ × ℕ) → IsNewWait project noted entry p → Same p (held, unit)
    same_pair p new =
        let first : Holder p.0 ≡ Holder held = sym new.holds ∙ h in
        let second : Waits p.1 ≡ Waits unit = sym new.said ∙ s in
        let e0 : p.0 ≡ held = cc in
        let e1 : p.1 ≡ unit = cc in
        λ i. (e0 i, e1 i)
acyclic_by project noted entry given kept (Waits unit) s Nobody h =
    IsAcyclic-fewer (waits project (noted_entry project noted entry given ∷ noted)) (waits project noted) (λ p c. elim (newer project noted entry given kept p c) [
      | inl old ↦ old
      | inr new ↦ (let e : Nobody ≡ Holder p.0 = sym h ∙ new.holds in absurd (cc))
    ]) kept.acyclic
acyclic_by project noted entry given kept (Waits unit) s Guest h =
    IsAcyclic-fewer (waits project (noted_entry project noted entry given ∷ noted)) (waits project noted) (λ p c. elim (newer project noted entry given kept p c) [
      | inl old ↦ old
      | inr new ↦ (let e : Guest ≡ Holder p.0 = sym h ∙ new.holds in absurd (cc))
    ]) kept.acyclic
acyclic_by project noted entry given kept (Reply answer) s who_is h =
    IsAcyclic-fewer (waits project (noted_entry project noted entry given ∷ noted)) (waits project noted) (λ p c. elim (newer project noted entry given kept p c) [
      | inl old ↦ old
      | inr new ↦ (let e : Reply answer ≡ Waits p.1 = sym s ∙ new.said in absurd (cc))
    ]) kept.acyclic
acyclic_by project noted entry given kept Nothing s who_is h =
    IsAcyclic-fewer (waits project (noted_entry project noted entry given ∷ noted)) (waits project noted) (λ p c. elim (newer project noted entry given kept p c) [
      | inl old ↦ old
      | inr new ↦ (let e : Nothing ≡ Waits p.1 = sym s ∙ new.said in absurd (cc))
    ]) kept.acyclic

-- an act that passes the checks and is neither Open nor Done is of an open connection
fault_parts : (a b : Bool) (rest : Option IllegalReason) → is_none (if a then Some OutOfOrder else (if b then Some NotOpen else rest)) ≡ true → b ≡ false
fault_parts true b rest h = absurd (true≢false (sym h))
fault_parts false true rest h = absurd (true≢false (sym h))
fault_parts false false rest h = refl

pub is_open_by : (project : ProjectView) (workers limit : ℕ) (noted : List Noted) (entry : Entry) → (is_open_act entry.act || is_done entry.act) ≡ false → is_none (fault project workers limit noted entry) ≡ true → is_open (answered_of noted) entry.conn ≡ true
is_open_by project workers limit noted entry asks h =
    let closed = fault_parts _ (not (is_open_act entry.act || is_done entry.act) && not (is_open (answered_of noted) entry.conn)) _ h in
    let closed' : (true && not (is_open (answered_of noted) entry.conn)) ≡ false = subst (λ b. (not b && not (is_open (answered_of noted) entry.conn)) ≡ false) asks closed in
    not-false (is_open (answered_of noted) entry.conn) closed'

import_asks : (act : Act) (unit : ℕ) → act ≡ Import (Some unit) false → (is_open_act act || is_done act) ≡ false
import_asks act unit e = subst (λ a. (is_open_act a || is_done a) ≡ false) (sym e) refl

hello_asks : (act : Act) (named : Option ℕ) → hello_of act ≡ Some named → (is_open_act act || is_done act) ≡ false
hello_asks (Hello version unit) named e = refl
hello_asks act named e = absurd (cc)

-- a connection that takes a unit with the entry: it was open, and holds the unit then
hello_row : (accepted : Bool) (hello : Option (Option ℕ)) (unit : ℕ) → option_map_or (λ named. names named unit) (if accepted then hello else None) false ≡ true → ((if accepted then hello else None) ≡ Some (Some unit)) × (hello ≡ Some (Some unit))
hello_row true None unit h = absurd (true≢false (sym h))
hello_row true (Some None) unit h = absurd (true≢false (sym h))
hello_row true (Some (Some named)) unit h =
    let e : Some (Some named) ≡ Some (Some unit) = ap (λ u. Some (Some u)) (eqb-true named unit h) in
    (e, e)
hello_row false hello unit h = absurd (true≢false (sym h))

takes_row : (e : Answered) (unit : ℕ) → takes unit e ≡ true → (accepted_hello e ≡ Some (Some unit)) × (hello_of e.act ≡ Some (Some unit))
takes_row e unit h = hello_row (is_accepted e.said) (hello_of e.act) unit h

holder_step : (project : ProjectView) (workers limit : ℕ) (noted : List Noted) (entry : Entry) → is_none (fault project workers limit noted entry) ≡ true → (given : List ℕ) → IsKept project noted → (unit conn : ℕ) → (b : Bool) → takes unit (answered_entry project noted entry) ≡ b → (if b then Some entry.conn else holder (answered_of noted) unit) ≡ Some conn → In conn (opened (answered_entry project noted entry ∷ answered_of noted)) × (who (answered_entry project noted entry ∷ answered_of noted) conn ≡ Holder unit)
holder_step project workers limit noted entry passes given kept unit conn true t h =
    let e : Noted = noted_entry project noted entry given in
    let row = takes_row e.answered unit t in
    let same : entry.conn ≡ conn = cc in
    let was_open = is_open_by project workers limit noted entry (hello_asks entry.act (Some unit) row.1) passes in
    let greets : (entry.conn == entry.conn && is_some (accepted_hello e.answered)) ≡ true = and_from _ _ (eq-eqb entry.conn entry.conn refl) (ap (λ o. is_some o) row.0) in
    let holds : who (e.answered ∷ answered_of noted) entry.conn ≡ Holder unit = cond-true _ _ _ greets ∙ ap who_by row.0 in
    (subst (λ c. In c (opened (e.answered ∷ answered_of noted))) same (opened-more e.answered (answered_of noted) entry.conn (is_open-parts (answered_of noted) entry.conn was_open).0), subst (λ c. who (e.answered ∷ answered_of noted) c ≡ Holder unit) same holds)
holder_step project workers limit noted entry passes given kept unit conn false t h =
    let e : Noted = noted_entry project noted entry given in
    let holds : who (answered_of noted) conn ≡ Holder unit = kept.holder_holds unit conn h in
    let connected : is_connected (answered_of noted) conn ≡ true = ap (λ x. not (is_nobody x)) holds in
    (opened-more e.answered (answered_of noted) conn (kept.holder_opened unit conn h), who-same e.answered (answered_of noted) conn (not_greeted project noted entry conn connected) ∙ holds)

-- every entry that passes the checks keeps it
pub kept-more : (project : ProjectView) (workers limit : ℕ) (noted : List Noted) (entry : Entry) → is_none (fault project workers limit noted entry) ≡ true → (given : List ℕ) → IsKept project noted → IsKept project (noted_entry project noted entry given ∷ noted)
kept-more project workers limit noted entry passes given kept = record {
  was_opened = λ w h. opened-more e.answered (answered_of noted) w.conn (elim (answered-cases e.answered (answered_of noted) w h) [
    | inl new ↦ (let is_told = waits_by_import project noted entry.conn entry.act w.unit new.0 in
        let is_now_open = is_open_by project workers limit noted entry (import_asks entry.act w.unit is_told.is_import) passes in
        subst (λ c. In c (opened (answered_of noted))) new.1 (is_open-parts (answered_of noted) entry.conn is_now_open).0)
    | inr there ↦ kept.was_opened w there
  ]);
  was_connected = λ w h. connected-more e.answered (answered_of noted) w.conn (elim (answered-cases e.answered (answered_of noted) w h) [
    | inl new ↦ (let is_told = waits_by_import project noted entry.conn entry.act w.unit new.0 in
        subst (λ c. is_connected (answered_of noted) c ≡ true) new.1 is_told.connected)
    | inr there ↦ kept.was_connected w there
  ]);
  holder_opened = λ unit conn h. (holder_step project workers limit noted entry passes given kept unit conn (takes unit e.answered) refl h).0;
  holder_holds = λ unit conn h. (holder_step project workers limit noted entry passes given kept unit conn (takes unit e.answered) refl h).1;
  acyclic = acyclic_by project noted entry given kept (at_once project noted entry.conn entry.act) refl (who (answered_of noted) entry.conn) refl;
}
  where
    e : Noted
    e = noted_entry project noted entry given

-- a noted history is empty, or its last entry passed the checks
pub record IsAfter (project : ProjectView) (workers limit : ℕ) (noted : List Noted) : Type 0 where
  pub before : List Noted
  pub entry : Entry
  pub kept : IsKept project before
  pub passes : is_none (fault project workers limit before entry) ≡ true
  pub same : and_then project workers before entry ≡ noted

pub kept_after : (project : ProjectView) (workers limit : ℕ) (entries : List Entry) (noted : List Noted) → is_legal_after project workers limit noted entries ≡ true → IsKept project noted → (noted ≡ []) ⊎ IsAfter project workers limit noted → IsKept project (fold (and_then project workers) noted entries) × ((fold (and_then project workers) noted entries ≡ []) ⊎ IsAfter project workers limit (fold (and_then project workers) noted entries))
kept_after project workers limit [] noted legal kept after = (kept, after)
kept_after project workers limit (entry ∷ entries) noted legal kept after =
    let parts = and_parts (is_none (fault project workers limit noted entry)) _ legal in
    kept_after project workers limit entries (and_then project workers noted entry) parts.1 (kept-more project workers limit noted entry parts.0 _ kept) (inr (record { before = noted; entry = entry; kept = kept; passes = parts.0; same = refl }))

pub kept_at_first : (project : ProjectView) → IsKept project []
kept_at_first project = record {
  was_opened = λ w h. absurd h;
  was_connected = λ w h. absurd h;
  holder_opened = λ unit conn h. absurd (cc);
  holder_holds = λ unit conn h. absurd (cc);
  acyclic = λ unit next units walk. In-from_Contains (unit, next) [] walk.0;
}

pub legal_is_kept : (project : ProjectView) (workers limit : ℕ) (history : List Entry) → IsLegal project workers limit history → IsKept project (noted_of project workers history) × ((noted_of project workers history ≡ []) ⊎ IsAfter project workers limit (noted_of project workers history))
legal_is_kept project workers limit history legal =
    kept_after project workers limit history [] legal (kept_at_first project) (inl refl)

pub waits_are_acyclic : (project : ProjectView) (workers limit : ℕ) (history : List Entry) → IsLegal project workers limit history → IsAcyclic (waits project (noted_of project workers history))
waits_are_acyclic project workers limit history legal = (legal_is_kept project workers limit history legal).0.acyclic
