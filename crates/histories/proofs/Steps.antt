-- What holds after the entries of a legal history, and how the imports that wait and the replies go on with one more entry.
use Rattle.std.proofs.Common.{◌≡◌, ℕ, ◌<◌, ◌≤◌, Bool, true, false, not, ◌||◌, ◌&&◌, ◌==◌, ◌⊎◌, inl, inr, List, [], ◌∷◌, length, fold, Option, Some, None, is_some, is_none, refl, sym, ap, ◌∙◌, arith, true≢false, eq-eqb, eqb-true}
use Rattle.std.proofs.lemmas.Bool.{or_cases, and_parts, cond-true}
use Rattle.std.specs.Prelude.{if◌then◌else◌}
use Rattle.std.specs.List.{cons_option}
use Rattle.std.specs.Option.{option_map_or}
use Rattle.unit_registry.specs.declared.act.Act.{Act}
use Rattle.unit_registry.specs.declared.act.Act.TheVariants.{Left, Lost}
use Rattle.histories.specs.declared.entry.Entry.{Entry}
use Rattle.histories.specs.declared.answer.Said.{Said}
use Rattle.histories.specs.declared.answered.Answered.{Answered}
use Rattle.histories.specs.declared.standing.Who.TheVariants.{Holder}
use Rattle.histories.specs.declared.illegal_reason.IllegalReason.{IllegalReason}
use Rattle.histories.specs.declared.illegal_reason.IllegalReason.TheVariants.{OutOfOrder}
use Rattle.unit_registry.specs.Acts.{names, is_open_act, is_done, goes}
use Rattle.unit_registry.specs.Projects.{ProjectView}
use Rattle.histories.specs.Answered.{has_gone, is_open, opened, opened_count, who, who_by, accepted_hello, takes, holder}
use Rattle.histories.specs.Noted.{Noted, answered_of}
use Rattle.histories.specs.Histories.{and_then, fault, is_legal_after, noted_of, IsLegal}
use Rattle.histories.proofs.Members.{In}
use Rattle.histories.proofs.OneEntry.{is_open-parts}
use Rattle.histories.proofs.Acyclic.{IsKept, answered_entry, is_open_by, kept-more, kept_at_first}
use Rattle.histories.proofs.Agree.{Agreed, agreed_old, agreed_new, new_or_old, takes_free}

-- whoever holds a unit is its holder
abbrev pub IsKnown : List Answered → Type 0
IsKnown answered = (unit conn : ℕ) → who answered conn ≡ Holder unit → holder answered unit ≡ Some conn

holder_named : (o : Option (Option ℕ)) (unit : ℕ) → who_by o ≡ Holder unit → option_map_or (λ named. names named unit) o false ≡ true
holder_named None unit h = absurd (cc)
holder_named (Some None) unit h = absurd (cc)
holder_named (Some (Some u)) unit h = let s : u ≡ unit = cc in eq-eqb u unit s

pub known-more : (project : ProjectView) (noted : List Noted) (entry : Entry) → IsKnown (answered_of noted) → IsKnown (answered_entry project noted entry ∷ answered_of noted)
known-more project noted entry known unit conn h = by (entry.conn == conn && is_some (accepted_hello e)) refl h
  where
    e : Answered
    e = answered_entry project noted entry

    keeps : (b : Bool) → takes unit e ≡ b → holder (answered_of noted) unit ≡ Some conn → (if b then Some e.conn else holder (answered_of noted) unit) ≡ Some conn
    keeps true t was = let free : holder (answered_of noted) unit ≡ None = takes_free project noted entry unit t in absurd (let q : None ≡ Some conn = sym free ∙ was in cc)
    keeps false t was = was

    by : (b : Bool) → (entry.conn == conn && is_some (accepted_hello e)) ≡ b → (if b then who_by (accepted_hello e) else who (answered_of noted) conn) ≡ Holder unit → holder (e ∷ answered_of noted) unit ≡ Some conn
    by true s h =
        let parts = and_parts (entry.conn == conn) _ s in
        cond-true _ _ _ (holder_named (accepted_hello e) unit h) ∙ ap (λ c. Some c) (eqb-true entry.conn conn parts.0)
    by false s h = keeps (takes unit e) refl (known unit conn h)

-- no connection stands twice
abbrev pub Distinct : List ℕ → Type 0
Distinct [] = Unit {0}
Distinct (x ∷ xs) = (In x xs → ⊥) × Distinct xs

-- connections are numbered in the order in which they were opened
pub record IsNumbered (answered : List Answered) : Type 0 where
  pub below : (conn : ℕ) → In conn (opened answered) → conn < opened_count answered
  pub gone_below : (conn : ℕ) → has_gone answered conn ≡ true → conn < opened_count answered
  pub once : Distinct (opened answered)

first_check : (a : Bool) (rest : Option IllegalReason) → is_none (if a then Some OutOfOrder else rest) ≡ true → a ≡ false
first_check true rest h = absurd (true≢false (sym h))
first_check false rest h = refl

pub opens_next : (project : ProjectView) (workers limit : ℕ) (noted : List Noted) (entry : Entry) → is_none (fault project workers limit noted entry) ≡ true → is_open_act entry.act ≡ true → entry.conn ≡ opened_count (answered_of noted)
opens_next project workers limit noted entry passes is_open_now =
    by (entry.conn == opened_count (answered_of noted)) refl (sym (ap (λ a. a && not (entry.conn == opened_count (answered_of noted))) is_open_now) ∙ first_check (is_open_act entry.act && not (entry.conn == opened_count (answered_of noted))) _ passes)
  where
    by : (b : Bool) → (entry.conn == opened_count (answered_of noted)) ≡ b → not b ≡ false → entry.conn ≡ opened_count (answered_of noted)
    by true e h = eqb-true _ _ e
    by false e h = absurd (true≢false h)

pub stands_open : (project : ProjectView) (workers limit : ℕ) (noted : List Noted) (entry : Entry) → is_none (fault project workers limit noted entry) ≡ true → (is_open_act entry.act || is_done entry.act) ≡ false → is_open (answered_of noted) entry.conn ≡ true
stands_open project workers limit noted entry passes other = is_open_by project workers limit noted entry other passes

goes_other : (act : Act) → goes act ≡ true → (is_open_act act || is_done act) ≡ false
goes_other Left h = refl
goes_other Lost h = refl
goes_other act h = absurd (true≢false (sym h))

numbered-more : (project : ProjectView) (workers limit : ℕ) (noted : List Noted) (entry : Entry) (said : Said) → is_none (fault project workers limit noted entry) ≡ true → IsNumbered (answered_of noted) → IsNumbered (record { conn = entry.conn; act = entry.act; said = said } ∷ answered_of noted)
numbered-more project workers limit noted entry said passes n = record { below = λ conn h. more conn (is_open_act entry.act) refl h; once = once (is_open_act entry.act) refl; gone_below = λ conn h. gone conn (or_cases (entry.conn == conn && goes entry.act) (has_gone (answered_of noted) conn) h) }
  where
    count : (b : Bool) → length (opened (answered_of noted)) ≤ length (cons_option (if b then Some entry.conn else None) (opened (answered_of noted)))
    count true = omega arith
    count false = omega arith

    more : (conn : ℕ) (b : Bool) → is_open_act entry.act ≡ b → In conn (cons_option (if b then Some entry.conn else None) (opened (answered_of noted))) → conn < length (cons_option (if b then Some entry.conn else None) (opened (answered_of noted)))
    more conn true s (inl same) = let e : entry.conn ≡ opened_count (answered_of noted) = opens_next project workers limit noted entry passes s in let f : entry.conn ≡ conn = same in omega arith
    more conn true s (inr there) = let l = n.below conn there in omega arith
    more conn false s there = n.below conn there

    once : (b : Bool) → is_open_act entry.act ≡ b → Distinct (cons_option (if b then Some entry.conn else None) (opened (answered_of noted)))
    once true s = ((λ there. let l = n.below entry.conn there in let e : entry.conn ≡ opened_count (answered_of noted) = opens_next project workers limit noted entry passes s in omega arith), n.once)
    once false s = n.once

    gone : (conn : ℕ) → ((entry.conn == conn && goes entry.act) ≡ true) ⊎ (has_gone (answered_of noted) conn ≡ true) → conn < length (cons_option (if is_open_act entry.act then Some entry.conn else None) (opened (answered_of noted)))
    gone conn (inl h) =
        let parts = and_parts (entry.conn == conn) (goes entry.act) h in
        let l = n.below entry.conn (is_open-parts (answered_of noted) entry.conn (stands_open project workers limit noted entry passes (goes_other entry.act parts.1))).0 in
        let e : entry.conn ≡ conn = eqb-true entry.conn conn parts.0 in
        let c = count (is_open_act entry.act) in
        omega arith
    gone conn (inr h) = let l = n.gone_below conn h in let c = count (is_open_act entry.act) in omega arith

-- what stands after the entries of a legal history
pub record IsStanding (project : ProjectView) (noted : List Noted) : Type 0 where
  pub kept : IsKept project noted
  pub agreed : Agreed project noted
  pub known : IsKnown (answered_of noted)
  pub numbered : IsNumbered (answered_of noted)

pub agreed-more : (project : ProjectView) (workers : ℕ) (noted : List Noted) (entry : Entry) → IsKept project noted → Agreed project noted → Agreed project (and_then project workers noted entry)
agreed-more project workers noted entry kept agreed w there h = elim (new_or_old (answered_entry project noted entry) (answered_of noted) w there) [
  | inl new ↦ agreed_new project workers noted entry w new h
  | inr old ↦ agreed_old project noted entry _ kept agreed w old h
]

pub standing-more : (project : ProjectView) (workers limit : ℕ) (noted : List Noted) (entry : Entry) → is_none (fault project workers limit noted entry) ≡ true → IsStanding project noted → IsStanding project (and_then project workers noted entry)
standing-more project workers limit noted entry passes s = record {
  kept = kept-more project workers limit noted entry passes _ s.kept;
  agreed = agreed-more project workers noted entry s.kept s.agreed;
  known = known-more project noted entry s.known;
  numbered = numbered-more project workers limit noted entry _ passes s.numbered;
}

pub standing_first : (project : ProjectView) → IsStanding project []
standing_first project = record {
  kept = kept_at_first project;
  agreed = λ w there h. absurd there;
  known = λ unit conn h. absurd (cc);
  numbered = record { below = λ conn h. absurd h; gone_below = λ conn h. absurd (true≢false (sym h)); once = tt };
}

standing_after : (project : ProjectView) (workers limit : ℕ) → (entries : List Entry) (noted : List Noted) → is_legal_after project workers limit noted entries ≡ true → IsStanding project noted → IsStanding project (fold (and_then project workers) noted entries)
standing_after project workers limit [] noted legal s = s
standing_after project workers limit (entry ∷ entries) noted legal s =
    let parts = and_parts (is_none (fault project workers limit noted entry)) _ legal in
    standing_after project workers limit entries (and_then project workers noted entry) parts.1 (standing-more project workers limit noted entry parts.0 s)

pub standing : (project : ProjectView) (workers limit : ℕ) (history : List Entry) → IsLegal project workers limit history → IsStanding project (noted_of project workers history)
standing project workers limit history legal = standing_after project workers limit history [] legal (standing_first project)
