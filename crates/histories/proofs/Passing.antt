-- What an entry that passes the checks is, and does to the counts.
use Rattle.std.proofs.Common.{◌≡◌, ◌≢◌, ℕ, ◌+◌, ◌<◌, ◌≤◌, Bool, true, false, cond, not, ◌||◌, ◌&&◌, ◌==◌, List, ◌∷◌, length, Some, None, is_none, refl, sym, ap, ap₂, ◌∙◌, arith, true≢false, eq-eqb, ne_eqb}
use Rattle.std.proofs.lemmas.Bool.{and_from, or_from, or_left, and_right, false_from_ne_true, not_from_false}
use Rattle.std.specs.Prelude.{if◌then◌else◌}
use Rattle.unit_registry.specs.Acts.{is_open_act, is_done, goes}
use Rattle.unit_registry.specs.Projects.{ProjectView}
use Rattle.histories.specs.declared.entry.Entry.{Entry}
use Rattle.histories.specs.declared.answered.Answered.{Answered}
use Rattle.histories.specs.declared.illegal_reason.IllegalReason.TheVariants.{OutOfOrder, NotOpen, Crowded, OutOfRange, Full}
use Rattle.histories.specs.Answered.{has_gone, was_opened, is_open, open_connections, opened_count, open_count, done_count, reserved}
use Rattle.histories.specs.Noted.{Noted, answered_of}
use Rattle.histories.specs.Histories.{and_then, fault, is_out_of_order, is_not_open, is_crowded, is_out_of_range, is_past, takes_worker}
use Rattle.histories.specs.Counts.{Effect, Opens, Asks, Goes, Ends, ChangesOpened, ChangesOpen, ChangesDone, ChangesReserved, ChangesOwn}
use Rattle.histories.proofs.OneEntry.{in_opened, opened-more, is_open-parts, is_open-from}
use Rattle.histories.proofs.Acyclic.{answered_entry}
use Rattle.histories.proofs.Steps.{IsNumbered, IsStanding, opens_next, stands_open}
use Rattle.histories.proofs.Counting.{does_open, does_end, IsOfKind, one_opens, one_stays, one_less, opened_count-more, done_count-more}

-- the five checks of an entry
pub record Checks (project : ProjectView) (workers limit : ℕ) (noted : List Noted) (entry : Entry) : Type 0 where
  pub in_order : is_out_of_order (answered_of noted) entry ≡ false
  pub is_there : is_not_open (answered_of noted) entry ≡ false
  pub has_worker : is_crowded workers (answered_of noted) entry ≡ false
  pub in_range : is_out_of_range project entry.act ≡ false
  pub fits : is_past workers limit (and_then project workers noted entry) ≡ false

five : (a b c d e : Bool) → is_none (if a then Some OutOfOrder else (if b then Some NotOpen else (if c then Some Crowded else (if d then Some OutOfRange else (if e then Some Full else None))))) ≡ true → (a ≡ false) × (b ≡ false) × (c ≡ false) × (d ≡ false) × (e ≡ false)
five true b c d e h = absurd (true≢false (sym h))
five false true c d e h = absurd (true≢false (sym h))
five false false true d e h = absurd (true≢false (sym h))
five false false false true e h = absurd (true≢false (sym h))
five false false false false true h = absurd (true≢false (sym h))
five false false false false false h = (refl, refl, refl, refl, refl)

passed : (a b c d e : Bool) → a ≡ false → b ≡ false → c ≡ false → d ≡ false → e ≡ false → is_none (if a then Some OutOfOrder else (if b then Some NotOpen else (if c then Some Crowded else (if d then Some OutOfRange else (if e then Some Full else None))))) ≡ true
passed false false false false false ha hb hc hd he = refl
passed true b c d e ha hb hc hd he = absurd (true≢false ha)
passed false true c d e ha hb hc hd he = absurd (true≢false hb)
passed false false true d e ha hb hc hd he = absurd (true≢false hc)
passed false false false true e ha hb hc hd he = absurd (true≢false hd)
passed false false false false true ha hb hc hd he = absurd (true≢false he)

pub checks : (project : ProjectView) (workers limit : ℕ) (noted : List Noted) (entry : Entry) → is_none (fault project workers limit noted entry) ≡ true → Checks project workers limit noted entry
checks project workers limit noted entry h =
    let p = five (is_out_of_order (answered_of noted) entry) (is_not_open (answered_of noted) entry) (is_crowded workers (answered_of noted) entry) (is_out_of_range project entry.act) (is_past workers limit (and_then project workers noted entry)) h in
    record { in_order = p.0; is_there = p.1; has_worker = p.2; in_range = p.3; fits = p.4 }

pub passes : (project : ProjectView) (workers limit : ℕ) (noted : List Noted) (entry : Entry) → Checks project workers limit noted entry → is_none (fault project workers limit noted entry) ≡ true
passes project workers limit noted entry c =
    passed (is_out_of_order (answered_of noted) entry) (is_not_open (answered_of noted) entry) (is_crowded workers (answered_of noted) entry) (is_out_of_range project entry.act) (is_past workers limit (and_then project workers noted entry)) c.in_order c.is_there c.has_worker c.in_range c.fits

-- ---- what an entry of each kind is

-- a number that no connection has yet
pub fresh : (answered : List Answered) (conn : ℕ) → IsNumbered answered → opened_count answered ≤ conn → (was_opened answered conn ≡ false) × (has_gone answered conn ≡ false)
fresh answered conn n past = (
  false_from_ne_true _ (λ h. let below = n.below conn (in_opened answered conn h) in omega arith),
  false_from_ne_true _ (λ h. let below = n.gone_below conn h in omega arith),
)

-- an entry that passes the checks, by the kind of its act
pub record Stands (project : ProjectView) (workers limit : ℕ) (noted : List Noted) (entry : Entry) (effect : Effect) : Type 0 where
  pub standing : IsStanding project noted
  pub passing : is_none (fault project workers limit noted entry) ≡ true
  pub kind : IsOfKind entry.act effect

abbrev pub more : ProjectView → List Noted → Entry → List Answered
more project noted entry = answered_entry project noted entry ∷ answered_of noted

new_number : (project : ProjectView) (workers limit : ℕ) (noted : List Noted) (entry : Entry) → Stands project workers limit noted entry Opens → entry.conn ≡ opened_count (answered_of noted)
new_number project workers limit noted entry s = opens_next project workers limit noted entry s.passing s.kind.opening

new_one : (project : ProjectView) (workers limit : ℕ) (noted : List Noted) (entry : Entry) → Stands project workers limit noted entry Opens → (was_opened (answered_of noted) entry.conn ≡ false) × (has_gone (answered_of noted) entry.conn ≡ false)
new_one project workers limit noted entry s =
    fresh (answered_of noted) entry.conn s.standing.numbered (let e = new_number project workers limit noted entry s in omega arith)

asks_open : (project : ProjectView) (workers limit : ℕ) (noted : List Noted) (entry : Entry) → Stands project workers limit noted entry Asks → is_open (answered_of noted) entry.conn ≡ true
asks_open project workers limit noted entry s =
    stands_open project workers limit noted entry s.passing (or_from _ _ s.kind.opening s.kind.ending)

goes_open : (project : ProjectView) (workers limit : ℕ) (noted : List Noted) (entry : Entry) → Stands project workers limit noted entry Goes → is_open (answered_of noted) entry.conn ≡ true
goes_open project workers limit noted entry s =
    stands_open project workers limit noted entry s.passing (or_from _ _ s.kind.opening s.kind.ending)

-- ---- the counts

opened_by : (project : ProjectView) (workers limit : ℕ) (noted : List Noted) (entry : Entry) (effect : Effect) → IsOfKind entry.act effect → opened_count (more project noted entry) ≡ opened_count (answered_of noted) + cond (does_open effect) 1 0
opened_by project workers limit noted entry effect kind =
    opened_count-more (answered_entry project noted entry) (answered_of noted) ∙ ap (λ b. opened_count (answered_of noted) + cond b 1 0) kind.opening

pub done_by : (project : ProjectView) (workers limit : ℕ) (noted : List Noted) (entry : Entry) (effect : Effect) → IsOfKind entry.act effect → done_count (more project noted entry) ≡ done_count (answered_of noted) + cond (does_end effect) 1 0
done_by project workers limit noted entry effect kind =
    done_count-more (answered_entry project noted entry) (answered_of noted) ∙ ap (λ b. done_count (answered_of noted) + cond b 1 0) kind.ending

pub changes_opened : (project : ProjectView) (workers limit : ℕ) (noted : List Noted) (entry : Entry) (effect : Effect) → Stands project workers limit noted entry effect → ChangesOpened effect (opened_count (answered_of noted)) (opened_count (more project noted entry))
changes_opened project workers limit noted entry Opens s = opened_by project workers limit noted entry Opens s.kind
changes_opened project workers limit noted entry Asks s = let e = opened_by project workers limit noted entry Asks s.kind in omega arith
changes_opened project workers limit noted entry Goes s = let e = opened_by project workers limit noted entry Goes s.kind in omega arith
changes_opened project workers limit noted entry Ends s = let e = opened_by project workers limit noted entry Ends s.kind in omega arith

pub changes_done : (project : ProjectView) (workers limit : ℕ) (noted : List Noted) (entry : Entry) (effect : Effect) → Stands project workers limit noted entry effect → ChangesDone effect (done_count (answered_of noted)) (done_count (more project noted entry))
changes_done project workers limit noted entry Opens s = let e = done_by project workers limit noted entry Opens s.kind in omega arith
changes_done project workers limit noted entry Asks s = let e = done_by project workers limit noted entry Asks s.kind in omega arith
changes_done project workers limit noted entry Goes s = let e = done_by project workers limit noted entry Goes s.kind in omega arith
changes_done project workers limit noted entry Ends s = done_by project workers limit noted entry Ends s.kind

pub changes_open : (project : ProjectView) (workers limit : ℕ) (noted : List Noted) (entry : Entry) (effect : Effect) → Stands project workers limit noted entry effect → ChangesOpen effect (open_count (answered_of noted)) (open_count (more project noted entry))
changes_open project workers limit noted entry Opens s =
    let e : open_count (more project noted entry) ≡ length (entry.conn ∷ open_list) = ap length (one_opens (answered_entry project noted entry) (answered_of noted) s.kind.opening s.kind.going (new_one project workers limit noted entry s).1) in
    omega arith
  where
    open_list : List ℕ
    open_list = open_connections (answered_of noted)
changes_open project workers limit noted entry Asks s =
    ap length (one_stays (answered_entry project noted entry) (answered_of noted) s.kind.opening s.kind.going)
changes_open project workers limit noted entry Goes s =
    one_less (answered_entry project noted entry) (answered_of noted) s.standing.numbered s.kind.opening s.kind.going (goes_open project workers limit noted entry s)
changes_open project workers limit noted entry Ends s =
    ap length (one_stays (answered_entry project noted entry) (answered_of noted) s.kind.opening s.kind.going)

-- ---- the bounds

-- open connections and workers that are done are no more than the workers
abbrev pub HasWorkers : ℕ → List Noted → Type 0
HasWorkers workers noted = open_count (answered_of noted) + done_count (answered_of noted) ≤ workers

-- a worker is free for an entry that takes one
pub free_worker : (project : ProjectView) (workers limit : ℕ) (noted : List Noted) (entry : Entry) → is_none (fault project workers limit noted entry) ≡ true → takes_worker entry.act ≡ true → HasWorkers workers noted → open_count (answered_of noted) + done_count (answered_of noted) < workers
free_worker project workers limit noted entry passing takes enough =
    by (open_count (answered_of noted) + done_count (answered_of noted) == workers) refl (sym (ap (λ b. b && open_count (answered_of noted) + done_count (answered_of noted) == workers) takes) ∙ (checks project workers limit noted entry passing).has_worker)
  where
    by : (b : Bool) → (open_count (answered_of noted) + done_count (answered_of noted) == workers) ≡ b → b ≡ false → open_count (answered_of noted) + done_count (answered_of noted) < workers
    by b e h =
        let differ : (open_count (answered_of noted) + done_count (answered_of noted) == workers) ≡ false = e ∙ h in
        let l = enough in
        grind arith

pub workers-more : (project : ProjectView) (workers limit : ℕ) (noted : List Noted) (entry : Entry) (effect : Effect) → Stands project workers limit noted entry effect → HasWorkers workers noted → open_count (more project noted entry) + done_count (more project noted entry) ≤ workers
workers-more project workers limit noted entry Opens s enough =
    let l = free_worker project workers limit noted entry s.passing (ap (λ b. b || is_done entry.act) s.kind.opening) enough in
    let o = changes_open project workers limit noted entry Opens s in
    let d = changes_done project workers limit noted entry Opens s in
    omega arith
workers-more project workers limit noted entry Asks s enough =
    let l = enough in
    let o = changes_open project workers limit noted entry Asks s in
    let d = changes_done project workers limit noted entry Asks s in
    omega arith
workers-more project workers limit noted entry Goes s enough =
    let l = enough in
    let o = changes_open project workers limit noted entry Goes s in
    let d = changes_done project workers limit noted entry Goes s in
    omega arith
workers-more project workers limit noted entry Ends s enough =
    let l = free_worker project workers limit noted entry s.passing (ap₂ (λ a b. a || b) s.kind.opening s.kind.ending) enough in
    let o = changes_open project workers limit noted entry Ends s in
    let d = changes_done project workers limit noted entry Ends s in
    omega arith

pub changes_reserved : (project : ProjectView) (workers limit : ℕ) (noted : List Noted) (entry : Entry) (effect : Effect) → Stands project workers limit noted entry effect → HasWorkers workers noted → ChangesReserved effect (reserved workers (answered_of noted)) (reserved workers (more project noted entry))
changes_reserved project workers limit noted entry Opens s enough =
    let l = enough in
    let o = changes_open project workers limit noted entry Opens s in
    let d = changes_done project workers limit noted entry Opens s in
    omega arith
changes_reserved project workers limit noted entry Asks s enough =
    let o = changes_open project workers limit noted entry Asks s in
    let d = changes_done project workers limit noted entry Asks s in
    omega arith
changes_reserved project workers limit noted entry Goes s enough =
    let l = enough in
    let o = changes_open project workers limit noted entry Goes s in
    let d = changes_done project workers limit noted entry Goes s in
    omega arith
changes_reserved project workers limit noted entry Ends s enough =
    let l = free_worker project workers limit noted entry s.passing (ap₂ (λ a b. a || b) s.kind.opening s.kind.ending) enough in
    let o = changes_open project workers limit noted entry Ends s in
    let d = changes_done project workers limit noted entry Ends s in
    omega arith

-- ---- the entry's own connection

own_gone : (e : Answered) (answered : List Answered) → goes e.act ≡ true → has_gone (e ∷ answered) e.conn ≡ true
own_gone e answered h = or_left _ (has_gone answered e.conn) (and_from _ _ (eq-eqb e.conn e.conn refl) h)

own_stays : (e : Answered) (answered : List Answered) (conn : ℕ) → goes e.act ≡ false → has_gone answered conn ≡ false → has_gone (e ∷ answered) conn ≡ false
own_stays e answered conn h stays = or_from _ (has_gone answered conn) (and_right (e.conn == conn) (goes e.act) h) stays

pub changes_own : (project : ProjectView) (workers limit : ℕ) (noted : List Noted) (entry : Entry) (effect : Effect) → Stands project workers limit noted entry effect → ChangesOwn effect (is_open (answered_of noted) entry.conn) (is_open (more project noted entry) entry.conn)
changes_own project workers limit noted entry Opens s =
    let new = new_one project workers limit noted entry s in (
      ap (λ b. b && not (has_gone (answered_of noted) entry.conn)) new.0,
      and_from _ _ (or_left _ (was_opened (answered_of noted) entry.conn) (and_from _ _ (eq-eqb entry.conn entry.conn refl) s.kind.opening)) (not_from_false _ (own_stays (answered_entry project noted entry) (answered_of noted) entry.conn s.kind.going new.1)),
    )
changes_own project workers limit noted entry Asks s =
    let was = asks_open project workers limit noted entry s in
    let parts = is_open-parts (answered_of noted) entry.conn was in
    (was, is_open-from (more project noted entry) entry.conn (opened-more (answered_entry project noted entry) (answered_of noted) entry.conn parts.0) (own_stays (answered_entry project noted entry) (answered_of noted) entry.conn s.kind.going parts.1))
changes_own project workers limit noted entry Goes s = (
  goes_open project workers limit noted entry s,
  and_right (was_opened (more project noted entry) entry.conn) _ (ap not (own_gone (answered_entry project noted entry) (answered_of noted) s.kind.going)),
)
changes_own project workers limit noted entry Ends s =
    ap₂ (λ a b. (a || was_opened (answered_of noted) entry.conn) && not (b || has_gone (answered_of noted) entry.conn)) (and_right (entry.conn == entry.conn) (is_open_act entry.act) s.kind.opening) (and_right (entry.conn == entry.conn) (goes entry.act) s.kind.going)

-- an entry of another connection
pub other_open : (e : Answered) (answered : List Answered) (conn : ℕ) → e.conn ≢ conn → is_open (e ∷ answered) conn ≡ is_open answered conn
other_open e answered conn differ =
    ap (λ b. ((b && is_open_act e.act) || was_opened answered conn) && not ((b && goes e.act) || has_gone answered conn)) (ne_eqb e.conn conn differ)
