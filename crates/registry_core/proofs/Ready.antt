-- What an entry that passes the checks is, and when the entry of a call passes them.
use Rattle.std.proofs.Common.{◌≡◌, ℕ, ◌+◌, ◌<◌, ◌≤◌, ◌^◌, Bool, true, false, cond, ◌||◌, ◌&&◌, ◌==◌, List, [], ◌∷◌, length, fold, Option, Some, None, is_none, IfSome, IsTrue, refl, sym, ap, ap₂, subst, ◌∙◌, arith, nat_le, nat_lt, true≢false}
use Rattle.std.specs.Prelude.{if◌then◌else◌}
use Rattle.std.proofs.lemmas.Bool.{and_parts, or_parts, or_from}
use Rattle.std.specs.Option.{option_map_or}
use Rattle.unit_registry.specs.declared.act.Act.{Act}
use Rattle.unit_registry.specs.declared.act.Act.TheVariants.{Open, Left, Lost, Done}
use Rattle.unit_registry.specs.Acts.{is_open_act, is_done, unit_of, hello_of}
use Rattle.unit_registry.specs.Projects.{ProjectView, unit_count, is_plain}
use Rattle.histories.specs.declared.entry.Entry.{Entry}
use Rattle.histories.specs.Entries.{no_connection, has_its_unit, HasNumbers, IsTraceEntry}
use Rattle.histories.specs.Answered.{has_gone, opened_count, open_count, reserved}
use Rattle.histories.specs.Noted.{Noted, answered_of}
use Rattle.histories.specs.Histories.{and_then, noted_of, fault, is_legal_after, is_out_of_range, IsLegal}
use Rattle.histories.specs.Counts.{Effect, Opens, Asks, Goes, Ends, effect_of, ChangesOpened, ChangesReserved}
use Rattle.histories.proofs.Acyclic.{answered_entry}
use Rattle.histories.proofs.Coming.{may_come}
use Rattle.histories.proofs.Counting.{opened_count-more}
use Rattle.histories.proofs.LegalCounts.{stands, enough_workers, ends_fit, not_lt}
use Rattle.histories.proofs.Legality.{length-noted_of}
use Rattle.histories.proofs.OneEntry.{is_open-parts}
use Rattle.histories.proofs.Passing.{HasWorkers, checks, fresh, free_worker, changes_opened, changes_reserved, workers-more}
use Rattle.histories.proofs.Steps.{IsStanding, standing, standing-more, standing_first, opens_next, stands_open}
use Rattle.registry_core.specs.declared.leaving.Leaving.{Leaving}
use Rattle.registry_core.specs.declared.leaving.Leaving.TheVariants.{Left as AsLeft, Lost as AsLost}
use Rattle.registry_core.specs.Ledgers.{LedgerView, IsLedger, Passes, HasRoom, noted_in, said_in, is_open_in, opened_in, open_in, done_in, reserved_in, entry, leaving}

-- ---- each connection that was opened has its end reserved

abbrev Twice : ℕ → List Noted → Type 0
Twice workers noted = opened_count (answered_of noted) + opened_count (answered_of noted) + workers ≤ length noted + reserved workers (answered_of noted)

twice_step : (effect : Effect) (opened opened_then taken taken_then workers size : ℕ) → ChangesOpened effect opened opened_then → ChangesReserved effect taken taken_then → opened + opened + workers ≤ size + taken → opened_then + opened_then + workers ≤ size + 1 + taken_then
twice_step Opens opened opened_then taken taken_then workers size o r h = omega arith
twice_step Asks opened opened_then taken taken_then workers size o r h = omega arith
twice_step Goes opened opened_then taken taken_then workers size o r h = omega arith
twice_step Ends opened opened_then taken taken_then workers size o r h = omega arith

twice-more : (project : ProjectView) (workers limit : ℕ) (noted : List Noted) (newest : Entry) → IsStanding project noted → is_none (fault project workers limit noted newest) ≡ true → HasWorkers workers noted → Twice workers noted → Twice workers (and_then project workers noted newest)
twice-more project workers limit noted newest s passes enough twice =
    let st = stands project workers limit noted newest s passes in
    let more = twice_step (effect_of newest.act) (opened_count (answered_of noted)) (opened_count (answered_entry project noted newest ∷ answered_of noted)) (reserved workers (answered_of noted)) (reserved workers (answered_entry project noted newest ∷ answered_of noted)) workers (length noted) (changes_opened project workers limit noted newest (effect_of newest.act) st) (changes_reserved project workers limit noted newest (effect_of newest.act) st enough) twice in
    omega arith

twice_after : (project : ProjectView) (workers limit : ℕ) → (entries : List Entry) (noted : List Noted) → is_legal_after project workers limit noted entries ≡ true → IsStanding project noted → HasWorkers workers noted → Twice workers noted → Twice workers (fold (and_then project workers) noted entries)
twice_after project workers limit [] noted legal s enough twice = twice
twice_after project workers limit (newest ∷ entries) noted legal s enough twice =
    let parts = and_parts (is_none (fault project workers limit noted newest)) _ legal in
    twice_after project workers limit entries (and_then project workers noted newest) parts.1 (standing-more project workers limit noted newest parts.0 s) (workers-more project workers limit noted newest (effect_of newest.act) (stands project workers limit noted newest s parts.0) enough) (twice-more project workers limit noted newest s parts.0 enough twice)

twice : (project : ProjectView) (workers limit : ℕ) (history : List Entry) → IsLegal project workers limit history → Twice workers (noted_of project workers history)
twice project workers limit history legal = twice_after project workers limit history [] legal (standing_first project) (omega arith) (omega arith)

-- ---- an entry that passes

-- what the tables need of an entry
pub record IsReady (project : ProjectView) (workers limit : ℕ) (noted : List Noted) (newest : Entry) : Type 0 where
  pub passing : is_none (fault project workers limit noted newest) ≡ true
  pub conn : is_done newest.act ≡ false → newest.conn + newest.conn + 1 < limit
  pub fresh : is_open_act newest.act ≡ true → has_gone (answered_of noted) newest.conn ≡ false
  pub unit : IfSome (unit_of newest.act) (λ unit. unit < unit_count project)
  pub room : length noted < limit
  pub seats : is_open_act newest.act ≡ true → open_count (answered_of noted) < workers

pub range_by : (project : ProjectView) (plain : ℕ → Bool) (o : Option ℕ) → option_map_or (λ unit. nat_le (unit_count project) unit || plain unit) o false ≡ false → IfSome o (λ unit. unit < unit_count project)
range_by project plain None h = tt
range_by project plain (Some unit) h = let p = or_parts (nat_le (unit_count project) unit) (plain unit) h in let q : nat_le (unit_count project) unit ≡ false = p.0 in grind arith

pub ready : (project : ProjectView) (workers limit : ℕ) (history : List Entry) (newest : Entry) → IsLegal project workers limit history → fault project workers limit (noted_of project workers history) newest ≡ None → IsReady project workers limit (noted_of project workers history) newest
ready project workers limit history newest legal none = record {
  passing = passes;
  conn = λ no_end. conn (is_open_act newest.act) refl no_end;
  fresh = λ opens. (fresh (answered_of noted) newest.conn s.numbered (let e = opens_next project workers limit noted newest passes opens in omega arith)).1;
  unit = range_by project (λ unit. is_none (hello_of newest.act) && is_plain project unit) (unit_of newest.act) (checks project workers limit noted newest passes).in_range;
  room = fits;
  seats = λ opens. (let free = free_worker project workers limit noted newest passes (ap (λ b. b || is_done newest.act) opens) enough in omega arith);
}
  where
    noted : List Noted
    noted = noted_of project workers history

    passes : is_none (fault project workers limit noted newest) ≡ true
    passes = ap (λ o. is_none o) none

    s : IsStanding project noted
    s = standing project workers limit history legal

    enough : HasWorkers workers noted
    enough = enough_workers project workers limit history legal

    bound : length noted + 1 + reserved workers (answered_entry project noted newest ∷ answered_of noted) ≤ limit
    bound = let f = not_lt limit _ (checks project workers limit noted newest passes).fits in omega arith

    fits : length noted < limit
    fits = let b = bound in omega arith

    double : opened_count (answered_entry project noted newest ∷ answered_of noted) + opened_count (answered_entry project noted newest ∷ answered_of noted) ≤ limit
    double = let b = bound in let t = twice-more project workers limit noted newest s passes enough (twice project workers limit history legal) in omega arith

    conn : (b : Bool) → is_open_act newest.act ≡ b → is_done newest.act ≡ false → newest.conn + newest.conn + 1 < limit
    conn true o no_end =
        let next = opens_next project workers limit noted newest passes o in
        let one : opened_count (answered_entry project noted newest ∷ answered_of noted) ≡ opened_count (answered_of noted) + 1 = opened_count-more (answered_entry project noted newest) (answered_of noted) ∙ ap (λ b. opened_count (answered_of noted) + cond b 1 0) o in
        let d = double in
        omega arith
    conn false o no_end =
        let below = s.numbered.below newest.conn (is_open-parts (answered_of noted) newest.conn (stands_open project workers limit noted newest passes (or_from _ _ o no_end))).0 in
        let one : opened_count (answered_entry project noted newest ∷ answered_of noted) ≡ opened_count (answered_of noted) + 0 = opened_count-more (answered_entry project noted newest) (answered_of noted) ∙ ap (λ b. opened_count (answered_of noted) + cond b 1 0) o in
        let d = double in
        omega arith

-- the number of a connection that was opened
pub number_below : (ledger : LedgerView) (conn : ℕ) → IsLedger ledger → IsTrue (is_open_in ledger conn) → conn + conn + 1 < ledger.limit
number_below ledger conn l there =
    let s = standing ledger.project ledger.workers ledger.limit ledger.entries l.legal in
    let below = s.numbered.below conn (is_open-parts (said_in ledger) conn there).0 in
    let t = twice ledger.project ledger.workers ledger.limit ledger.entries l.legal in
    let f = ends_fit ledger.project ledger.workers ledger.limit ledger.entries l.few l.legal in
    let n = length-noted_of ledger.project ledger.workers ledger.entries in
    omega arith

-- ---- the entries of the calls

pub size_of : (ledger : LedgerView) → length (noted_in ledger) ≡ length ledger.entries
size_of ledger = length-noted_of ledger.project ledger.workers ledger.entries

pub fits_in : (ledger : LedgerView) → IsLedger ledger → length ledger.entries + reserved_in ledger ≤ ledger.limit
fits_in ledger l = ends_fit ledger.project ledger.workers ledger.limit ledger.entries l.few l.legal

pub workers_in : (ledger : LedgerView) → IsLedger ledger → open_in ledger + done_in ledger ≤ ledger.workers
workers_in ledger l = enough_workers ledger.project ledger.workers ledger.limit ledger.entries l.legal

pub open_passes : (ledger : LedgerView) (conn : ℕ) → IsLedger ledger → conn ≡ opened_in ledger → open_in ledger + done_in ledger < ledger.workers → HasRoom ledger 1 → Passes ledger (entry conn Open)
open_passes ledger conn l next free room =
    (may_come ledger.project ledger.workers ledger.limit ledger.entries (entry conn Open) l.few l.legal).1 (record { next = next; free = free; room = (let n = size_of ledger in let r = room in omega arith) })

pub ask_passes : (ledger : LedgerView) (conn : ℕ) (act : Act) → IsLedger ledger → effect_of act ≡ Asks → IsTrue (is_open_in ledger conn) → is_out_of_range ledger.project act ≡ false → HasRoom ledger 0 → Passes ledger (entry conn act)
ask_passes ledger conn act l kind there range room =
    (may_come ledger.project ledger.workers ledger.limit ledger.entries (entry conn act) l.few l.legal).1 (subst (λ effect. Rattle.histories.specs.Counts.MayCome ledger.project ledger.workers ledger.limit (noted_in ledger) (entry conn act) effect) (sym kind) (record { there = there; range = range; room = (let n = size_of ledger in let r = room in omega arith) }))

pub leave_passes : (ledger : LedgerView) (conn : ℕ) (how : Leaving) → IsLedger ledger → IsTrue (is_open_in ledger conn) → Passes ledger (entry conn (leaving how))
leave_passes ledger conn AsLeft l there = (may_come ledger.project ledger.workers ledger.limit ledger.entries (entry conn Left) l.few l.legal).1 there
leave_passes ledger conn AsLost l there = (may_come ledger.project ledger.workers ledger.limit ledger.entries (entry conn Lost) l.few l.legal).1 there

pub done_passes : (ledger : LedgerView) (conn : ℕ) → IsLedger ledger → open_in ledger + done_in ledger < ledger.workers → Passes ledger (entry conn Done)
done_passes ledger conn l free = (may_come ledger.project ledger.workers ledger.limit ledger.entries (entry conn Done) l.few l.legal).1 free

-- an entry that passes is one that a trace can hold, where its numbers are those of one
is_no_connection : (conn : ℕ) → conn ≡ no_connection → (conn == no_connection) ≡ true
is_no_connection conn e = grind arith

is_connection : (conn limit : ℕ) → conn + conn + 1 < limit → limit < 2 ^ 31 → nat_lt conn no_connection ≡ true
is_connection conn limit below small = grind arith

pub trace_entry : (ledger : LedgerView) (newest : Entry) → IsLedger ledger → Passes ledger newest → (is_done newest.act ≡ true → newest.conn ≡ no_connection) → has_its_unit newest.act ≡ true → HasNumbers newest.act → IsTraceEntry newest
trace_entry ledger newest l passes none whole numbers = record { is_entry = ap₂ (λ a b. a && b) (by (is_done newest.act) refl) whole; numbers = numbers }
  where
    by : (b : Bool) → is_done newest.act ≡ b → (if b then newest.conn == no_connection else nat_lt newest.conn no_connection) ≡ true
    by true e = is_no_connection newest.conn (none e)
    by false e = is_connection newest.conn ledger.limit ((ready ledger.project ledger.workers ledger.limit ledger.entries newest l.legal passes).conn e) l.small

pub asks_no_end : (act : Act) (conn : ℕ) → effect_of act ≡ Asks → is_done act ≡ true → conn ≡ no_connection
asks_no_end Done conn asks e = absurd (ends_apart asks)
  where
    ends : Effect → Bool
    ends Ends = true
    ends effect = false

    ends_apart : Ends ≡ Asks → ⊥
    ends_apart e = true≢false (ap ends e)
asks_no_end act conn asks e = absurd (true≢false (sym e))

pub leaving_entry : (ledger : LedgerView) (conn : ℕ) (how : Leaving) → IsLedger ledger → Passes ledger (entry conn (leaving how)) → IsTraceEntry (entry conn (leaving how))
leaving_entry ledger conn AsLeft l passes = trace_entry ledger (entry conn Left) l passes (λ e. absurd (true≢false (sym e))) refl tt
leaving_entry ledger conn AsLost l passes = trace_entry ledger (entry conn Lost) l passes (λ e. absurd (true≢false (sym e))) refl tt

-- a named unit of the project is in range
pub in_range : (count unit : ℕ) (plain : Bool) → unit < count → plain ≡ false → (nat_le count unit || plain) ≡ false
in_range count unit plain below named = or_from (nat_le count unit) plain (let l = below in grind arith) named
