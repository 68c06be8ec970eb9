-- A tally says of one more entry what the entries before it do.
use Rattle.std.proofs.Common.{◌≡◌, ◌≢◌, ℕ, ◌+◌, ◌-◌, ◌≤◌, zero, suc, Bool, true, false, not, ◌&&◌, ◌==◌, nat_lt, List, [], ◌∷◌, ◌++◌, length, take, drop, Option, Some, None, is_none, refl, sym, ap, ap₂, subst, ◌∙◌, arith, true≢false, eqb-true, eq-eqb, get_or, set}
use Rattle.std.specs.Prelude.{slice_get, if◌then◌else◌}
use Rattle.std.proofs.lemmas.Bool.Decides.{nat_tests}
use Rattle.std.proofs.lemmas.List.{length-append, length-set, get_or-set_same, get_or-set_other, get_or_append_left, get_or_past}
use Rattle.std.proofs.Math.Seq.{get_or-append_seam}
use Rattle.unit_registry.specs.declared.act.Act.{Act}
use Rattle.unit_registry.specs.declared.act.Act.TheVariants.{Open, Hello, Repo, Export, Import, Compiled, Translate, Bad, Pause, Left, Lost, Done}
use Rattle.unit_registry.specs.Acts.{is_open_act}
use Rattle.unit_registry.specs.Projects.{ProjectView}
use Rattle.histories.specs.declared.entry.Entry.{Entry}
use Rattle.histories.specs.declared.illegal_reason.IllegalReason.{IllegalReason}
use Rattle.histories.specs.declared.illegal_reason.IllegalReason.TheVariants.{OutOfOrder, NotOpen, Crowded, OutOfRange, Full}
use Rattle.histories.specs.Answered.{is_open, open_count, done_count, reserved}
use Rattle.histories.specs.Noted.{Noted, answered_of}
use Rattle.histories.specs.Histories.{and_then, noted_of, fault, IsFirstFault, IsLegal, is_out_of_order, is_not_open, is_crowded, is_out_of_range, is_past, takes_worker}
use Rattle.histories.specs.Counts.{effect_of, ChangesOpened, ChangesOpen, ChangesDone, ChangesOwn}
use Rattle.histories.proofs.Legality.{noted_push, length-noted_of, legal_push}
use Rattle.histories.proofs.Steps.{IsStanding, standing, opens_next}
use Rattle.histories.proofs.Acyclic.{answered_entry}
use Rattle.histories.proofs.Passing.{passes, Stands, changes_opened, changes_open, changes_done, changes_own, other_open}
use Rattle.histories.proofs.LegalCounts.{stands, lt_not}
use Rattle.trace_text.specs.declared.trace.Trace.{Trace}
use Rattle.trace_text.specs.declared.tally.Counts.{Counts}
use Rattle.trace_text.specs.declared.tally.Tally.{Tally}
use Rattle.trace_text.specs.Tallies.{is_open_in, table_with, counts_with, is_past_limit, is_full_house, tally_fault, IsTally}
use Rattle.trace_text.proofs.Following.{Follows}

-- ---- the checks, one behind the other

abbrev chain : Bool → Bool → Bool → Bool → Bool → Option IllegalReason
chain a b c d e = if a then Some OutOfOrder else (if b then Some NotOpen else (if c then Some Crowded else (if d then Some OutOfRange else (if e then Some Full else None))))

chain_same : (a b c d e other : Bool) → (a ≡ false → b ≡ false → c ≡ false → d ≡ false → e ≡ other) → chain a b c d e ≡ chain a b c d other
chain_same true b c d e other h = refl
chain_same false true c d e other h = refl
chain_same false false true d e other h = refl
chain_same false false false true e other h = refl
chain_same false false false false e other h = ap (λ f. chain false false false false f) (h refl refl refl refl)

-- ---- what an act does to the counts

abbrev CountsAre : Counts → ℕ → ℕ → Type 0
CountsAre counts open_now done = (counts.open_now ≡ open_now) × (counts.done ≡ done)

counts_after : (counts : Counts) (o d o' d' : ℕ) → CountsAre counts o d → (act : Act) → ChangesOpen (effect_of act) o o' → ChangesDone (effect_of act) d d' → CountsAre (counts_with counts act) o' d'
counts_after counts o d o' d' h Open p q = (omega (arith, h.0, p), h.1 ∙ sym q)
counts_after counts o d o' d' h Left p q = (omega (arith, h.0, p), h.1 ∙ sym q)
counts_after counts o d o' d' h Lost p q = (omega (arith, h.0, p), h.1 ∙ sym q)
counts_after counts o d o' d' h Done p q = (h.0 ∙ sym p, omega (arith, h.1, q))
counts_after counts o d o' d' h (Hello version unit) p q = (h.0 ∙ sym p, h.1 ∙ sym q)
counts_after counts o d o' d' h Repo p q = (h.0 ∙ sym p, h.1 ∙ sym q)
counts_after counts o d o' d' h (Export unit) p q = (h.0 ∙ sym p, h.1 ∙ sym q)
counts_after counts o d o' d' h (Import unit name_only) p q = (h.0 ∙ sym p, h.1 ∙ sym q)
counts_after counts o d o' d' h (Compiled unit stored) p q = (h.0 ∙ sym p, h.1 ∙ sym q)
counts_after counts o d o' d' h (Translate header) p q = (h.0 ∙ sym p, h.1 ∙ sym q)
counts_after counts o d o' d' h (Bad why) p q = (h.0 ∙ sym p, h.1 ∙ sym q)
counts_after counts o d o' d' h Pause p q = (h.0 ∙ sym p, h.1 ∙ sym q)

-- ---- what an act does to the table

length_after : (table : List Bool) (conn n n' : ℕ) → length table ≡ n → (act : Act) → ChangesOpened (effect_of act) n n' → length (table_with table conn act) ≡ n'
length_after table conn n n' h Open p = length-append table (true ∷ []) ∙ omega (arith, h, p)
length_after table conn n n' h Left p = length-set table conn false ∙ h ∙ sym p
length_after table conn n n' h Lost p = length-set table conn false ∙ h ∙ sym p
length_after table conn n n' h Done p = h ∙ sym p
length_after table conn n n' h (Hello version unit) p = h ∙ sym p
length_after table conn n n' h Repo p = h ∙ sym p
length_after table conn n n' h (Export unit) p = h ∙ sym p
length_after table conn n n' h (Import unit name_only) p = h ∙ sym p
length_after table conn n n' h (Compiled unit stored) p = h ∙ sym p
length_after table conn n n' h (Translate header) p = h ∙ sym p
length_after table conn n n' h (Bad why) p = h ∙ sym p
length_after table conn n n' h Pause p = h ∙ sym p

pushed_other : (table : List Bool) (conn : ℕ) → length table ≢ conn → get_or (table ++ true ∷ []) conn false ≡ get_or table conn false
pushed_other table conn differ = by (nat_lt conn (length table)) refl
  where
    by : (b : Bool) → nat_lt conn (length table) ≡ b → get_or (table ++ true ∷ []) conn false ≡ get_or table conn false
    by true t = get_or_append_left table (true ∷ []) false conn (grind (arith, nat_tests))
    by false t =
        let past : length table ≤ conn = grind (arith, nat_tests) in
        let longer : length (table ++ true ∷ []) ≤ conn = omega (arith, length-append table (true ∷ []), past, differ) in
        get_or_past (table ++ true ∷ []) conn false longer ∙ sym (get_or_past table conn false past)

other_after : (table : List Bool) (own conn : ℕ) → own ≢ conn → (act : Act) → (is_open_act act ≡ true → own ≡ length table) → is_open_in (table_with table own act) conn ≡ is_open_in table conn
other_after table own conn differ Open next = pushed_other table conn (λ e. differ (next refl ∙ e))
other_after table own conn differ Left next = get_or-set_other table own conn false false (λ e. differ (sym e))
other_after table own conn differ Lost next = get_or-set_other table own conn false false (λ e. differ (sym e))
other_after table own conn differ Done next = refl
other_after table own conn differ (Hello version unit) next = refl
other_after table own conn differ Repo next = refl
other_after table own conn differ (Export unit) next = refl
other_after table own conn differ (Import unit name_only) next = refl
other_after table own conn differ (Compiled unit stored) next = refl
other_after table own conn differ (Translate header) next = refl
other_after table own conn differ (Bad why) next = refl
other_after table own conn differ Pause next = refl

closed_own : (table : List Bool) (conn : ℕ) → get_or (set table conn false) conn false ≡ false
closed_own table conn = by (nat_lt conn (length table)) refl
  where
    by : (b : Bool) → nat_lt conn (length table) ≡ b → get_or (set table conn false) conn false ≡ false
    by true t = get_or-set_same table conn false false (grind (arith, nat_tests))
    by false t =
        let past : length table ≤ conn = grind (arith, nat_tests) in
        get_or_past (set table conn false) conn false (omega (arith, length-set table conn false, past))

own_after : (table : List Bool) (conn : ℕ) (before after : Bool) → is_open_in table conn ≡ before → (act : Act) → ChangesOwn (effect_of act) before after → (is_open_act act ≡ true → conn ≡ length table) → is_open_in (table_with table conn act) conn ≡ after
own_after table conn before after h Open p next =
    ap (λ k. get_or (table ++ true ∷ []) k false) (next refl) ∙ get_or-append_seam table true [] false ∙ sym p.1
own_after table conn before after h Left p next = closed_own table conn ∙ sym p.1
own_after table conn before after h Lost p next = closed_own table conn ∙ sym p.1
own_after table conn before after h Done p next = h ∙ sym p
own_after table conn before after h (Hello version unit) p next = h ∙ p.0 ∙ sym p.1
own_after table conn before after h Repo p next = h ∙ p.0 ∙ sym p.1
own_after table conn before after h (Export unit) p next = h ∙ p.0 ∙ sym p.1
own_after table conn before after h (Import unit name_only) p next = h ∙ p.0 ∙ sym p.1
own_after table conn before after h (Compiled unit stored) p next = h ∙ p.0 ∙ sym p.1
own_after table conn before after h (Translate header) p next = h ∙ p.0 ∙ sym p.1
own_after table conn before after h (Bad why) p next = h ∙ p.0 ∙ sym p.1
own_after table conn before after h Pause p next = h ∙ p.0 ∙ sym p.1

-- ---- the tally says what is wrong

-- an entry that passes the first four checks passes all for a limit that is great enough
abbrev enough : ProjectView → ℕ → List Noted → Entry → ℕ
enough project workers noted entry = length (and_then project workers noted entry) + reserved workers (answered_of (and_then project workers noted entry))

four : (project : ProjectView) (workers : ℕ) (noted : List Noted) (entry : Entry) → IsStanding project noted
    → is_out_of_order (answered_of noted) entry ≡ false → is_not_open (answered_of noted) entry ≡ false → is_crowded workers (answered_of noted) entry ≡ false → is_out_of_range project entry.act ≡ false
    → Stands project workers (enough project workers noted entry) noted entry (effect_of entry.act)
four project workers noted entry s a b c d =
    stands project workers (enough project workers noted entry) noted entry s (passes project workers (enough project workers noted entry) noted entry (record { in_order = a; is_there = b; has_worker = c; in_range = d; fits = lt_not _ _ (omega arith) }))

counts_next : (project : ProjectView) (workers limit : ℕ) (noted : List Noted) (entry : Entry) (table : List Bool) (counts : Counts) → IsTally table counts noted → Stands project workers limit noted entry (effect_of entry.act)
    → CountsAre (counts_with counts entry.act) (open_count (answered_of (and_then project workers noted entry))) (done_count (answered_of (and_then project workers noted entry)))
counts_next project workers limit noted entry table counts tally s =
    counts_after counts _ _ _ _ (tally.open_now, tally.done) entry.act (changes_open project workers limit noted entry (effect_of entry.act) s) (changes_done project workers limit noted entry (effect_of entry.act) s)

pub fault_is : (project : ProjectView) (workers limit place : ℕ) (noted : List Noted) (entry : Entry) (table : List Bool) (counts : Counts) → IsTally table counts noted → IsStanding project noted → length noted ≡ place
    → tally_fault project workers limit place table counts entry ≡ fault project workers limit noted entry
fault_is project workers limit place noted entry table counts tally s size =
    ap (λ n. chain (is_open_act entry.act && not (entry.conn == n)) (not (takes_worker entry.act) && not (is_open_in table entry.conn)) (takes_worker entry.act && is_full_house workers counts) (is_out_of_range project entry.act) (is_past_limit workers limit (place + 1) (counts_with counts entry.act))) tally.opened
    ∙ ap (λ b. chain (is_out_of_order (answered_of noted) entry) (not (takes_worker entry.act) && not b) (takes_worker entry.act && is_full_house workers counts) (is_out_of_range project entry.act) (is_past_limit workers limit (place + 1) (counts_with counts entry.act))) (tally.is_there entry.conn)
    ∙ ap₂ (λ o d. chain (is_out_of_order (answered_of noted) entry) (is_not_open (answered_of noted) entry) (takes_worker entry.act && o + d == workers) (is_out_of_range project entry.act) (is_past_limit workers limit (place + 1) (counts_with counts entry.act))) tally.open_now tally.done
    ∙ chain_same (is_out_of_order (answered_of noted) entry) (is_not_open (answered_of noted) entry) (is_crowded workers (answered_of noted) entry) (is_out_of_range project entry.act) (is_past_limit workers limit (place + 1) (counts_with counts entry.act)) (is_past workers limit (and_then project workers noted entry)) (λ a b c d. last (four project workers noted entry s a b c d))
  where
    last : Stands project workers (enough project workers noted entry) noted entry (effect_of entry.act) → is_past_limit workers limit (place + 1) (counts_with counts entry.act) ≡ is_past workers limit (and_then project workers noted entry)
    last st =
        let next = counts_next project workers (enough project workers noted entry) noted entry table counts tally st in
        let count : place + 1 ≡ length (and_then project workers noted entry) = omega (arith, size) in
        ap₂ (λ o d. nat_lt limit (place + 1 + (o + workers - d))) next.0 next.1
        ∙ ap (λ n. nat_lt limit (n + reserved workers (answered_of (and_then project workers noted entry)))) count

-- and goes on with the entry, where nothing is
pub tally_next : (project : ProjectView) (workers limit : ℕ) (noted : List Noted) (entry : Entry) (table : List Bool) (counts : Counts) → IsTally table counts noted → IsStanding project noted → is_none (fault project workers limit noted entry) ≡ true
    → IsTally (table_with table entry.conn entry.act) (counts_with counts entry.act) (and_then project workers noted entry)
tally_next project workers limit noted entry table counts tally s passing = record {
  opened = length_after table entry.conn _ _ tally.opened entry.act (changes_opened project workers limit noted entry (effect_of entry.act) st);
  is_there = λ conn. there conn (entry.conn == conn) refl;
  open_now = next.0;
  done = next.1;
}
  where
    st : Stands project workers limit noted entry (effect_of entry.act)
    st = stands project workers limit noted entry s passing

    next : CountsAre (counts_with counts entry.act) (open_count (answered_of (and_then project workers noted entry))) (done_count (answered_of (and_then project workers noted entry)))
    next = counts_next project workers limit noted entry table counts tally st

    number : is_open_act entry.act ≡ true → entry.conn ≡ length table
    number o = opens_next project workers limit noted entry passing o ∙ sym tally.opened

    differ : (conn : ℕ) → (entry.conn == conn) ≡ false → entry.conn ≢ conn
    differ conn e same = true≢false (sym (eq-eqb entry.conn conn same) ∙ e)

    there : (conn : ℕ) (b : Bool) → (entry.conn == conn) ≡ b → is_open_in (table_with table entry.conn entry.act) conn ≡ is_open (answered_of (and_then project workers noted entry)) conn
    there conn true e =
        let same = eqb-true entry.conn conn e in
        subst (λ k. is_open_in (table_with table entry.conn entry.act) k ≡ is_open (answered_of (and_then project workers noted entry)) k) same (own_after table entry.conn _ _ (tally.is_there entry.conn) entry.act (changes_own project workers limit noted entry (effect_of entry.act) st) number)
    there conn false e =
        other_after table entry.conn conn (differ conn e) entry.act number
        ∙ tally.is_there conn
        ∙ sym (other_open (answered_entry project noted entry) (answered_of noted) conn (differ conn e))

-- ---- the first place

-- the entries before a place, the one there, and those behind
record IsCut (entries : List Entry) (place : ℕ) (entry : Entry) : Type 0 where
  whole : entries ≡ take place entries ++ entry ∷ drop (suc place) entries
  front : take (suc place) entries ≡ take place entries ++ entry ∷ []
  size : length (take place entries) ≡ place

some_same : (one other : Entry) → Some one ≡ Some other → one ≡ other
some_same one other e = cc

cut_there : (place : ℕ) (entries : List Entry) (entry : Entry) → slice_get entries place ≡ Some entry → IsCut entries place entry
cut_there zero (first ∷ entries) entry e = record {
  whole = ap (λ x. x ∷ entries) (some_same first entry e);
  front = ap (λ x. x ∷ []) (some_same first entry e);
  size = refl;
}
cut_there (suc place) (first ∷ entries) entry e =
    let rest = cut_there place entries entry e in
    record {
      whole = ap (λ xs. first ∷ xs) rest.whole;
      front = ap (λ xs. first ∷ xs) rest.front;
      size = ap suc rest.size;
    }
cut_there zero [] entry e = let no_entry : ⊥ = cc in absurd no_entry
cut_there (suc place) [] entry e = let no_entry : ⊥ = cc in absurd no_entry

-- ---- the check

there_is : (project : ProjectView) (trace : Trace) (tally : Tally) (place : ℕ) (entry : Entry) → Follows project trace tally place → slice_get trace.entries place ≡ Some entry
    → tally_fault project trace.workers trace.limit place tally.table.items tally.counts entry ≡ fault project trace.workers trace.limit (noted_of project trace.workers (take place trace.entries)) entry
there_is project trace tally place entry f at =
    fault_is project trace.workers trace.limit place (noted_of project trace.workers (take place trace.entries)) entry tally.table.items tally.counts f.tallied (standing project trace.workers trace.limit (take place trace.entries) f.legal) (length-noted_of project trace.workers (take place trace.entries) ∙ (cut_there place trace.entries entry at).size)

pub illegal_at : (project : ProjectView) (trace : Trace) (tally : Tally) (place : ℕ) (entry : Entry) (reason : IllegalReason) → Follows project trace tally place → slice_get trace.entries place ≡ Some entry
    → tally_fault project trace.workers trace.limit place tally.table.items tally.counts entry ≡ Some reason → IsFirstFault project trace.workers trace.limit trace.entries place reason
illegal_at project trace tally place entry reason f at e =
    let cut = cut_there place trace.entries entry at in
    record {
      front = take place trace.entries;
      entry = entry;
      behind = drop (suc place) trace.entries;
      is_history = cut.whole;
      is_place = sym cut.size;
      legal = f.legal;
      fails = sym (there_is project trace tally place entry f at) ∙ e;
    }

pub follows_next : (project : ProjectView) (trace : Trace) (tally next : Tally) (place : ℕ) (entry : Entry) → Follows project trace tally place → slice_get trace.entries place ≡ Some entry
    → tally_fault project trace.workers trace.limit place tally.table.items tally.counts entry ≡ None → next.table.items ≡ table_with tally.table.items entry.conn entry.act → next.counts ≡ counts_with tally.counts entry.act
    → Follows project trace next (place + 1)
follows_next project trace tally next place entry f at e table counts = record {
  legal = subst (λ es. IsLegal project trace.workers trace.limit es) (sym front) (legal_push project trace.workers trace.limit (take place trace.entries) entry f.legal passing);
  tallied = subst (λ ns. IsTally next.table.items next.counts ns) (sym (ap (noted_of project trace.workers) front ∙ noted_push project trace.workers (take place trace.entries) entry)) (subst (λ t. IsTally t next.counts (and_then project trace.workers noted entry)) (sym table) (subst (λ c. IsTally (table_with tally.table.items entry.conn entry.act) c (and_then project trace.workers noted entry)) (sym counts) (tally_next project trace.workers trace.limit noted entry tally.table.items tally.counts f.tallied (standing project trace.workers trace.limit (take place trace.entries) f.legal) passing)));
  few_open = subst (λ (c : Counts). c.open_now ≤ place + 1) (sym counts) (open_few entry.act);
  few_done = subst (λ (c : Counts). c.done ≤ place + 1) (sym counts) (done_few entry.act);
}
  where
    noted : List Noted
    noted = noted_of project trace.workers (take place trace.entries)

    one_more : place + 1 ≡ suc place
    one_more = omega arith

    front : take (place + 1) trace.entries ≡ take place trace.entries ++ entry ∷ []
    front = ap (λ n. take n trace.entries) one_more ∙ (cut_there place trace.entries entry at).front

    passing : is_none (fault project trace.workers trace.limit noted entry) ≡ true
    passing = ap (λ (o : Option IllegalReason). is_none o) (sym (there_is project trace tally place entry f at) ∙ e)

    open_few : (act : Act) → (counts_with tally.counts act).open_now ≤ place + 1
    open_few Open = omega (arith, f.few_open)
    open_few Left = omega (arith, f.few_open)
    open_few Lost = omega (arith, f.few_open)
    open_few Done = omega (arith, f.few_open)
    open_few (Hello version unit) = omega (arith, f.few_open)
    open_few Repo = omega (arith, f.few_open)
    open_few (Export unit) = omega (arith, f.few_open)
    open_few (Import unit name_only) = omega (arith, f.few_open)
    open_few (Compiled unit stored) = omega (arith, f.few_open)
    open_few (Translate header) = omega (arith, f.few_open)
    open_few (Bad why) = omega (arith, f.few_open)
    open_few Pause = omega (arith, f.few_open)

    done_few : (act : Act) → (counts_with tally.counts act).done ≤ place + 1
    done_few Open = omega (arith, f.few_done)
    done_few Left = omega (arith, f.few_done)
    done_few Lost = omega (arith, f.few_done)
    done_few Done = omega (arith, f.few_done)
    done_few (Hello version unit) = omega (arith, f.few_done)
    done_few Repo = omega (arith, f.few_done)
    done_few (Export unit) = omega (arith, f.few_done)
    done_few (Import unit name_only) = omega (arith, f.few_done)
    done_few (Compiled unit stored) = omega (arith, f.few_done)
    done_few (Translate header) = omega (arith, f.few_done)
    done_few (Bad why) = omega (arith, f.few_done)
    done_few Pause = omega (arith, f.few_done)
