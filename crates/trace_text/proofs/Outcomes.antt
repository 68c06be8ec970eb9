-- The reading of a text is the trace whose text it is, or its first fault.
use Rattle.std.proofs.Common.{◌≡◌, ◌⊎◌, inl, inr, ℕ, ◌+◌, Bool, true, false, ◌==◌, List, [], ◌∷◌, ◌++◌, length, map, Option, Some, None, refl, sym, ap, subst, ◌∙◌, arith, eqb-true, eq-eqb, ne_eqb, true≢false}
use Rattle.std.specs.Prelude.{Result, Ok, Err, IfOk, IfErr, All, codes, decimal, if◌then◌else◌}
use Rattle.std.proofs.lemmas.Bool.{cond-true, cond-false}
use Rattle.std.proofs.lemmas.List.{append-nil, append_assoc, map-append, length-append, length-map}
use Rattle.std.proofs.lemmas.List.Elements.{All-nil, All-head, All-tail, All-push}
use Rattle.cody_words.specs.Octets.{newline}
use Rattle.unit_registry.specs.Lines.{lines_of}
use Rattle.histories.specs.declared.entry.Entry.{Entry}
use Rattle.trace_text.specs.declared.lines.Head.{Head}
use Rattle.trace_text.specs.declared.lines.BodyLine.{BodyLine}
use Rattle.trace_text.specs.declared.lines.BodyLine.TheVariants as body
use Rattle.trace_text.specs.declared.trace.Trace.{Trace}
use Rattle.trace_text.specs.declared.reason.TraceReason.{TraceReason}
use Rattle.trace_text.specs.declared.reason.TraceReason.TheVariants.{Syntax, WrongCount, NoEnd, MoreText}
use Rattle.trace_text.specs.declared.reason.TraceError.{TraceError}
use Rattle.trace_text.specs.declared.reason.TraceError.TheVariants.{Text, Memory}
use Rattle.mapper_requests.specs.Numbers.{IsNumber}
use Rattle.histories.specs.Entries.{IsTraceEntry}
use Rattle.trace_text.specs.Texts.{conn_word, act_words, entry_words, head_words, end_words, entry_line, head_line, end_line, ended, first_lines, trace_lines, trace, IsHead}
use Rattle.trace_text.specs.Faults.{IsTraceText, Begins, IsNoHeadLine, IsNoBodyLine, IsFaultyBehind, IsFault, TellsFault}
use Rattle.trace_text.specs.Working.{words_in, body_line, head_of}
use Rattle.trace_text.specs.Reading.{Fault, fault_at, if_last, with_entry, take_line, read_behind, begun, read_body, read_lines, reading, Answers}
use Rattle.trace_text.proofs.Spelled.{none_some}
use Rattle.trace_text.proofs.Forms.{body_line-is, body_line-entry, body_line-end, head_of-is, head_of-back, head_small}
use Rattle.trace_text.proofs.Free.{is_free, entry_free, end_free, head_free, words_back, line_is, spaced_free, AreLines, IsTextOf, text_is, lines_back, lines_lacking}

-- ---- one line

item_line : (line : List ℕ) (entry : Entry) → body_line (words_in line) ≡ Some (body.Item entry) → (line ≡ entry_line entry) × IsTraceEntry entry
item_line line entry e =
    let says = body_line-is (words_in line) (body.Item entry) e in
    (line_is line (entry_words entry) says.0, says.1)

pub item_back : (entry : Entry) → IsTraceEntry entry → body_line (words_in (entry_line entry)) ≡ Some (body.Item entry)
item_back entry good = ap body_line (words_back (conn_word entry) (act_words entry.act) (entry_free entry good)) ∙ body_line-entry entry good

last_line : (line : List ℕ) (count : ℕ) → body_line (words_in line) ≡ Some (body.End count) → (line ≡ end_line count) × IsNumber count
last_line line count e =
    let says = body_line-is (words_in line) (body.End count) e in
    (line_is line (end_words count) says.0, says.1)

last_back : (count : ℕ) → IsNumber count → body_line (words_in (end_line count)) ≡ Some (body.End count)
last_back count small = ap body_line (words_back (codes "end") (decimal count ∷ []) (end_free count small)) ∙ body_line-end count small

first_line : (line : List ℕ) (head : Head) → head_of (words_in line) ≡ Some head → (line ≡ head_line head.workers head.limit) × IsHead head.workers head.limit
first_line line head e =
    let says = head_of-is (words_in line) head e in
    (line_is line (head_words head.workers head.limit) says.0, says.1)

first_back : (workers limit : ℕ) → IsHead workers limit → head_of (words_in (head_line workers limit)) ≡ Some (record { workers = workers; limit = limit })
first_back workers limit good =
    let small = head_small workers limit good in
    ap head_of (words_back (codes "modmap-trace") (codes "1" ∷ decimal workers ∷ decimal limit ∷ []) (head_free workers limit small.0 small.1)) ∙ head_of-back workers limit good

no_body : (line : List ℕ) → body_line (words_in line) ≡ None → IsNoBodyLine line
no_body line none = record {
  no_entry = λ entry good same. none_some _ (sym none ∙ ap (λ l. body_line (words_in l)) same ∙ item_back entry good);
  no_end = λ count small same. none_some _ (sym none ∙ ap (λ l. body_line (words_in l)) same ∙ last_back count small);
}

no_head : (line : List ℕ) → head_of (words_in line) ≡ None → IsNoHeadLine line
no_head line none workers limit good same = none_some _ (sym none ∙ ap (λ l. head_of (words_in l)) same ∙ first_back workers limit good)

-- ---- the lines of a trace

pub entries_free : (entries : List Entry) (last : List (List ℕ)) → All IsTraceEntry entries → AreLines last → AreLines (map entry_line entries ++ last)
entries_free [] last each free = free
entries_free (entry ∷ entries) last each free =
    (spaced_free (entry_words entry) (entry_free entry (All-head IsTraceEntry entry entries each)), entries_free entries last (All-tail IsTraceEntry entry entries each) free)

lines_free : (workers limit : ℕ) (entries : List Entry) (last : List (List ℕ)) → IsHead workers limit → All IsTraceEntry entries → AreLines last → AreLines (first_lines workers limit entries ++ last)
lines_free workers limit entries last good each free =
    let small = head_small workers limit good in
    (spaced_free (head_words workers limit) (head_free workers limit small.0 small.1), entries_free entries last each free)

first_free : (workers limit : ℕ) (entries : List Entry) → IsHead workers limit → All IsTraceEntry entries → AreLines (first_lines workers limit entries)
first_free workers limit entries good each =
    subst AreLines (append-nil (first_lines workers limit entries)) (lines_free workers limit entries [] good each tt)

-- the lines of the text of a trace
pub trace_lines-of : (text : List ℕ) (workers limit : ℕ) (entries : List Entry) → IsTraceText text workers limit entries → lines_of text ≡ trace_lines workers limit entries
trace_lines-of text workers limit entries is = by is.whole
  where
    last_free : is_free newline (end_line (length entries)) ≡ true
    last_free = spaced_free (end_words (length entries)) (end_free (length entries) is.few)

    by : (text ≡ trace workers limit entries) ⊎ (ended text ≡ trace workers limit entries) → lines_of text ≡ trace_lines workers limit entries
    by (inl e) = ap lines_of e ∙ lines_back (trace_lines workers limit entries) (lines_free workers limit entries (end_line (length entries) ∷ []) is.head is.each (last_free, tt))
    by (inr e) = lines_lacking text (first_lines workers limit entries) _ _ (first_free workers limit entries is.head is.each) last_free e

-- ---- what is read is so

-- what the reading tells of the text
abbrev Fits : List ℕ → Result Trace Fault → Type 0
Fits text (Ok final) = IsTraceText text final.workers final.limit final.entries
Fits text (Err fault) = IsFault text fault.line fault.reason

-- the lines are those of the trace so far
record Opens (before : List (List ℕ)) (sofar : Trace) : Type 0 where
  head : IsHead sofar.workers sofar.limit
  each : All IsTraceEntry sofar.entries
  same : before ≡ first_lines sofar.workers sofar.limit sofar.entries

begins : (before : List (List ℕ)) (sofar : Trace) → Opens before sofar → Begins before sofar.entries
begins before sofar o = record { workers = sofar.workers; limit = sofar.limit; head = o.head; each = o.each; same = o.same }

opens_more : (before : List (List ℕ)) (sofar : Trace) (line : List ℕ) (entry : Entry) → Opens before sofar → line ≡ entry_line entry → IsTraceEntry entry → Opens (before ++ line ∷ []) (with_entry sofar entry)
opens_more before sofar line entry o same good = record {
  head = o.head;
  each = All-push IsTraceEntry sofar.entries entry o.each good;
  same =
      ap (λ ls. ls ++ line ∷ []) o.same
      ∙ ap (λ l. first_lines sofar.workers sofar.limit sofar.entries ++ l ∷ []) same
      ∙ ap (λ ls. head_line sofar.workers sofar.limit ∷ ls) (sym (map-append entry_line sofar.entries (entry ∷ [])));
}

whole_text : (text : List ℕ) (before : List (List ℕ)) (sofar : Trace) (line : List ℕ) → Opens before sofar → IsNumber (length sofar.entries) → line ≡ end_line (length sofar.entries) → lines_of text ≡ before ++ line ∷ [] → IsTraceText text sofar.workers sofar.limit sofar.entries
whole_text text before sofar line o few last whole = record {
  head = o.head;
  each = o.each;
  few = few;
  whole = subst (IsTextOf text) (whole ∙ ap (λ ls. ls ++ line ∷ []) o.same ∙ ap (λ l. first_lines sofar.workers sofar.limit sofar.entries ++ l ∷ []) last) (text_is text);
}

length_push : (before : List (List ℕ)) (line : List ℕ) → length before + 1 + 1 ≡ length (before ++ line ∷ []) + 1
length_push before line = omega (arith, length-append before (line ∷ []))

fits_behind : (text : List ℕ) → (lines before : List (List ℕ)) (sofar : Trace) → Opens before sofar → lines_of text ≡ before ++ lines → Fits text (read_behind sofar (length before + 1) lines)
fits_behind text [] before sofar o whole =
    let same = whole ∙ append-nil before in
    inr (record {
      good = inr (sofar.entries, subst (λ ls. Begins ls sofar.entries) (sym same) (begins before sofar o));
      reason_is = refl;
      number_is = ap (λ (ls : List (List ℕ)). length ls + 1) (sym same);
    })
fits_behind text (line ∷ lines) before sofar o whole = by (body_line (words_in line)) refl (λ next o' whole'. fits_behind text lines (before ++ line ∷ []) next o' whole')
  where
    moved : lines_of text ≡ (before ++ line ∷ []) ++ lines
    moved = whole ∙ sym (append_assoc before (line ∷ []) lines)

    ends : (count : ℕ) → line ≡ end_line count → IsNumber count → (b : Bool) → (count == length sofar.entries) ≡ b → (rest : List (List ℕ)) → lines ≡ rest
        → Fits text (if b then if_last sofar (length before + 1) rest else fault_at (length before + 1) WrongCount)
    ends count last small true t [] r =
        let same = eqb-true count (length sofar.entries) t in
        whole_text text before sofar line o (subst IsNumber same small) (last ∙ ap end_line same) (whole ∙ ap (λ ls. before ++ line ∷ ls) r)
    ends count last small true t (other ∷ rest) r =
        let same = eqb-true count (length sofar.entries) t in
        inl (record {
          before = before ++ line ∷ [];
          line = other;
          behind = rest;
          whole = moved ∙ ap (λ ls. (before ++ line ∷ []) ++ ls) r;
          fault = record { entries = sofar.entries; first = before; begins = begins before sofar o; few = subst IsNumber same small; same = ap (λ l. before ++ l ∷ []) (last ∙ ap end_line same) };
          number_is = length_push before line;
        })
    ends count last small false t rest r =
        inl (record {
          before = before;
          line = line;
          behind = lines;
          whole = whole;
          fault = (sofar.entries, begins before sofar o, record { count = count; number = small; differs = λ e. true≢false (sym (eq-eqb count (length sofar.entries) e) ∙ t); same = last });
          number_is = refl;
        })

    by : (l : Option BodyLine) → body_line (words_in line) ≡ l
        → ((next : Trace) → Opens (before ++ line ∷ []) next → lines_of text ≡ (before ++ line ∷ []) ++ lines → Fits text (read_behind next (length (before ++ line ∷ []) + 1) lines))
        → Fits text (take_line l sofar (length before + 1) lines (λ next. read_behind next (length before + 1 + 1) lines))
    by (Some (body.End count)) e again =
        let last = last_line line count e in
        ends count last.0 last.1 (count == length sofar.entries) refl lines refl
    by (Some (body.Item entry)) e again =
        let item = item_line line entry e in
        subst (λ (n : ℕ). Fits text (read_behind (with_entry sofar entry) n lines)) (sym (length_push before line)) (again (with_entry sofar entry) (opens_more before sofar line entry o item.0 item.1) moved)
    by None e again =
        inl (record {
          before = before;
          line = line;
          behind = lines;
          whole = whole;
          fault = inr (sofar.entries, begins before sofar o, no_body line e);
          number_is = refl;
        })

-- what is read of a text is its trace, or its first fault
fits : (text : List ℕ) → Fits text (reading text)
unfolding reading
fits text = by (lines_of text) refl
  where
    headed : (line : List ℕ) (lines : List (List ℕ)) → lines_of text ≡ line ∷ lines → (h : Option Head) → head_of (words_in line) ≡ h → Fits text (read_body h lines)
    headed line lines whole (Some head) e =
        let first = first_line line head e in
        fits_behind text lines (line ∷ []) (begun head) (record { head = first.1; each = All-nil IsTraceEntry; same = ap (λ l. l ∷ []) first.0 }) whole
    headed line lines whole None e =
        inl (record { before = []; line = line; behind = lines; whole = whole; fault = inl (refl, no_head line e); number_is = refl })

    by : (ls : List (List ℕ)) → lines_of text ≡ ls → Fits text (read_lines ls)
    by [] whole = inr (record { good = inl whole; reason_is = refl; number_is = ap (λ (ls : List (List ℕ)). length ls + 1) (sym whole) })
    by (line ∷ lines) whole = headed line lines whole (head_of (words_in line)) refl

-- ---- what an answer tells

pub answer_trace : (text : List ℕ) (answer : Result Trace TraceError) → Answers (reading text) answer → IfOk answer (λ t. IsTraceText text t.workers t.limit t.entries)
answer_trace text (Ok t) h = subst (Fits text) h (fits text)
answer_trace text (Err error) h = tt

pub answer_fault : (text : List ℕ) (answer : Result Trace TraceError) → Answers (reading text) answer → IfErr answer (λ error. TellsFault text error)
answer_fault text (Ok t) h = tt
answer_fault text (Err (Text line reason)) h = subst (Fits text) h (fits text)
answer_fault text (Err Memory) h = tt

-- ---- what is so is what the reading says

-- a trace by its parts
abbrev trace_by : ℕ → ℕ → List Entry → Trace
trace_by workers limit entries = record { workers = workers; limit = limit; entries = entries }

-- entries are gone over
read_behind-good : (workers limit : ℕ) → (more before : List Entry) (number : ℕ) (lines : List (List ℕ)) → All IsTraceEntry more
    → read_behind (trace_by workers limit before) number (map entry_line more ++ lines) ≡ read_behind (trace_by workers limit (before ++ more)) (number + length more) lines
read_behind-good workers limit [] before number lines each =
    ap (λ es. read_behind (trace_by workers limit es) number lines) (sym (append-nil before))
    ∙ ap (λ n. read_behind (trace_by workers limit (before ++ [])) n lines) (omega arith)
read_behind-good workers limit (entry ∷ more) before number lines each =
    ap (λ (l : Option BodyLine). take_line l (trace_by workers limit before) number (map entry_line more ++ lines) (λ next. read_behind next (number + 1) (map entry_line more ++ lines))) (item_back entry (All-head IsTraceEntry entry more each))
    ∙ read_behind-good workers limit more (before ++ entry ∷ []) (number + 1) lines (All-tail IsTraceEntry entry more each)
    ∙ ap (λ es. read_behind (trace_by workers limit es) (number + 1 + length more) lines) (append_assoc before (entry ∷ []) more)
    ∙ ap (λ n. read_behind (trace_by workers limit (before ++ entry ∷ more)) n lines) (omega arith)

-- and the first line before them
reading_begun : (text : List ℕ) (workers limit : ℕ) (entries : List Entry) (lines : List (List ℕ)) → IsHead workers limit → All IsTraceEntry entries → lines_of text ≡ first_lines workers limit entries ++ lines
    → reading text ≡ read_behind (trace_by workers limit entries) (2 + length entries) lines
unfolding reading
reading_begun text workers limit entries lines good each whole =
    ap read_lines whole
    ∙ ap (λ (h : Option Head). read_body h (map entry_line entries ++ lines)) (first_back workers limit good)
    ∙ read_behind-good workers limit entries [] 2 lines each

begun_is : (text : List ℕ) (before : List (List ℕ)) (entries : List Entry) (lines : List (List ℕ)) (b : Begins before entries) → lines_of text ≡ before ++ lines
    → reading text ≡ read_behind (trace_by b.workers b.limit entries) (2 + length entries) lines
begun_is text before entries lines b whole =
    reading_begun text b.workers b.limit entries lines b.head b.each (whole ∙ ap (λ ls. ls ++ lines) b.same)

length_begun : (before : List (List ℕ)) (entries : List Entry) → Begins before entries → length before ≡ 1 + length entries
length_begun before entries b = ap length b.same ∙ (let same : length (map entry_line entries) ≡ length entries = length-map entries entry_line in omega arith)

-- a text of a trace is read as that
pub reading_trace : (text : List ℕ) (workers limit : ℕ) (entries : List Entry) → IsTraceText text workers limit entries → reading text ≡ Ok (trace_by workers limit entries)
reading_trace text workers limit entries is =
    reading_begun text workers limit entries (end_line (length entries) ∷ []) is.head is.each (trace_lines-of text workers limit entries is)
    ∙ ap (λ (l : Option BodyLine). take_line l (trace_by workers limit entries) (2 + length entries) [] (λ next. read_behind next (2 + length entries + 1) [])) (last_back (length entries) is.few)
    ∙ cond-true _ _ _ (eq-eqb (length entries) (length entries) refl)

-- a fault by its parts
abbrev fault_by : ℕ → TraceReason → Fault
fault_by line reason = record { line = line; reason = reason }

at_number : (m n : ℕ) (reason : TraceReason) → m ≡ n → (let r : Result Trace Fault = fault_at m reason in r) ≡ Err (fault_by n reason)
at_number m n reason e = ap (λ k. Err (fault_by k reason)) e

head_none : (line : List ℕ) → IsNoHeadLine line → head_of (words_in line) ≡ None
head_none line none = by (head_of (words_in line)) refl
  where
    by : (h : Option Head) → head_of (words_in line) ≡ h → h ≡ None
    by None e = refl
    by (Some head) e = let first = first_line line head e in absurd (none head.workers head.limit first.1 first.0)

body_none : (line : List ℕ) → IsNoBodyLine line → body_line (words_in line) ≡ None
body_none line none = by (body_line (words_in line)) refl
  where
    by : (l : Option BodyLine) → body_line (words_in line) ≡ l → l ≡ None
    by None e = refl
    by (Some (body.End count)) e = let last = last_line line count e in absurd (none.no_end count last.1 last.0)
    by (Some (body.Item entry)) e = let item = item_line line entry e in absurd (none.no_entry entry item.1 item.0)

faulty : (text : List ℕ) (number : ℕ) (reason : TraceReason) (before : List (List ℕ)) (line : List ℕ) (behind : List (List ℕ))
    → lines_of text ≡ before ++ line ∷ behind → IsFaultyBehind reason before line → number ≡ length before + 1 → reading text ≡ Err (fault_by number reason)
unfolding reading
faulty text number Syntax before line behind whole (inl first) is =
    ap read_lines (whole ∙ ap (λ ls. ls ++ line ∷ behind) first.0)
    ∙ ap (λ (h : Option Head). read_body h behind) (head_none line first.1)
    ∙ at_number 1 number Syntax (let same : number ≡ 1 = is ∙ ap (λ (ls : List (List ℕ)). length ls + 1) first.0 in sym same)
faulty text number Syntax before line behind whole (inr body_fault) is =
    let b = body_fault.1 in
    let size = length_begun before body_fault.0 b in
    begun_is text before body_fault.0 (line ∷ behind) b whole
    ∙ ap (λ (l : Option BodyLine). take_line l (trace_by b.workers b.limit body_fault.0) (2 + length body_fault.0) behind (λ next. read_behind next (2 + length body_fault.0 + 1) behind)) (body_none line body_fault.2)
    ∙ at_number _ number Syntax (omega arith)
faulty text number WrongCount before line behind whole wrong is =
    let b = wrong.1 in
    let size = length_begun before wrong.0 b in
    begun_is text before wrong.0 (line ∷ behind) b whole
    ∙ ap (λ (l : Option BodyLine). take_line l (trace_by b.workers b.limit wrong.0) (2 + length wrong.0) behind (λ next. read_behind next (2 + length wrong.0 + 1) behind)) (ap (λ l. body_line (words_in l)) wrong.2.same ∙ last_back wrong.2.count wrong.2.number)
    ∙ cond-false _ _ _ (ne_eqb wrong.2.count (length wrong.0) wrong.2.differs)
    ∙ at_number _ number WrongCount (omega arith)
faulty text number MoreText before line behind whole over is =
    let b = over.begins in
    let size = length_begun over.first over.entries b in
    let longer : length before ≡ length over.first + 1 = ap length over.same ∙ length-append over.first (end_line (length over.entries) ∷ []) in
    begun_is text over.first over.entries (end_line (length over.entries) ∷ line ∷ behind) b (whole ∙ ap (λ ls. ls ++ line ∷ behind) over.same ∙ append_assoc over.first (end_line (length over.entries) ∷ []) (line ∷ behind))
    ∙ ap (λ (l : Option BodyLine). take_line l (trace_by b.workers b.limit over.entries) (2 + length over.entries) (line ∷ behind) (λ next. read_behind next (2 + length over.entries + 1) (line ∷ behind))) (last_back (length over.entries) over.few)
    ∙ cond-true _ _ _ (eq-eqb (length over.entries) (length over.entries) refl)
    ∙ at_number _ number MoreText (omega arith)
faulty text number NoEnd before line behind whole never is = absurd never

lacking : (text : List ℕ) (number : ℕ) → (lines_of text ≡ []) ⊎ ((entries : List Entry) × Begins (lines_of text) entries) → number ≡ length (lines_of text) + 1 → reading text ≡ Err (fault_by number NoEnd)
unfolding reading
lacking text number (inl none) is =
    ap read_lines none ∙ at_number 1 number NoEnd (let same : number ≡ 1 = is ∙ ap (λ (ls : List (List ℕ)). length ls + 1) none in sym same)
lacking text number (inr found) is =
    let size = length_begun (lines_of text) found.0 found.1 in
    begun_is text (lines_of text) found.0 [] found.1 (sym (append-nil (lines_of text))) ∙ at_number _ number NoEnd (omega arith)

-- a text with a fault is read as that
pub reading_fault : (text : List ℕ) (number : ℕ) (reason : TraceReason) → IsFault text number reason → reading text ≡ Err (fault_by number reason)
reading_fault text number reason (inl f) = faulty text number reason f.before f.line f.behind f.whole f.fault f.number_is
reading_fault text number reason (inr f) = lacking text number f.good f.number_is ∙ ap (λ r. Err (fault_by number r)) (sym f.reason_is)

-- ---- there is one reading

same_trace : (one other : Trace) → (let r : Result Trace Fault = Ok one in r) ≡ Ok other → one ≡ other
same_trace one other e = cc

same_fault : (one other : Fault) → (let r : Result Trace Fault = Err one in r) ≡ Err other → one ≡ other
same_fault one other e = cc

apart : (one : Trace) (other : Fault) → (let r : Result Trace Fault = Ok one in r) ≡ Err other → ⊥
apart one other e = cc

pub one_trace : (text : List ℕ) (workers workers' limit limit' : ℕ) (entries entries' : List Entry) → IsTraceText text workers limit entries → IsTraceText text workers' limit' entries' → (workers ≡ workers') × (limit ≡ limit') × (entries ≡ entries')
one_trace text workers workers' limit limit' entries entries' p q =
    let same = same_trace (trace_by workers limit entries) (trace_by workers' limit' entries') (sym (reading_trace text workers limit entries p) ∙ reading_trace text workers' limit' entries' q) in
    (ap (λ (t : Trace). t.workers) same, ap (λ (t : Trace). t.limit) same, ap (λ (t : Trace). t.entries) same)

pub one_fault : (text : List ℕ) (line other : ℕ) (reason why : TraceReason) → IsFault text line reason → IsFault text other why → (line ≡ other) × (reason ≡ why)
one_fault text line other reason why p q =
    let same = same_fault (fault_by line reason) (fault_by other why) (sym (reading_fault text line reason p) ∙ reading_fault text other why q) in
    (ap (λ (f : Fault). f.line) same, ap (λ (f : Fault). f.reason) same)

pub never_both : (text : List ℕ) (workers limit : ℕ) (entries : List Entry) (line : ℕ) (reason : TraceReason) → IsTraceText text workers limit entries → IsFault text line reason → ⊥
never_both text workers limit entries line reason p q = apart (trace_by workers limit entries) (fault_by line reason) (sym (reading_trace text workers limit entries p) ∙ reading_fault text line reason q)
