-- The lines of an entry that was entered, and how a replay goes over the entries of a trace.
use Rattle.std.proofs.Common.{◌≡◌, ℕ, ◌+◌, ◌<◌, ◌≤◌, Bool, true, false, cond, List, [], ◌∷◌, ◌++◌, length, map, filter, flat_map, get_or, reverse, take, drop, Option, Some, None, is_some, Result, Ok, Err, IfOk, refl, sym, ap, ap₂, subst, ◌∙◌, append_assoc, arith}
use Rattle.std.specs.Prelude.{filter_map, option_map, slice_get}
use Rattle.std.specs.Option.{option_to_list}
use Rattle.std.specs.List.{cons_option}
use Rattle.std.proofs.lemmas.List.{append-nil, map-append, reverse-append, take-append-drop, take_all, take_more}
use Rattle.std.proofs.lemmas.List.Elements.{filter-append}
use Rattle.std.proofs.lemmas.Grind.{flat_map-append}
use Rattle.std.proofs.lemmas.Option.{get_or_from_slice_get, slice_get_within}
use Rattle.mm_outside.specs.declared.errors.Failed.{Failed}
use Rattle.mm_outside.specs.Sending.{AppendsAll}
use Rattle.mm_outside.specs.Told.{Told}
use Rattle.mm_outside.proofs.ToldLemmas.{Told-map}
use Rattle.unit_registry.specs.Projects.{ProjectView}
use Rattle.histories.specs.declared.answer.Answer.{Answer}
use Rattle.histories.specs.declared.answered.Wait.{Wait}
use Rattle.histories.specs.declared.entry.Entry.{Entry}
use Rattle.histories.specs.Answered.{reserved}
use Rattle.histories.specs.Histories.{IsLegal, and_then, answered_in, fault, noted_of}
use Rattle.histories.specs.Noted.{Noted, pending, reply_in}
use Rattle.histories.proofs.Legality.{legal_one_more, legal_prefix, noted_push}
use Rattle.histories.proofs.LegalCounts.{ends_fit}
use Rattle.registry_core.specs.Ledgers.{Appends, LedgerView, Passes, answered_last, answered_with, noted_in, open_in, reply_at, waiting_in, with_entry}
use Rattle.trace_text.specs.declared.trace.Trace.{Trace}
use Rattle.mapper_server.specs.Printing.{IsCut}
use Rattle.mapper_commands.specs.Paging.{GoesOut, Puts}
use Rattle.mapper_commands.specs.Plays.{played, replies_text, reply_text}
use Rattle.mapper_commands.specs.Replays.{Found, end_line, end_text, entries_text, entry_text, found_at, found_text, placed_text}
use Rattle.mapper_commands.specs.TraceFiles.{HasForm}
use Rattle.mapper_commands.proofs.Limits.{legal_within}
use Rattle.mapper_commands.proofs.Puttings.{puts_part, puts_then}
use Rattle.mapper_commands.proofs.Replaying.{coming_is, found_after}

-- ---- the lines of replies

own_text : (project : ProjectView) (place : ℕ) (own : Option Answer) → flat_map (found_text project) (option_to_list (option_map (found_at place) own)) ≡ reply_text project place own
own_text project place (Some answer) = append-nil (found_text project (found_at place answer))
own_text project place None = refl

map_reverse : {A B : Type 0} (f : A → B) (xs : List A) → map f (reverse xs) ≡ reverse (map f xs)
map_reverse f [] = refl
map_reverse f (x ∷ xs) =
    ap (map f) (reverse-append (x ∷ []) xs) ∙ map-append f (reverse xs) (x ∷ [])
    ∙ ap (λ ys. ys ++ f x ∷ []) (map_reverse f xs) ∙ sym (reverse-append (f x ∷ []) (map f xs))

filter_reverse : {A : Type 0} (p : A → Bool) (xs : List A) → filter p (reverse xs) ≡ reverse (filter p xs)
filter_reverse p [] = refl
filter_reverse p (x ∷ xs) =
    ap (filter p) (reverse-append (x ∷ []) xs) ∙ filter-append p (reverse xs) (x ∷ [])
    ∙ ap (λ ys. ys ++ filter p (x ∷ [])) (filter_reverse p xs) ∙ last (p x)
  where
    last : (b : Bool) → reverse (filter p xs) ++ cond b (x ∷ []) [] ≡ reverse (cond b (x ∷ filter p xs) (filter p xs))
    last true = sym (reverse-append (x ∷ []) (filter p xs))
    last false = append-nil (reverse (filter p xs))

-- the lines of those imports that have a reply are the lines at their places
module _ (project : ProjectView) (reply : ℕ → Option Answer) where
  abbrev found : Wait → Option Found
  found w = option_map (found_at w.place) (reply w.place)

  abbrev replied : Wait → Bool
  replied w = is_some (reply w.place)

  abbrev line_at : ℕ → List ℕ
  line_at place = reply_text project place (reply place)

  texts_at : (ws : List Wait) → flat_map (found_text project) (filter_map found ws) ≡ flat_map line_at (map (λ (w : Wait). w.place) (filter replied ws))
  texts_at [] = refl
  texts_at (w ∷ ws) = by (reply w.place) refl (texts_at ws)
    where
      by : (own : Option Answer) → reply w.place ≡ own → flat_map (found_text project) (filter_map found ws) ≡ flat_map line_at (map (λ (w : Wait). w.place) (filter replied ws))
          → flat_map (found_text project) (cons_option (option_map (found_at w.place) own) (filter_map found ws)) ≡ flat_map line_at (map (λ (w : Wait). w.place) (cond (is_some own) (w ∷ filter replied ws) (filter replied ws)))
      by (Some answer) is rest = ap₂ (λ (a b : List ℕ). a ++ b) (ap (reply_text project w.place) (sym is)) rest
      by None is rest = rest

-- ---- an entry after a history

module _ (ledger : LedgerView) (entry : Entry) (legal : IsLegal ledger.project ledger.workers ledger.limit ledger.entries) where
  abbrev project : ProjectView
  project = ledger.project

  abbrev noted : List Noted
  noted = noted_in ledger

  abbrev later : List Noted
  later = and_then project ledger.workers noted entry

  abbrev after : LedgerView
  after = with_entry ledger entry

  abbrev place : ℕ
  place = length ledger.entries

  abbrev has_reply : Wait → Bool
  has_reply w = is_some (reply_in project later w.place)

  places_are : map (λ (w : Wait). w.place) (filter has_reply (reverse (pending project noted))) ≡ answered_with project later
  places_are = ap (map (λ (w : Wait). w.place)) (filter_reverse has_reply (pending project noted)) ∙ map_reverse (λ (w : Wait). w.place) (filter has_reply (pending project noted))

  replies_are : flat_map (found_text project) (filter_map (found_after project ledger.workers noted entry) (reverse (pending project noted))) ≡ replies_text project after (answered_last after)
  replies_are =
      texts_at project (reply_in project later) (reverse (pending project noted))
      ∙ ap (flat_map (λ k. reply_text project k (reply_in project later k))) places_are
      ∙ sym (ap (λ (n : List Noted). flat_map (λ k. reply_text project k (reply_in project n k)) (answered_with project n)) (noted_push project ledger.workers ledger.entries entry))

  lines_are : entry_text project ledger.workers ledger.entries entry ≡ placed_text place entry ++ (replies_text project after (answered_last after) ++ reply_text project place (reply_at after place))
  lines_are =
      ap (λ t. placed_text place entry ++ t)
      (ap (flat_map (found_text project)) (coming_is project ledger.workers ledger.limit ledger.entries entry legal)
      ∙ flat_map-append (found_text project) (filter_map (found_after project ledger.workers noted entry) (reverse (pending project noted))) (option_to_list (option_map (found_at place) (reply_at after place)))
      ∙ ap₂ (λ (a b : List ℕ). a ++ b) replies_are (own_text project place (reply_at after place)))

-- ---- the same, of a book: what the entry is, the replies that came with it to imports before it, and its own

module _ (project : ProjectView) (before after : LedgerView) (entry : Entry) (of : before.project ≡ project) (enters : Appends before entry after) (place : ℕ) (at : place ≡ length before.entries) (own : Option Answer) (own_is : own ≡ reply_at after place) where
  abbrev head_text : List ℕ
  head_text = placed_text place entry

  abbrev others_text : List ℕ
  others_text = replies_text project after (answered_last after)

  abbrev whole_text : List ℕ
  whole_text = entry_text project before.workers before.entries entry

  lines_entered : whole_text ≡ head_text ++ (others_text ++ reply_text project place own)
  lines_entered =
      ap (λ p. entry_text p before.workers before.entries entry) (sym of)
      ∙ lines_are before entry enters.legal.legal
      ∙ ap (λ (l : LedgerView). placed_text (length before.entries) entry ++ (replies_text before.project l (answered_last l) ++ reply_text before.project (length before.entries) (reply_at l (length before.entries)))) (sym enters.appended)
      ∙ ap (λ k. placed_text k entry ++ (replies_text before.project after (answered_last after) ++ reply_text before.project k (reply_at after k))) (sym at)
      ∙ ap₂ (λ p o. placed_text place entry ++ (replies_text p after (answered_last after) ++ reply_text p place o)) of (sym own_is)

  module _ (a b c d : Option (List ℕ)) (h0 h1 h2 h3 : List ℕ) where
    so : (result : Result (Unit {0}) Failed) (h : List ℕ) (x : Option (List ℕ)) → Puts result (head_text ++ (others_text ++ reply_text project place own)) h0 h a x → Puts result whole_text h0 h a x
    so result h x = subst (λ t. Puts result t h0 h a x) (sym lines_entered)

    -- a part of the first
    pub head_stops : (failed : Failed) → Puts (Err failed) head_text h0 h1 a b → Puts (Err failed) whole_text h0 h1 a b
    head_stops failed first = so (Err failed) h1 b (puts_part failed head_text (others_text ++ reply_text project place own) h0 h1 h1 a b first)

    -- or of the second
    pub others_stop : (done : Unit {0}) (failed : Failed) → Puts (Ok done) head_text h0 h1 a b → Puts (Err failed) others_text h1 h2 b c → Puts (Err failed) whole_text h0 h2 a c
    others_stop done failed first second = so (Err failed) h2 c (puts_then a b c (Err failed) done head_text (others_text ++ reply_text project place own) h0 h1 h2 first (puts_part failed others_text (reply_text project place own) h1 h2 h2 b c second))

    -- or the last
    pub entry_puts : (done also : Unit {0}) (result : Result (Unit {0}) Failed) → Puts (Ok done) head_text h0 h1 a b → Puts (Ok also) others_text h1 h2 b c → Puts result (reply_text project place own) h2 h3 c d → Puts result whole_text h0 h3 a d
    entry_puts done also result first second third = so result h3 d (puts_then a b d result done head_text (others_text ++ reply_text project place own) h0 h1 h3 first (puts_then b c d result also others_text (reply_text project place own) h1 h2 h3 second third))

-- ---- the replies to imports before it, one by one

module _ (project : ProjectView) (ledger : LedgerView) (items places : List ℕ) (are : items ≡ places) (k : ℕ) (within : k < length items) (own : Option Answer) (own_is : own ≡ reply_at ledger (get_or items k 0)) (a b c : Option (List ℕ)) (h0 h1 h2 : List ℕ) where
  abbrev there : ℕ
  there = get_or items k 0

  abbrev line_of : ℕ → List ℕ
  line_of n = reply_text project n (reply_at ledger n)

  texts_next : replies_text project ledger (take (k + 1) places) ≡ replies_text project ledger (take k places) ++ reply_text project there own
  texts_next =
      ap (flat_map line_of) (take_more places k 0 (subst (λ (xs : List ℕ). k < length xs) are within))
      ∙ flat_map-append line_of (take k places) (get_or places k 0 ∷ [])
      ∙ ap (λ t. replies_text project ledger (take k places) ++ t) (append-nil (line_of (get_or places k 0)) ∙ ap (λ (xs : List ℕ). line_of (get_or xs k 0)) (sym are) ∙ ap (reply_text project there) (sym own_is))

  texts_whole : replies_text project ledger places ≡ (replies_text project ledger (take k places) ++ reply_text project there own) ++ replies_text project ledger (drop (k + 1) places)
  texts_whole =
      ap (flat_map line_of) (sym (take-append-drop (k + 1) places))
      ∙ flat_map-append line_of (take (k + 1) places) (drop (k + 1) places)
      ∙ ap (λ t. t ++ replies_text project ledger (drop (k + 1) places)) texts_next

  -- one more line
  pub puts_reply_next : (done also : Unit {0}) → Puts (Ok done) (replies_text project ledger (take k places)) h0 h1 a b → Puts (Ok also) (reply_text project there own) h1 h2 b c → Puts (Ok also) (replies_text project ledger (take (k + 1) places)) h0 h2 a c
  puts_reply_next done also first second =
      subst (λ t. Puts (Ok also) t h0 h2 a c) (sym texts_next) (puts_then a b c (Ok also) done (replies_text project ledger (take k places)) (reply_text project there own) h0 h1 h2 first second)

  -- or a part of all lines
  pub puts_reply_stop : (done : Unit {0}) (failed : Failed) → Puts (Ok done) (replies_text project ledger (take k places)) h0 h1 a b → Puts (Err failed) (reply_text project there own) h1 h2 b c → Puts (Err failed) (replies_text project ledger places) h0 h2 a c
  puts_reply_stop done failed first second =
      subst (λ t. Puts (Err failed) t h0 h2 a c) (sym texts_whole)
      (puts_part failed (replies_text project ledger (take k places) ++ reply_text project there own) (replies_text project ledger (drop (k + 1) places)) h0 h2 h2 a c
      (puts_then a b c (Err failed) done (replies_text project ledger (take k places)) (reply_text project there own) h0 h1 h2 first second))

-- ---- the text of entries

entries_join : (project : ProjectView) (workers : ℕ) (more before : List Entry) → (xs : List Entry) → entries_text project workers before (xs ++ more) ≡ entries_text project workers before xs ++ entries_text project workers (before ++ xs) more
entries_join project workers more before [] = ap (λ b. entries_text project workers b more) (sym (append-nil before))
entries_join project workers more before (x ∷ xs) =
    ap (λ t. entry_text project workers before x ++ t) (entries_join project workers more (before ++ x ∷ []) xs ∙ ap (λ b. entries_text project workers (before ++ x ∷ []) xs ++ entries_text project workers b more) (append_assoc before (x ∷ []) xs))
    ∙ sym (append_assoc (entry_text project workers before x) (entries_text project workers (before ++ x ∷ []) xs) (entries_text project workers (before ++ x ∷ xs) more))

-- ---- an entry of a trace

module _ (entries : List Entry) (place : ℕ) (entry : Entry) (at : slice_get entries place ≡ Some entry) where
  within : place < length entries
  within = slice_get_within entries place entry at

  -- the entries up to it
  pub up_to : take (place + 1) entries ≡ take place entries ++ entry ∷ []
  up_to = take_more entries place entry within ∙ ap (λ x. take place entries ++ x ∷ []) (get_or_from_slice_get entries place entry entry at)

  -- it passes the checks after those before it
  pub passes_at : (project : ProjectView) (workers limit : ℕ) → IsLegal project workers limit entries → fault project workers limit (noted_of project workers (take place entries)) entry ≡ None
  passes_at project workers limit legal =
      ((legal_one_more project workers limit (take place entries) entry).0
      (subst (λ front. IsLegal project workers limit front) up_to
      (legal_prefix project workers limit (take (place + 1) entries) (drop (place + 1) entries) (subst (λ all. IsLegal project workers limit all) (sym (take-append-drop (place + 1) entries)) legal)))).1

  -- the text up to it
  pub text_up_to : (project : ProjectView) (workers : ℕ) → entries_text project workers [] (take (place + 1) entries) ≡ entries_text project workers [] (take place entries) ++ entry_text project workers (take place entries) entry
  text_up_to project workers =
      ap (entries_text project workers []) up_to
      ∙ entries_join project workers (entry ∷ []) [] (take place entries)
      ∙ ap (λ t. entries_text project workers [] (take place entries) ++ t) (append-nil (entry_text project workers (take place entries) entry))

  -- and the whole text
  pub text_after : (project : ProjectView) (workers : ℕ) → entries_text project workers [] entries ≡ (entries_text project workers [] (take place entries) ++ entry_text project workers (take place entries) entry) ++ entries_text project workers (take (place + 1) entries) (drop (place + 1) entries)
  text_after project workers =
      ap (entries_text project workers []) (sym (take-append-drop (place + 1) entries))
      ∙ entries_join project workers (drop (place + 1) entries) [] (take (place + 1) entries)
      ∙ ap (λ t. t ++ entries_text project workers (take (place + 1) entries) (drop (place + 1) entries)) (text_up_to project workers)

-- ---- going over the entries

module _ (project : ProjectView) (trace : Trace) (place : ℕ) (entry : Entry) (at : slice_get trace.entries place ≡ Some entry) (before : LedgerView) (is : before ≡ played project trace place) where
  -- the next entry passes the checks
  pub next_passes : IsLegal project trace.workers trace.limit trace.entries → Passes before entry
  next_passes legal = subst (λ (l : LedgerView). Passes l entry) (sym is) (passes_at trace.entries place entry at project trace.workers (played project trace place).limit (legal_within project trace.workers trace.limit trace.entries legal))

  -- and then it was entered
  pub played_next : (next : LedgerView) → Appends before entry next → next ≡ played project trace (place + 1)
  played_next next enters = enters.appended ∙ ap (λ (l : LedgerView). with_entry l entry) is ∙ ap (λ (entries : List Entry). record (played project trace place) { entries = entries }) (sym (up_to trace.entries place entry at))

  module _ (a b c : Option (List ℕ)) (h0 h1 h2 : List ℕ) where
    same_lines : (result : Result (Unit {0}) Failed) → Puts result (entry_text project before.workers before.entries entry) h1 h2 b c → Puts result (entry_text project trace.workers (take place trace.entries) entry) h1 h2 b c
    same_lines result = subst (λ (l : LedgerView). Puts result (entry_text project l.workers l.entries entry) h1 h2 b c) is

    -- its lines come after those of the entries before it
    pub puts_next : (done also : Unit {0}) → Puts (Ok done) (entries_text project trace.workers [] (take place trace.entries)) h0 h1 a b → Puts (Ok also) (entry_text project before.workers before.entries entry) h1 h2 b c → Puts (Ok also) (entries_text project trace.workers [] (take (place + 1) trace.entries)) h0 h2 a c
    puts_next done also first second =
        subst (λ t. Puts (Ok also) t h0 h2 a c) (sym (text_up_to trace.entries place entry at project trace.workers))
        (puts_then a b c (Ok also) done (entries_text project trace.workers [] (take place trace.entries)) (entry_text project trace.workers (take place trace.entries) entry) h0 h1 h2 first (same_lines (Ok also) second))

    -- or a part of all
    pub puts_stop : (done : Unit {0}) (failed : Failed) → Puts (Ok done) (entries_text project trace.workers [] (take place trace.entries)) h0 h1 a b → Puts (Err failed) (entry_text project before.workers before.entries entry) h1 h2 b c → Puts (Err failed) (entries_text project trace.workers [] trace.entries) h0 h2 a c
    puts_stop done failed first second =
        subst (λ t. Puts (Err failed) t h0 h2 a c) (sym (text_after trace.entries place entry at project trace.workers))
        (puts_part failed (entries_text project trace.workers [] (take place trace.entries) ++ entry_text project trace.workers (take place trace.entries) entry) (entries_text project trace.workers (take (place + 1) trace.entries) (drop (place + 1) trace.entries)) h0 h2 h2 a c
        (puts_then a b c (Err failed) done (entries_text project trace.workers [] (take place trace.entries)) (entry_text project trace.workers (take place trace.entries) entry) h0 h1 h2 first (same_lines (Err failed) second)))

-- ---- the last line

-- the last line, when all entries were entered
pub end_is : (project : ProjectView) (trace : Trace) (ledger : LedgerView) → ledger ≡ played project trace (length trace.entries) → end_line (open_in ledger) (waiting_in ledger) ≡ end_text project trace.workers trace.entries
end_is project trace ledger is =
    ap (λ (l : LedgerView). end_line (open_in l) (waiting_in l)) is
    ∙ ap (λ (entries : List Entry). end_text project trace.workers entries) (take_all (length trace.entries) trace.entries (omega arith))

-- what was put and written
pub written_whole : (done : Unit {0}) (text : List ℕ) (h0 h1 : List ℕ) (a b : Option (List ℕ)) → h0 ≡ [] → h1 ≡ [] → Puts (Ok done) text h0 h1 a b → Told (AppendsAll {T = Unit {0}} {E = Failed} (Ok done) text) a b
written_whole done text h0 h1 a b none empty = Told-map {R = GoesOut text h0 h1} (λ x y p. p.written ∙ ap (λ t. x ++ t) (sym (append-nil p.gone) ∙ ap (λ h. p.gone ++ h) (sym empty) ∙ p.parts ∙ ap (λ h. h ++ text) none))

pub written_part : (failed : Failed) (text : List ℕ) (h0 h1 : List ℕ) (a b : Option (List ℕ)) → h0 ≡ [] → Puts (Err failed) text h0 h1 a b → Told (AppendsAll {T = Unit {0}} {E = Failed} (Err failed) text) a b
written_part failed text h0 h1 a b none = Told-map {R = IsCut (h0 ++ text)} (λ x y p. (p.count, subst (λ h. p.count < length (h ++ text)) none p.proper, p.appended ∙ ap (λ h. x ++ take p.count (h ++ text)) none))

-- ---- the room of a book

-- a legal trace has no more entries than any may have
pub few_entries : (project : ProjectView) (trace : Trace) → HasForm trace → IsLegal project trace.workers trace.limit trace.entries → length trace.entries ≤ 67108864
few_entries project trace form legal = below 67108864 form.head.bound (ends_fit project trace.workers trace.limit trace.entries form.head.room legal)
  where
    below : (most : ℕ) → trace.limit ≤ most → length trace.entries + reserved trace.workers (answered_in project trace.workers trace.entries) ≤ trace.limit → length trace.entries ≤ most
    below most bound fits = omega (arith, bound, fits)

-- what was put and then written, whole or a part of it
pub written_so : (result : Result (Unit {0}) Failed) (text : List ℕ) (h0 h1 : List ℕ) (a b : Option (List ℕ)) → h0 ≡ [] → IfOk result (λ done. h1 ≡ []) → Puts result text h0 h1 a b → Told (AppendsAll result text) a b
written_so (Ok done) text h0 h1 a b none empty puts = written_whole done text h0 h1 a b none empty puts
written_so (Err failed) text h0 h1 a b none empty puts = written_part failed text h0 h1 a b none puts
