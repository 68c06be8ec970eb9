-- Words without spaces and NEWLINEs: a line is its words, and a text its lines.
use Rattle.std.proofs.Common.{◌≡◌, ◌⊎◌, inl, inr, ℕ, ◌<◌, Bool, true, false, cond, not, ◌&&◌, ◌==◌, List, [], ◌∷◌, ◌++◌, Option, Some, None, refl, sym, ap, ◌∙◌, arith, eqb-true}
use Rattle.std.specs.Prelude.{codes, decimal, IfSome, flat_map, All, nat_le, nat_lt, if◌then◌else◌}
use Rattle.std.specs.Char.{is_ascii_digit}
use Rattle.std.specs.List.{list_all, onto_first}
use Rattle.std.proofs.lemmas.Bool.{and_parts, and_from, cond-false, not-true}
use Rattle.std.proofs.lemmas.Bool.Decides.{nat_tests}
use Rattle.std.proofs.lemmas.List.{append-nil, append_assoc, append_cancel_right}
use Rattle.std.proofs.lemmas.List.Elements.{All-nil, All-cons}
use Rattle.std.proofs.lemmas.List.Folds.{list_all-append}
use Rattle.std.proofs.lemmas.List.Splits.{slice_split_none, slice_split_at, join_with_byte-slice_split}
use Rattle.cody_words.specs.Octets.{newline, space}
use Rattle.mapper_requests.specs.declared.request.Bad.TheVariants.{UnknownVerb, WrongWords, BadNumber}
use Rattle.mapper_requests.proofs.Digits.{number_back}
use Rattle.mapper_requests.specs.Numbers as numbers
use Rattle.mapper_requests.specs.Numbers.{number_of, is_digits, digits_value, greatest_number}
use Rattle.unit_registry.specs.Lines.{lines_of}
use Rattle.unit_registry.specs.declared.act.Act.{Act}
use Rattle.unit_registry.specs.declared.act.Act.TheVariants.{Open, Hello, Repo, Export, Import, Compiled, Translate, Bad, Pause, Left, Lost, Done}
use Rattle.unit_registry.specs.Acts.{is_done}
use Rattle.histories.specs.declared.entry.Entry.{Entry}
use Rattle.histories.specs.Entries.{no_connection, HasNumbers, IsTraceEntry}
use Rattle.mapper_requests.specs.Numbers.{IsNumber}
use Rattle.trace_text.specs.Texts.{unit_word, act_words, conn_word, entry_words, head_words, end_words, spaced, ended}
use Rattle.trace_text.specs.Working.{is_octet, words_in}
use Rattle.trace_text.proofs.Spelled.{none_some, conn_small}

-- ---- words without an octet

-- the octet doesn't stand in the word
abbrev pub is_free : ℕ → List ℕ → Bool
is_free mark word = list_all (λ c. not (is_octet mark c)) word

pub free_All : (mark : ℕ) → (word : List ℕ) → is_free mark word ≡ true → All (λ c. is_octet mark c ≡ false) word
free_All mark [] e = All-nil _
free_All mark (c ∷ word) e =
    let parts = and_parts (not (is_octet mark c)) _ e in
    All-cons (λ x. is_octet mark x ≡ false) c word (not-true (is_octet mark c) parts.0) (free_All mark word parts.1)

digit_free : (mark c : ℕ) → mark < 48 → is_ascii_digit c ≡ true → not (c == mark) ≡ true
digit_free mark c small e = grind (arith, nat_tests)

digits_free : (mark : ℕ) → mark < 48 → (word : List ℕ) → list_all is_ascii_digit word ≡ true → is_free mark word ≡ true
digits_free mark small [] e = refl
digits_free mark small (c ∷ word) e =
    let parts = and_parts (is_ascii_digit c) _ e in
    and_from _ _ (digit_free mark c small parts.0) (digits_free mark small word parts.1)

are_digits : (n : ℕ) → IsNumber n → list_all is_ascii_digit (decimal n) ≡ true
unfolding numbers.number_of
are_digits n small = by (is_digits (decimal n) && numbers_le) refl (number_back n small)
  where
    numbers_le : Bool
    numbers_le = nat_le (digits_value (decimal n)) greatest_number

    by : (b : Bool) → (is_digits (decimal n) && numbers_le) ≡ b → (if b then Some (digits_value (decimal n)) else None) ≡ Some n → list_all is_ascii_digit (decimal n) ≡ true
    by true t e = (and_parts _ (list_all is_ascii_digit (decimal n)) (and_parts (is_digits (decimal n)) _ t).0).1
    by false t e = absurd (none_some n e)

decimal_free : (mark n : ℕ) → mark < 48 → IsNumber n → is_free mark (decimal n) ≡ true
decimal_free mark n low small = digits_free mark low (decimal n) (are_digits n small)

-- no word has a space or a NEWLINE
abbrev pub AreFree : List (List ℕ) → Type 0
AreFree [] = Unit {0}
AreFree (word ∷ words) = (is_free space word ≡ true) × (is_free newline word ≡ true) × AreFree words

unit_free : (mark : ℕ) (none : List ℕ) (u : Option ℕ) → mark < 48 → is_free mark none ≡ true → IfSome u IsNumber → is_free mark (unit_word none u) ≡ true
unit_free mark none None low free small = free
unit_free mark none (Some n) low free small = decimal_free mark n low small

space_low : space < 48
space_low = omega arith

newline_low : newline < 48
newline_low = omega arith

named_free : (u : Option ℕ) → IfSome u IsNumber → AreFree (unit_word (codes "?") u ∷ [])
named_free u small = (unit_free space (codes "?") u space_low refl small, unit_free newline (codes "?") u newline_low refl small, tt)

act_free : (act : Act) → HasNumbers act → AreFree (act_words act)
act_free Open h = (refl, refl, tt)
act_free Repo h = (refl, refl, tt)
act_free Pause h = (refl, refl, tt)
act_free Left h = (refl, refl, tt)
act_free Lost h = (refl, refl, tt)
act_free Done h = (refl, refl, tt)
act_free (Hello version unit) h =
    (refl, refl, (decimal_free space version space_low h.0, decimal_free newline version newline_low h.0, (unit_free space (codes "guest") unit space_low refl h.1, unit_free newline (codes "guest") unit newline_low refl h.1, tt)))
act_free (Export unit) h = (refl, refl, named_free unit h)
act_free (Import unit true) h = (refl, refl, named_free unit h)
act_free (Import unit false) h = (refl, refl, named_free unit h)
act_free (Compiled unit true) h = (refl, refl, named_free unit h)
act_free (Compiled unit false) h = (refl, refl, named_free unit h)
act_free (Translate true) h = (refl, refl, (refl, refl, tt))
act_free (Translate false) h = (refl, refl, (refl, refl, tt))
act_free (Bad UnknownVerb) h = (refl, refl, (refl, refl, tt))
act_free (Bad WrongWords) h = (refl, refl, (refl, refl, tt))
act_free (Bad BadNumber) h = (refl, refl, (refl, refl, tt))

who_free : (mark : ℕ) (conn : ℕ) (act : Act) → mark < 45 → (is_done act ≡ false → IsNumber conn) → is_free mark (conn_word (record { conn = conn; act = act })) ≡ true
who_free mark conn act low small = by (is_done act) refl
  where
    dash : not (45 == mark) ≡ true
    dash = grind (arith, nat_tests)

    by : (b : Bool) → is_done act ≡ b → is_free mark (if b then codes "-" else decimal conn) ≡ true
    by true d = and_from _ _ dash refl
    by false d = decimal_free mark conn (omega arith) (small d)

entry_conn : (conn : ℕ) (act : Act) → IsTraceEntry (record { conn = conn; act = act }) → is_done act ≡ false → IsNumber conn
entry_conn conn act good going =
    conn_small conn (sym (ap (λ (b : Bool). if b then conn == no_connection else nat_lt conn no_connection) going) ∙ (and_parts _ _ good.is_entry).0)

pub entry_free : (entry : Entry) → IsTraceEntry entry → AreFree (entry_words entry)
entry_free entry good =
    (who_free space entry.conn entry.act (omega arith) (entry_conn entry.conn entry.act good), who_free newline entry.conn entry.act (omega arith) (entry_conn entry.conn entry.act good), act_free entry.act good.numbers)

pub end_free : (count : ℕ) → IsNumber count → AreFree (end_words count)
end_free count small = (refl, refl, (decimal_free space count space_low small, decimal_free newline count newline_low small, tt))

pub head_free : (workers limit : ℕ) → IsNumber workers → IsNumber limit → AreFree (head_words workers limit)
head_free workers limit few small =
    (refl, refl, (refl, refl, (decimal_free space workers space_low few, decimal_free newline workers newline_low few, (decimal_free space limit space_low small, decimal_free newline limit newline_low small, tt))))

-- ---- a line is its words

-- the words of a line are those that it was made of
pub words_back : (word : List ℕ) (words : List (List ℕ)) → AreFree (word ∷ words) → words_in (spaced (word ∷ words)) ≡ word ∷ words
words_back word [] free = slice_split_none (is_octet space) word (free_All space word free.0)
words_back word (other ∷ words) free =
    slice_split_at (is_octet space) word space (spaced (other ∷ words)) (free_All space word free.0) refl
    ∙ ap (λ ws. word ∷ ws) (words_back other words free.2)

-- a line of these words is made of them
pub line_is : (line : List ℕ) (words : List (List ℕ)) → words_in line ≡ words → line ≡ spaced words
line_is line words e = sym (join_with_byte-slice_split space line) ∙ ap (λ ws. spaced ws) e

-- and has no NEWLINE
pub spaced_free : (words : List (List ℕ)) → AreFree words → is_free newline (spaced words) ≡ true
spaced_free [] free = refl
spaced_free (word ∷ []) free = free.1
spaced_free (word ∷ other ∷ words) free =
    list_all-append (λ c. not (is_octet newline c)) word (space ∷ spaced (other ∷ words)) ∙ and_from _ _ free.1 (spaced_free (other ∷ words) free.2)

-- ---- a text is its lines

-- no line has a NEWLINE
abbrev pub AreLines : List (List ℕ) → Type 0
AreLines [] = Unit {0}
AreLines (line ∷ lines) = (is_free newline line ≡ true) × AreLines lines

abbrev pub text_of : List (List ℕ) → List ℕ
text_of lines = flat_map ended lines

line_front : (rest : List ℕ) → (line : List ℕ) → is_free newline line ≡ true → lines_of ((line ++ newline ∷ []) ++ rest) ≡ line ∷ lines_of rest
line_front rest [] free = refl
line_front rest (c ∷ line) free =
    let parts = and_parts (not (is_octet newline c)) _ free in
    cond-false _ _ _ (not-true (is_octet newline c) parts.0) ∙ ap (onto_first c) (line_front rest line parts.1)

pub lines_front : (rest : List ℕ) → (lines : List (List ℕ)) → AreLines lines → lines_of (text_of lines ++ rest) ≡ lines ++ lines_of rest
lines_front rest [] free = refl
lines_front rest (line ∷ lines) free =
    ap lines_of (append_assoc (ended line) (text_of lines) rest)
    ∙ line_front (text_of lines ++ rest) line free.0
    ∙ ap (λ ls. line ∷ ls) (lines_front rest lines free.1)

-- the lines of a text are those that it was made of
pub lines_back : (lines : List (List ℕ)) → AreLines lines → lines_of (text_of lines) ≡ lines
lines_back lines free =
    ap lines_of (sym (append-nil (text_of lines))) ∙ lines_front [] lines free ∙ append-nil lines

line_alone : (c : ℕ) (line : List ℕ) → is_free newline (c ∷ line) ≡ true → lines_of (c ∷ line) ≡ (c ∷ line) ∷ []
line_alone c [] free =
    cond-false _ _ _ (not-true (is_octet newline c) (and_parts (not (is_octet newline c)) _ free).0)
line_alone c (d ∷ line) free =
    let parts = and_parts (not (is_octet newline c)) _ free in
    cond-false _ _ _ (not-true (is_octet newline c) parts.0) ∙ ap (onto_first c) (line_alone d line parts.1)

text_push : (last : List ℕ) → (lines : List (List ℕ)) → text_of (lines ++ last ∷ []) ≡ (text_of lines ++ last) ++ newline ∷ []
text_push last [] = append-nil (ended last)
text_push last (line ∷ lines) =
    ap (λ t. ended line ++ t) (text_push last lines)
    ∙ sym (append_assoc (ended line) (text_of lines ++ last) (newline ∷ []))
    ∙ ap (λ t. t ++ newline ∷ []) (sym (append_assoc (ended line) (text_of lines) last))

-- also where the last NEWLINE is lacking
pub lines_lacking : (text : List ℕ) (lines : List (List ℕ)) (c : ℕ) (last : List ℕ) → AreLines lines → is_free newline (c ∷ last) ≡ true → ended text ≡ text_of (lines ++ (c ∷ last) ∷ []) → lines_of text ≡ lines ++ (c ∷ last) ∷ []
lines_lacking text lines c last free last_free e =
    ap lines_of (append_cancel_right text (text_of lines ++ c ∷ last) (newline ∷ []) (e ∙ text_push (c ∷ last) lines))
    ∙ lines_front (c ∷ last) lines free
    ∙ ap (λ ls. lines ++ ls) (line_alone c last last_free)

-- a text is made of its lines, with or without the last NEWLINE
abbrev pub IsTextOf : List ℕ → List (List ℕ) → Type 0
IsTextOf text lines = (text ≡ text_of lines) ⊎ (ended text ≡ text_of lines)

pub text_is : (text : List ℕ) → IsTextOf text (lines_of text)
text_is [] = inl refl
text_is (c ∷ rest) = by (is_octet newline c) refl (lines_of rest) (text_is rest)
  where
    first : (line : List ℕ) (lines : List (List ℕ)) → IsTextOf rest (line ∷ lines) → IsTextOf (c ∷ rest) ((c ∷ line) ∷ lines)
    first line lines (inl e) = inl (ap (λ t. c ∷ t) e)
    first line lines (inr e) = inr (ap (λ t. c ∷ t) e)

    ended_some : (t : List ℕ) → ended t ≡ [] → ⊥
    ended_some [] e = cc
    ended_some (x ∷ t) e = cc

    none : IsTextOf rest [] → IsTextOf (c ∷ rest) ((c ∷ []) ∷ [])
    none (inl e) = inr (ap (λ t. c ∷ (t ++ newline ∷ [])) e)
    none (inr e) = absurd (ended_some rest e)

    cut : (lines : List (List ℕ)) → c ≡ newline → IsTextOf rest lines → IsTextOf (c ∷ rest) ([] ∷ lines)
    cut lines same (inl e) = inl (ap (λ t. c ∷ t) e ∙ ap (λ x. x ∷ text_of lines) same)
    cut lines same (inr e) = inr (ap (λ t. c ∷ t) e ∙ ap (λ x. x ∷ text_of lines) same)

    by : (b : Bool) → is_octet newline c ≡ b → (lines : List (List ℕ)) → IsTextOf rest lines → IsTextOf (c ∷ rest) (cond b ([] ∷ lines) (onto_first c lines))
    by true t lines is = cut lines (eqb-true c newline t) is
    by false t [] is = none is
    by false t (line ∷ lines) is = first line lines is

-- a text with one line more
pub text_more : (last : List ℕ) (lines : List (List ℕ)) → text_of (lines ++ last ∷ []) ≡ text_of lines ++ ended last
text_more last lines = text_push last lines ∙ append_assoc (text_of lines) last (newline ∷ [])
