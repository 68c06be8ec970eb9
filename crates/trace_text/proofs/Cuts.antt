-- Texts cut at an octet: lines, and the words of a line.
use Rattle.std.proofs.Common.{◌≡◌, ℕ, ◌+◌, ◌<◌, ◌≤◌, Bool, true, false, cond, ◌==◌, nat_lt, List, [], ◌∷◌, ◌++◌, length, Option, Some, None, refl, sym, ap, subst, ◌∙◌, arith}
use Rattle.std.specs.Prelude.{position, codes, Result, Err}
use Rattle.std.specs.List.{onto_first, position_or_len, before_first, after_first}
use Rattle.std.proofs.lemmas.List.{append-nil}
use Rattle.std.proofs.lemmas.List.Sums.{position_or_len_is, fails_before_first}
use Rattle.std.proofs.lemmas.List.Splits.{slice_split_none, slice_split_first, length-slice_split}
use Rattle.std.proofs.lemmas.Bool.{lt-ltb, le-ltb}
use Rattle.memchr.specs.Find.{IsFirstByte, is_byte}
use Rattle.cody_words.specs.Octets.{newline, space}
use Rattle.unit_registry.specs.Lines.{lines_of}
use Rattle.trace_text.specs.declared.trace.Trace.{Trace}
use Rattle.trace_text.specs.declared.reason.TraceReason.TheVariants.{MoreText}
use Rattle.trace_text.specs.declared.reason.TraceError.{TraceError}
use Rattle.trace_text.specs.declared.reason.TraceError.TheVariants.{Text}
use Rattle.trace_text.specs.Reading.{if_last, Answers}
use Rattle.trace_text.specs.Texts.{spaced}
use Rattle.trace_text.specs.Working.{is_octet, words_in, behind}

not_true : (b : Bool) → (b ≡ true → ⊥) → b ≡ false
not_true true n = absurd (n refl)
not_true false n = refl

-- the first octet of a value, by its place
pub first_is : (mark : ℕ) (octets : List ℕ) (r : Option ℕ) → IsFirstByte (is_byte mark) octets r → r ≡ position (is_octet mark) octets
first_is mark octets None nowhere =
    let at : position_or_len (is_octet mark) octets ≡ length octets = position_or_len_is (is_octet mark) octets (length octets) 0 (omega arith) (λ k below. not_true _ (λ passes. nowhere k (omega arith) below passes)) (λ below. absurd (omega arith)) in
    let none : nat_lt (position_or_len (is_octet mark) octets) (length octets) ≡ false = le-ltb _ _ (omega arith) in
    sym (ap (λ b. cond b (Some (position_or_len (is_octet mark) octets)) None) none)
first_is mark octets (Some place) first =
    let at : position_or_len (is_octet mark) octets ≡ place = position_or_len_is (is_octet mark) octets place 0 (let h = first.0.high in omega arith) (λ k below. not_true _ (λ passes. first.0.before k (omega arith) below passes)) (λ below. first.1) in
    let found : nat_lt place (length octets) ≡ true = lt-ltb _ _ first.0.high in
    sym (ap (λ n. cond (nat_lt n (length octets)) (Some n) None) at ∙ ap (λ b. cond b (Some place) None) found)

-- the first word ends at the first space
pub words_found : (text : List ℕ) → position_or_len (is_octet space) text < length text → words_in text ≡ before_first (is_octet space) text ∷ words_in (after_first (is_octet space) text)
words_found text found = slice_split_first (is_octet space) text 0 found

-- a text without a space is one word
pub words_none : (text : List ℕ) → length text ≤ position_or_len (is_octet space) text → words_in text ≡ text ∷ []
words_none text none = slice_split_none (is_octet space) text (λ k d below. fails_before_first (is_octet space) text k d (omega arith))

-- there is always a word
pub words_some : (text : List ℕ) → 0 < length (words_in text)
words_some text = omega (arith, length-slice_split (is_octet space) text)

-- the first line of a trace, word by word
pub head_text : (workers limit : List ℕ) → codes "modmap-trace 1" ++ behind (workers ∷ limit ∷ []) ≡ spaced (codes "modmap-trace" ∷ codes "1" ∷ workers ∷ limit ∷ [])
head_text workers limit = ap (λ last. codes "modmap-trace 1" ++ space ∷ (workers ++ space ∷ last)) (append-nil limit)

-- text behind the last line
pub more_text : (trace : Trace) (number : ℕ) (text : List ℕ) (answer : Result Trace TraceError) → 0 < length text → answer ≡ Err (Text (number + 1) MoreText) → Answers (if_last trace number (lines_of text)) answer
more_text trace number [] answer some e = absurd (omega arith)
more_text trace number (c ∷ text) answer some e = subst (λ (r : Result Trace TraceError). Answers (if_last trace number (lines_of (c ∷ text))) r) (sym e) (by (c == newline) (lines_of text))
  where
    fault : Result Trace TraceError
    fault = Err (Text (number + 1) MoreText)

    by : (b : Bool) (lines : List (List ℕ)) → Answers (if_last trace number (cond b ([] ∷ lines) (onto_first c lines))) fault
    by true lines = refl
    by false [] = refl
    by false (line ∷ lines) = refl
