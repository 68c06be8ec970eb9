-- The words of canonical lines.
use Rattle.std.proofs.Common.{◌≡◌, ◌≢◌, ℕ, Bool, true, false, List, [], ◌∷◌, ◌++◌, length, Some, None, if◌then◌else◌, sym, ap, ◌∙◌, refl, subst, arith}
use Rattle.std.specs.Prelude.{nat_lt, Option, Result, Ok, Err, IfOk}
use Rattle.mm_outside.specs.declared.errors.Memory.{Memory}
use Rattle.std.specs.Bool.{MatchBool}
use Rattle.std.specs.Str.{bytes_eq}
use Rattle.std.proofs.lemmas.Slice.Eq.{bytes_eq-Decides}
use Rattle.cody_words.specs.declared.reason.Reason.{Reason}
use Rattle.cody_words.specs.declared.reason.Reason.TheVariants.{LineTooLong}
use Rattle.cody_words.specs.Octets.{newline}
use Rattle.cody_words.specs.Lines.{Meaning, Blank, Words, Malformed, Says, BodySays, longest_line}
use Rattle.cody_words.specs.Canonical.{canonical_text}
use Rattle.cody_words.proofs.Canon.{canonical_line_is, line_says_its_words}
use Rattle.cody_words.proofs.Fits.{words_fit}
use Rattle.cody_words.proofs.Verdicts.{one_meaning}
use Rattle.export_lists.specs.Words.{line_of, Row}
use Rattle.export_lists.specs.declared.distinct.LineError.{LineError}
use Rattle.export_lists.specs.declared.distinct.LineError.TheVariants as faults
use Rattle.export_lists.specs.declared.draft.Draft.{Draft}
use Rattle.export_lists.specs.Drafts.{IsLine, HasWords, ReadsWords, next, Takes, TakesLine}
use Rattle.export_lists.proofs.RowTexts.{not_empty, same_line}

-- what stands before the same last octet
last_same : (xs ys : List ℕ) → xs ++ newline ∷ [] ≡ ys ++ newline ∷ [] → xs ≡ ys
last_same [] [] e = refl
last_same [] (y ∷ ys) e = let no : [] ≡ ys ++ newline ∷ [] = cc in absurd (not_empty ys [] no)
last_same (x ∷ xs) [] e = let no : [] ≡ xs ++ newline ∷ [] = cc in absurd (not_empty xs [] no)
last_same (x ∷ xs) (y ∷ ys) e =
    let head : x ≡ y = cc in
    let tail : xs ++ newline ∷ [] ≡ ys ++ newline ∷ [] = cc in (λ i. head i ∷ last_same xs ys tail i)

text_is : (line : List ℕ) (words : Row) → IsLine line words → line ≡ canonical_text words false
text_is line words h = last_same line (canonical_text words false) (h.same ∙ canonical_line_is words false)

-- a canonical line says its words
pub meaning_is : (line : List ℕ) (meaning : Meaning) (more : Bool) (words : Row) → Says line meaning more → IsLine line words → meaning ≡ Words words
meaning_is line meaning more words says h =
    let own : Says line (Words words) false = subst (λ (l : List ℕ). Says l (Words words) false) (sym (text_is line words h)) (line_says_its_words words false h.row.some h.row.short) in
    (one_meaning line meaning (Words words) more false says own).0

some_said : (long : Bool) (words : Row) (body : List ℕ) → MatchBool long (Words words ≡ Malformed longest_line LineTooLong) (BodySays body (Words words)) → words ≢ []
some_said true words body h = absurd (cc)
some_said false words body h = h.0

-- the words that a line says, where it is the canonical one of them
pub line_found : (line : List ℕ) (words : Row) (more : Bool) → Says line (Words words) more → bytes_eq (line ++ newline ∷ []) (line_of words) ≡ true → IsLine line words
line_found line words more says e =
    let same : line ++ newline ∷ [] ≡ line_of words = (bytes_eq-Decides (line ++ newline ∷ []) (line_of words)).0 e in
    let text : line ≡ canonical_text words false = last_same line (canonical_text words false) (same ∙ canonical_line_is words false) in
    let fit = (words_fit line words more says).0 in
    record {
      row = record { some = some_said (nat_lt longest_line (length line)) words says.body says.says; short = omega (arith, ap length text, fit) };
      same = same;
    }

-- a line that isn't the canonical one of the words that it says is that of none
pub line_other : (line : List ℕ) (words : Row) (more : Bool) → Says line (Words words) more → bytes_eq (line ++ newline ∷ []) (line_of words) ≡ false → (other : Row) → IsLine line other → ⊥
line_other line words more says e other h =
    let is : Words words ≡ Words other = meaning_is line (Words words) more other says h in
    let same : words ≡ other = cc in
    let yes : bytes_eq (line ++ newline ∷ []) (line_of words) ≡ true = (bytes_eq-Decides (line ++ newline ∷ []) (line_of words)).1 (h.same ∙ ap line_of (sym same)) in
    let no : true ≡ false = sym yes ∙ e in absurd (cc)

pub blank_line : (line : List ℕ) (more : Bool) → Says line Blank more → (words : Row) → IsLine line words → ⊥
blank_line line more says words h = let is : Blank ≡ Words words = meaning_is line Blank more words says h in absurd (cc)

pub malformed_line : (line : List ℕ) (place : ℕ) (reason : Reason) (more : Bool) → Says line (Malformed place reason) more → (words : Row) → IsLine line words → ⊥
malformed_line line place reason more says words h = let is : Malformed place reason ≡ Words words = meaning_is line (Malformed place reason) more words says h in absurd (cc)

-- the words that a line says, by whether it is the canonical one of them
pub canonical_by : (same : Bool) (line : List ℕ) (words : Row) (more : Bool) → Says line (Words words) more → same ≡ bytes_eq (line ++ newline ∷ []) (line_of words)
    → HasWords (if same then Some words else None) line
canonical_by true line words more says e = line_found line words more says (sym e)
canonical_by false line words more says e = line_other line words more says (sym e)

-- the same, as a call answers it
pub canonical_read : (line : List ℕ) (words : Row) (more : Bool) (result : Result (Option Row) Memory) → Says line (Words words) more
    → IfOk result (λ found. found ≡ (if bytes_eq (line ++ newline ∷ []) (line_of words) then Some words else None)) → ReadsWords result line
canonical_read line words more (Ok found) says e =
    subst (λ (f : Option Row). HasWords f line) (sym e) (canonical_by (bytes_eq (line ++ newline ∷ []) (line_of words)) line words more says refl)
canonical_read line words more (Err memory) says e = tt

-- the draft behind a line of words is that behind the line
pub line_taken : (draft : Draft) (line : List ℕ) (words : Row) (result : Result Draft LineError) → IsLine line words → Takes (next draft words) result → TakesLine result draft line
line_taken draft line words (Ok after) is h = (words, is, h)
line_taken draft line words (Err faults.Fault) is h = λ other k. ap (next draft) (same_line line other words k is) ∙ h
line_taken draft line words (Err faults.Memory) is h = tt
