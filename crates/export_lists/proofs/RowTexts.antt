-- Lines of words in a text.
use Rattle.std.proofs.Common.{◌≡◌, ◌≢◌, ℕ, suc, false, List, [], ◌∷◌, ◌++◌, length, sym, ap, ◌∙◌, refl, subst, arith, append_assoc}
use Rattle.std.specs.List.{All, AllByRecursion}
use Rattle.std.proofs.lemmas.Bool.{ne_eqb, cond-false}
use Rattle.cody_words.specs.Octets.{newline}
use Rattle.cody_words.specs.Lines.{Words, Says}
use Rattle.cody_words.specs.Canonical.{canonical_text}
use Rattle.cody_words.proofs.Canon.{no_newline, canonical_line_is, line_says_its_words}
use Rattle.cody_words.proofs.Verdicts.{one_meaning}
use Rattle.export_lists.specs.Words.{line_of, Row}
use Rattle.export_lists.specs.CmiFaults.{first_lines}
use Rattle.export_lists.specs.Drafts.{IsRow, IsLine}
use Rattle.export_lists.proofs.Readings.{text_of}

-- without a NEWLINE
abbrev pub Clean : List ℕ → Type 0
Clean line = AllByRecursion (λ octet. octet ≢ newline) line

-- none is a NEWLINE, each by its place or one behind the other
pub clean_from : (line : List ℕ) → All (λ octet. octet ≢ newline) line → Clean line
clean_from [] none = tt
clean_from (octet ∷ line) none = (none 0 octet (omega arith), clean_from line (λ k d below. none (suc k) d (omega arith)))

first_one : (line rest : List ℕ) (n : ℕ) → Clean line → first_lines (suc n) (line ++ newline ∷ rest) ≡ line ++ newline ∷ first_lines n rest
first_one [] rest n clean = refl
first_one (c ∷ line) rest n clean = cond-false _ _ _ (ne_eqb c 10 clean.0) ∙ ap (λ t. c ∷ t) (first_one line rest n clean.1)

-- a text without a NEWLINE has no line more
pub first_none : (line : List ℕ) (n : ℕ) → Clean line → first_lines (suc n) line ≡ line
first_none [] n clean = refl
first_none (c ∷ line) n clean = cond-false _ _ _ (ne_eqb c 10 clean.0) ∙ ap (λ t. c ∷ t) (first_none line n clean.1)

-- the first line of a text
pub first_line : (line behind : List ℕ) → Clean line → first_lines 1 (line ++ newline ∷ behind) ≡ line ++ newline ∷ []
first_line line behind clean = first_one line behind 0 clean

pub parted : (line other a b : List ℕ) → Clean line → Clean other → line ++ newline ∷ a ≡ other ++ newline ∷ b → (line ≡ other) × (a ≡ b)
parted [] [] a b c d e = (refl, cc)
parted [] (y ∷ other) a b c d e = let no : 10 ≡ y = cc in absurd (d.0 (sym no))
parted (x ∷ line) [] a b c d e = let no : x ≡ 10 = cc in absurd (c.0 no)
parted (x ∷ line) (y ∷ other) a b c d e =
    let head : x ≡ y = cc in
    let tail : line ++ 10 ∷ a ≡ other ++ 10 ∷ b = cc in
    let rest = parted line other a b c.1 d.1 tail in ((λ i. head i ∷ rest.0 i), rest.1)

-- what ends in a NEWLINE isn't without one
pub not_clean : (line behind text : List ℕ) → Clean text → line ++ newline ∷ behind ≡ text → ⊥
not_clean line behind [] c e = nothing line e
  where
    nothing : (line : List ℕ) → line ++ newline ∷ behind ≡ [] → ⊥
    nothing [] e = absurd (cc)
    nothing (x ∷ line) e = absurd (cc)
not_clean [] behind (y ∷ text) c e = let no : 10 ≡ y = cc in c.0 (sym no)
not_clean (x ∷ line) behind (y ∷ text) c e = let tail : line ++ 10 ∷ behind ≡ text = cc in not_clean line behind text c.1 tail

pub not_empty : (line behind : List ℕ) → [] ≡ line ++ newline ∷ behind → ⊥
not_empty [] behind e = absurd (cc)
not_empty (x ∷ line) behind e = absurd (cc)

pub clean_row : (words : Row) → Clean (canonical_text words false)
clean_row words = no_newline words false

-- a line of words, and what follows it
pub line_then : (words : Row) (rest : List ℕ) → line_of words ++ rest ≡ canonical_text words false ++ newline ∷ rest
line_then words rest = ap (λ l. l ++ rest) (canonical_line_is words false) ∙ append_assoc (canonical_text words false) (10 ∷ []) rest

pub row_first : (words : Row) (rest : List ℕ) (n : ℕ) → first_lines (suc n) (line_of words ++ rest) ≡ line_of words ++ first_lines n rest
row_first words rest n =
    ap (first_lines (suc n)) (line_then words rest) ∙ first_one (canonical_text words false) rest n (clean_row words) ∙ sym (line_then words (first_lines n rest))

-- the lines that rows are
pub rows_first : (rows : List Row) (rest : List ℕ) → first_lines (length rows) (text_of rows ++ rest) ≡ text_of rows
rows_first [] rest = refl
rows_first (r ∷ rows) rest =
    ap (first_lines (suc (length rows))) (append_assoc (line_of r) (text_of rows) rest)
    ∙ row_first r (text_of rows ++ rest) (length rows) ∙ ap (λ t. line_of r ++ t) (rows_first rows rest)

-- rows of the same text are the same
pub same_row : (words other : Row) → IsRow words → IsRow other → canonical_text words false ≡ canonical_text other false → words ≡ other
same_row words other h k e =
    let says : Says (canonical_text other false) (Words words) false = subst (λ (l : List ℕ). Says l (Words words) false) e (line_says_its_words words false h.some h.short) in
    let found = one_meaning (canonical_text other false) (Words words) (Words other) false false says (line_says_its_words other false k.some k.short) in
    let is : Words words ≡ Words other = found.0 in cc

-- a line's words are those of the row that it is
pub same_line : (line : List ℕ) (words other : Row) → IsLine line words → IsLine line other → words ≡ other
same_line line words other h k =
    let e : canonical_text words false ++ newline ∷ [] ≡ canonical_text other false ++ newline ∷ [] = sym (canonical_line_is words false) ∙ sym h.same ∙ k.same ∙ canonical_line_is other false in
    same_row words other h.row k.row (parted (canonical_text words false) (canonical_text other false) [] [] (clean_row words) (clean_row other) e).0

-- What stands behind rows in others that begin so.
pub record Behind (rows others : List Row) (rest : List ℕ) : Type 0 where
  pub more : List Row
  pub whole : others ≡ rows ++ more
  pub each : AllByRecursion IsRow more
  pub first : first_lines 1 (text_of more) ≡ first_lines 1 rest

pub behind : (rows others : List Row) (rest : List ℕ) → AllByRecursion IsRow rows → AllByRecursion IsRow others
    → first_lines (suc (length rows)) (text_of others) ≡ first_lines (suc (length rows)) (text_of rows ++ rest) → Behind rows others rest
behind [] others rest h k e = record { more = others; whole = refl; each = k; first = e }
behind (r ∷ rows) [] rest h k e =
    absurd (not_empty (canonical_text r false) (first_lines (suc (length rows)) (text_of rows ++ rest))
    (e ∙ ap (first_lines (suc (suc (length rows)))) (append_assoc (line_of r) (text_of rows) rest)
    ∙ row_first r (text_of rows ++ rest) (suc (length rows)) ∙ line_then r (first_lines (suc (length rows)) (text_of rows ++ rest))))
behind (r ∷ rows) (o ∷ others) rest h k e =
    let a = first_lines (suc (length rows)) (text_of others) in
    let b = first_lines (suc (length rows)) (text_of rows ++ rest) in
    let both : canonical_text o false ++ newline ∷ a ≡ canonical_text r false ++ newline ∷ b =
    sym (line_then o a) ∙ sym (row_first o (text_of others) (suc (length rows))) ∙ e
    ∙ ap (first_lines (suc (suc (length rows)))) (append_assoc (line_of r) (text_of rows) rest)
    ∙ row_first r (text_of rows ++ rest) (suc (length rows)) ∙ line_then r b in
    let parts = parted (canonical_text o false) (canonical_text r false) a b (clean_row o) (clean_row r) both in
    let found = behind rows others rest h.1 k.1 parts.1 in
    let same : o ≡ r = same_row o r k.0 h.0 parts.0 in
    record { more = found.more; whole = λ i. same i ∷ found.whole i; each = found.each; first = found.first }
