-- An intake stands after the octets that were fed, and answers them.
use Rattle.std.proofs.Common.{inl, inr, ◌≡◌, ℕ, ◌+◌, ◌<◌, ◌≤◌, Bool, true, false, cond, not, eqb, ltb, List, [], ◌∷◌, ◌++◌, length, refl, sym, ap, subst, ◌∙◌, append_assoc, arith}
use Rattle.std.specs.Bool.{MatchBool}
use Rattle.std.proofs.lemmas.List.{length-append, length_push}
use Rattle.std.proofs.lemmas.Bool.{or_parts, ltb-true, ltb-false, lt-ltb, le-ltb, eqb-true, eqb-false}
use Rattle.cody_words.specs.declared.reason.Reason.{Reason}
use Rattle.cody_words.specs.declared.reason.Reason.TheVariants.{LineTooLong}
use Rattle.cody_words.specs.declared.reader.Reading.{Reading}
use Rattle.cody_words.specs.declared.reader.Reading.TheVariants as reading
use Rattle.cody_words.specs.Lines.{Meaning, Blank, Words, Malformed, longest_line}
use Rattle.cody_words.specs.Meanings.{meaning, is_marked}
use Rattle.std.specs.List.{fold}
use Rattle.std.proofs.lemmas.List.{same_from_push}
use Rattle.std.proofs.lemmas.List.Sums.{fold-append}
use Rattle.std.proofs.lemmas.Bool.{and_parts, and_from, eq-eqb}
use Rattle.cody_words.specs.Lines.{Marked, HasBody}
use Rattle.cody_words.specs.Scan.{Scan, is_white, start, verdict, step as scan_step}
use Rattle.cody_words.specs.Reading.{told, more_of}
use Rattle.cody_words.proofs.Cases.{white_is, white_again}
use Rattle.cody_words.proofs.Least.{at_run}
use Rattle.cody_words.proofs.Verdicts.{line_says}
use Rattle.cody_words.proofs.Means.{meaning_is, is_marked-last, meaning-long}
use Rattle.cody_batches.specs.declared.intake.Step.{Step}
use Rattle.cody_batches.specs.declared.intake.Step.TheVariants as step
use Rattle.cody_batches.specs.Blocks.{is_newline, begun_line, begun_block, says_nothing, is_blank, by_block, blocks, is_long, has_long_block}
use Rattle.cody_batches.specs.Feeding.{AnswersLine, Answers, Standing, words_of, IsTail, KeepsLine, StandsAfter}
use Rattle.cody_batches.specs.Working.{kept_behind, kept, ends_marked, tail_marked, ReadsScan, ReadsTail, ReadsKept, line_ended, counted, step_of}
use Rattle.cody_batches.proofs.Cuts.{then_push, ends_block}
use Rattle.cody_batches.proofs.Grows.{not_both, begun_line-push, by_block-within, by_block-blank, by_block-line, has_long, long_now, octet_stays_long}

at_true : (b : Bool) (P Q : Type 0) → b ≡ true → P → MatchBool b P Q
at_true true P Q e p = p
at_true false P Q e p = absurd cc

at_false : (b : Bool) (P Q : Type 0) → b ≡ false → Q → MatchBool b P Q
at_false true P Q e q = absurd cc
at_false false P Q e q = q

-- ---- a block that is too long

pub over_stands : (s : Standing) (fed : List ℕ) (c : ℕ) → s.over ≡ true → StandsAfter s fed → StandsAfter s (fed ++ c ∷ [])
over_stands s fed c o h = record {
  over = o ∙ sym (octet_stays_long fed c (sym h.over ∙ o));
  line = λ e. absurd (not_both s.over o e);
  lines = λ e. absurd (not_both s.over o e);
}

pub over_answers : (s after : Standing) (fed : List ℕ) (c : ℕ) → s.over ≡ true → StandsAfter s fed → Answers fed c step.BatchTooLong after
over_answers s after fed c o h = at_true (has_long_block (fed ++ c ∷ [])) _ _ (octet_stays_long fed c (sym h.over ∙ o)) refl

-- ---- an octet within a line

pub kept_over : (s : Standing) (tail : List ℕ) (c : ℕ) → (kept_behind s tail c).over ≡ s.over
kept_over s [] c = refl
kept_over s (x ∷ []) c = refl
kept_over s (x ∷ y ∷ rest) c = over_cond (ltb s.scan.at 8190) _ _ refl refl
  where
    over_cond : (b : Bool) (p q : Standing) → p.over ≡ s.over → q.over ≡ s.over → (cond b p q).over ≡ s.over
    over_cond true p q e f = e
    over_cond false p q e f = f

kept_lines : (s : Standing) (tail : List ℕ) (c : ℕ) → (kept_behind s tail c).lines ≡ s.lines
kept_lines s [] c = refl
kept_lines s (x ∷ []) c = refl
kept_lines s (x ∷ y ∷ rest) c = lines_cond (ltb s.scan.at 8190) _ _ refl refl
  where
    lines_cond : (b : Bool) (p q : Standing) → p.lines ≡ s.lines → q.lines ≡ s.lines → (cond b p q).lines ≡ s.lines
    lines_cond true p q e f = e
    lines_cond false p q e f = f

truth : true ≡ false → ⊥
truth e = cc

keeps_cond : (b : Bool) (x y : Standing) (line : List ℕ) → (b ≡ true → KeepsLine x line) → (b ≡ false → KeepsLine y line) → KeepsLine (cond b x y) line
keeps_cond true x y line p q = p refl
keeps_cond false x y line p q = q refl

-- the scan has read as many octets as stand before the last
at_front : (front : List ℕ) (scan : Scan) → scan ≡ fold scan_step start front → scan.at ≡ length front
at_front front scan e = omega (arith, ap (λ (s : Scan). s.at) e, at_run front start)

two_scanned : (s : Standing) (line : List ℕ) (x y c : ℕ) → s.tail ≡ x ∷ y ∷ [] → s.scan.at < 8190 → KeepsLine s line → KeepsLine (record s { scan = scan_step s.scan x; tail = y ∷ c ∷ [] }) (line ++ c ∷ [])
two_scanned s line x y c e lt h =
    let some : 0 < length s.tail = omega (arith, ap length e) in
    let text : line ≡ h.front ++ x ∷ y ∷ [] = h.whole ∙ ap (λ (t : List ℕ). h.front ++ t) e in
    record {
      front = h.front ++ x ∷ [];
      whole = ap (λ (t : List ℕ). t ++ c ∷ []) text ∙ append_assoc h.front (x ∷ y ∷ []) (c ∷ []) ∙ sym (append_assoc h.front (x ∷ []) (y ∷ c ∷ []));
      tail = tt;
      scanned = λ f le. ap (λ (t : Scan). scan_step t x) (h.scanned f some) ∙ sym (fold-append scan_step start h.front (x ∷ []));
      short = λ f. omega (arith, length_push line c, ap length text, length-append h.front (x ∷ y ∷ []), at_front h.front s.scan (h.scanned f some));
      long = λ f. omega (arith, length_push line c, h.long f);
    }

now_long : (s : Standing) (line : List ℕ) (x y c : ℕ) (b : Bool) → s.too_long ≡ b → s.tail ≡ x ∷ y ∷ [] → 8190 ≤ s.scan.at → KeepsLine s line → longest_line < length (line ++ c ∷ [])
now_long s line x y c true f e le h = omega (arith, length_push line c, h.long f)
now_long s line x y c false f e le h = omega (arith, length_push line c, ap length (h.whole ∙ ap (λ (t : List ℕ). h.front ++ t) e), length-append h.front (x ∷ y ∷ []), at_front h.front s.scan (h.scanned f (omega (arith, ap length e))))

two_long : (s : Standing) (line : List ℕ) (x y c : ℕ) → s.tail ≡ x ∷ y ∷ [] → 8190 ≤ s.scan.at → KeepsLine s line → KeepsLine (record s { too_long = true; tail = y ∷ c ∷ [] }) (line ++ c ∷ [])
two_long s line x y c e le h = record {
  front = h.front ++ x ∷ [];
  whole = ap (λ (t : List ℕ). t ++ c ∷ []) (h.whole ∙ ap (λ (t : List ℕ). h.front ++ t) e) ∙ append_assoc h.front (x ∷ y ∷ []) (c ∷ []) ∙ sym (append_assoc h.front (x ∷ []) (y ∷ c ∷ []));
  tail = tt;
  scanned = λ f some. absurd (truth f);
  short = λ f. absurd (truth f);
  long = λ f. now_long s line x y c s.too_long refl e le h;
}

-- a line whose tail is short is its tail
all_tail : (front line tail : List ℕ) → line ≡ front ++ tail → front ≡ [] → line ≡ tail
all_tail front line tail e f = e ∙ ap (λ (t : List ℕ). t ++ tail) f

front_none : (s : Standing) (line : List ℕ) → s.tail ≡ [] → (h : KeepsLine s line) → h.front ≡ []
front_none s line e h = subst (IsTail h.front) e h.tail

front_one : (s : Standing) (line : List ℕ) (x : ℕ) → s.tail ≡ x ∷ [] → (h : KeepsLine s line) → h.front ≡ []
front_one s line x e h = subst (IsTail h.front) e h.tail

keeps_behind : (s : Standing) (line : List ℕ) (tail : List ℕ) (c : ℕ) → s.tail ≡ tail → KeepsLine s line → KeepsLine (kept_behind s tail c) (line ++ c ∷ [])
keeps_behind s line [] c e h =
    let text : line ≡ [] = all_tail h.front line [] (h.whole ∙ ap (λ (t : List ℕ). h.front ++ t) e) (front_none s line e h) in
    record {
      front = [];
      whole = ap (λ (t : List ℕ). t ++ c ∷ []) text;
      tail = refl;
      scanned = λ f some. refl;
      short = λ f. omega (arith, ap length text, length_push line c);
      long = λ f. omega (arith, h.long f, length_push line c);
    }
keeps_behind s line (x ∷ []) c e h =
    let text : line ≡ x ∷ [] = all_tail h.front line (x ∷ []) (h.whole ∙ ap (λ (t : List ℕ). h.front ++ t) e) (front_one s line x e h) in
    record {
      front = [];
      whole = ap (λ (t : List ℕ). t ++ c ∷ []) text;
      tail = tt;
      scanned = λ f some. h.scanned f (omega (arith, ap length e)) ∙ ap (fold scan_step start) (front_one s line x e h);
      short = λ f. omega (arith, ap length text, length_push line c);
      long = λ f. omega (arith, h.long f, length_push line c);
    }
keeps_behind s line (x ∷ y ∷ []) c e h =
    keeps_cond (ltb s.scan.at 8190) _ _ (line ++ c ∷ []) (λ t. two_scanned s line x y c e (ltb-true _ _ t) h) (λ t. two_long s line x y c e (ltb-false _ _ t) h)
keeps_behind s line (x ∷ y ∷ z ∷ rest) c e h = absurd (subst (IsTail h.front) e h.tail)

begun_within : (fed : List ℕ) (c : ℕ) → is_newline c ≡ false → begun_line (fed ++ c ∷ []) ≡ begun_line fed ++ c ∷ []
begun_within fed c n = begun_line-push fed c ∙ rw n refl

pub within_stands : (s : Standing) (fed : List ℕ) (c : ℕ) → is_newline c ≡ false → s.over ≡ false → StandsAfter s fed → StandsAfter (kept s c) (fed ++ c ∷ [])
within_stands s fed c n o h =
    let same = by_block-within fed c n in
    record {
      over = kept_over s s.tail c ∙ h.over ∙ sym (ap has_long same);
      line = λ _. subst (KeepsLine (kept s c)) (sym (begun_within fed c n)) (keeps_behind s (begun_line fed) s.tail c refl (h.line o));
      lines = λ _. kept_lines s s.tail c ∙ h.lines o ∙ sym (ap (λ d. length d.rest) same);
    }

pub within_answers : (s after : Standing) (fed : List ℕ) (c : ℕ) → is_newline c ≡ false → s.over ≡ false → StandsAfter s fed → Answers fed c step.More after
within_answers s after fed c n o h =
    at_false (has_long_block (fed ++ c ∷ [])) _ _ (ap has_long (by_block-within fed c n) ∙ sym h.over ∙ o) (at_false (is_newline c) _ _ n refl)

-- ---- the end of a line

-- what was read is the meaning of the line
abbrev pub Tells : Reading → List (List ℕ) → Meaning → Bool → Type 0
Tells (reading.Blank more) words m marked = (Blank ≡ m) × (more ≡ marked)
Tells (reading.Words more) words m marked = (Words words ≡ m) × (more ≡ marked)
Tells (reading.Malformed at reason more) words m marked = (Malformed at reason ≡ m) × (more ≡ marked)

tells_by : (found : Reading) (words : List (List ℕ)) (m : Meaning) (more marked : Bool) → told words found ≡ m → more_of found ≡ more → more ≡ marked → Tells found words m marked
tells_by (reading.Blank b) words m more marked e f g = (e, f ∙ g)
tells_by (reading.Words b) words m more marked e f g = (e, f ∙ g)
tells_by (reading.Malformed at reason b) words m more marked e f g = (e, f ∙ g)

-- what a scan of the body says is the meaning of the line
scan_tells : (scan : Scan) (line body : List ℕ) (words : List (List ℕ)) (found : Reading) (more : Bool) → HasBody line more body → length line ≤ longest_line → scan ≡ fold scan_step start body → ReadsScan scan words found more → Tells found words (meaning line) (is_marked line)
scan_tells scan line body words found more has le e r =
    let said = line_says line body more (verdict scan) has le (ap verdict (sym e)) in
    let same = meaning_is line (verdict scan) more said in
    tells_by found words (meaning line) more (is_marked line) (r.meaning ∙ same.0) r.mark same.1

-- the mark of the last two octets, or of one alone
two_marked : (front : List ℕ) (x y : ℕ) → ends_marked x y ≡ true → HasBody (front ++ x ∷ y ∷ []) true front
two_marked front x y e =
    let h = and_parts (is_white x) (eqb y 59) e in
    inr (x, white_is x h.0, ap (λ (n : ℕ). front ++ x ∷ n ∷ []) (eqb-true y 59 h.1))

two_unmarked : (front : List ℕ) (x y : ℕ) → ends_marked x y ≡ false → HasBody (front ++ x ∷ y ∷ []) false (front ++ x ∷ y ∷ [])
two_unmarked front x y e = (λ other m. no_mark other m, refl)
  where
    no_mark : (other : List ℕ) → Marked (front ++ x ∷ y ∷ []) other → ⊥
    no_mark other (inl h) = absurd (omega (arith, ap length h.0, length-append front (x ∷ y ∷ [])))
    no_mark other (inr (c, w, f)) =
        let g : (front ++ x ∷ []) ++ y ∷ [] ≡ (other ++ c ∷ []) ++ 59 ∷ [] = append_assoc front (x ∷ []) (y ∷ []) ∙ f ∙ sym (append_assoc other (c ∷ []) (59 ∷ [])) in
        let last = same_from_push (front ++ x ∷ []) (other ++ c ∷ []) y 59 g in
        let before = same_from_push front other x c last.0 in
        not_both (ends_marked x y) (and_from (is_white x) (eqb y 59) (ap is_white before.1 ∙ white_again c w) (eq-eqb y 59 last.1)) e

head_is : (a b : ℕ) (xs ys : List ℕ) → a ∷ xs ≡ b ∷ ys → a ≡ b
head_is a b xs ys g = cc

one_unmarked : (x : ℕ) → eqb x 59 ≡ false → HasBody (x ∷ []) false (x ∷ [])
one_unmarked x e = (λ other m. no_mark other m, refl)
  where
    no_mark : (other : List ℕ) → Marked (x ∷ []) other → ⊥
    no_mark other (inl h) = eqb-false x 59 e (head_is x 59 [] [] h.0)
    no_mark other (inr (c, w, f)) = absurd (omega (arith, ap length f, length-append other (c ∷ 59 ∷ [])))

none_unmarked : HasBody [] false []
none_unmarked = (λ other m. no_mark other m, refl)
  where
    no_mark : (other : List ℕ) → Marked [] other → ⊥
    no_mark other (inl h) = absurd (omega (arith, ap length h.0))
    no_mark other (inr (c, w, f)) = absurd (omega (arith, ap length f, length-append other (c ∷ 59 ∷ [])))

empty_tells : (found : Reading) (words : List (List ℕ)) → found ≡ reading.Blank false → Tells found words (meaning []) (is_marked [])
empty_tells found words r = subst (λ f. Tells f words (meaning []) (is_marked [])) (sym r) (meaning_is [] Blank false (line_says [] [] false Blank none_unmarked (omega arith) refl))

one_tells : (scan : Scan) (x : ℕ) (words : List (List ℕ)) (found : Reading) (b : Bool) → eqb x 59 ≡ b → scan ≡ start → MatchBool b (ReadsScan scan words found true) (ReadsScan (scan_step scan x) words found false) → Tells found words (meaning (x ∷ [])) (is_marked (x ∷ []))
one_tells scan x words found true e s r = scan_tells scan (x ∷ []) [] words found true (inl (ap (λ (n : ℕ). n ∷ []) (eqb-true x 59 e), refl)) (omega arith) s r
one_tells scan x words found false e s r = scan_tells (scan_step scan x) (x ∷ []) (x ∷ []) words found false (one_unmarked x e) (omega arith) (ap (λ (t : Scan). scan_step t x) s) r

two_tells : (scan : Scan) (front : List ℕ) (x y : ℕ) (words : List (List ℕ)) (found : Reading) (b : Bool) → ends_marked x y ≡ b → scan ≡ fold scan_step start front → length (front ++ x ∷ y ∷ []) ≤ longest_line → MatchBool b (ReadsScan scan words found true) (ReadsScan (scan_step (scan_step scan x) y) words found false) → Tells found words (meaning (front ++ x ∷ y ∷ [])) (is_marked (front ++ x ∷ y ∷ []))
two_tells scan front x y words found true e s le r = scan_tells scan (front ++ x ∷ y ∷ []) front words found true (two_marked front x y e) le s r
two_tells scan front x y words found false e s le r = scan_tells (scan_step (scan_step scan x) y) (front ++ x ∷ y ∷ []) (front ++ x ∷ y ∷ []) words found false (two_unmarked front x y e) le (ap (λ (t : Scan). scan_step (scan_step t x) y) s ∙ sym (fold-append scan_step start front (x ∷ y ∷ []))) r

tail_tells : (s : Standing) (line tail : List ℕ) (words : List (List ℕ)) (found : Reading) → s.tail ≡ tail → s.too_long ≡ false → KeepsLine s line → ReadsTail s.scan tail words found → Tells found words (meaning line) (is_marked line)
tail_tells s line [] words found e f h r =
    let text : line ≡ [] = all_tail h.front line [] (h.whole ∙ ap (λ (t : List ℕ). h.front ++ t) e) (front_none s line e h) in
    subst (λ (x : List ℕ). Tells found words (meaning x) (is_marked x)) (sym text) (empty_tells found words r)
tail_tells s line (x ∷ []) words found e f h r =
    let text : line ≡ x ∷ [] = all_tail h.front line (x ∷ []) (h.whole ∙ ap (λ (t : List ℕ). h.front ++ t) e) (front_one s line x e h) in
    let at_start : s.scan ≡ start = h.scanned f (omega (arith, ap length e)) ∙ ap (fold scan_step start) (front_one s line x e h) in
    subst (λ (l : List ℕ). Tells found words (meaning l) (is_marked l)) (sym text) (one_tells s.scan x words found (eqb x 59) refl at_start r)
tail_tells s line (x ∷ y ∷ []) words found e f h r =
    let text : line ≡ h.front ++ x ∷ y ∷ [] = h.whole ∙ ap (λ (t : List ℕ). h.front ++ t) e in
    subst (λ (l : List ℕ). Tells found words (meaning l) (is_marked l)) (sym text) (two_tells s.scan h.front x y words found (ends_marked x y) refl (h.scanned f (omega (arith, ap length e))) (omega (arith, h.short f, ap length text)) r)
tail_tells s line (x ∷ y ∷ z ∷ rest) words found e f h r = absurd (subst (IsTail h.front) e h.tail)

long_mark : (s : Standing) (line tail : List ℕ) → s.tail ≡ tail → KeepsLine s line → longest_line < length line → tail_marked tail ≡ is_marked line
long_mark s line [] e h lt = absurd (omega (arith, ap length (all_tail h.front line [] (h.whole ∙ ap (λ (t : List ℕ). h.front ++ t) e) (front_none s line e h))))
long_mark s line (x ∷ []) e h lt = absurd (omega (arith, ap length (all_tail h.front line (x ∷ []) (h.whole ∙ ap (λ (t : List ℕ). h.front ++ t) e) (front_one s line x e h))))
long_mark s line (x ∷ y ∷ []) e h lt =
    let text : line ≡ h.front ++ x ∷ y ∷ [] = h.whole ∙ ap (λ (t : List ℕ). h.front ++ t) e in
    sym (ap is_marked text ∙ is_marked-last h.front x y (omega (arith, ap length text, length-append h.front (x ∷ y ∷ []))))
long_mark s line (x ∷ y ∷ z ∷ rest) e h lt = absurd (subst (IsTail h.front) e h.tail)

kept_tells : (s : Standing) (line : List ℕ) (words : List (List ℕ)) (found : Reading) (b : Bool) → s.too_long ≡ b → KeepsLine s line → MatchBool b (found ≡ reading.Malformed longest_line LineTooLong (tail_marked s.tail)) (ReadsTail s.scan s.tail words found) → Tells found words (meaning line) (is_marked line)
kept_tells s line words found true e h r =
    subst (λ f. Tells f words (meaning line) (is_marked line)) (sym r) (sym (meaning-long line (h.long e)), long_mark s line s.tail refl h (h.long e))
kept_tells s line words found false e h r = tail_tells s line s.tail words found refl e h r

-- the begun line is empty behind a NEWLINE
keeps_nothing : (s : Standing) → s.tail ≡ [] → s.too_long ≡ false → KeepsLine s []
keeps_nothing s e f = record {
  front = [];
  whole = sym e;
  tail = subst (IsTail []) (sym e) refl;
  scanned = λ t some. absurd (omega (arith, ap length e));
  short = λ _. omega arith;
  long = λ t. absurd (not_both s.too_long t f);
}

begun_nothing : (fed : List ℕ) (c : ℕ) → is_newline c ≡ true → begun_line (fed ++ c ∷ []) ≡ []
begun_nothing fed c n = begun_line-push fed c ∙ rw n refl

-- the premises of the end of a line: the octets so far, and a state whose line was taken
pub record AtEnd (s : Standing) (fed : List ℕ) (c : ℕ) : Type 0 where
  pub newline : is_newline c ≡ true
  pub fits : has_long_block fed ≡ false
  pub over : s.over ≡ false
  pub empty : s.tail ≡ []
  pub short : s.too_long ≡ false
  pub lines : s.lines ≡ length (begun_block fed)

blank_stands : (s : Standing) (fed : List ℕ) (c : ℕ) → AtEnd s fed c → is_blank (begun_line fed) ≡ true → StandsAfter s (fed ++ c ∷ [])
blank_stands s fed c h k =
    let same = by_block-blank fed c h.newline k in
    record {
      over = h.over ∙ sym (ap has_long same ∙ h.fits);
      line = λ _. subst (KeepsLine s) (sym (begun_nothing fed c h.newline)) (keeps_nothing s h.empty h.short);
      lines = λ _. h.lines ∙ sym (ap (λ d. length d.rest) same);
    }

blank_fits : (s : Standing) (fed : List ℕ) (c : ℕ) → AtEnd s fed c → is_blank (begun_line fed) ≡ true → has_long_block (fed ++ c ∷ []) ≡ false
blank_fits s fed c h k = ap has_long (by_block-blank fed c h.newline k) ∙ h.fits

line_long : (s : Standing) (fed : List ℕ) (c : ℕ) → AtEnd s fed c → is_blank (begun_line fed) ≡ false → has_long_block (fed ++ c ∷ []) ≡ ltb 1024 (s.lines + 1)
line_long s fed c h k = ap has_long (by_block-line fed c h.newline k) ∙ long_now (by_block fed) (begun_line fed) (ends_block (begun_line fed)) h.fits ∙ ap (λ (n : ℕ). ltb 1024 (n + 1)) (sym h.lines)

few_lines : (s : Standing) (fed : List ℕ) (c : ℕ) → AtEnd s fed c → s.lines ≤ 1024
few_lines s fed c h = omega (arith, h.lines, ltb-false 1024 (length (begun_block fed)) (or_parts _ (is_long (begun_block fed)) h.fits).1)

rest_length : (rest : List (List ℕ)) (pieces : List (List (List ℕ))) (l : List ℕ) (more : Bool) → length (then_push (record { pieces = pieces; rest = rest }) l (not more)).rest ≡ cond more (length rest + 1) 0
rest_length rest pieces l true = length_push rest l
rest_length rest pieces l false = refl

line_stands : (s : Standing) (fed : List ℕ) (c : ℕ) (more : Bool) (b : Bool) → eqb s.lines 1024 ≡ b → AtEnd s fed c → is_blank (begun_line fed) ≡ false → more ≡ is_marked (begun_line fed) → StandsAfter (cond b (record s { over = true }) (record s { lines = cond more (s.lines + 1) 0 })) (fed ++ c ∷ [])
line_stands s fed c more true e h k m = record {
  over = sym (line_long s fed c h k ∙ lt-ltb 1024 (s.lines + 1) (omega (arith, eqb-true s.lines 1024 e)));
  line = λ t. absurd (truth t);
  lines = λ t. absurd (truth t);
}
line_stands s fed c more false e h k m = record {
  over = h.over ∙ sym (line_long s fed c h k ∙ le-ltb 1024 (s.lines + 1) (below s.lines (few_lines s fed c h) (eqb-false s.lines 1024 e)));
  line = λ _. subst (KeepsLine (record s { lines = cond more (s.lines + 1) 0 })) (sym (begun_nothing fed c h.newline)) (keeps_nothing (record s { lines = cond more (s.lines + 1) 0 }) h.empty h.short);
  lines = λ _. sym (ap (λ d. length d.rest) (by_block-line fed c h.newline k) ∙ ap (λ t. length (then_push (by_block fed) (begun_line fed) (not t)).rest) (sym m) ∙ rest_length (begun_block fed) (blocks fed) (begun_line fed) more ∙ ap (λ (n : ℕ). cond more (n + 1) 0) (sym h.lines));
}
  where
    below : (n : ℕ) → n ≤ 1024 → (n ≡ 1024 → ⊥) → n + 1 ≤ 1024
    below n le ne = omega arith

line_answers : (s after : Standing) (fed : List ℕ) (c : ℕ) (answer : Step) (b : Bool) → eqb s.lines 1024 ≡ b → AtEnd s fed c → is_blank (begun_line fed) ≡ false → AnswersLine (meaning (begun_line fed)) (is_marked (begun_line fed)) answer (words_of after) → Answers fed c (cond b step.BatchTooLong answer) after
line_answers s after fed c answer true e h k a = at_true (has_long_block (fed ++ c ∷ [])) _ _ (line_long s fed c h k ∙ lt-ltb 1024 (s.lines + 1) (omega (arith, eqb-true s.lines 1024 e))) refl
line_answers s after fed c answer false e h k a = at_false (has_long_block (fed ++ c ∷ [])) _ _ (line_long s fed c h k ∙ le-ltb 1024 (s.lines + 1) (below s.lines (few_lines s fed c h) (eqb-false s.lines 1024 e))) (at_true (is_newline c) _ _ h.newline a)
  where
    below : (n : ℕ) → n ≤ 1024 → (n ≡ 1024 → ⊥) → n + 1 ≤ 1024
    below n le ne = omega arith

is_blank_at : (line : List ℕ) (m : Meaning) → m ≡ meaning line → is_blank line ≡ says_nothing m
is_blank_at line m e = ap says_nothing (sym e)

blank_answers : (s after : Standing) (fed : List ℕ) (c : ℕ) → AtEnd s fed c → Blank ≡ meaning (begun_line fed) → Answers fed c step.More after
blank_answers s after fed c h m =
    at_false (has_long_block (fed ++ c ∷ [])) _ _ (blank_fits s fed c h (is_blank_at (begun_line fed) Blank m)) (at_true (is_newline c) _ _ h.newline (subst (λ x. AnswersLine x (is_marked (begun_line fed)) step.More (words_of after)) m refl))

pub end_stands : (s : Standing) (fed : List ℕ) (c : ℕ) (found : Reading) (words : List (List ℕ)) → AtEnd s fed c → Tells found words (meaning (begun_line fed)) (is_marked (begun_line fed)) → StandsAfter (counted s found) (fed ++ c ∷ [])
end_stands s fed c (reading.Blank more) words h t = blank_stands s fed c h (is_blank_at (begun_line fed) Blank t.0)
end_stands s fed c (reading.Words more) words h t = line_stands s fed c more (eqb s.lines 1024) refl h (is_blank_at (begun_line fed) (Words words) t.0) t.1
end_stands s fed c (reading.Malformed at reason more) words h t = line_stands s fed c more (eqb s.lines 1024) refl h (is_blank_at (begun_line fed) (Malformed at reason) t.0) t.1

pub end_answers : (s after : Standing) (fed : List ℕ) (c : ℕ) (found : Reading) (words : List (List ℕ)) → words_of after ≡ words → AtEnd s fed c → Tells found words (meaning (begun_line fed)) (is_marked (begun_line fed)) → Answers fed c (step_of s found) after
end_answers s after fed c (reading.Blank more) words w h t = blank_answers s after fed c h t.0
end_answers s after fed c (reading.Words more) words w h t =
    line_answers s after fed c (step.Message (not more)) (eqb s.lines 1024) refl h (is_blank_at (begun_line fed) (Words words) t.0) (subst (λ m. AnswersLine m (is_marked (begun_line fed)) (step.Message (not more)) (words_of after)) t.0 (ap (λ b. message (not b)) t.1, w))
  where
    message : Bool → Step
    message b = step.Message b
end_answers s after fed c (reading.Malformed at reason more) words w h t =
    line_answers s after fed c (step.Malformed at reason (not more)) (eqb s.lines 1024) refl h (is_blank_at (begun_line fed) (Malformed at reason) t.0) (subst (λ m. AnswersLine m (is_marked (begun_line fed)) (step.Malformed at reason (not more)) (words_of after)) t.0 (ap (λ b. malformed at reason (not b)) t.1))
  where
    malformed : ℕ → Reason → Bool → Step
    malformed at reason b = step.Malformed at reason b

pub at_end : (s : Standing) (scan : Scan) (fed : List ℕ) (c : ℕ) → is_newline c ≡ true → s.over ≡ false → StandsAfter s fed → AtEnd (line_ended s scan) fed c
at_end s scan fed c n o h = record { newline = n; fits = sym h.over ∙ o; over = o; empty = refl; short = refl; lines = h.lines o }

pub end_tells : (s : Standing) (words : List (List ℕ)) (fed : List ℕ) (found : Reading) → s.over ≡ false → StandsAfter s fed → ReadsKept s words found → Tells found words (meaning (begun_line fed)) (is_marked (begun_line fed))
end_tells s words fed found o h r = kept_tells s (begun_line fed) words found s.too_long refl (h.line o) r

pub scan-counted : (s : Standing) (found : Reading) → (counted s found).scan ≡ s.scan
scan-counted s (reading.Blank more) = refl
scan-counted s (reading.Words more) = words_cond (eqb s.lines 1024) s more
  where
    words_cond : (b : Bool) (s : Standing) (more : Bool) → (cond b (record s { over = true }) (record s { lines = cond more (s.lines + 1) 0 })).scan ≡ s.scan
    words_cond true s more = refl
    words_cond false s more = refl
scan-counted s (reading.Malformed at reason more) = words_cond (eqb s.lines 1024) s more
  where
    words_cond : (b : Bool) (s : Standing) (more : Bool) → (cond b (record s { over = true }) (record s { lines = cond more (s.lines + 1) 0 })).scan ≡ s.scan
    words_cond true s more = refl
    words_cond false s more = refl
