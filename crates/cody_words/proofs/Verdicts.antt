-- The verdict of the scan is what the body says, and a body says nothing else.
use Rattle.std.proofs.Common.{◌≡◌, ◌≢◌, ℕ, ◌≤◌, inl, inr, Bool, true, false, ltb, List, [], ◌∷◌, ◌++◌, length, refl, sym, ap, subst, ◌∙◌, append_assoc, arith}
use Rattle.std.specs.List.{fold}
use Rattle.std.specs.Bool.{MatchBool}
use Rattle.std.proofs.lemmas.List.{same_from_push}
use Rattle.std.proofs.lemmas.Bool.{le-ltb}
use Rattle.cody_words.specs.declared.reason.Reason.{Reason}
use Rattle.cody_words.specs.declared.reason.Reason.TheVariants.{LineTooLong}
use Rattle.cody_words.specs.declared.mode.Mode.{Mode}
use Rattle.cody_words.specs.declared.mode.Mode.TheVariants.{Between, Semicolon, Outside, Inside, Escape, Digit, Refused}
use Rattle.cody_words.specs.Lines.{Meaning, Blank, Words, Malformed, Marked, HasBody, IsFirstOffence, BodySays, Says, longest_line}
use Rattle.cody_words.specs.Scan.{Scan, step, start, all_words, verdict_in, verdict, body_verdict}
use Rattle.cody_words.proofs.Offences.{malformed, same_malformed, refused_is_offence}
use Rattle.cody_words.proofs.Found.{says_words_found}
use Rattle.cody_words.proofs.Least.{Reaches, offence_refused}
use Rattle.cody_words.proofs.Told.{IsDone, found_says}

abbrev blank : Meaning
blank = Blank

abbrev worded : List (List ℕ) → Meaning
worded ws = Words ws

-- ---- where the verdict names no offence, the scan ended with the words

blank_words : (words : List (List ℕ)) → all_words words ≡ blank → words ≡ []
blank_words [] e = refl
blank_words (w ∷ ws) e = absurd cc

some_words : (words all : List (List ℕ)) → all_words words ≡ worded all → (words ≡ all) × (all ≢ [])
some_words [] all e = absurd cc
some_words (w ∷ ws) all e = (cc, λ f. cons_nil w ws (worded_same (w ∷ ws) all e ∙ f))
  where
    cons_nil : (w : List ℕ) (ws : List (List ℕ)) → w ∷ ws ≡ [] → ⊥
    cons_nil w ws f = cc

    worded_same : (x y : List (List ℕ)) → worded x ≡ worded y → x ≡ y
    worded_same x y f = cc

ends_blank : (mode : Mode) (words : List (List ℕ)) (at : ℕ) → verdict_in mode words at ≡ blank → IsDone mode × (words ≡ [])
ends_blank Between words at e = (tt, blank_words words e)
ends_blank Outside words at e = (tt, blank_words words e)
ends_blank Semicolon words at e = absurd cc
ends_blank Inside words at e = absurd cc
ends_blank Escape words at e = absurd cc
ends_blank (Digit n) words at e = absurd cc
ends_blank (Refused place reason) words at e = absurd cc

ends_words : (mode : Mode) (words all : List (List ℕ)) (at : ℕ) → verdict_in mode words at ≡ worded all → IsDone mode × (words ≡ all) × (all ≢ [])
ends_words Between words all at e = let s = some_words words all e in (tt, s.0, s.1)
ends_words Outside words all at e = let s = some_words words all e in (tt, s.0, s.1)
ends_words Semicolon words all at e = absurd cc
ends_words Inside words all at e = absurd cc
ends_words Escape words all at e = absurd cc
ends_words (Digit n) words all at e = absurd cc
ends_words (Refused place reason) words all at e = absurd cc

-- ---- the verdict is said

no_earlier : (place j k : ℕ) (q r why : Reason) → malformed place r ≡ malformed j q → Reaches j q k why → place ≤ k
no_earlier place j k q r why e (inl lt) = let s = (same_malformed place j r q e).0 in omega arith
no_earlier place j k q r why e (inr h) = let s = (same_malformed place j r q e).0 in omega (arith, h.0)

pub verdict_said : (body : List ℕ) (meaning : Meaning) → body_verdict body ≡ meaning → BodySays body meaning
verdict_said body Blank e =
    let s = fold step start body in
    let h = ends_blank s.mode s.words s.at e in
    found_says body [] (record { done = h.0; words_are = h.1 })
verdict_said body (Words all) e =
    let s = fold step start body in
    let h = ends_words s.mode s.words all s.at e in
    (h.2, found_says body all (record { done = h.0; words_are = h.1 }))
verdict_said body (Malformed place reason) e = record {
  offence = refused_is_offence body place reason e;
  least = λ other why off. let r = offence_refused body other why off in no_earlier place r.place other r.why reason why (sym e ∙ r.is) r.reaches;
}

-- ---- nothing else is said

all_some : (all : List (List ℕ)) → all ≢ [] → all_words all ≡ Words all
all_some [] some = absurd (some refl)
all_some (w ∷ ws) some = refl

first_is : (body : List ℕ) (place j : ℕ) (q reason : Reason) → IsFirstOffence body place reason → body_verdict body ≡ Malformed j q → Reaches j q place reason → body_verdict body ≡ Malformed place reason
first_is body place j q reason h e (inl lt) = absurd (omega (arith, h.least j q (refused_is_offence body j q e)))
first_is body place j q reason h e (inr s) = e ∙ ap (λ (k : ℕ). Malformed k q) s.0 ∙ ap (λ (r : Reason). Malformed place r) s.1

pub said_is_verdict : (body : List ℕ) (meaning : Meaning) → BodySays body meaning → body_verdict body ≡ meaning
said_is_verdict body Blank h = says_words_found body [] h
said_is_verdict body (Words all) h = says_words_found body all h.1 ∙ all_some all h.0
said_is_verdict body (Malformed place reason) h =
    let r = offence_refused body place reason h.offence in
    first_is body place r.place r.why reason h r.is r.reaches

-- ---- a line has one body

two_push : (a b : List ℕ) (c d : ℕ) → a ++ c ∷ 59 ∷ [] ≡ b ++ d ∷ 59 ∷ [] → a ≡ b
two_push a b c d e =
    let f : (a ++ c ∷ []) ++ 59 ∷ [] ≡ (b ++ d ∷ []) ++ 59 ∷ [] = append_assoc a (c ∷ []) (59 ∷ []) ∙ e ∙ sym (append_assoc b (d ∷ []) (59 ∷ [])) in
    (same_from_push a b c d (same_from_push (a ++ c ∷ []) (b ++ d ∷ []) 59 59 f).0).0

not_alone : (a : List ℕ) (c : ℕ) → a ++ c ∷ 59 ∷ [] ≡ 59 ∷ [] → ⊥
not_alone [] c e = cc
not_alone (x ∷ []) c e = cc
not_alone (x ∷ y ∷ ys) c e = cc

marked_same : (line a b : List ℕ) → Marked line a → Marked line b → a ≡ b
marked_same line a b (inl p) (inl q) = p.1 ∙ sym q.1
marked_same line a b (inl p) (inr (d, w, e)) = absurd (not_alone b d (sym e ∙ p.0))
marked_same line a b (inr (c, w, e)) (inl q) = absurd (not_alone a c (sym e ∙ q.0))
marked_same line a b (inr (c, v, e)) (inr (d, w, f)) = two_push a b c d (sym e ∙ f)

body_same : (line a b : List ℕ) (x y : Bool) → HasBody line x a → HasBody line y b → (x ≡ y) × (a ≡ b)
body_same line a b true true p q = (refl, marked_same line a b p q)
body_same line a b true false p q = absurd (q.0 a p)
body_same line a b false true p q = absurd (p.0 b q)
body_same line a b false false p q = (refl, p.1 ∙ sym q.1)

same_by_test : (t : Bool) (body : List ℕ) (m n : Meaning) → MatchBool t (m ≡ Malformed longest_line LineTooLong) (BodySays body m) → MatchBool t (n ≡ Malformed longest_line LineTooLong) (BodySays body n) → m ≡ n
same_by_test true body m n p q = p ∙ sym q
same_by_test false body m n p q = sym (said_is_verdict body m p) ∙ said_is_verdict body n q

-- a line says one thing
pub one_meaning : (line : List ℕ) (m n : Meaning) (x y : Bool) → Says line m x → Says line n y → (m ≡ n) × (x ≡ y)
one_meaning line m n x y p q =
    let b = body_same line p.body q.body x y p.has_body q.has_body in
    let t = ltb longest_line (length line) in
    (same_by_test t p.body m n p.says (subst (λ (z : List ℕ). MatchBool t (n ≡ Malformed longest_line LineTooLong) (BodySays z n)) (sym b.1) q.says), b.0)

by_test : (t : Bool) (P Q : Type 0) → t ≡ false → Q → MatchBool t P Q
by_test true P Q e q = absurd cc
by_test false P Q e q = q

-- a line that isn't too long says what its body says
pub line_says : (line body : List ℕ) (more : Bool) (m : Meaning) → HasBody line more body → length line ≤ longest_line → body_verdict body ≡ m → Says line m more
line_says line body more m has le e = record {
  body = body;
  has_body = has;
  says = by_test (ltb longest_line (length line)) _ _ (le-ltb longest_line (length line) le) (verdict_said body m e);
}

-- and what is read off the whole scan of its body
pub reading_says : (line body : List ℕ) (more marked : Bool) (scan : Scan) (m : Meaning) → HasBody line marked body → length line ≤ longest_line → scan ≡ fold step start body → m ≡ verdict scan → more ≡ marked → Says line m more
reading_says line body more marked scan m has le e same mark = subst (λ (b : Bool). Says line m b) (sym mark) (line_says line body marked m has le (sym (same ∙ ap verdict e)))
