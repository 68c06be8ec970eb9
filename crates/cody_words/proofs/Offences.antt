-- What a scan refuses is an offence, at its place.
use Rattle.std.proofs.Common.{◌≡◌, ℕ, ◌+◌, ◌-◌, ◌<◌, inl, inr, Bool, true, false, cond, eqb, List, [], ◌∷◌, ◌++◌, length, Option, Some, None, refl, sym, ap, subst, ◌∙◌, append_assoc, arith}
use Rattle.std.specs.List.{fold, flat_map, AllByRecursion}
use Rattle.std.proofs.lemmas.List.{append-nil, length-append}
use Rattle.std.proofs.lemmas.Bool.{cases_Bool, eqb-true, cond-true, cond-false}
use Rattle.cody_words.specs.declared.reason.Reason.{Reason}
use Rattle.cody_words.specs.declared.reason.Reason.TheVariants.{ControlOctet, BackslashOutside, UnknownEscape, StraySemicolon, UnclosedQuote}
use Rattle.cody_words.specs.declared.mode.Mode.{Mode}
use Rattle.cody_words.specs.declared.mode.Mode.TheVariants.{Between, Semicolon, Outside, Inside, Escape, Digit, Refused}
use Rattle.cody_words.specs.Octets.{IsWhite, IsPlain, hex_digit}
use Rattle.cody_words.specs.Spelling.{Item, plain, one_digit, two_digits, escaped_newline, escaped_tab, escaped_apostrophe, escaped_backslash, escaped_space, item_raw, items_raw, IsItem, bare, quoted}
use Rattle.cody_words.specs.Lines.{Meaning, Malformed, IsApartBehind, Piece, gap, part, piece_raw, IsPiece, EndsOutside, EndsInside, Offends, IsOffence}
use Rattle.cody_words.specs.Scan.{Scan, is_white, hex_value, letter_value, with_octet, with_word, goes, step_outside, step_between, step_semicolon, step_digit, step_in, step, start, all_words, verdict_in, verdict}
use Rattle.cody_words.proofs.Cases.{OutsideStep, outside_step, InsideStep, inside_step, EscapeStep, escape_step, hex_is, hex_again, white_is}
use Rattle.cody_words.proofs.Cases as cases
use Rattle.cody_words.proofs.Told.{head_same}

pub all_push : {X : Type 0} (P : X → Type 0) (xs : List X) (x : X) → AllByRecursion P xs → P x → AllByRecursion P (xs ++ x ∷ [])
all_push P [] x h p = (p, tt)
all_push P (y ∷ ys) x h p = (h.0, all_push P ys x h.1 p)

flat_push : {X : Type 0} (f : X → List ℕ) (xs : List X) (x : X) → flat_map f xs ++ f x ≡ flat_map f (xs ++ x ∷ [])
flat_push f [] x = sym (append-nil (f x))
flat_push f (y ∷ ys) x = append_assoc (f y) (flat_map f ys) (f x) ∙ ap (λ (t : List ℕ). f y ++ t) (flat_push f ys x)

-- one more piece outside
outside_more : (front : List ℕ) (p : Piece) → EndsOutside front → IsPiece p → EndsOutside (front ++ piece_raw p)
outside_more front p h one = record {
  pieces = h.pieces ++ p ∷ [];
  each = all_push IsPiece h.pieces p h.each one;
  written = ap (λ (t : List ℕ). t ++ piece_raw p) h.written ∙ flat_push piece_raw h.pieces p;
}

-- one more item inside
inside_more : (front : List ℕ) (i : Item) → EndsInside front → IsItem i → EndsInside (front ++ item_raw i)
inside_more front i h one = record {
  before = h.before;
  items = h.items ++ i ∷ [];
  outside = h.outside;
  each = all_push IsItem h.items i h.each one;
  written = ap (λ (t : List ℕ). t ++ item_raw i) h.written ∙ append_assoc h.before (39 ∷ items_raw h.items) (item_raw i) ∙ ap (λ (t : List ℕ). h.before ++ 39 ∷ t) (flat_push item_raw h.items i);
}

inside_opens : (front : List ℕ) → EndsOutside front → EndsInside (front ++ 39 ∷ [])
inside_opens front h = record { before = front; items = []; outside = h; each = tt; written = refl }

-- the quote is closed
outside_again : (front : List ℕ) → EndsInside front → EndsOutside (front ++ 39 ∷ [])
outside_again front h =
    let whole : front ++ 39 ∷ [] ≡ h.before ++ piece_raw (part (quoted h.items)) = ap (λ (t : List ℕ). t ++ 39 ∷ []) h.written ∙ append_assoc h.before (39 ∷ items_raw h.items) (39 ∷ []) in
    subst EndsOutside (sym whole) (outside_more h.before (part (quoted h.items)) h.outside h.each)

-- what the mode says of the octets so far
pub record Behind (front : List ℕ) (tail : List ℕ) (P : List ℕ → Type 0) : Type 0 where
  pub before : List ℕ
  pub whole : front ≡ before ++ tail
  pub holds : P before

abbrev Boundary : List ℕ → Type 0
Boundary front = EndsOutside front × IsApartBehind front

abbrev pub Stands : Mode → List ℕ → Type 0
Stands Between front = Boundary front
Stands Semicolon front = Behind front (59 ∷ []) Boundary
Stands Outside front = EndsOutside front
Stands Inside front = EndsInside front
Stands Escape front = Behind front (92 ∷ []) EndsInside
Stands (Digit n) front = (n < 16) × Behind front (92 ∷ hex_digit n ∷ []) EndsInside
Stands (Refused place reason) front = (back : List ℕ) → IsOffence (front ++ back) place reason

-- an offence that an octet shows
refused_here : (front : List ℕ) (at c : ℕ) (reason : Reason) → length front ≡ at → ((back : List ℕ) → Offends front (c ∷ back) reason) → (back : List ℕ) → IsOffence ((front ++ c ∷ []) ++ back) at reason
refused_here front at c reason len h back = record {
  front = front;
  back = c ∷ back;
  whole = append_assoc front (c ∷ []) back;
  place_is = len;
  offends = h back;
}

-- an offence that the octet before shows
refused_before : (front : List ℕ) (at b c : ℕ) (reason : Reason) (P : List ℕ → Type 0) → (behind : Behind front (b ∷ []) P) → length front ≡ at → ((back : List ℕ) → Offends behind.before (b ∷ c ∷ back) reason) → (back : List ℕ) → IsOffence ((front ++ c ∷ []) ++ back) (at - 1) reason
refused_before front at b c reason P behind len h back = record {
  front = behind.before;
  back = b ∷ c ∷ back;
  whole = ap (λ (t : List ℕ). (t ++ c ∷ []) ++ back) behind.whole ∙ append_assoc (behind.before ++ b ∷ []) (c ∷ []) back ∙ append_assoc behind.before (b ∷ []) (c ∷ back);
  place_is = omega (arith, length-append behind.before (b ∷ []), ap length behind.whole);
  offends = h back;
}

white_stands : (front : List ℕ) (c : ℕ) → EndsOutside front → IsWhite c → Boundary (front ++ c ∷ [])
white_stands front c out w = (outside_more front (gap c) out w, inr (front, c, w, refl))

outside_stands : (words : List (List ℕ)) (front : List ℕ) (at c : ℕ) (t : Scan) → length front ≡ at → EndsOutside front → OutsideStep words at c t → Stands t.mode (front ++ c ∷ [])
outside_stands words front at c t len out (cases.OutsideStep.white w e) = subst (λ (s : Scan). Stands s.mode (front ++ c ∷ [])) (sym e) (white_stands front c out w)
outside_stands words front at c t len out (cases.OutsideStep.opened q e) = rw (e, q) (inside_opens front out)
outside_stands words front at c t len out (cases.OutsideStep.control k e) = subst (λ (s : Scan). Stands s.mode (front ++ c ∷ [])) (sym e) (refused_here front at c ControlOctet len (λ back. (c, back, k, refl)))
outside_stands words front at c t len out (cases.OutsideStep.slash q e) = subst (λ (s : Scan). Stands s.mode (front ++ c ∷ [])) (sym e) (refused_here front at c BackslashOutside len (λ back. (out, (back, rw q refl))))
outside_stands words front at c t len out (cases.OutsideStep.letter b e) = subst (λ (s : Scan). Stands s.mode (front ++ c ∷ [])) (sym e) (outside_more front (part (bare c)) out b)

between_stands : (words : List (List ℕ)) (front : List ℕ) (at c : ℕ) → length front ≡ at → Boundary front → Stands (step_between words at c).mode (front ++ c ∷ [])
between_stands words front at c len b =
    elim (cases_Bool (is_white c)) [
      | inl y ↦ subst (λ (s : Scan). Stands s.mode (front ++ c ∷ [])) (sym (cond-true _ _ _ y)) (white_stands front c b.0 (white_is c y))
      | inr n ↦ elim (cases_Bool (eqb c 59)) [
        | inl q ↦
            let e : step_between words at c ≡ goes (with_octet (with_word words) c) at Semicolon = cond-false _ _ _ n ∙ cond-true _ _ _ q in
            let whole : front ++ c ∷ [] ≡ front ++ 59 ∷ [] = ap (λ (x : ℕ). front ++ x ∷ []) (eqb-true c 59 q) in
            subst (λ (s : Scan). Stands s.mode (front ++ c ∷ [])) (sym e) (record { before = front; whole = whole; holds = b })
        | inr nq ↦
            let e : step_between words at c ≡ step_outside (with_word words) at c = cond-false _ _ _ n ∙ cond-false _ _ _ nq in
            subst (λ (s : Scan). Stands s.mode (front ++ c ∷ [])) (sym e) (outside_stands (with_word words) front at c _ len b.0 (outside_step (with_word words) at c))
      ]
    ]

semicolon_out : (front : List ℕ) → Behind front (59 ∷ []) Boundary → EndsOutside front
semicolon_out front h =
    subst EndsOutside (sym h.whole) (outside_more h.before (part (bare 59)) h.holds.0 (omega arith, omega arith, omega arith, omega arith))

semicolon_stands : (words : List (List ℕ)) (front : List ℕ) (at c : ℕ) → length front ≡ at → Behind front (59 ∷ []) Boundary → Stands (step_semicolon words at c).mode (front ++ c ∷ [])
semicolon_stands words front at c len b =
    elim (cases_Bool (is_white c)) [
      | inl y ↦ subst (λ (s : Scan). Stands s.mode (front ++ c ∷ [])) (sym (cond-true _ _ _ y)) (refused_before front at 59 c StraySemicolon Boundary b len (λ back. (b.holds.0, b.holds.1, (c ∷ back, white_is c y, refl))))
      | inr n ↦ subst (λ (s : Scan). Stands s.mode (front ++ c ∷ [])) (sym (cond-false _ _ _ n)) (outside_stands words front at c _ len (semicolon_out front b) (outside_step words at c))
    ]

inside_stands : (words : List (List ℕ)) (front : List ℕ) (at c : ℕ) (t : Scan) → length front ≡ at → EndsInside front → InsideStep words at c t → Stands t.mode (front ++ c ∷ [])
inside_stands words front at c t len b (cases.InsideStep.closed q e) = rw (e, q) (outside_again front b)
inside_stands words front at c t len b (cases.InsideStep.escape q e) = rw (e, q) (record { before = front; whole = refl; holds = b })
inside_stands words front at c t len b (cases.InsideStep.control k e) = subst (λ (s : Scan). Stands s.mode (front ++ c ∷ [])) (sym e) (refused_here front at c ControlOctet len (λ back. (c, back, k, refl)))
inside_stands words front at c t len b (cases.InsideStep.item p e) = subst (λ (s : Scan). Stands s.mode (front ++ c ∷ [])) (sym e) (inside_more front (plain c) b p)

-- an octet that begins no escape
pub record EscapesNothing (c : ℕ) : Type 0 where
  pub letter : letter_value c ≡ None
  pub digit : hex_value c ≡ None

abbrev some : ℕ → Option ℕ
some n = Some n

abbrev none : Option ℕ
none = None

some_none : (n : ℕ) → some n ≡ none → ⊥
some_none n e = cc

two_same : (a b c d : ℕ) (xs ys : List ℕ) → a ∷ b ∷ xs ≡ c ∷ d ∷ ys → (a ≡ c) × (b ≡ d)
two_same a b c d xs ys e = (cc, cc)

not_this : (c d n : ℕ) (xs ys : List ℕ) → EscapesNothing c → letter_value d ≡ some n → 92 ∷ c ∷ xs ≡ 92 ∷ d ∷ ys → ⊥
not_this c d n xs ys h l e = some_none n (sym l ∙ ap letter_value (sym (two_same 92 c 92 d xs ys e).1) ∙ h.letter)

not_digit : (c m : ℕ) (xs ys : List ℕ) → EscapesNothing c → m < 16 → 92 ∷ c ∷ xs ≡ 92 ∷ hex_digit m ∷ ys → ⊥
not_digit c m xs ys h lt e = some_none m (sym (hex_again m lt) ∙ ap hex_value (sym (two_same 92 c 92 (hex_digit m) xs ys e).1) ∙ h.digit)

plain_slash : (d : ℕ) → IsPlain d → 92 ≡ d → ⊥
plain_slash d (inl h) e = h.1 (sym e)
plain_slash d (inr h) e = absurd (omega arith)

begins_none : (c : ℕ) (back : List ℕ) → EscapesNothing c → (i : Item) (behind : List ℕ) → IsItem i → 92 ∷ c ∷ back ≡ item_raw i ++ behind → ⊥
begins_none c back h (plain d) behind one e = plain_slash d one (head_same 92 d (c ∷ back) behind e)
begins_none c back h escaped_newline behind one e = not_this c 110 10 back behind h refl e
begins_none c back h escaped_tab behind one e = not_this c 116 9 back behind h refl e
begins_none c back h escaped_apostrophe behind one e = not_this c 39 39 back behind h refl e
begins_none c back h escaped_backslash behind one e = not_this c 92 92 back behind h refl e
begins_none c back h escaped_space behind one e = not_this c 95 32 back behind h refl e
begins_none c back h (one_digit m) behind one e = not_digit c m back behind h one e
begins_none c back h (two_digits m n) behind one e = not_digit c m back (hex_digit n ∷ behind) h one.0 e

nothing_follows : (i : Item) (behind : List ℕ) → IsItem i → 92 ∷ [] ≡ item_raw i ++ behind → ⊥
nothing_follows (plain d) behind one e = plain_slash d one (head_same 92 d [] behind e)
nothing_follows escaped_newline behind one e = absurd cc
nothing_follows escaped_tab behind one e = absurd cc
nothing_follows escaped_apostrophe behind one e = absurd cc
nothing_follows escaped_backslash behind one e = absurd cc
nothing_follows escaped_space behind one e = absurd cc
nothing_follows (one_digit m) behind one e = absurd cc
nothing_follows (two_digits m n) behind one e = absurd cc

escape_stands : (words : List (List ℕ)) (front : List ℕ) (at c : ℕ) (t : Scan) → length front ≡ at → Behind front (92 ∷ []) EndsInside → EscapeStep words at c t → Stands t.mode (front ++ c ∷ [])
escape_stands words front at c t len b (cases.EscapeStep.letter i one any raw e) =
    let whole : front ++ c ∷ [] ≡ b.before ++ item_raw i = ap (λ (x : List ℕ). x ++ c ∷ []) b.whole ∙ append_assoc b.before (92 ∷ []) (c ∷ []) ∙ ap (λ (x : List ℕ). b.before ++ x) (sym raw) in
    subst (λ (s : Scan). Stands s.mode (front ++ c ∷ [])) (sym e) (subst EndsInside (sym whole) (inside_more b.before i b.holds one))
escape_stands words front at c t len b (cases.EscapeStep.digit n lt hex e) =
    let whole : front ++ c ∷ [] ≡ b.before ++ 92 ∷ hex_digit n ∷ [] = ap (λ (x : List ℕ). x ++ c ∷ []) b.whole ∙ append_assoc b.before (92 ∷ []) (c ∷ []) ∙ ap (λ (x : ℕ). b.before ++ 92 ∷ x ∷ []) hex in
    subst (λ (s : Scan). Stands s.mode (front ++ c ∷ [])) (sym e) (lt, record { before = b.before; whole = whole; holds = b.holds })
escape_stands words front at c t len b (cases.EscapeStep.unknown l h e) =
    subst (λ (s : Scan). Stands s.mode (front ++ c ∷ [])) (sym e) (refused_before front at 92 c UnknownEscape EndsInside b len (λ back. (b.holds, record { rest = c ∷ back; escape = refl; none = λ i behind one eq. begins_none c back (record { letter = l; digit = h }) i behind one eq })))

digit_inside : (front : List ℕ) (n : ℕ) → n < 16 → Behind front (92 ∷ hex_digit n ∷ []) EndsInside → EndsInside front
digit_inside front n lt b = subst EndsInside (sym b.whole) (inside_more b.before (one_digit n) b.holds lt)

digit_stands : (words : List (List ℕ)) (front : List ℕ) (at n c : ℕ) (o : Option ℕ) → hex_value c ≡ o → length front ≡ at → n < 16 → Behind front (92 ∷ hex_digit n ∷ []) EndsInside → Stands (step_digit words at n c o).mode (front ++ c ∷ [])
digit_stands words front at n c None h len lt b = inside_stands (with_octet words n) front at c _ len (digit_inside front n lt b) (inside_step (with_octet words n) at c)
digit_stands words front at n c (Some m) h len lt b =
    let d = hex_is c m h in
    let whole : front ++ c ∷ [] ≡ b.before ++ item_raw (two_digits n m) = ap (λ (x : List ℕ). x ++ c ∷ []) b.whole ∙ append_assoc b.before (92 ∷ hex_digit n ∷ []) (c ∷ []) ∙ ap (λ (x : ℕ). b.before ++ 92 ∷ hex_digit n ∷ x ∷ []) d.1 in
    subst EndsInside (sym whole) (inside_more b.before (two_digits n m) b.holds (lt, d.0))

step_stands : (mode : Mode) (words : List (List ℕ)) (front : List ℕ) (at c : ℕ) → length front ≡ at → Stands mode front → Stands (step_in mode words at c).mode (front ++ c ∷ [])
step_stands Between words front at c len h = between_stands words front at c len h
step_stands Semicolon words front at c len h = semicolon_stands words front at c len h
step_stands Outside words front at c len h = outside_stands words front at c _ len h (outside_step words at c)
step_stands Inside words front at c len h = inside_stands words front at c _ len h (inside_step words at c)
step_stands Escape words front at c len h = escape_stands words front at c _ len h (escape_step words at c)
step_stands (Digit n) words front at c len h = digit_stands words front at n c (hex_value c) refl len h.0 h.1
step_stands (Refused place reason) words front at c len h = λ back. subst (λ (x : List ℕ). IsOffence x place reason) (sym (append_assoc front (c ∷ []) back)) (h (c ∷ back))

-- ---- the place is the number of octets so far

at_outside : (words : List (List ℕ)) (at c : ℕ) (t : Scan) → OutsideStep words at c t → t.at ≡ at + 1
at_outside words at c t (cases.OutsideStep.white w e) = ap (λ (s : Scan). s.at) e
at_outside words at c t (cases.OutsideStep.opened q e) = ap (λ (s : Scan). s.at) e
at_outside words at c t (cases.OutsideStep.control k e) = ap (λ (s : Scan). s.at) e
at_outside words at c t (cases.OutsideStep.slash q e) = ap (λ (s : Scan). s.at) e
at_outside words at c t (cases.OutsideStep.letter b e) = ap (λ (s : Scan). s.at) e

at_inside : (words : List (List ℕ)) (at c : ℕ) (t : Scan) → InsideStep words at c t → t.at ≡ at + 1
at_inside words at c t (cases.InsideStep.closed q e) = ap (λ (s : Scan). s.at) e
at_inside words at c t (cases.InsideStep.escape q e) = ap (λ (s : Scan). s.at) e
at_inside words at c t (cases.InsideStep.control k e) = ap (λ (s : Scan). s.at) e
at_inside words at c t (cases.InsideStep.item p e) = ap (λ (s : Scan). s.at) e

at_escape : (words : List (List ℕ)) (at c : ℕ) (t : Scan) → EscapeStep words at c t → t.at ≡ at + 1
at_escape words at c t (cases.EscapeStep.letter i one any raw e) = ap (λ (s : Scan). s.at) e
at_escape words at c t (cases.EscapeStep.digit n lt hex e) = ap (λ (s : Scan). s.at) e
at_escape words at c t (cases.EscapeStep.unknown l h e) = ap (λ (s : Scan). s.at) e

at_digit : (words : List (List ℕ)) (at n c : ℕ) (o : Option ℕ) → (step_digit words at n c o).at ≡ at + 1
at_digit words at n c None = at_inside (with_octet words n) at c _ (inside_step (with_octet words n) at c)
at_digit words at n c (Some m) = refl

at_cond : (b : Bool) (s t : Scan) (k : ℕ) → s.at ≡ k → t.at ≡ k → (cond b s t).at ≡ k
at_cond true s t k p q = p
at_cond false s t k p q = q

pub at_step : (mode : Mode) (words : List (List ℕ)) (at c : ℕ) → (step_in mode words at c).at ≡ at + 1
at_step Between words at c = at_cond (is_white c) _ _ (at + 1) refl (at_cond (eqb c 59) _ _ (at + 1) refl (at_outside (with_word words) at c _ (outside_step (with_word words) at c)))
at_step Semicolon words at c = at_cond (is_white c) _ _ (at + 1) refl (at_outside words at c _ (outside_step words at c))
at_step Outside words at c = at_outside words at c _ (outside_step words at c)
at_step Inside words at c = at_inside words at c _ (inside_step words at c)
at_step Escape words at c = at_escape words at c _ (escape_step words at c)
at_step (Digit n) words at c = at_digit words at n c (hex_value c)
at_step (Refused place reason) words at c = refl

run_stands : (rest : List ℕ) (scan : Scan) (front : List ℕ) → length front ≡ scan.at → Stands scan.mode front → Stands (fold step scan rest).mode (front ++ rest) × (length (front ++ rest) ≡ (fold step scan rest).at)
run_stands [] scan front len h = rw append-nil (h, len)
run_stands (c ∷ rest) scan front len h =
    let longer : length (front ++ c ∷ []) ≡ (step scan c).at = omega (arith, length-append front (c ∷ []), at_step scan.mode scan.words scan.at c) in
    subst (λ (x : List ℕ). Stands (fold step (step scan c) rest).mode x × (length x ≡ (fold step (step scan c) rest).at)) (append_assoc front (c ∷ []) rest)
    (run_stands rest (step scan c) (front ++ c ∷ []) longer (step_stands scan.mode scan.words front scan.at c len h))

-- ---- what is refused at the end

abbrev pub malformed : ℕ → Reason → Meaning
malformed place reason = Malformed place reason

-- what is malformed in one way has one place and one reason
pub same_malformed : (j k : ℕ) (q r : Reason) → malformed j q ≡ malformed k r → (j ≡ k) × (q ≡ r)
same_malformed j k q r e = (cc, cc)

no_words : (words : List (List ℕ)) (k : ℕ) (r : Reason) → all_words words ≡ malformed k r → ⊥
no_words [] k r e = cc
no_words (w ∷ ws) k r e = cc

offence_is : (body : List ℕ) (j k : ℕ) (q r : Reason) → IsOffence body j q → malformed j q ≡ malformed k r → IsOffence body k r
offence_is body j k q r h e =
    let s = same_malformed j k q r e in
    subst (λ (x : Reason). IsOffence body k x) s.1 (subst (λ (x : ℕ). IsOffence body x q) s.0 h)

unclosed : (body : List ℕ) (at : ℕ) → length body ≡ at → EndsInside body → IsOffence body at UnclosedQuote
unclosed body at len h = record { front = body; back = []; whole = sym (append-nil body); place_is = len; offends = (h, refl) }

last_octet : (body : List ℕ) (at b : ℕ) (reason : Reason) (P : List ℕ → Type 0) → (h : Behind body (b ∷ []) P) → length body ≡ at → Offends h.before (b ∷ []) reason → IsOffence body (at - 1) reason
last_octet body at b reason P h len off = record {
  front = h.before;
  back = b ∷ [];
  whole = h.whole;
  place_is = omega (arith, length-append h.before (b ∷ []), ap length h.whole);
  offends = off;
}

refused_at_end : (mode : Mode) (words : List (List ℕ)) (body : List ℕ) (at k : ℕ) (r : Reason) → length body ≡ at → Stands mode body → verdict_in mode words at ≡ malformed k r → IsOffence body k r
refused_at_end Between words body at k r len h e = absurd (no_words words k r e)
refused_at_end Semicolon words body at k r len h e = offence_is body (at - 1) k StraySemicolon r (last_octet body at 59 StraySemicolon Boundary h len (h.holds.0, h.holds.1, ([], tt, refl))) e
refused_at_end Outside words body at k r len h e = absurd (no_words words k r e)
refused_at_end Inside words body at k r len h e = offence_is body at k UnclosedQuote r (unclosed body at len h) e
refused_at_end Escape words body at k r len h e = offence_is body (at - 1) k UnknownEscape r (last_octet body at 92 UnknownEscape EndsInside h len (h.holds, record { rest = []; escape = refl; none = λ i behind one eq. nothing_follows i behind one eq })) e
refused_at_end (Digit n) words body at k r len h e = offence_is body at k UnclosedQuote r (unclosed body at len (digit_inside body n h.0 h.1)) e
refused_at_end (Refused place reason) words body at k r len h e = offence_is body place k reason r (subst (λ (x : List ℕ). IsOffence x place reason) (append-nil body) (h [])) e

-- what the scan refuses is an offence at that place
pub refused_is_offence : (body : List ℕ) (k : ℕ) (r : Reason) → verdict (fold step start body) ≡ Malformed k r → IsOffence body k r
refused_is_offence body k r e =
    let nothing : EndsOutside [] = record { pieces = []; each = tt; written = refl } in
    let h = run_stands body start [] refl (nothing, inl refl) in
    refused_at_end (fold step start body).mode (fold step start body).words body (fold step start body).at k r h.1 h.0 e
