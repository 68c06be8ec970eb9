-- No offence stands before the one that the scan refuses.
use Rattle.std.proofs.Common.{◌≡◌, ℕ, ◌+◌, ◌-◌, ◌<◌, ◌⊎◌, inl, inr, Bool, true, false, cond, eqb, ◌&&◌, ◌||◌, List, [], ◌∷◌, ◌++◌, length, Option, Some, None, refl, sym, ap, subst, ◌∙◌, arith}
use Rattle.std.specs.List.{fold, flat_map, AllByRecursion}
use Rattle.std.proofs.lemmas.List.Sums.{fold-append}
use Rattle.std.specs.Option.{is_some}
use Rattle.std.proofs.lemmas.Bool.Decides.{nat_tests}
use Rattle.std.proofs.lemmas.Bool.{agree_below_at, or_parts, ne_eqb, cond-true, cond-false}
use Rattle.cody_words.specs.declared.reason.Reason.{Reason}
use Rattle.cody_words.specs.declared.reason.Reason.TheVariants.{ControlOctet, BackslashOutside, UnknownEscape, StraySemicolon, UnclosedQuote, LineTooLong}
use Rattle.cody_words.specs.declared.mode.Mode.{Mode}
use Rattle.cody_words.specs.declared.mode.Mode.TheVariants.{Between, Semicolon, Outside, Inside, Escape, Digit, Refused}
use Rattle.cody_words.specs.Octets.{IsWhite, IsControl, IsBare, IsPlain, hex_digit}
use Rattle.cody_words.specs.Spelling.{Item, plain, one_digit, two_digits, escaped_newline, escaped_tab, escaped_apostrophe, escaped_backslash, escaped_space, item_raw, items_raw, IsItem, bare, quoted}
use Rattle.cody_words.specs.Lines.{Meaning, Malformed, IsApart, IsApartBehind, Piece, gap, part, piece_raw, IsPiece, EndsOutside, EndsInside, Offends, IsOffence}
use Rattle.cody_words.specs.Scan.{Scan, is_white, is_control, hex_value, letter_value, with_octet, with_word, goes, step_outside, step_inside, step_escape, step_digit, step_in, step, start, verdict}
use Rattle.cody_words.proofs.Cases.{OutsideStep, outside_step, InsideStep, inside_step, EscapeStep, escape_step, white_again, control_again, hex_again, none_is, bare_not_white}
use Rattle.cody_words.proofs.Cases as cases
use Rattle.cody_words.proofs.Found.{scan_at, plain_step, bare_step, digit_step}
use Rattle.cody_words.proofs.Offences.{at_step}

-- a place that was refused lies behind
abbrev Sane : Mode → ℕ → Type 0
Sane (Refused place reason) at = place < at
Sane Between at = Unit {0}
Sane Semicolon at = Unit {0}
Sane Outside at = Unit {0}
Sane Inside at = Unit {0}
Sane Escape at = 0 < at
Sane (Digit n) at = Unit {0}

-- outside quotes, or refused
abbrev Out : Mode → ℕ → Type 0
Out (Refused place reason) at = place < at
Out Between at = Unit {0}
Out Semicolon at = Unit {0}
Out Outside at = Unit {0}
Out Inside at = ⊥
Out Escape at = ⊥
Out (Digit n) at = ⊥

-- between quotes, or refused
abbrev In : Mode → ℕ → Type 0
In (Refused place reason) at = place < at
In Between at = ⊥
In Semicolon at = ⊥
In Outside at = ⊥
In Inside at = Unit {0}
In Escape at = ⊥
In (Digit n) at = Unit {0}

abbrev SaneScan : Scan → Type 0
SaneScan s = Sane s.mode s.at

abbrev OutScan : Scan → Type 0
OutScan s = Out s.mode s.at

abbrev InScan : Scan → Type 0
InScan s = In s.mode s.at

cond_is : (P : Scan → Type 0) (b : Bool) (s t : Scan) → P s → P t → P (cond b s t)
cond_is P true s t p q = p
cond_is P false s t p q = q

-- a refused scan stays as it is, but for the number of octets
in_stays : (octets : List ℕ) (words : List (List ℕ)) (at place : ℕ) (reason : Reason) → place < at → InScan (fold step (scan_at words (Refused place reason) at) octets)
in_stays [] words at place reason lt = lt
in_stays (c ∷ octets) words at place reason lt = in_stays octets words (at + 1) place reason (omega arith)

-- ---- items

inside_item : (i : Item) → IsItem i → (words : List (List ℕ)) (at : ℕ) → InScan (fold step (scan_at words Inside at) (item_raw i))
inside_item (plain c) one words at = subst InScan (sym (plain_step words at c one)) tt
inside_item escaped_newline one words at = tt
inside_item escaped_tab one words at = tt
inside_item escaped_apostrophe one words at = tt
inside_item escaped_backslash one words at = tt
inside_item escaped_space one words at = tt
inside_item (one_digit n) one words at = subst InScan (sym (digit_step words (at + 1) n one)) tt
inside_item (two_digits m n) one words at =
    subst (λ (s : Scan). InScan (step s (hex_digit n))) (sym (digit_step words (at + 1) m one.0))
    (subst (λ (o : Option ℕ). InScan (step_digit words (at + 1 + 1) m (hex_digit n) o)) (sym (hex_again n one.1)) tt)

digit_plain : (words : List (List ℕ)) (at n c : ℕ) (o : Option ℕ) → IsPlain c → InScan (step_digit words at n c o)
digit_plain words at n c None one = subst InScan (sym (plain_step (with_octet words n) at c one)) tt
digit_plain words at n c (Some m) one = tt

digit_item : (i : Item) → IsItem i → (words : List (List ℕ)) (at n : ℕ) → InScan (fold step (scan_at words (Digit n) at) (item_raw i))
digit_item (plain c) one words at n = digit_plain words at n c (hex_value c) one
digit_item escaped_newline one words at n = tt
digit_item escaped_tab one words at n = tt
digit_item escaped_apostrophe one words at n = tt
digit_item escaped_backslash one words at n = tt
digit_item escaped_space one words at n = tt
digit_item (one_digit k) one words at n = subst InScan (sym (digit_step (with_octet words n) (at + 1) k one)) tt
digit_item (two_digits m k) one words at n =
    subst (λ (s : Scan). InScan (step s (hex_digit k))) (sym (digit_step (with_octet words n) (at + 1) m one.0))
    (subst (λ (o : Option ℕ). InScan (step_digit (with_octet words n) (at + 1 + 1) m (hex_digit k) o)) (sym (hex_again k one.1)) tt)

in_item : (i : Item) → IsItem i → (mode : Mode) (words : List (List ℕ)) (at : ℕ) → In mode at → InScan (fold step (scan_at words mode at) (item_raw i))
in_item i one Inside words at h = inside_item i one words at
in_item i one (Digit n) words at h = digit_item i one words at n
in_item i one (Refused place reason) words at h = in_stays (item_raw i) words at place reason h
in_item i one Between words at h = absurd h
in_item i one Semicolon words at h = absurd h
in_item i one Outside words at h = absurd h
in_item i one Escape words at h = absurd h

in_items : (items : List Item) → AllByRecursion IsItem items → (s : Scan) → InScan s → InScan (fold step s (items_raw items))
in_items [] each s h = h
in_items (i ∷ items) each s h = subst InScan (sym (fold-append step s (item_raw i) (items_raw items))) (in_items items each.1 (fold step s (item_raw i)) (in_item i each.0 s.mode s.words s.at h))

-- ---- quotes

opens : (mode : Mode) (words : List (List ℕ)) (at : ℕ) → Out mode at → InScan (step_in mode words at 39)
opens Between words at h = tt
opens Semicolon words at h = tt
opens Outside words at h = tt
opens (Refused place reason) words at h = omega arith
opens Inside words at h = absurd h
opens Escape words at h = absurd h
opens (Digit n) words at h = absurd h

shuts : (mode : Mode) (words : List (List ℕ)) (at : ℕ) → In mode at → OutScan (step_in mode words at 39)
shuts Inside words at h = tt
shuts (Digit n) words at h = tt
shuts (Refused place reason) words at h = omega arith
shuts Between words at h = absurd h
shuts Semicolon words at h = absurd h
shuts Outside words at h = absurd h
shuts Escape words at h = absurd h

-- ---- pieces

out_white : (c : ℕ) → IsWhite c → (mode : Mode) (words : List (List ℕ)) (at : ℕ) → Out mode at → OutScan (step_in mode words at c)
out_white c w Between words at h = subst OutScan (sym (cond-true _ _ _ (white_again c w))) tt
out_white c w Semicolon words at h = subst OutScan (sym (cond-true _ _ _ (white_again c w))) (omega arith)
out_white c w Outside words at h = subst OutScan (sym (cond-true _ _ _ (white_again c w))) tt
out_white c w (Refused place reason) words at h = omega arith
out_white c w Inside words at h = absurd h
out_white c w Escape words at h = absurd h
out_white c w (Digit n) words at h = absurd h

out_bare : (c : ℕ) → IsBare c → (mode : Mode) (words : List (List ℕ)) (at : ℕ) → Out mode at → OutScan (step_in mode words at c)
out_bare c b Between words at h =
    subst OutScan (sym (cond-false _ _ _ (bare_not_white c b))) (cond_is OutScan (eqb c 59) _ _ tt (subst OutScan (sym (bare_step (with_word words) at c b)) tt))
out_bare c b Semicolon words at h = subst OutScan (sym (cond-false _ _ _ (bare_not_white c b) ∙ bare_step words at c b)) tt
out_bare c b Outside words at h = subst OutScan (sym (bare_step words at c b)) tt
out_bare c b (Refused place reason) words at h = omega arith
out_bare c b Inside words at h = absurd h
out_bare c b Escape words at h = absurd h
out_bare c b (Digit n) words at h = absurd h

out_piece : (p : Piece) → IsPiece p → (s : Scan) → OutScan s → OutScan (fold step s (piece_raw p))
out_piece (gap c) one s h = out_white c one s.mode s.words s.at h
out_piece (part (bare c)) one s h = out_bare c one s.mode s.words s.at h
out_piece (part (quoted items)) one s h =
    let opened = step s 39 in
    let within = fold step opened (items_raw items) in
    let at_end : InScan within = in_items items one opened (opens s.mode s.words s.at h) in
    subst OutScan (sym (fold-append step opened (items_raw items) (39 ∷ []))) (shuts within.mode within.words within.at at_end)

out_pieces : (pieces : List Piece) → AllByRecursion IsPiece pieces → (s : Scan) → OutScan s → OutScan (fold step s (flat_map piece_raw pieces))
out_pieces [] each s h = h
out_pieces (p ∷ pieces) each s h = subst OutScan (sym (fold-append step s (piece_raw p) (flat_map piece_raw pieces))) (out_pieces pieces each.1 (fold step s (piece_raw p)) (out_piece p each.0 s h))

out_front : (front : List ℕ) → EndsOutside front → OutScan (fold step start front)
out_front front h = subst (λ (x : List ℕ). OutScan (fold step start x)) (sym h.written) (out_pieces h.pieces h.each start tt)

in_front : (front : List ℕ) → EndsInside front → InScan (fold step start front)
in_front front h =
    let s = fold step start h.before in
    let opened : InScan (step s 39) = opens s.mode s.words s.at (out_front h.before h.outside) in
    subst (λ (x : List ℕ). InScan (fold step start x)) (sym h.written) (subst InScan (sym (fold-append step start h.before (39 ∷ items_raw h.items))) (in_items h.items h.each (step s 39) opened))

-- ---- what was refused before lies behind

sane_outside : (words : List (List ℕ)) (at c : ℕ) (t : Scan) → OutsideStep words at c t → SaneScan t
sane_outside words at c t (cases.OutsideStep.white w e) = subst SaneScan (sym e) tt
sane_outside words at c t (cases.OutsideStep.opened q e) = subst SaneScan (sym e) tt
sane_outside words at c t (cases.OutsideStep.control k e) = subst SaneScan (sym e) (omega arith)
sane_outside words at c t (cases.OutsideStep.slash q e) = subst SaneScan (sym e) (omega arith)
sane_outside words at c t (cases.OutsideStep.letter b e) = subst SaneScan (sym e) tt

sane_inside : (words : List (List ℕ)) (at c : ℕ) (t : Scan) → InsideStep words at c t → SaneScan t
sane_inside words at c t (cases.InsideStep.closed q e) = subst SaneScan (sym e) tt
sane_inside words at c t (cases.InsideStep.escape q e) = subst SaneScan (sym e) (omega arith)
sane_inside words at c t (cases.InsideStep.control k e) = subst SaneScan (sym e) (omega arith)
sane_inside words at c t (cases.InsideStep.item p e) = subst SaneScan (sym e) tt

sane_escape : (words : List (List ℕ)) (at : ℕ) (l h : Option ℕ) → SaneScan (step_escape words at l h)
sane_escape words at (Some v) h = tt
sane_escape words at None (Some n) = tt
sane_escape words at None None = omega arith

sane_digit : (words : List (List ℕ)) (at n c : ℕ) (o : Option ℕ) → SaneScan (step_digit words at n c o)
sane_digit words at n c None = sane_inside (with_octet words n) at c _ (inside_step (with_octet words n) at c)
sane_digit words at n c (Some m) = tt

sane_step : (mode : Mode) (words : List (List ℕ)) (at c : ℕ) → Sane mode at → SaneScan (step_in mode words at c)
sane_step Between words at c h = cond_is SaneScan (is_white c) _ _ tt (cond_is SaneScan (eqb c 59) _ _ tt (sane_outside (with_word words) at c _ (outside_step (with_word words) at c)))
sane_step Semicolon words at c h = cond_is SaneScan (is_white c) _ _ (omega arith) (sane_outside words at c _ (outside_step words at c))
sane_step Outside words at c h = sane_outside words at c _ (outside_step words at c)
sane_step Inside words at c h = sane_inside words at c _ (inside_step words at c)
sane_step Escape words at c h = sane_escape words at (letter_value c) (hex_value c)
sane_step (Digit n) words at c h = sane_digit words at n c (hex_value c)
sane_step (Refused place reason) words at c h = omega arith

sane_run : (octets : List ℕ) (s : Scan) → SaneScan s → SaneScan (fold step s octets)
sane_run [] s h = h
sane_run (c ∷ octets) s h = sane_run octets (step s c) (sane_step s.mode s.words s.at c h)

pub at_run : (octets : List ℕ) (s : Scan) → (fold step s octets).at ≡ s.at + length octets
at_run [] s = omega arith
at_run (c ∷ octets) s = omega (arith, at_run octets (step s c), at_step s.mode s.words s.at c)

-- ---- the scan refuses no later than at an offence

-- the place lies before the limit, or it is the limit and the reason is this one
abbrev pub Reaches : ℕ → Reason → ℕ → Reason → Type 0
Reaches place why limit reason = (place < limit) ⊎ ((place ≡ limit) × (why ≡ reason))

-- the scan has refused, before the limit, or there with this reason
pub record RefusedBy (scan : Scan) (limit : ℕ) (reason : Reason) : Type 0 where
  pub words : List (List ℕ)
  pub at : ℕ
  pub place : ℕ
  pub why : Reason
  pub is : scan ≡ scan_at words (Refused place why) at
  pub reaches : Reaches place why limit reason

pub record Refuses (meaning : Meaning) (limit : ℕ) (reason : Reason) : Type 0 where
  pub place : ℕ
  pub why : Reason
  pub is : meaning ≡ Malformed place why
  pub reaches : Reaches place why limit reason

stays_refused : (rest : List ℕ) (words : List (List ℕ)) (at place : ℕ) (reason : Reason) → verdict (fold step (scan_at words (Refused place reason) at) rest) ≡ Malformed place reason
stays_refused [] words at place reason = refl
stays_refused (c ∷ rest) words at place reason = stays_refused rest words (at + 1) place reason

refuses_from : (scan : Scan) (rest : List ℕ) (limit : ℕ) (reason : Reason) → RefusedBy scan limit reason → Refuses (verdict (fold step scan rest)) limit reason
refuses_from scan rest limit reason h = record {
  place = h.place;
  why = h.why;
  is = ap (λ (s : Scan). verdict (fold step s rest)) h.is ∙ stays_refused rest h.words h.at h.place h.why;
  reaches = h.reaches;
}

refused_now : (words : List (List ℕ)) (at place limit : ℕ) (why reason : Reason) (s : Scan) → s ≡ goes words at (Refused place why) → Reaches place why limit reason → RefusedBy s limit reason
refused_now words at place limit why reason s e r = record { words = words; at = at + 1; place = place; why = why; is = e; reaches = r }

-- ---- a control octet

control_facts : (c : ℕ) → IsControl c → (is_white c ≡ false) × (eqb c 39 ≡ false) × (eqb c 59 ≡ false) × (eqb c 92 ≡ false)
control_facts c (inl h) = (grind (arith, nat_tests), ne_eqb c 39 (λ e. omega arith), ne_eqb c 59 (λ e. omega arith), ne_eqb c 92 (λ e. omega arith))
control_facts c (inr e) = (rw e refl, rw e refl, rw e refl, rw e refl)

abbrev escapes_control : ℕ → Bool
escapes_control c = is_control c && (is_some (letter_value c) || is_some (hex_value c))

below_128 : (c : ℕ) → IsControl c → c < 128
below_128 c (inl h) = omega arith
below_128 c (inr e) = omega arith

and_rest : (x y : Bool) → x ≡ true → (x && y) ≡ false → y ≡ false
and_rest true y e f = f
and_rest false y e f = absurd cc

control_escapes_none : (c : ℕ) → IsControl c → (letter_value c ≡ None) × (hex_value c ≡ None)
control_escapes_none c k =
    let e : escapes_control c ≡ false = agree_below_at escapes_control (λ _. false) 128 c refl (below_128 c k) in
    let f : (is_some (letter_value c) || is_some (hex_value c)) ≡ false = and_rest (is_control c) _ (control_again c k) e in
    let g = or_parts (is_some (letter_value c)) (is_some (hex_value c)) f in
    (none_is _ g.0, none_is _ g.1)

control_outside : (words : List (List ℕ)) (at c : ℕ) → IsControl c → step_outside words at c ≡ goes words at (Refused at ControlOctet)
control_outside words at c k =
    let f = control_facts c k in
    cond-false _ _ _ f.0 ∙ cond-false _ _ _ f.1 ∙ cond-true _ _ _ (control_again c k)

control_inside : (words : List (List ℕ)) (at c : ℕ) → IsControl c → step_inside words at c ≡ goes words at (Refused at ControlOctet)
control_inside words at c k =
    let f = control_facts c k in
    cond-false _ _ _ f.1 ∙ cond-false _ _ _ f.3 ∙ cond-true _ _ _ (control_again c k)

control_refused : (c : ℕ) → IsControl c → (mode : Mode) (words : List (List ℕ)) (at : ℕ) → Sane mode at → RefusedBy (step_in mode words at c) at ControlOctet
control_refused c k Between words at h =
    let f = control_facts c k in
    refused_now (with_word words) at at at ControlOctet ControlOctet _ (cond-false _ _ _ f.0 ∙ cond-false _ _ _ f.2 ∙ control_outside (with_word words) at c k) (inr (refl, refl))
control_refused c k Semicolon words at h =
    refused_now words at at at ControlOctet ControlOctet _ (cond-false _ _ _ (control_facts c k).0 ∙ control_outside words at c k) (inr (refl, refl))
control_refused c k Outside words at h = refused_now words at at at ControlOctet ControlOctet _ (control_outside words at c k) (inr (refl, refl))
control_refused c k Inside words at h = refused_now words at at at ControlOctet ControlOctet _ (control_inside words at c k) (inr (refl, refl))
control_refused c k Escape words at h =
    let n = control_escapes_none c k in
    refused_now words at (at - 1) at UnknownEscape ControlOctet _ (ap (λ (o : Option ℕ). step_escape words at o (hex_value c)) n.0 ∙ ap (λ (o : Option ℕ). step_escape words at None o) n.1) (inl (omega arith))
control_refused c k (Digit n) words at h =
    let m = control_escapes_none c k in
    refused_now (with_octet words n) at at at ControlOctet ControlOctet _ (ap (λ (o : Option ℕ). step_digit words at n c o) m.1 ∙ control_inside (with_octet words n) at c k) (inr (refl, refl))
control_refused c k (Refused place reason) words at h = refused_now words at place at reason ControlOctet _ refl (inl h)

-- ---- a backslash outside

slash_refused : (mode : Mode) (words : List (List ℕ)) (at : ℕ) → Out mode at → RefusedBy (step_in mode words at 92) at BackslashOutside
slash_refused Between words at h = refused_now (with_word words) at at at BackslashOutside BackslashOutside _ refl (inr (refl, refl))
slash_refused Semicolon words at h = refused_now words at at at BackslashOutside BackslashOutside _ refl (inr (refl, refl))
slash_refused Outside words at h = refused_now words at at at BackslashOutside BackslashOutside _ refl (inr (refl, refl))
slash_refused (Refused place reason) words at h = refused_now words at place at reason BackslashOutside _ refl (inl h)
slash_refused Inside words at h = absurd h
slash_refused Escape words at h = absurd h
slash_refused (Digit n) words at h = absurd h

-- ---- an unknown escape

no_escape : (words : List (List ℕ)) (at c : ℕ) (rest : List ℕ) (t : Scan) → ((i : Item) (behind : List ℕ) → IsItem i → 92 ∷ c ∷ rest ≡ item_raw i ++ behind → ⊥) → EscapeStep words (at + 1) c t → RefusedBy t at UnknownEscape
no_escape words at c rest t none (cases.EscapeStep.letter i one any raw e) = absurd (none i rest one (ap (λ (x : List ℕ). x ++ rest) (sym raw)))
no_escape words at c rest t none (cases.EscapeStep.digit n lt hex e) = absurd (none (one_digit n) rest lt (ap (λ (x : ℕ). 92 ∷ x ∷ rest) hex))
no_escape words at c rest t none (cases.EscapeStep.unknown l h e) = refused_now words (at + 1) (at + 1 - 1) at UnknownEscape UnknownEscape t e (inr (omega arith, refl))

escape_refuses : (words : List (List ℕ)) (at : ℕ) (rest : List ℕ) → ((i : Item) (behind : List ℕ) → IsItem i → 92 ∷ rest ≡ item_raw i ++ behind → ⊥) → Refuses (verdict (fold step (scan_at words Escape (at + 1)) rest)) at UnknownEscape
escape_refuses words at [] none = record { place = at + 1 - 1; why = UnknownEscape; is = refl; reaches = inr (omega arith, refl) }
escape_refuses words at (c ∷ rest) none = refuses_from _ rest at UnknownEscape (no_escape words at c rest _ none (escape_step words (at + 1) c))

unknown_refuses : (mode : Mode) (words : List (List ℕ)) (at : ℕ) (rest : List ℕ) → In mode at → ((i : Item) (behind : List ℕ) → IsItem i → 92 ∷ rest ≡ item_raw i ++ behind → ⊥) → Refuses (verdict (fold step (scan_at words mode at) (92 ∷ rest))) at UnknownEscape
unknown_refuses Inside words at rest h none = escape_refuses words at rest none
unknown_refuses (Digit n) words at rest h none = escape_refuses (with_octet words n) at rest none
unknown_refuses (Refused place reason) words at rest h none = refuses_from (scan_at words (Refused place reason) at) (92 ∷ rest) at UnknownEscape (record { words = words; at = at; place = place; why = reason; is = refl; reaches = inl h })
unknown_refuses Between words at rest h none = absurd h
unknown_refuses Semicolon words at rest h none = absurd h
unknown_refuses Outside words at rest h none = absurd h
unknown_refuses Escape words at rest h none = absurd h

-- ---- a stray semicolon

-- between words, or refused
abbrev Apart : Mode → ℕ → Type 0
Apart (Refused place reason) at = place < at
Apart Between at = Unit {0}
Apart Semicolon at = ⊥
Apart Outside at = ⊥
Apart Inside at = ⊥
Apart Escape at = ⊥
Apart (Digit n) at = ⊥

abbrev ApartScan : Scan → Type 0
ApartScan s = Apart s.mode s.at

-- white space that ends outside quotes ends between words
apart_space : (mode : Mode) (words : List (List ℕ)) (at : ℕ) → OutScan (step_in mode words at 32) → ApartScan (step_in mode words at 32)
apart_space Between words at h = tt
apart_space Semicolon words at h = h
apart_space Outside words at h = tt
apart_space (Refused place reason) words at h = h
apart_space Inside words at h = absurd h
apart_space Escape words at h = h
apart_space (Digit n) words at h = absurd h

apart_tab : (mode : Mode) (words : List (List ℕ)) (at : ℕ) → OutScan (step_in mode words at 9) → ApartScan (step_in mode words at 9)
apart_tab Between words at h = tt
apart_tab Semicolon words at h = h
apart_tab Outside words at h = tt
apart_tab (Refused place reason) words at h = h
apart_tab Inside words at h = absurd h
apart_tab Escape words at h = h
apart_tab (Digit n) words at h = absurd h

apart_white : (c : ℕ) → IsWhite c → (s : Scan) → OutScan (step s c) → ApartScan (step s c)
apart_white c (inl e) s = subst (λ (x : ℕ). OutScan (step s x) → ApartScan (step s x)) (sym e) (apart_space s.mode s.words s.at)
apart_white c (inr e) s = subst (λ (x : ℕ). OutScan (step s x) → ApartScan (step s x)) (sym e) (apart_tab s.mode s.words s.at)

apart_front : (front : List ℕ) → IsApartBehind front → OutScan (fold step start front) → ApartScan (fold step start front)
apart_front front (inl e) out = subst (λ (x : List ℕ). ApartScan (fold step start x)) (sym e) tt
apart_front front (inr (before, c, w, e)) out =
    let s = fold step start before in
    let same : fold step start front ≡ step s c = ap (fold step start) e ∙ fold-append step start before (c ∷ []) in
    subst ApartScan (sym same) (apart_white c w s (subst OutScan same out))

semicolon_refuses : (words : List (List ℕ)) (at : ℕ) (rest : List ℕ) → IsApart rest → Refuses (verdict (fold step (scan_at words Semicolon (at + 1)) rest)) at StraySemicolon
semicolon_refuses words at [] apart = record { place = at + 1 - 1; why = StraySemicolon; is = refl; reaches = inr (omega arith, refl) }
semicolon_refuses words at (c ∷ rest) apart = refuses_from _ rest at StraySemicolon (refused_now words (at + 1) (at + 1 - 1) at StraySemicolon StraySemicolon _ (cond-true _ _ _ (white_again c apart)) (inr (omega arith, refl)))

stray_refuses : (mode : Mode) (words : List (List ℕ)) (at : ℕ) (rest : List ℕ) → Apart mode at → IsApart rest → Refuses (verdict (fold step (scan_at words mode at) (59 ∷ rest))) at StraySemicolon
stray_refuses Between words at rest h apart = semicolon_refuses (with_octet (with_word words) 59) at rest apart
stray_refuses (Refused place reason) words at rest h apart = refuses_from (scan_at words (Refused place reason) at) (59 ∷ rest) at StraySemicolon (record { words = words; at = at; place = place; why = reason; is = refl; reaches = inl h })
stray_refuses Semicolon words at rest h apart = absurd h
stray_refuses Outside words at rest h apart = absurd h
stray_refuses Inside words at rest h apart = absurd h
stray_refuses Escape words at rest h apart = absurd h
stray_refuses (Digit n) words at rest h apart = absurd h

-- ---- an unclosed quote

unclosed_refuses : (mode : Mode) (words : List (List ℕ)) (at : ℕ) → In mode at → Refuses (verdict (scan_at words mode at)) at UnclosedQuote
unclosed_refuses Inside words at h = record { place = at; why = UnclosedQuote; is = refl; reaches = inr (refl, refl) }
unclosed_refuses (Digit n) words at h = record { place = at; why = UnclosedQuote; is = refl; reaches = inr (refl, refl) }
unclosed_refuses (Refused place reason) words at h = record { place = place; why = reason; is = refl; reaches = inl h }
unclosed_refuses Between words at h = absurd h
unclosed_refuses Semicolon words at h = absurd h
unclosed_refuses Outside words at h = absurd h
unclosed_refuses Escape words at h = absurd h

-- ---- all of them

offence_refuses : (front back : List ℕ) (reason : Reason) → Offends front back reason → Refuses (verdict (fold step (fold step start front) back)) (fold step start front).at reason
offence_refuses front back ControlOctet (c, rest, k, e) =
    let s = fold step start front in
    subst (λ (x : List ℕ). Refuses (verdict (fold step s x)) s.at ControlOctet) (sym e) (refuses_from (step s c) rest s.at ControlOctet (control_refused c k s.mode s.words s.at (sane_run front start tt)))
offence_refuses front back BackslashOutside h =
    let s = fold step start front in
    subst (λ (x : List ℕ). Refuses (verdict (fold step s x)) s.at BackslashOutside) (sym h.1.1) (refuses_from (step s 92) h.1.0 s.at BackslashOutside (slash_refused s.mode s.words s.at (out_front front h.0)))
offence_refuses front back UnknownEscape h =
    let s = fold step start front in
    let b = h.1 in
    let none : (i : Item) (behind : List ℕ) → IsItem i → 92 ∷ b.rest ≡ item_raw i ++ behind → ⊥ = λ i behind one eq. b.none i behind one (b.escape ∙ eq) in
    subst (λ (x : List ℕ). Refuses (verdict (fold step s x)) s.at UnknownEscape) (sym b.escape) (unknown_refuses s.mode s.words s.at b.rest (in_front front h.0) none)
offence_refuses front back StraySemicolon h =
    let s = fold step start front in
    subst (λ (x : List ℕ). Refuses (verdict (fold step s x)) s.at StraySemicolon) (sym h.2.2) (stray_refuses s.mode s.words s.at h.2.0 (apart_front front h.1 (out_front front h.0)) h.2.1)
offence_refuses front back UnclosedQuote h =
    let s = fold step start front in
    subst (λ (x : List ℕ). Refuses (verdict (fold step s x)) s.at UnclosedQuote) (sym h.1) (unclosed_refuses s.mode s.words s.at (in_front front h.0))
offence_refuses front back LineTooLong h = absurd h

pub offence_refused : (body : List ℕ) (place : ℕ) (reason : Reason) → IsOffence body place reason → Refuses (verdict (fold step start body)) place reason
offence_refused body place reason h =
    let r = offence_refuses h.front h.back reason h.offends in
    let at : (fold step start h.front).at ≡ place = omega (arith, at_run h.front start, h.place_is) in
    let same : fold step start body ≡ fold step (fold step start h.front) h.back = ap (fold step start) h.whole ∙ fold-append step start h.front h.back in
    subst (λ (k : ℕ). Refuses (verdict (fold step start body)) k reason) at (subst (λ (s : Scan). Refuses (verdict s) (fold step start h.front).at reason) (sym same) r)
