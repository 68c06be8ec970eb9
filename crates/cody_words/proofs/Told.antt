-- Words that the scan finds are words that the body says.
use Rattle.std.proofs.Common.{◌≡◌, ◌≢◌, ℕ, ◌<◌, inl, inr, Bool, true, false, eqb, List, [], ◌∷◌, ◌++◌, Option, Some, None, refl, sym, ap, subst, ◌∙◌, append_assoc, arith}
use Rattle.std.specs.List.{fold, flat_map, AllByRecursion}
use Rattle.std.proofs.lemmas.List.{append-nil}
use Rattle.std.proofs.lemmas.List.Sums.{fold-append}
use Rattle.std.proofs.lemmas.Bool.{cases_Bool, eqb-true, eqb-false, cond-true, cond-false}
use Rattle.cody_words.specs.declared.mode.Mode.{Mode}
use Rattle.cody_words.specs.declared.mode.Mode.TheVariants.{Between, Semicolon, Outside, Inside, Escape, Digit, Refused}
use Rattle.cody_words.specs.Octets.{IsWhite, IsBare, IsHexDigit, hex_digit}
use Rattle.cody_words.specs.Spelling.{Item, plain, one_digit, two_digits, escaped_newline, escaped_tab, escaped_apostrophe, escaped_backslash, escaped_space, item_raw, item_value, items_raw, items_value, IsItem, EndsBefore, NoDigitFirst, TakesTwo, Part, bare, quoted, part_raw, part_value, IsPart, TakesDigits, Spells}
use Rattle.cody_words.specs.Lines.{IsApart, SaysWords}
use Rattle.cody_words.specs.Scan.{Scan, is_white, hex_value, with_octet, with_word, step_between, step_digit, step_in, step, start}
use Rattle.cody_words.proofs.Cases.{OutsideStep, outside_step, InsideStep, inside_step, EscapeStep, escape_step, white_is, white_again, hex_is, hex_none}
use Rattle.cody_words.proofs.Cases as cases
use Rattle.cody_words.proofs.Found.{with_octets, with_octets_last, scan_at, quoted_whole}

-- the scan ended with these words, and refused nothing
abbrev pub IsDone : Mode → Type 0
IsDone Between = Unit {0}
IsDone Outside = Unit {0}
IsDone Semicolon = ⊥
IsDone Inside = ⊥
IsDone Escape = ⊥
IsDone (Digit n) = ⊥
IsDone (Refused place reason) = ⊥

pub record Ends (scan : Scan) (words : List (List ℕ)) : Type 0 where
  pub done : IsDone scan.mode
  pub words_are : scan.words ≡ words

-- ---- what the rest says, by the mode

-- parts of a word that is begun, and then words
pub record OutsideTells (words : List (List ℕ)) (rest : List ℕ) (all : List (List ℕ)) : Type 0 where
  pub parts : List Part
  pub tail : List ℕ
  pub found : List (List ℕ)
  pub each : AllByRecursion IsPart parts
  pub digits : AllByRecursion TakesDigits parts
  pub apart : IsApart tail
  pub whole : rest ≡ flat_map part_raw parts ++ tail
  pub says : SaysWords tail found
  pub all_are : all ≡ with_octets words (flat_map part_value parts) ++ found

-- items, the end of the quote, and then parts and words
pub record InsideTells (words : List (List ℕ)) (rest : List ℕ) (all : List (List ℕ)) : Type 0 where
  pub items : List Item
  pub behind : List ℕ
  pub each : AllByRecursion IsItem items
  pub two : TakesTwo items
  pub whole : rest ≡ items_raw items ++ 39 ∷ behind
  pub outside : OutsideTells (with_octets words (items_value items)) behind all

pub record BetweenTells (words : List (List ℕ)) (rest : List ℕ) (all : List (List ℕ)) : Type 0 where
  pub found : List (List ℕ)
  pub says : SaysWords rest found
  pub all_are : all ≡ words ++ found

-- as outside, with a part at least
pub record SemicolonTells (words : List (List ℕ)) (rest : List ℕ) (all : List (List ℕ)) : Type 0 where
  pub outside : OutsideTells words rest all
  pub some : outside.parts ≢ []

abbrev Tells : Mode → List (List ℕ) → List ℕ → List (List ℕ) → Type 0
Tells Between words rest all = BetweenTells words rest all
Tells Semicolon words rest all = SemicolonTells words rest all
Tells Outside words rest all = OutsideTells words rest all
Tells Inside words rest all = InsideTells words rest all
Tells Escape words rest all = InsideTells words (92 ∷ rest) all
Tells (Digit n) words rest all = n < 16 → InsideTells words (92 ∷ hex_digit n ∷ rest) all
Tells (Refused place reason) words rest all = ⊥

-- ---- one octet before

pub white_first : (c : ℕ) (rest : List ℕ) (found : List (List ℕ)) → IsWhite c → SaysWords rest found → SaysWords (c ∷ rest) found
white_first c rest [] w says = (w, says)
white_first c rest (word ∷ found) w (tail, first, says) = (
  tail,
  record {
    gap = c ∷ first.gap;
    raw = first.raw;
    white = (w, first.white);
    spells = first.spells;
    quoted_semicolon = first.quoted_semicolon;
    apart = first.apart;
    whole = ap (λ (x : List ℕ). c ∷ x) first.whole;
  },
  says,
)

between_white : (c : ℕ) (words : List (List ℕ)) (rest : List ℕ) (all : List (List ℕ)) → IsWhite c → BetweenTells words rest all → BetweenTells words (c ∷ rest) all
between_white c words rest all w h = record { found = h.found; says = white_first c rest h.found w h.says; all_are = h.all_are }

outside_white : (c : ℕ) (words : List (List ℕ)) (rest : List ℕ) (all : List (List ℕ)) → IsWhite c → BetweenTells words rest all → OutsideTells words (c ∷ rest) all
outside_white c words rest all w h = record {
  parts = [];
  tail = c ∷ rest;
  found = h.found;
  each = tt;
  digits = tt;
  apart = w;
  whole = refl;
  says = white_first c rest h.found w h.says;
  all_are = h.all_are;
}

outside_letter : (c : ℕ) (words : List (List ℕ)) (rest : List ℕ) (all : List (List ℕ)) → IsBare c → OutsideTells (with_octet words c) rest all → OutsideTells words (c ∷ rest) all
outside_letter c words rest all b h = record {
  parts = bare c ∷ h.parts;
  tail = h.tail;
  found = h.found;
  each = (b, h.each);
  digits = (tt, h.digits);
  apart = h.apart;
  whole = ap (λ (x : List ℕ). c ∷ x) h.whole;
  says = h.says;
  all_are = h.all_are;
}

outside_quote : (words : List (List ℕ)) (rest : List ℕ) (all : List (List ℕ)) → InsideTells words rest all → OutsideTells words (39 ∷ rest) all
outside_quote words rest all h =
    let o = h.outside in
    let tail = flat_map part_raw o.parts ++ o.tail in
    let text : 39 ∷ rest ≡ part_raw (quoted h.items) ++ flat_map part_raw o.parts ++ o.tail = ap (λ (x : List ℕ). 39 ∷ x) (h.whole ∙ ap (λ (x : List ℕ). items_raw h.items ++ 39 ∷ x) o.whole) ∙ sym (append_assoc (part_raw (quoted h.items)) (flat_map part_raw o.parts) o.tail ∙ quoted_whole h.items tail) in
    record {
      parts = quoted h.items ∷ o.parts;
      tail = o.tail;
      found = o.found;
      each = (h.each, o.each);
      digits = (h.two, o.digits);
      apart = o.apart;
      whole = text;
      says = o.says;
      all_are = o.all_are ∙ ap (λ (x : List (List ℕ)). x ++ o.found) (sym (fold-append with_octet words (items_value h.items) (flat_map part_value o.parts)));
    }

-- a word begins here
word_begins : (words : List (List ℕ)) (rest : List ℕ) (all : List (List ℕ)) → (h : OutsideTells (with_word words) rest all) → h.parts ≢ [] → flat_map part_raw h.parts ≢ 59 ∷ [] → BetweenTells words rest all
word_begins words rest all h some alone =
    let word = flat_map part_value h.parts in
    let spells : Spells (flat_map part_raw h.parts) word = record { parts = h.parts; some = some; each = h.each; digits = h.digits; written = refl; meant = refl } in
    record {
      found = word ∷ h.found;
      says = (h.tail, record { gap = []; raw = flat_map part_raw h.parts; white = tt; spells = spells; quoted_semicolon = alone; apart = h.apart; whole = h.whole }, h.says);
      all_are = h.all_are ∙ ap (λ (x : List (List ℕ)). x ++ h.found) (with_octets_last words [] word) ∙ append_assoc words (word ∷ []) h.found;
    }

cons_nil : {X : Type 0} (x : X) (xs : List X) → x ∷ xs ≡ [] → ⊥
cons_nil x xs e = absurd cc

-- lists that are the same have the same first octet
pub head_same : (a b : ℕ) (xs ys : List ℕ) → a ∷ xs ≡ b ∷ ys → a ≡ b
head_same a b xs ys e = cc

tail_same : (a b : ℕ) (xs ys : List ℕ) → a ∷ xs ≡ b ∷ ys → xs ≡ ys
tail_same a b xs ys e = cc

-- parts have octets
parts_raw_some : (parts : List Part) → parts ≢ [] → flat_map part_raw parts ≢ []
parts_raw_some [] some e = some refl
parts_raw_some (bare c ∷ parts) some e = cons_nil c _ e
parts_raw_some (quoted items ∷ parts) some e = cons_nil 39 _ e

inside_closes : (words : List (List ℕ)) (rest : List ℕ) (all : List (List ℕ)) → OutsideTells words rest all → InsideTells words (39 ∷ rest) all
inside_closes words rest all h = record { items = []; behind = rest; each = tt; two = tt; whole = refl; outside = h }

-- one item before
inside_item : (i : Item) (words : List (List ℕ)) (rest : List ℕ) (all : List (List ℕ)) → IsItem i → (h : InsideTells (with_octet words (item_value i)) rest all) → EndsBefore i h.items → InsideTells words (item_raw i ++ rest) all
inside_item i words rest all one h ends = record {
  items = i ∷ h.items;
  behind = h.behind;
  each = (one, h.each);
  two = (ends, h.two);
  whole = ap (λ (x : List ℕ). item_raw i ++ x) h.whole ∙ sym (append_assoc (item_raw i) (items_raw h.items) (39 ∷ h.behind));
  outside = h.outside;
}

-- items whose first octet is no digit
no_digit_first : (c : ℕ) (rest behind : List ℕ) (items : List Item) → hex_value c ≡ None → c ∷ rest ≡ items_raw items ++ 39 ∷ behind → NoDigitFirst items
no_digit_first c rest behind [] h e = tt
no_digit_first c rest behind (plain d ∷ items) h e = subst (λ (x : ℕ). IsHexDigit x → ⊥) (head_same c d rest (items_raw items ++ 39 ∷ behind) e) (hex_none c h)
no_digit_first c rest behind (escaped_newline ∷ items) h e = tt
no_digit_first c rest behind (escaped_tab ∷ items) h e = tt
no_digit_first c rest behind (escaped_apostrophe ∷ items) h e = tt
no_digit_first c rest behind (escaped_backslash ∷ items) h e = tt
no_digit_first c rest behind (escaped_space ∷ items) h e = tt
no_digit_first c rest behind (one_digit n ∷ items) h e = tt
no_digit_first c rest behind (two_digits m n ∷ items) h e = tt

-- ---- the steps

-- what the scan tells from its next state
abbrev TellsScan : Scan → List ℕ → List (List ℕ) → Type 0
TellsScan s rest all = Tells s.mode s.words rest all

outside_tells : (words : List (List ℕ)) (at c : ℕ) (rest : List ℕ) (all : List (List ℕ)) (t : Scan) → OutsideStep words at c t → TellsScan t rest all → OutsideTells words (c ∷ rest) all
outside_tells words at c rest all t (cases.OutsideStep.white w e) h = outside_white c words rest all w (subst (λ (s : Scan). TellsScan s rest all) e h)
outside_tells words at c rest all t (cases.OutsideStep.opened q e) h =
    let inside : InsideTells words rest all = subst (λ (s : Scan). TellsScan s rest all) e h in
    subst (λ (x : ℕ). OutsideTells words (x ∷ rest) all) (sym q) (outside_quote words rest all inside)
outside_tells words at c rest all t (cases.OutsideStep.control k e) h = absurd (subst (λ (s : Scan). TellsScan s rest all) e h)
outside_tells words at c rest all t (cases.OutsideStep.slash q e) h = absurd (subst (λ (s : Scan). TellsScan s rest all) e h)
outside_tells words at c rest all t (cases.OutsideStep.letter b e) h = outside_letter c words rest all b (subst (λ (s : Scan). TellsScan s rest all) e h)

inside_tells : (words : List (List ℕ)) (at c : ℕ) (rest : List ℕ) (all : List (List ℕ)) (t : Scan) → InsideStep words at c t → TellsScan t rest all → InsideTells words (c ∷ rest) all
inside_tells words at c rest all t (cases.InsideStep.closed q e) h =
    let outside : OutsideTells words rest all = subst (λ (s : Scan). TellsScan s rest all) e h in
    subst (λ (x : ℕ). InsideTells words (x ∷ rest) all) (sym q) (inside_closes words rest all outside)
inside_tells words at c rest all t (cases.InsideStep.escape q e) h =
    let escape : InsideTells words (92 ∷ rest) all = subst (λ (s : Scan). TellsScan s rest all) e h in
    subst (λ (x : ℕ). InsideTells words (x ∷ rest) all) (sym q) escape
inside_tells words at c rest all t (cases.InsideStep.control k e) h = absurd (subst (λ (s : Scan). TellsScan s rest all) e h)
inside_tells words at c rest all t (cases.InsideStep.item p e) h = inside_item (plain c) words rest all p (subst (λ (s : Scan). TellsScan s rest all) e h) tt

escape_tells : (words : List (List ℕ)) (at c : ℕ) (rest : List ℕ) (all : List (List ℕ)) (t : Scan) → EscapeStep words at c t → TellsScan t rest all → InsideTells words (92 ∷ c ∷ rest) all
escape_tells words at c rest all t (cases.EscapeStep.letter i one any raw e) h =
    let inside : InsideTells (with_octet words (item_value i)) rest all = subst (λ (s : Scan). TellsScan s rest all) e h in
    subst (λ (x : List ℕ). InsideTells words (x ++ rest) all) raw (inside_item i words rest all one inside (any inside.items))
escape_tells words at c rest all t (cases.EscapeStep.digit n lt hex e) h =
    let digit : n < 16 → InsideTells words (92 ∷ hex_digit n ∷ rest) all = subst (λ (s : Scan). TellsScan s rest all) e h in
    subst (λ (x : ℕ). InsideTells words (92 ∷ x ∷ rest) all) (sym hex) (digit lt)
escape_tells words at c rest all t (cases.EscapeStep.unknown l d e) h = absurd (subst (λ (s : Scan). TellsScan s rest all) e h)

digit_tells : (words : List (List ℕ)) (at n c : ℕ) (rest : List ℕ) (all : List (List ℕ)) (o : Option ℕ) → hex_value c ≡ o → n < 16 → TellsScan (step_digit words at n c o) rest all → InsideTells words (92 ∷ hex_digit n ∷ c ∷ rest) all
digit_tells words at n c rest all None e lt h =
    let inside = inside_tells (with_octet words n) at c rest all _ (inside_step (with_octet words n) at c) h in
    inside_item (one_digit n) words (c ∷ rest) all lt inside (no_digit_first c rest inside.behind inside.items e inside.whole)
digit_tells words at n c rest all (Some m) e lt h =
    let d = hex_is c m e in
    subst (λ (x : ℕ). InsideTells words (92 ∷ hex_digit n ∷ x ∷ rest) all) (sym d.1) (inside_item (two_digits n m) words rest all (lt, d.0) h tt)

true_false : (b : Bool) → b ≡ true → b ≡ false → ⊥
true_false true p q = absurd cc
true_false false p q = absurd cc

letter_begins : (c : ℕ) (words : List (List ℕ)) (rest : List ℕ) (all : List (List ℕ)) → IsBare c → (c ≡ 59 → ⊥) → OutsideTells (with_octet (with_word words) c) rest all → BetweenTells words (c ∷ rest) all
unfolding outside_letter
letter_begins c words rest all b ne h = word_begins words (c ∷ rest) all (outside_letter c (with_word words) rest all b h) (λ e. cons_nil (bare c) h.parts e) (λ e. ne (head_same c 59 (flat_map part_raw h.parts) [] e))

-- a quote is no semicolon
pub quote_differs : (c : ℕ) → c ≡ 39 → c ≡ 59 → ⊥
quote_differs c e f = omega arith

quote_begins : (words : List (List ℕ)) (rest : List ℕ) (all : List (List ℕ)) → InsideTells (with_word words) rest all → BetweenTells words (39 ∷ rest) all
unfolding outside_quote
quote_begins words rest all h =
    word_begins words (39 ∷ rest) all (outside_quote (with_word words) rest all h) (λ e. cons_nil (quoted h.items) h.outside.parts e) (λ e. quote_differs 39 refl (head_same 39 59 _ [] e))

semicolon_begins : (words : List (List ℕ)) (rest : List ℕ) (all : List (List ℕ)) → SemicolonTells (with_octet (with_word words) 59) rest all → BetweenTells words (59 ∷ rest) all
unfolding outside_letter
semicolon_begins words rest all h =
    let o = h.outside in
    let b : IsBare 59 = (omega arith, omega arith, omega arith, omega arith) in
    word_begins words (59 ∷ rest) all (outside_letter 59 (with_word words) rest all b o) (λ e. cons_nil (bare 59) o.parts e) (λ e. parts_raw_some o.parts h.some (tail_same 59 59 (flat_map part_raw o.parts) [] e))

begins_tells : (words : List (List ℕ)) (at c : ℕ) (rest : List ℕ) (all : List (List ℕ)) (t : Scan) → is_white c ≡ false → (c ≡ 59 → ⊥) → OutsideStep (with_word words) at c t → TellsScan t rest all → BetweenTells words (c ∷ rest) all
begins_tells words at c rest all t n ne (cases.OutsideStep.white w e) h = absurd (true_false (is_white c) (white_again c w) n)
begins_tells words at c rest all t n ne (cases.OutsideStep.opened q e) h =
    let inside : InsideTells (with_word words) rest all = subst (λ (s : Scan). TellsScan s rest all) e h in
    subst (λ (x : ℕ). BetweenTells words (x ∷ rest) all) (sym q) (quote_begins words rest all inside)
begins_tells words at c rest all t n ne (cases.OutsideStep.control k e) h = absurd (subst (λ (s : Scan). TellsScan s rest all) e h)
begins_tells words at c rest all t n ne (cases.OutsideStep.slash q e) h = absurd (subst (λ (s : Scan). TellsScan s rest all) e h)
begins_tells words at c rest all t n ne (cases.OutsideStep.letter b e) h = letter_begins c words rest all b ne (subst (λ (s : Scan). TellsScan s rest all) e h)

between_tells : (words : List (List ℕ)) (at c : ℕ) (rest : List ℕ) (all : List (List ℕ)) → TellsScan (step_between words at c) rest all → BetweenTells words (c ∷ rest) all
between_tells words at c rest all h =
    elim (cases_Bool (is_white c)) [
      | inl y ↦ between_white c words rest all (white_is c y) (subst (λ (s : Scan). TellsScan s rest all) (cond-true _ _ _ y) h)
      | inr n ↦ elim (cases_Bool (eqb c 59)) [
        | inl q ↦
            let semi : SemicolonTells (with_octet (with_word words) c) rest all = subst (λ (s : Scan). TellsScan s rest all) (cond-false _ _ _ n ∙ cond-true _ _ _ q) h in
            let same : c ≡ 59 = eqb-true c 59 q in
            let at_59 : SemicolonTells (with_octet (with_word words) 59) rest all = subst (λ (x : ℕ). SemicolonTells (with_octet (with_word words) x) rest all) same semi in
            subst (λ (x : ℕ). BetweenTells words (x ∷ rest) all) (sym same) (semicolon_begins words rest all at_59)
        | inr nq ↦ begins_tells words at c rest all _ n (eqb-false c 59 nq) (outside_step (with_word words) at c) (subst (λ (s : Scan). TellsScan s rest all) (cond-false _ _ _ n ∙ cond-false _ _ _ nq) h)
      ]
    ]

-- a semicolon and then white space is refused, and all else goes on as outside
semicolon_tells : (words : List (List ℕ)) (at c : ℕ) (rest : List ℕ) (all : List (List ℕ)) (t : Scan) → is_white c ≡ false → OutsideStep words at c t → TellsScan t rest all → SemicolonTells words (c ∷ rest) all
unfolding outside_letter outside_quote
semicolon_tells words at c rest all t n (cases.OutsideStep.white w e) h = absurd (true_false (is_white c) (white_again c w) n)
semicolon_tells words at c rest all t n (cases.OutsideStep.opened q e) h =
    let inside : InsideTells words rest all = subst (λ (s : Scan). TellsScan s rest all) e h in
    subst (λ (x : ℕ). SemicolonTells words (x ∷ rest) all) (sym q) (record { outside = outside_quote words rest all inside; some = λ f. cons_nil (quoted inside.items) inside.outside.parts f })
semicolon_tells words at c rest all t n (cases.OutsideStep.control k e) h = absurd (subst (λ (s : Scan). TellsScan s rest all) e h)
semicolon_tells words at c rest all t n (cases.OutsideStep.slash q e) h = absurd (subst (λ (s : Scan). TellsScan s rest all) e h)
semicolon_tells words at c rest all t n (cases.OutsideStep.letter b e) h =
    let o : OutsideTells (with_octet words c) rest all = subst (λ (s : Scan). TellsScan s rest all) e h in
    record { outside = outside_letter c words rest all b o; some = λ f. cons_nil (bare c) o.parts f }

step_tells : (mode : Mode) (words : List (List ℕ)) (at c : ℕ) (rest : List ℕ) (all : List (List ℕ)) → TellsScan (step_in mode words at c) rest all → Tells mode words (c ∷ rest) all
step_tells Between words at c rest all h = between_tells words at c rest all h
step_tells Semicolon words at c rest all h =
    elim (cases_Bool (is_white c)) [
      | inl y ↦ absurd (subst (λ (s : Scan). TellsScan s rest all) (cond-true _ _ _ y) h)
      | inr n ↦ semicolon_tells words at c rest all _ n (outside_step words at c) (subst (λ (s : Scan). TellsScan s rest all) (cond-false _ _ _ n) h)
    ]
step_tells Outside words at c rest all h = outside_tells words at c rest all _ (outside_step words at c) h
step_tells Inside words at c rest all h = inside_tells words at c rest all _ (inside_step words at c) h
step_tells Escape words at c rest all h = escape_tells words at c rest all _ (escape_step words at c) h
step_tells (Digit n) words at c rest all h = λ lt. digit_tells words at n c rest all (hex_value c) refl lt h
step_tells (Refused place reason) words at c rest all h = h

end_tells : (mode : Mode) (words all : List (List ℕ)) → IsDone mode → words ≡ all → Tells mode words [] all
end_tells Between words all d e = record { found = []; says = tt; all_are = sym e ∙ sym (append-nil words) }
end_tells Outside words all d e = record { parts = []; tail = []; found = []; each = tt; digits = tt; apart = tt; whole = refl; says = tt; all_are = sym e ∙ sym (append-nil words) }
end_tells Semicolon words all d e = absurd d
end_tells Inside words all d e = absurd d
end_tells Escape words all d e = absurd d
end_tells (Digit n) words all d e = absurd d
end_tells (Refused place reason) words all d e = absurd d

run_tells : (rest : List ℕ) (mode : Mode) (words : List (List ℕ)) (at : ℕ) (all : List (List ℕ)) → Ends (fold step (scan_at words mode at) rest) all → Tells mode words rest all
run_tells [] mode words at all h = end_tells mode words all h.done h.words_are
run_tells (c ∷ rest) mode words at all h =
    let s = step_in mode words at c in
    step_tells mode words at c rest all (run_tells rest s.mode s.words s.at all h)

pub found_says : (body : List ℕ) (all : List (List ℕ)) → Ends (fold step start body) all → SaysWords body all
found_says body all h =
    let t = run_tells body Between [] 0 all h in
    subst (SaysWords body) (sym t.all_are) t.says
