-- The canonical spelling spells its word, and a canonical line says its words.
use Rattle.std.proofs.Common.{◌+◌, ◌≡◌, ◌≢◌, ℕ, ◌/◌, ◌%◌, ◌<◌, ◌≤◌, inl, inr, Bool, true, false, cond, eqb, ltb, not, ◌||◌, List, [], ◌∷◌, ◌++◌, length, map, refl, sym, ap, subst, ◌∙◌, arith, append_assoc}
use Rattle.std.specs.Bool.{MatchBool}
use Rattle.std.specs.List.{fold, flat_map, AllByRecursion, list_all}
use Rattle.std.proofs.lemmas.List.{append-nil}
use Rattle.std.proofs.lemmas.Bool.{eqb-true, eqb-false, ltb-true, ltb-false, and_parts, or_parts, or_cases, le-ltb}
use Rattle.std.proofs.lemmas.Bool.Decides.{nat_tests}
use Rattle.cody_words.specs.declared.mode.Mode.TheVariants.{Outside}
use Rattle.cody_words.specs.Octets.{IsBare, hex_digit}
use Rattle.cody_words.specs.Spelling.{Item, plain, two_digits, escaped_newline, escaped_tab, escaped_apostrophe, escaped_backslash, item_raw, item_value, items_raw, items_value, IsItem, EndsBefore, TakesTwo, Part, bare, quoted, part_raw, part_value, IsPart, TakesDigits, Spells}
use Rattle.cody_words.specs.Lines.{Words, IsApart, Marked, HasBody, WordFirst, SaysWords, Says, longest_line}
use Rattle.cody_words.specs.Scan.{Scan, step}
use Rattle.cody_words.specs.Canonical.{is_bare_letter, is_bare, quoted_octet, quote, spaced, mark, canonical_text, canonical_line}
use Rattle.cody_words.proofs.Told.{white_first, quote_differs}
use Rattle.cody_words.proofs.Found.{with_octets, with_octets_last, scan_at, GoesOn, parts_go_on}

-- ---- an octet between quotes is an item

-- an item that spells the octet, of those that canonical writing writes
pub record ItemFor (c : ℕ) (raw : List ℕ) : Type 0 where
  pub item : Item
  pub one : IsItem item
  pub ends : (items : List Item) → EndsBefore item items
  pub raw_is : raw ≡ item_raw item
  pub value_is : c ≡ item_value item

item_cond : (b : Bool) (c : ℕ) (xs ys : List ℕ) → (b ≡ true → ItemFor c xs) → (b ≡ false → ItemFor c ys) → ItemFor c (cond b xs ys)
item_cond true c xs ys p q = p refl
item_cond false c xs ys p q = q refl

item_named : (c v : ℕ) (i : Item) → IsItem i → ((items : List Item) → EndsBefore i items) → item_value i ≡ v → eqb c v ≡ true → ItemFor c (item_raw i)
item_named c v i one ends e t = record { item = i; one = one; ends = ends; raw_is = refl; value_is = eqb-true c v t ∙ sym e }

hex_item : (c : ℕ) → c < 256 → ItemFor c (92 ∷ hex_digit (c / 16) ∷ hex_digit (c % 16) ∷ [])
hex_item c lt = record { item = two_digits (c / 16) (c % 16); one = (omega arith, omega arith); ends = λ items. tt; raw_is = refl; value_is = omega arith }

below_256 : (c : ℕ) → (ltb c 32 || eqb c 127) ≡ true → c < 256
below_256 c t = elim (or_cases (ltb c 32) (eqb c 127) t) [ inl a ↦ (let h = ltb-true c 32 a in omega arith) | inr b ↦ (let h = eqb-true c 127 b in omega arith) ]

item_for : (c : ℕ) → ItemFor c (quoted_octet c)
unfolding quoted_octet
item_for c =
    item_cond (eqb c 10) c _ _ (item_named c 10 escaped_newline tt (λ items. tt) refl) (λ n10.
    item_cond (eqb c 9) c _ _ (item_named c 9 escaped_tab tt (λ items. tt) refl) (λ n9.
    item_cond (eqb c 39) c _ _ (item_named c 39 escaped_apostrophe tt (λ items. tt) refl) (λ n39.
    item_cond (eqb c 92) c _ _ (item_named c 92 escaped_backslash tt (λ items. tt) refl) (λ n92.
    item_cond (ltb c 32 || eqb c 127) c _ _ (λ t. hex_item c (below_256 c t)) (λ f.
    let h = or_parts (ltb c 32) (eqb c 127) f in
    record { item = plain c; one = inl (ltb-false c 32 h.0, eqb-false c 92 n92, eqb-false c 39 n39, eqb-false c 127 h.1); ends = λ items. tt; raw_is = refl; value_is = refl })))))

pub record ItemsFor (word : List ℕ) : Type 0 where
  pub items : List Item
  pub each : AllByRecursion IsItem items
  pub two : TakesTwo items
  pub raw_is : flat_map quoted_octet word ≡ items_raw items
  pub value_is : word ≡ items_value items

append_both : (a b x y : List ℕ) → a ≡ b → x ≡ y → a ++ x ≡ b ++ y
append_both a b x y p q = ap (λ (t : List ℕ). t ++ x) p ∙ ap (λ (t : List ℕ). b ++ t) q

cons_both : (a b : ℕ) (x y : List ℕ) → a ≡ b → x ≡ y → a ∷ x ≡ b ∷ y
cons_both a b x y p q = cc

items_for : (word : List ℕ) → ItemsFor word
items_for [] = record { items = []; each = tt; two = tt; raw_is = refl; value_is = refl }
items_for (c ∷ word) =
    let i = item_for c in
    let r = items_for word in
    record {
      items = i.item ∷ r.items;
      each = (i.one, r.each);
      two = (i.ends r.items, r.two);
      raw_is = append_both _ _ _ _ i.raw_is r.raw_is;
      value_is = cons_both _ _ _ _ i.value_is r.value_is;
    }

-- ---- a bare word is bare parts

letter_is_bare : (c : ℕ) → is_bare_letter c ≡ true → IsBare c
unfolding is_bare_letter
letter_is_bare c e = (grind (arith, nat_tests), grind (arith, nat_tests), grind (arith, nat_tests), grind (arith, nat_tests))

bare_parts : (word : List ℕ) → list_all is_bare_letter word ≡ true → AllByRecursion IsPart (map bare word)
bare_parts [] e = tt
bare_parts (c ∷ word) e =
    let h = and_parts (is_bare_letter c) (list_all is_bare_letter word) e in
    (letter_is_bare c h.0, bare_parts word h.1)

bare_digits : (word : List ℕ) → AllByRecursion TakesDigits (map bare word)
bare_digits [] = tt
bare_digits (c ∷ word) = (tt, bare_digits word)

bare_raw : (word : List ℕ) → word ≡ flat_map part_raw (map bare word)
bare_raw [] = refl
bare_raw (c ∷ word) = ap (λ (x : List ℕ). c ∷ x) (bare_raw word)

bare_value : (word : List ℕ) → word ≡ flat_map part_value (map bare word)
bare_value [] = refl
bare_value (c ∷ word) = ap (λ (x : List ℕ). c ∷ x) (bare_value word)

part_some : (p : Part) (parts : List Part) → p ∷ parts ≡ [] → ⊥
part_some p parts e = cc

bare_some : (word : List ℕ) → not (eqb (length word) 0) ≡ true → map bare word ≡ [] → ⊥
bare_some [] e f = cc
bare_some (c ∷ word) e f = part_some (bare c) (map bare word) f

bare_spells : (word : List ℕ) → is_bare word ≡ true → Spells word word
bare_spells word e =
    let h = and_parts (not (eqb (length word) 0)) (list_all is_bare_letter word) e in
    record { parts = map bare word; some = bare_some word h.0; each = bare_parts word h.1; digits = bare_digits word; written = bare_raw word; meant = bare_value word }

quoted_spells : (word : List ℕ) → Spells (39 ∷ (flat_map quoted_octet word ++ 39 ∷ [])) word
quoted_spells word =
    let r = items_for word in
    record {
      parts = quoted r.items ∷ [];
      some = part_some (quoted r.items) [];
      each = (r.each, tt);
      digits = (r.two, tt);
      written = ap (λ (x : List ℕ). 39 ∷ (x ++ 39 ∷ [])) r.raw_is ∙ sym (append-nil (part_raw (quoted r.items)));
      meant = r.value_is ∙ sym (append-nil (items_value r.items));
    }

spells_cond : (b : Bool) (word xs ys : List ℕ) → (b ≡ true → Spells xs word) → (b ≡ false → Spells ys word) → Spells (cond b xs ys) word
spells_cond true word xs ys p q = p refl
spells_cond false word xs ys p q = q refl

-- the canonical spelling spells its word
pub quote_spells : (word : List ℕ) → Spells (quote word) word
quote_spells word = spells_cond (is_bare word) word word _ (bare_spells word) (λ _. quoted_spells word)

-- ---- a raw word spells one word

scanned : (raw word : List ℕ) → Spells raw word → GoesOn (scan_at ([] ∷ []) Outside 0) raw (word ∷ []) Outside []
scanned raw word h =
    let g = parts_go_on h.parts [] ([] ∷ []) 0 h.each h.digits in
    let text : raw ≡ flat_map part_raw h.parts ++ [] = h.written ∙ sym (append-nil (flat_map part_raw h.parts)) in
    let value : with_octets ([] ∷ []) (flat_map part_value h.parts) ≡ word ∷ [] = with_octets_last [] [] (flat_map part_value h.parts) ∙ ap (λ (x : List ℕ). x ∷ []) (sym h.meant) in
    record { end = g.end; same = ap (fold step (scan_at ([] ∷ []) Outside 0)) text ∙ g.same ∙ ap (λ (w : List (List ℕ)). scan_at w Outside g.end) value }

one_of : (a b : List ℕ) → a ∷ [] ≡ b ∷ [] → a ≡ b
one_of a b e = cc

pub one_word : (raw v w : List ℕ) → Spells raw v → Spells raw w → v ≡ w
one_word raw v w p q =
    let a = scanned raw v p in
    let b = scanned raw w q in
    one_of v w (ap (λ (s : Scan). s.words) (sym a.same ∙ b.same))

-- ---- a canonical line says its words

-- the last octet
abbrev last_of : List ℕ → ℕ
last_of [] = 0
last_of (x ∷ []) = x
last_of (x ∷ y ∷ ys) = last_of (y ∷ ys)

last_behind : (xs : List ℕ) (y : ℕ) (ys : List ℕ) → last_of (xs ++ y ∷ ys) ≡ last_of (y ∷ ys)
last_behind [] y ys = refl
last_behind (x ∷ []) y ys = refl
last_behind (x ∷ z ∷ xs) y ys = last_behind (z ∷ xs) y ys

letter_not_semicolon : (c : ℕ) → is_bare_letter c ≡ true → c ≡ 59 → ⊥
unfolding is_bare_letter
letter_not_semicolon c e f = grind (arith, nat_tests)

last_letter : (word : List ℕ) → list_all is_bare_letter word ≡ true → last_of word ≡ 59 → ⊥
last_letter [] e f = omega arith
last_letter (c ∷ []) e f = letter_not_semicolon c (and_parts (is_bare_letter c) true e).0 f
last_letter (c ∷ d ∷ word) e f = last_letter (d ∷ word) (and_parts (is_bare_letter c) (list_all is_bare_letter (d ∷ word)) e).1 f

last_cond : (b : Bool) (xs ys : List ℕ) → (b ≡ true → last_of xs ≡ 59 → ⊥) → (last_of ys ≡ 59 → ⊥) → last_of (cond b xs ys) ≡ 59 → ⊥
last_cond true xs ys p q = p refl
last_cond false xs ys p q = q

-- no canonical spelling ends in a semicolon
quote_last : (word : List ℕ) → last_of (quote word) ≡ 59 → ⊥
quote_last word = last_cond (is_bare word) word _ (λ e. last_letter word (and_parts _ _ e).1) (λ f. quote_differs (last_of (39 ∷ (flat_map quoted_octet word ++ 39 ∷ []))) (last_behind (39 ∷ flat_map quoted_octet word) 39 []) f)

spaced_last : (words : List (List ℕ)) → last_of (spaced words) ≡ 59 → ⊥
spaced_last [] f = omega arith
spaced_last (w ∷ []) f = quote_last w f
spaced_last (w ∷ v ∷ words) f = spaced_last (v ∷ words) (behind_space (spaced (v ∷ words)) (sym (last_behind (quote w) 32 (spaced (v ∷ words))) ∙ f))
  where
    behind_space : (xs : List ℕ) → last_of (32 ∷ xs) ≡ 59 → last_of xs ≡ 59
    behind_space [] e = absurd (omega arith)
    behind_space (x ∷ xs) e = e

quote_alone : (word : List ℕ) → quote word ≡ 59 ∷ [] → ⊥
quote_alone word e = quote_last word (ap last_of e)

spaced_first_word : (w : List ℕ) (rest : List ℕ) (text : List ℕ) → text ≡ quote w ++ rest → IsApart rest → WordFirst text w rest
spaced_first_word w rest text e apart = record { gap = []; raw = quote w; white = tt; spells = quote_spells w; quoted_semicolon = quote_alone w; apart = apart; whole = e }

-- the text of a line says its words
pub spaced_says : (words : List (List ℕ)) → SaysWords (spaced words) words
spaced_says [] = tt
spaced_says (w ∷ []) = ([], spaced_first_word w [] (quote w) (sym (append-nil (quote w))) tt, tt)
spaced_says (w ∷ v ∷ words) =
    let rest = 32 ∷ spaced (v ∷ words) in
    (rest, spaced_first_word w rest (spaced (w ∷ v ∷ words)) refl (inl refl), white_first 32 (spaced (v ∷ words)) (v ∷ words) (inl refl) (spaced_says (v ∷ words)))

not_marked : (words : List (List ℕ)) (other : List ℕ) → Marked (spaced words) other → ⊥
not_marked words other (inl h) = spaced_last words (ap last_of h.0)
not_marked words other (inr (c, w, e)) = spaced_last words (ap last_of e ∙ last_behind other c (59 ∷ []))

-- the mark, where more follows
line_body : (words : List (List ℕ)) (more : Bool) → HasBody (spaced words ++ mark more) more (spaced words)
line_body words true = inr (32, inl refl, refl)
line_body words false = (λ other h. not_marked words other (subst (λ (x : List ℕ). Marked x other) (append-nil (spaced words)) h), sym (append-nil (spaced words)))

-- a canonical line says its words and its mark, where it isn't too long
pub line_says_its_words : (words : List (List ℕ)) (more : Bool) → words ≢ [] → length (spaced words ++ mark more) ≤ longest_line → Says (spaced words ++ mark more) (Words words) more
line_says_its_words words more some le = record {
  body = spaced words;
  has_body = line_body words more;
  says = at_false (ltb longest_line (length (spaced words ++ mark more))) _ _ (le-ltb longest_line (length (spaced words ++ mark more)) le) (some, spaced_says words);
}
  where
    at_false : (t : Bool) (P Q : Type 0) → t ≡ false → Q → MatchBool t P Q
    at_false true P Q e q = absurd cc
    at_false false P Q e q = q

-- ---- a canonical line has no NEWLINE within

abbrev pub NoNewline : List ℕ → Type 0
NoNewline xs = AllByRecursion (λ c. c ≡ 10 → ⊥) xs

clean-append : (xs ys : List ℕ) → NoNewline xs → NoNewline ys → NoNewline (xs ++ ys)
clean-append [] ys p q = q
clean-append (x ∷ xs) ys p q = (p.0, clean-append xs ys p.1 q)

clean_cond : (b : Bool) (xs ys : List ℕ) → (b ≡ true → NoNewline xs) → (b ≡ false → NoNewline ys) → NoNewline (cond b xs ys)
clean_cond true xs ys p q = p refl
clean_cond false xs ys p q = q refl

differs : (a b : ℕ) → a ≡ b → 10 < b → a ≡ 10 → ⊥
differs a b e lt f = omega arith

hex_digit_differs : (n : ℕ) → hex_digit n ≡ 10 → ⊥
hex_digit_differs n = by_test (ltb n 10)
  where
    by_test : (b : Bool) → cond b (48 + n) (87 + n) ≡ 10 → ⊥
    by_test true e = omega arith
    by_test false e = omega arith

clean_octet : (c : ℕ) → NoNewline (quoted_octet c)
unfolding quoted_octet
clean_octet c =
    let slash = differs 92 92 refl (omega arith) in
    clean_cond (eqb c 10) _ _ (λ e. (slash, (differs 110 110 refl (omega arith), tt))) (λ n10.
    clean_cond (eqb c 9) _ _ (λ e. (slash, (differs 116 116 refl (omega arith), tt))) (λ n9.
    clean_cond (eqb c 39) _ _ (λ e. (slash, (differs 39 39 refl (omega arith), tt))) (λ n39.
    clean_cond (eqb c 92) _ _ (λ e. (slash, (slash, tt))) (λ n92.
    clean_cond (ltb c 32 || eqb c 127) _ _ (λ e. (slash, (hex_digit_differs (c / 16), (hex_digit_differs (c % 16), tt)))) (λ f. (eqb-false c 10 n10, tt))))))

clean_octets : (word : List ℕ) → NoNewline (flat_map quoted_octet word)
clean_octets [] = tt
clean_octets (c ∷ word) = clean-append (quoted_octet c) (flat_map quoted_octet word) (clean_octet c) (clean_octets word)

clean_letters : (word : List ℕ) → list_all is_bare_letter word ≡ true → NoNewline word
clean_letters [] e = tt
clean_letters (c ∷ word) e =
    let h = and_parts (is_bare_letter c) (list_all is_bare_letter word) e in
    (λ f. above c (letter_is_bare c h.0).0 f, clean_letters word h.1)
  where
    above : (c : ℕ) → 32 < c → c ≡ 10 → ⊥
    above c lt f = omega arith

clean_quote : (word : List ℕ) → NoNewline (quote word)
clean_quote word =
    let no_newline_quote = differs 39 39 refl (omega arith) in
    clean_cond (is_bare word) word _ (λ e. clean_letters word (and_parts _ _ e).1) (λ e. (no_newline_quote, clean-append (flat_map quoted_octet word) (39 ∷ []) (clean_octets word) (no_newline_quote, tt)))

clean_spaced : (words : List (List ℕ)) → NoNewline (spaced words)
clean_spaced [] = tt
clean_spaced (w ∷ []) = clean_quote w
clean_spaced (w ∷ v ∷ words) = clean-append (quote w) (32 ∷ spaced (v ∷ words)) (clean_quote w) (differs 32 32 refl (omega arith), clean_spaced (v ∷ words))

clean_mark : (more : Bool) → NoNewline (mark more)
clean_mark true = (differs 32 32 refl (omega arith), (differs 59 59 refl (omega arith), tt))
clean_mark false = tt

pub no_newline : (words : List (List ℕ)) (more : Bool) → NoNewline (spaced words ++ mark more)
no_newline words more = clean-append (spaced words) (mark more) (clean_spaced words) (clean_mark more)

-- a canonical line is its text and a NEWLINE
pub canonical_line_is : (words : List (List ℕ)) (more : Bool) → canonical_line words more ≡ canonical_text words more ++ 10 ∷ []
canonical_line_is words more = sym (append_assoc (spaced words) (mark more) (10 ∷ []))
