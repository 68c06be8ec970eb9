-- Words that a body says are what the scan finds.
use Rattle.std.proofs.Common.{◌≡◌, ◌≢◌, ℕ, ◌+◌, ◌*◌, ◌<◌, inl, inr, false, eqb, List, [], ◌∷◌, ◌++◌, Option, None, refl, sym, ap, subst, ◌∙◌, append_assoc}
use Rattle.std.specs.List.{fold, flat_map, AllByRecursion}
use Rattle.std.proofs.lemmas.List.{append-nil}
use Rattle.std.proofs.lemmas.List.Sums.{fold-append}
use Rattle.std.proofs.lemmas.Bool.{ne_eqb, cases_Bool, eqb-true, cond-true, cond-false}
use Rattle.cody_words.specs.declared.mode.Mode.{Mode}
use Rattle.cody_words.specs.declared.mode.Mode.TheVariants.{Between, Semicolon, Outside, Inside, Digit}
use Rattle.cody_words.specs.Octets.{IsWhite, IsBare, IsPlain, hex_digit}
use Rattle.cody_words.specs.Spelling.{Item, plain, one_digit, two_digits, escaped_newline, escaped_tab, escaped_apostrophe, escaped_backslash, escaped_space, items_raw, items_value, IsItem, NoDigitFirst, TakesTwo, Part, bare, quoted, part_raw, part_value, IsPart, TakesDigits}
use Rattle.cody_words.specs.Lines.{IsApart, SaysWords}
use Rattle.cody_words.specs.Scan.{Scan, is_white, hex_value, letter_value, with_octet, with_word, goes, step_outside, step_between, step_semicolon, step_inside, step_escape, step_digit, step, start, all_words, verdict}
use Rattle.cody_words.proofs.Cases.{white_again, bare_not_white, bare_not_control, plain_not_control, hex_again, letter_of_digit, hex_not}

-- the last word has these octets at its end
abbrev pub with_octets : List (List ℕ) → List ℕ → List (List ℕ)
with_octets words octets = fold with_octet words octets

pub with_octet_last : (words : List (List ℕ)) (word : List ℕ) (c : ℕ) → with_octet (words ++ word ∷ []) c ≡ words ++ (word ++ c ∷ []) ∷ []
with_octet_last [] word c = refl
with_octet_last (w ∷ []) word c = refl
with_octet_last (w ∷ v ∷ ws) word c = ap (λ (x : List (List ℕ)). w ∷ x) (with_octet_last (v ∷ ws) word c)

pub with_octets_last : (words : List (List ℕ)) (word octets : List ℕ) → with_octets (words ++ word ∷ []) octets ≡ words ++ (word ++ octets) ∷ []
with_octets_last words word [] = ap (λ (x : List ℕ). words ++ x ∷ []) (sym (append-nil word))
with_octets_last words word (c ∷ octets) =
    ap (λ (x : List (List ℕ)). with_octets x octets) (with_octet_last words word c) ∙ with_octets_last words (word ++ c ∷ []) octets ∙ ap (λ (x : List ℕ). words ++ x ∷ []) (append_assoc word (c ∷ []) octets)

abbrev pub scan_at : List (List ℕ) → Mode → ℕ → Scan
scan_at words mode at = record { words = words; mode = mode; at = at }

-- a scan of these octets goes on as one from this mode, with these words, over the rest
pub record GoesOn (scan : Scan) (octets : List ℕ) (words : List (List ℕ)) (mode : Mode) (rest : List ℕ) : Type 0 where
  pub end : ℕ
  pub same : fold step scan octets ≡ fold step (scan_at words mode end) rest

-- one step first
goes_on_from : (scan next : Scan) (c : ℕ) (octets : List ℕ) (words : List (List ℕ)) (mode : Mode) (rest : List ℕ) → step scan c ≡ next → GoesOn next octets words mode rest → GoesOn scan (c ∷ octets) words mode rest
goes_on_from scan next c octets words mode rest e h = record { end = h.end; same = ap (λ (x : Scan). fold step x octets) e ∙ h.same }

gap_goes_on : (gap rest : List ℕ) (words : List (List ℕ)) (at : ℕ) → AllByRecursion IsWhite gap → GoesOn (scan_at words Between at) (gap ++ rest) words Between rest
gap_goes_on [] rest words at white = record { end = at; same = refl }
gap_goes_on (c ∷ gap) rest words at white =
    let e : step_between words at c ≡ goes words at Between = cond-true _ _ _ (white_again c white.0) in
    goes_on_from _ _ c (gap ++ rest) _ _ _ e (gap_goes_on gap rest words (at + 1) white.1)

plain_not_quote : (c : ℕ) → IsPlain c → eqb c 39 ≡ false
plain_not_quote c (inl h) = ne_eqb c 39 h.2
plain_not_quote c (inr e) = rw e refl

plain_not_slash : (c : ℕ) → IsPlain c → eqb c 92 ≡ false
plain_not_slash c (inl h) = ne_eqb c 92 h.1
plain_not_slash c (inr e) = rw e refl

pub plain_step : (words : List (List ℕ)) (at c : ℕ) → IsPlain c → step_inside words at c ≡ goes (with_octet words c) at Inside
plain_step words at c p = cond-false _ _ _ (plain_not_quote c p) ∙ cond-false _ _ _ (plain_not_slash c p) ∙ cond-false _ _ _ (plain_not_control c p)

pub bare_step : (words : List (List ℕ)) (at c : ℕ) → IsBare c → step_outside words at c ≡ goes (with_octet words c) at Outside
bare_step words at c b = cond-false _ _ _ (bare_not_white c b) ∙ cond-false _ _ _ (ne_eqb c 39 b.2) ∙ cond-false _ _ _ (bare_not_control c b) ∙ cond-false _ _ _ (ne_eqb c 92 b.1)

-- ---- items

-- behind an escape of one digit the scan goes on as inside
digit_ends : (words : List (List ℕ)) (n at : ℕ) (items : List Item) (rest : List ℕ) → NoDigitFirst items → fold step (scan_at words (Digit n) at) (items_raw items ++ 39 ∷ rest) ≡ fold step (scan_at (with_octet words n) Inside at) (items_raw items ++ 39 ∷ rest)
digit_ends words n at [] rest h = refl
digit_ends words n at (plain c ∷ items) rest h = ap (λ (o : Option ℕ). fold step (step_digit words at n c o) (items_raw items ++ 39 ∷ rest)) (hex_not c h)
digit_ends words n at (escaped_newline ∷ items) rest h = refl
digit_ends words n at (escaped_tab ∷ items) rest h = refl
digit_ends words n at (escaped_apostrophe ∷ items) rest h = refl
digit_ends words n at (escaped_backslash ∷ items) rest h = refl
digit_ends words n at (escaped_space ∷ items) rest h = refl
digit_ends words n at (one_digit m ∷ items) rest h = refl
digit_ends words n at (two_digits m k ∷ items) rest h = refl

pub digit_step : (words : List (List ℕ)) (at n : ℕ) → n < 16 → step_escape words at (letter_value (hex_digit n)) (hex_value (hex_digit n)) ≡ goes words at (Digit n)
digit_step words at n lt = ap (λ (o : Option ℕ). step_escape words at o (hex_value (hex_digit n))) (letter_of_digit n lt) ∙ ap (λ (o : Option ℕ). step_escape words at None o) (hex_again n lt)

items_go_on : (items : List Item) (rest : List ℕ) (words : List (List ℕ)) (at : ℕ) → AllByRecursion IsItem items → TakesTwo items → GoesOn (scan_at words Inside at) (items_raw items ++ 39 ∷ rest) (with_octets words (items_value items)) Outside rest
items_go_on [] rest words at each two = record { end = at + 1; same = refl }
items_go_on (plain c ∷ items) rest words at each two = goes_on_from _ _ c (items_raw items ++ 39 ∷ rest) _ _ _ (plain_step words at c each.0) (items_go_on items rest (with_octet words c) (at + 1) each.1 two.1)
items_go_on (escaped_newline ∷ items) rest words at each two = let h = items_go_on items rest (with_octet words 10) (at + 1 + 1) each.1 two.1 in record { end = h.end; same = h.same }
items_go_on (escaped_tab ∷ items) rest words at each two = let h = items_go_on items rest (with_octet words 9) (at + 1 + 1) each.1 two.1 in record { end = h.end; same = h.same }
items_go_on (escaped_apostrophe ∷ items) rest words at each two = let h = items_go_on items rest (with_octet words 39) (at + 1 + 1) each.1 two.1 in record { end = h.end; same = h.same }
items_go_on (escaped_backslash ∷ items) rest words at each two = let h = items_go_on items rest (with_octet words 92) (at + 1 + 1) each.1 two.1 in record { end = h.end; same = h.same }
items_go_on (escaped_space ∷ items) rest words at each two = let h = items_go_on items rest (with_octet words 32) (at + 1 + 1) each.1 two.1 in record { end = h.end; same = h.same }
items_go_on (one_digit n ∷ items) rest words at each two =
    let h = items_go_on items rest (with_octet words n) (at + 1 + 1) each.1 two.1 in
    record { end = h.end; same = ap (λ (s : Scan). fold step s (items_raw items ++ 39 ∷ rest)) (digit_step words (at + 1) n each.0) ∙ digit_ends words n (at + 1 + 1) items rest two.0 ∙ h.same }
items_go_on (two_digits m n ∷ items) rest words at each two =
    let h = items_go_on items rest (with_octet words (16 * m + n)) (at + 1 + 1 + 1) each.1 two.1 in
    record { end = h.end; same = ap (λ (s : Scan). fold step s (hex_digit n ∷ (items_raw items ++ 39 ∷ rest))) (digit_step words (at + 1) m each.0.0) ∙ ap (λ (o : Option ℕ). fold step (step_digit words (at + 1 + 1) m (hex_digit n) o) (items_raw items ++ 39 ∷ rest)) (hex_again n each.0.1) ∙ h.same }

-- ---- parts

pub quoted_whole : (items : List Item) (rest : List ℕ) → part_raw (quoted items) ++ rest ≡ 39 ∷ (items_raw items ++ 39 ∷ rest)
quoted_whole items rest = ap (λ (x : List ℕ). 39 ∷ x) (append_assoc (items_raw items) (39 ∷ []) rest)

pub parts_go_on : (parts : List Part) (rest : List ℕ) (words : List (List ℕ)) (at : ℕ) → AllByRecursion IsPart parts → AllByRecursion TakesDigits parts → GoesOn (scan_at words Outside at) (flat_map part_raw parts ++ rest) (with_octets words (flat_map part_value parts)) Outside rest
parts_go_on [] rest words at each two = record { end = at; same = refl }
parts_go_on (bare c ∷ parts) rest words at each two = goes_on_from _ _ c (flat_map part_raw parts ++ rest) _ _ _ (bare_step words at c each.0) (parts_go_on parts rest (with_octet words c) (at + 1) each.1 two.1)
parts_go_on (quoted items ∷ parts) rest words at each two =
    let tail = flat_map part_raw parts ++ rest in
    let a = items_go_on items tail words (at + 1) each.0 two.0 in
    let b = parts_go_on parts rest (with_octets words (items_value items)) a.end each.1 two.1 in
    let whole : part_raw (quoted items) ++ flat_map part_raw parts ++ rest ≡ 39 ∷ (items_raw items ++ 39 ∷ tail) = append_assoc (part_raw (quoted items)) (flat_map part_raw parts) rest ∙ quoted_whole items tail in
    let value : with_octets words (items_value items ++ flat_map part_value parts) ≡ with_octets (with_octets words (items_value items)) (flat_map part_value parts) = fold-append with_octet words (items_value items) (flat_map part_value parts) in
    record { end = b.end; same = ap (λ (x : List ℕ). fold step (scan_at words Outside at) x) whole ∙ a.same ∙ b.same ∙ ap (λ (w : List (List ℕ)). fold step (scan_at w Outside b.end) rest) (sym value) }

-- ---- a word, and words

-- a bare octet that begins a word, or follows a semicolon that begins it
semicolon_letter : (words : List (List ℕ)) (at c : ℕ) → IsBare c → step_semicolon words at c ≡ goes (with_octet words c) at Outside
semicolon_letter words at c b = cond-false _ _ _ (bare_not_white c b) ∙ bare_step words at c b

first_letter : (words : List (List ℕ)) (at c : ℕ) → IsBare c → eqb c 59 ≡ false → step_between words at c ≡ goes (with_octet (with_word words) c) at Outside
first_letter words at c b n = cond-false _ _ _ (bare_not_white c b) ∙ cond-false _ _ _ n ∙ bare_step (with_word words) at c b

same_step : (words : List (List ℕ)) (at c : ℕ) (octets : List ℕ) → IsBare c → fold step (scan_at words Semicolon at) (c ∷ octets) ≡ fold step (scan_at words Outside at) (c ∷ octets)
same_step words at c octets b = ap (λ (s : Scan). fold step s octets) (semicolon_letter words at c b ∙ sym (bare_step words at c b))

-- behind a semicolon that isn't the whole word, the scan goes on as outside
after_semicolon : (parts : List Part) (rest : List ℕ) (words : List (List ℕ)) (at : ℕ) → 59 ∷ flat_map part_raw parts ≢ 59 ∷ [] → AllByRecursion IsPart parts → fold step (scan_at words Semicolon at) (flat_map part_raw parts ++ rest) ≡ fold step (scan_at words Outside at) (flat_map part_raw parts ++ rest)
after_semicolon [] rest words at alone each = absurd (alone refl)
after_semicolon (bare c ∷ parts) rest words at alone each = same_step words at c (flat_map part_raw parts ++ rest) each.0
after_semicolon (quoted items ∷ parts) rest words at alone each = refl

begins_semicolon : (parts : List Part) (rest : List ℕ) (words : List (List ℕ)) (at : ℕ) → 59 ∷ flat_map part_raw parts ≢ 59 ∷ [] → AllByRecursion IsPart parts → AllByRecursion TakesDigits parts → GoesOn (scan_at words Between at) (59 ∷ (flat_map part_raw parts ++ rest)) (with_octets (with_octet (with_word words) 59) (flat_map part_value parts)) Outside rest
begins_semicolon parts rest words at alone each two =
    let h = parts_go_on parts rest (with_octet (with_word words) 59) (at + 1) each two in
    record { end = h.end; same = after_semicolon parts rest (with_octet (with_word words) 59) (at + 1) alone each ∙ h.same }

-- where the first octet of a raw word has no other meaning at its place, the word goes on as one that is begun
begins_as : (c : ℕ) (parts : List Part) (rest : List ℕ) (words : List (List ℕ)) (at : ℕ) → c ∷ flat_map part_raw parts ≢ 59 ∷ [] → IsBare c → AllByRecursion IsPart parts → AllByRecursion TakesDigits parts → GoesOn (scan_at words Between at) (c ∷ (flat_map part_raw parts ++ rest)) (with_octets (with_octet (with_word words) c) (flat_map part_value parts)) Outside rest
begins_as c parts rest words at alone b each two =
    elim (cases_Bool (eqb c 59)) [
      | inr n ↦ goes_on_from _ _ c (flat_map part_raw parts ++ rest) _ _ _ (first_letter words at c b n) (parts_go_on parts rest (with_octet (with_word words) c) (at + 1) each two)
      | inl y ↦
          let e : 59 ≡ c = sym (eqb-true c 59 y) in
          let P : ℕ → Type 0 = λ d. (d ∷ flat_map part_raw parts ≢ 59 ∷ []) → GoesOn (scan_at words Between at) (d ∷ (flat_map part_raw parts ++ rest)) (with_octets (with_octet (with_word words) d) (flat_map part_value parts)) Outside rest in
          subst P e (λ ne. begins_semicolon parts rest words at ne each two) alone
    ]

word_goes_on : (parts : List Part) (rest : List ℕ) (words : List (List ℕ)) (at : ℕ) → parts ≢ [] → flat_map part_raw parts ≢ 59 ∷ [] → AllByRecursion IsPart parts → AllByRecursion TakesDigits parts → GoesOn (scan_at words Between at) (flat_map part_raw parts ++ rest) (with_octets (with_word words) (flat_map part_value parts)) Outside rest
word_goes_on [] rest words at some alone each two = absurd (some refl)
word_goes_on (bare c ∷ parts) rest words at some alone each two = begins_as c parts rest words at alone each.0 each.1 two.1
word_goes_on (quoted items ∷ parts) rest words at some alone each two =
    let h = parts_go_on (quoted items ∷ parts) rest (with_word words) at each two in
    record { end = h.end; same = h.same }

-- white space or the end closes a word
closes : (rest : List ℕ) (words : List (List ℕ)) (at : ℕ) → IsApart rest → verdict (fold step (scan_at words Outside at) rest) ≡ verdict (fold step (scan_at words Between at) rest)
closes [] words at apart = refl
closes (c ∷ rest) words at apart =
    let w = white_again c apart in
    ap (λ (s : Scan). verdict (fold step s rest)) (cond-true (is_white c) (goes words at Between) _ w ∙ sym (cond-true (is_white c) (goes words at Between) _ w))

-- the words that a body says are those of the verdict, behind the words that were there
words_found : (found : List (List ℕ)) (body : List ℕ) (words : List (List ℕ)) (at : ℕ) → SaysWords body found → verdict (fold step (scan_at words Between at) body) ≡ all_words (words ++ found)
words_found [] body words at says =
    let h = gap_goes_on body [] words at says in
    ap (λ (x : List ℕ). verdict (fold step (scan_at words Between at) x)) (sym (append-nil body)) ∙ ap verdict h.same ∙ ap all_words (sym (append-nil words))
words_found (word ∷ found) body words at says =
    let w = says.1 in
    let rest = says.0 in
    let a = gap_goes_on w.gap (w.raw ++ rest) words at w.white in
    let alone : flat_map part_raw w.spells.parts ≢ 59 ∷ [] = λ e. w.quoted_semicolon (w.spells.written ∙ e) in
    let b = word_goes_on w.spells.parts rest words a.end w.spells.some alone w.spells.each w.spells.digits in
    let to_raw : fold step (scan_at words Between a.end) (w.raw ++ rest) ≡ fold step (scan_at words Between a.end) (flat_map part_raw w.spells.parts ++ rest) = ap (λ (x : List ℕ). fold step (scan_at words Between a.end) (x ++ rest)) w.spells.written in
    let value : with_octets (with_word words) (flat_map part_value w.spells.parts) ≡ words ++ word ∷ [] = with_octets_last words [] (flat_map part_value w.spells.parts) ∙ ap (λ (x : List ℕ). words ++ x ∷ []) (sym w.spells.meant) in
    ap (λ (x : List ℕ). verdict (fold step (scan_at words Between at) x)) w.whole ∙ ap verdict (a.same ∙ to_raw ∙ b.same) ∙ closes rest _ b.end w.apart ∙ ap (λ (x : List (List ℕ)). verdict (fold step (scan_at x Between b.end) rest)) value ∙ words_found found rest (words ++ word ∷ []) b.end says.2 ∙ ap all_words (append_assoc words (word ∷ []) found)

pub says_words_found : (body : List ℕ) (found : List (List ℕ)) → SaysWords body found → verdict (fold step start body) ≡ all_words found
says_words_found body found says = words_found found body [] 0 says
