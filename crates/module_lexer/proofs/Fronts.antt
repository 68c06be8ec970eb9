-- The piece at the front of a text, by its first octet.
use Rattle.std.proofs.Common.{◌≡◌, ℕ, suc, ◌+◌, ◌<◌, ◌≤◌, true, false, cond, List, [], ◌∷◌, ◌++◌, length, get_or, take, drop, not, sym, ap, ◌∙◌, refl, arith, add-one, Some, None, take-append-drop, length-take-le, length-append, inl, inr}
use Rattle.std.proofs.lemmas.Bool.{and_from, le-leb, or_left}
use Rattle.std.proofs.lemmas.List.Sums.{prefix_len-le-length}
use Rattle.std.specs.List.{prefix_len, list_all}
use Rattle.std.proofs.lemmas.List.{append_assoc, drop_more, take_all}
use Rattle.std.proofs.lemmas.Bool.{not_from_false, ne_eqb}
use Rattle.module_lexer.specs.declared.token.TokenKind.{TokenKind}
use Rattle.module_lexer.specs.declared.token.TokenKind.TheVariants.{Identifier, Reserved, Punctuator, Quoted}
use Rattle.module_lexer.specs.declared.reason.SourceReason.TheVariants.{OctetOutside, UnclosedString, IdentifierTooLong}
use Rattle.module_lexer.specs.Octets.{is_white, is_letter, is_letter_or_digit, is_punctuator, is_string_octet, is_reserved}
use Rattle.module_lexer.specs.Cut.{WhiteSpace, LineComment, BlockComment, Word, Mark, Literal, is_in_line, ends_run, has_close, is_word}
use Rattle.module_lexer.specs.Faults.{Breaks}
use Rattle.module_lexer.specs.Fronts.{IsFront}
use Rattle.module_lexer.proofs.Runs.{run_passes, run_ends, run-cons}

-- the run of a letter and what goes on from it is a word
pub word_run : (rest : List ℕ) → 0 < length rest → is_letter (get_or rest 0 0) ≡ true → (is_word (take (prefix_len is_letter_or_digit rest) rest) ≡ true) × (0 < prefix_len is_letter_or_digit rest)
word_run [] some letter = absurd (omega arith)
word_run (b ∷ bs) some letter =
    rw (run-cons is_letter_or_digit b bs (or_left _ _ letter)) (and_from _ _ letter (run_passes is_letter_or_digit bs), omega arith)

-- a run of at most 255 octets is a word, reserved or not
pub word_is_front : (rest : List ℕ) (n : ℕ) (kind : TokenKind) → 0 < length rest → is_letter (get_or rest 0 0) ≡ true → n ≡ prefix_len is_letter_or_digit rest → n ≤ 255
    → kind ≡ cond (is_reserved (take n rest)) Reserved Identifier → IsFront rest (Some kind) n
word_is_front rest n kind some letter n_is short kind_is =
    let run = word_run rest some letter in
    let within : n ≤ length rest = omega (arith, prefix_len-le-length is_letter_or_digit rest) in
    let word : is_word (take n rest) ≡ true = rw n_is run.0 in
    let ends : ends_run is_letter_or_digit (drop n rest) ≡ true = rw n_is (run_ends is_letter_or_digit rest) in
    let len : length (take n rest) ≡ n = length-take-le n rest within in
    record {
      piece = Word (take n rest);
      split = sym (take-append-drop n rest);
      length_is = len;
      fits_there = and_from _ _ (and_from _ _ word (le-leb _ _ (omega arith))) ends;
      kind_is = ap Some kind_is;
      positive = omega (arith, run.1);
    }

-- a longer run is an identifier that is too long
pub long_word_breaks : (rest : List ℕ) (n : ℕ) → 0 < length rest → is_letter (get_or rest 0 0) ≡ true → n ≡ prefix_len is_letter_or_digit rest → 255 < n → Breaks IdentifierTooLong 0 rest
long_word_breaks rest n some letter n_is long =
    let run = word_run rest some letter in
    let within : n ≤ length rest = omega (arith, prefix_len-le-length is_letter_or_digit rest) in
    let word : is_word (take n rest) ≡ true = rw n_is run.0 in
    let ends : ends_run is_letter_or_digit (drop n rest) ≡ true = rw n_is (run_ends is_letter_or_digit rest) in
    let len : length (take n rest) ≡ n = length-take-le n rest within in
    record { word = take n rest; after = drop n rest; begins = sym (take-append-drop n rest); whole = and_from _ _ word ends; long = omega arith; there = refl }

-- a list is what stands before a place, what stands there, and what stands behind it
pub split_at : (bs : List ℕ) (n c : ℕ) → n < length bs → get_or bs n 0 ≡ c → bs ≡ take n bs ++ c ∷ drop (suc n) bs
split_at bs n c lt is =
    let more : drop n bs ≡ get_or bs n 0 ∷ drop (n + 1) bs = drop_more bs n 0 lt in
    sym (take-append-drop n bs) ∙ ap (λ l. take n bs ++ l) (more ∙ rw (is, add-one) refl)

-- a run of octets of a string before a quote is a string
pub quoted_is_front : (rest tail : List ℕ) (n len : ℕ) → get_or rest 0 0 ≡ 34 → 0 < length rest → tail ≡ drop 1 rest → n ≡ prefix_len is_string_octet tail → suc n < length rest
    → get_or rest (suc n) 0 ≡ 34 → len ≡ suc (suc n) → IsFront rest (Some Quoted) len
quoted_is_front [] tail n len quote some tail_is n_is within closes len_is = absurd (omega arith)
quoted_is_front (b ∷ bs) tail n len quote some tail_is n_is within closes len_is =
    let passes : list_all is_string_octet (take n bs) ≡ true = rw (n_is, tail_is) (run_passes is_string_octet bs) in
    let lt : n < length bs = omega arith in
    let split : bs ≡ take n bs ++ 34 ∷ drop (suc n) bs = split_at bs n 34 lt closes in
    let len_body : length (take n bs) ≡ n = length-take-le n bs (omega arith) in
    record {
      piece = Literal (take n bs);
      split = rw (quote, len_is) (ap (λ l. 34 ∷ l) (split ∙ sym (append_assoc (take n bs) (34 ∷ []) (drop (suc n) bs))));
      length_is = omega (arith, length-append (take n bs) (34 ∷ []));
      fits_there = passes;
      kind_is = refl;
      positive = omega arith;
    }

-- one that ends the text is an unclosed string
pub unclosed_string : (rest tail : List ℕ) (n : ℕ) → get_or rest 0 0 ≡ 34 → 0 < length rest → tail ≡ drop 1 rest → n ≡ prefix_len is_string_octet tail → suc n ≡ length rest
    → Breaks UnclosedString 0 rest
unclosed_string [] tail n quote some tail_is n_is within = absurd (omega arith)
unclosed_string (b ∷ bs) tail n quote some tail_is n_is within =
    let passes : list_all is_string_octet (take n bs) ≡ true = rw (n_is, tail_is) (run_passes is_string_octet bs) in
    let whole : take n bs ≡ bs = take_all n bs (omega arith) in
    record { body = bs; begins = ap (λ x. x ∷ bs) quote; unclosed = rw whole at passes; there = refl }

-- one before another octet is a string with a forbidden octet
pub bad_octet_in_string : (rest tail : List ℕ) (n ahead : ℕ) → get_or rest 0 0 ≡ 34 → 0 < length rest → tail ≡ drop 1 rest → n ≡ prefix_len is_string_octet tail → suc n < length rest
    → (get_or rest (suc n) 0 ≡ 34 → ⊥) → ahead ≡ 1 + n → Breaks OctetOutside ahead rest
bad_octet_in_string [] tail n ahead quote some tail_is n_is within other ahead_is = absurd (omega arith)
bad_octet_in_string (b ∷ bs) tail n ahead quote some tail_is n_is within other ahead_is =
    let passes : list_all is_string_octet (take n bs) ≡ true = rw (n_is, tail_is) (run_passes is_string_octet bs) in
    let c : ℕ = get_or bs n 0 in
    let lt : n < length bs = omega arith in
    let split : bs ≡ take n bs ++ c ∷ drop (suc n) bs = split_at bs n (get_or bs n 0) lt refl in
    let more : drop n bs ≡ get_or bs n 0 ∷ drop (n + 1) bs = drop_more bs n 0 lt in
    let ends : ends_run is_string_octet (drop n bs) ≡ true = rw (n_is, tail_is) (run_ends is_string_octet bs) in
    let stops : not (is_string_octet (get_or bs n 0)) ≡ true = rw more at ends in
    let len_body : length (take n bs) ≡ n = length-take-le n bs (omega arith) in
    inr (record {
      body = take n bs;
      octet = get_or bs n 0;
      after = drop (suc n) bs;
      begins = rw quote (ap (λ l. 34 ∷ l) split);
      first = passes;
      forbidden = and_from _ _ stops (not_from_false _ (ne_eqb _ _ other));
      there = omega arith;
    })

-- what stands before the first NEWLINE is a comment
pub line_comment_is_front : (rest tail : List ℕ) (n len : ℕ) → get_or rest 0 0 ≡ 47 → get_or rest 1 0 ≡ 47 → 1 < length rest → tail ≡ drop 2 rest
    → n ≡ prefix_len is_in_line tail → len ≡ suc (suc n) → IsFront rest None len
line_comment_is_front [] tail n len one two some tail_is n_is len_is = absurd (omega arith)
line_comment_is_front (a ∷ []) tail n len one two some tail_is n_is len_is = absurd (omega arith)
line_comment_is_front (a ∷ b ∷ bs) tail n len one two some tail_is n_is len_is =
    let passes : list_all is_in_line (take n bs) ≡ true = rw (n_is, tail_is) (run_passes is_in_line bs) in
    let ends : ends_run is_in_line (drop n bs) ≡ true = rw (n_is, tail_is) (run_ends is_in_line bs) in
    let len_body : length (take n bs) ≡ n = length-take-le n bs (omega (arith, n_is, ap (λ l. prefix_len is_in_line l) tail_is, prefix_len-le-length is_in_line bs)) in
    record {
      piece = LineComment (take n bs);
      split = rw (one, two, len_is) (ap (λ l. 47 ∷ 47 ∷ l) (sym (take-append-drop n bs)));
      length_is = omega arith;
      fits_there = rw len_is (and_from _ _ passes ends);
      kind_is = refl;
      positive = omega arith;
    }

-- what stands before the first close is a comment
pub block_comment_is_front : (rest tail : List ℕ) (n len : ℕ) → get_or rest 0 0 ≡ 47 → get_or rest 1 0 ≡ 42 → 1 < length rest → tail ≡ drop 2 rest
    → n + 2 ≤ length tail → has_close (take n tail) ≡ false → get_or tail n 0 ≡ 42 → get_or tail (n + 1) 0 ≡ 47 → len ≡ n + 4 → IsFront rest None len
block_comment_is_front [] tail n len one two some tail_is within none star slash len_is = absurd (omega arith)
block_comment_is_front (a ∷ []) tail n len one two some tail_is within none star slash len_is = absurd (omega arith)
block_comment_is_front (a ∷ b ∷ bs) tail n len one two some tail_is within none star slash len_is =
    let length_is : length tail ≡ length bs = ap length tail_is in
    let len_body : length (take n bs) ≡ n = length-take-le n bs (omega arith) in
    let star_is : get_or bs n 0 ≡ 42 = rw tail_is at star in
    let slash_is : get_or bs (suc n) 0 ≡ 47 = rw (tail_is, add-one) at slash in
    let first : bs ≡ take n bs ++ 42 ∷ drop (suc n) bs = split_at bs n 42 (omega arith) star_is in
    let more : drop (suc n) bs ≡ get_or bs (suc n) 0 ∷ drop (suc n + 1) bs = drop_more bs (suc n) 0 (omega arith) in
    let second : drop (suc n) bs ≡ 47 ∷ drop (suc (suc n)) bs = more ∙ rw (slash_is, add-one) refl in
    let len' : len ≡ suc (suc (suc (suc n))) = omega arith in
    record {
      piece = BlockComment (take n bs);
      split = rw (one, two, len') (ap (λ l. 47 ∷ 42 ∷ l) (first ∙ ap (λ l. take n bs ++ 42 ∷ l) second ∙ sym (append_assoc (take n bs) (42 ∷ 47 ∷ []) (drop (suc (suc n)) bs))));
      length_is = omega (arith, length-append (take n bs) (42 ∷ 47 ∷ []));
      fits_there = not_from_false _ (rw tail_is at none);
      kind_is = refl;
      positive = omega arith;
    }

-- a slash with neither a slash nor a star behind it begins nothing
pub slash_breaks : (rest : List ℕ) → get_or rest 0 0 ≡ 47 → 0 < length rest → (1 < length rest → (get_or rest 1 0 ≡ 47 → ⊥) × (get_or rest 1 0 ≡ 42 → ⊥)) → Breaks OctetOutside 0 rest
slash_breaks [] slash some other = absurd (omega arith)
slash_breaks (a ∷ []) slash some other = inl (record { octet = a; after = []; begins = refl; none = rw slash refl; there = refl })
slash_breaks (a ∷ b ∷ bs) slash some other =
    let o = other (omega arith) in
    inl (record { octet = a; after = b ∷ bs; begins = refl; none = rw (slash, ne_eqb b 47 o.0, ne_eqb b 42 o.1) refl; there = refl })

-- an octet of white space is a piece
pub space_is_front : (rest : List ℕ) → 0 < length rest → is_white (get_or rest 0 0) ≡ true → IsFront rest None 1
space_is_front [] some space = absurd (omega arith)
space_is_front (b ∷ bs) some space = record { piece = WhiteSpace b; split = refl; length_is = refl; fits_there = space; kind_is = refl; positive = omega arith }

-- a punctuator is a piece
pub mark_is_front : (rest : List ℕ) → 0 < length rest → is_punctuator (get_or rest 0 0) ≡ true → IsFront rest (Some Punctuator) 1
mark_is_front [] some mark = absurd (omega arith)
mark_is_front (b ∷ bs) some mark = record { piece = Mark b; split = refl; length_is = refl; fits_there = mark; kind_is = refl; positive = omega arith }
