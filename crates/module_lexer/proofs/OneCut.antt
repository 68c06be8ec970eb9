-- A text has one cut: what begins at its front is determined.
use Rattle.std.proofs.Common.{◌≡◌, ℕ, suc, ◌+◌, Bool, true, false, cond, List, [], ◌∷◌, ◌++◌, length, take, drop, eqb, leb, ◌&&◌, ◌||◌, not, sym, ap, ◌∙◌, refl, arith, Option, Some, None, inl, inr, append_assoc}
use Rattle.std.specs.Prelude.{IsTrue, ◌<◌}
use Rattle.std.proofs.Math.Numerals.{one-add}
use Rattle.std.proofs.lemmas.Bool.{and_parts, and_from, or_left, or_parts, cond_both, and_right, cond-true, cond-false, not-true, lt-leb}
use Rattle.std.proofs.lemmas.Bool.Decides.{nat_tests}
use Rattle.std.proofs.lemmas.List.{take_at, drop_at, append-nil, append_cancel_left}
use Rattle.std.specs.List.{prefix_len, list_all}
use Rattle.module_lexer.specs.declared.reason.SourceReason.{SourceReason}
use Rattle.module_lexer.specs.declared.reason.SourceReason.TheVariants.{OctetOutside, UnclosedComment, UnclosedString, IdentifierTooLong}
use Rattle.module_lexer.specs.Octets.{is_white, is_letter, is_letter_or_digit, is_punctuator, is_string_octet}
use Rattle.module_lexer.specs.Cut.{Piece, WhiteSpace, LineComment, BlockComment, Word, Mark, Literal, spelling, is_in_line, ends_run, has_close, is_word, fits, joined, Fit}
use Rattle.module_lexer.specs.Tokens.{line_of, tokens_from, HasTokens}
use Rattle.module_lexer.specs.Faults.{Breaks, begins_piece, begins_comment, HasLexFault}
use Rattle.module_lexer.specs.declared.token.Token.{Token}

-- what a list begins with: a piece, a fault, or nothing
pub data Begins : Type 0 where
  Is : (p : Piece) → Begins
  Stops : (reason : SourceReason) → (ahead : ℕ) → Begins
  Ended : Begins

-- what begins with a quote, where the longest run stands before the rest
abbrev string_begins : List ℕ → List ℕ → Begins
string_begins body [] = Stops UnclosedString 0
string_begins body (c ∷ cs) = cond (eqb c 34) (Is (Literal body)) (Stops OctetOutside (1 + length body))

-- one octet more before
abbrev longer : ℕ → Option (List ℕ) → Option (List ℕ)
longer a None = None
longer a (Some bs) = Some (a ∷ bs)

-- the octets before the first close
abbrev before_close : List ℕ → Option (List ℕ)
before_close [] = None
before_close (a ∷ []) = None
before_close (a ∷ b ∷ bs) = cond (eqb a 42 && eqb b 47) (Some []) (longer a (before_close (b ∷ bs)))

-- what begins with a slash and a star
abbrev block_begins : Option (List ℕ) → Begins
block_begins None = Stops UnclosedComment 0
block_begins (Some body) = Is (BlockComment body)

-- the longest run of octets that pass
abbrev run_of : (ℕ → Bool) → List ℕ → List ℕ
run_of p octets = take (prefix_len p octets) octets

-- what begins with a slash
abbrev comment_begins : List ℕ → Begins
comment_begins [] = Stops OctetOutside 0
comment_begins (c ∷ cs) = cond (eqb c 47) (Is (LineComment (run_of is_in_line cs))) (cond (eqb c 42) (block_begins (before_close cs)) (Stops OctetOutside 0))

-- what begins with a letter
abbrev word_begins : List ℕ → Begins
word_begins w = cond (leb (length w) 255) (Is (Word w)) (Stops IdentifierTooLong 0)

-- what begins at the front of a list
abbrev pub front : List ℕ → Begins
front [] = Ended
front (b ∷ bs) =
    cond (is_letter b) (word_begins (run_of is_letter_or_digit (b ∷ bs)))
    (cond (is_white b) (Is (WhiteSpace b))
    (cond (is_punctuator b) (Is (Mark b))
    (cond (eqb b 34) (string_begins (run_of is_string_octet bs) (drop (prefix_len is_string_octet bs) bs))
    (cond (eqb b 47) (comment_begins bs) (Stops OctetOutside 0)))))

-- a run that ends has its length
run_len : (p : ℕ → Bool) (w after : List ℕ) → list_all p w ≡ true → ends_run p after ≡ true → prefix_len p (w ++ after) ≡ length w
run_len p [] [] all ends = refl
run_len p [] (b ∷ after) all ends = rw (not-true (p b) ends) refl
run_len p (x ∷ w) after all ends = let h = and_parts (p x) (list_all p w) all in rw h.0 (one-add _ ∙ ap suc (run_len p w after h.1 ends))

-- a run that ends is the longest run
run_is : (p : ℕ → Bool) (w after : List ℕ) → list_all p w ≡ true → ends_run p after ≡ true → run_of p (w ++ after) ≡ w
run_is p w after all ends = rw run_len (take_at w after (length w) refl)

-- and what stands behind it is the rest
rest_is : (p : ℕ → Bool) (w after : List ℕ) → list_all p w ≡ true → ends_run p after ≡ true → drop (prefix_len p (w ++ after)) (w ++ after) ≡ after
rest_is p w after all ends = rw run_len (drop_at w after (length w) refl)

-- white space, letters and punctuators are apart
space_no_letter : (b : ℕ) → is_white b ≡ true → is_letter b ≡ false
space_no_letter b h = grind (arith, nat_tests)

mark_no_letter : (b : ℕ) → is_punctuator b ≡ true → is_letter b ≡ false
mark_no_letter b h = grind (arith, nat_tests)

mark_no_space : (b : ℕ) → is_punctuator b ≡ true → is_white b ≡ false
mark_no_space b h = grind (arith, nat_tests)

-- the octets before the first close
before_first_close : (body after : List ℕ) → has_close body ≡ false → before_close (body ++ (42 ∷ 47 ∷ after)) ≡ Some body
before_first_close [] after none = refl
before_first_close (a ∷ []) after none = rw (and_right (eqb a 42) false refl) refl
before_first_close (a ∷ b ∷ bs) after none =
    let h = or_parts (eqb a 42 && eqb b 47) (has_close (b ∷ bs)) none in
    let rest : before_close (b ∷ (bs ++ (42 ∷ 47 ∷ after))) ≡ Some (b ∷ bs) = before_first_close (b ∷ bs) after h.1 in
    rw (h.0, rest) refl

-- without a close there are none
no_close_before : (body : List ℕ) → has_close body ≡ false → before_close body ≡ None
no_close_before [] none = refl
no_close_before (a ∷ []) none = refl
no_close_before (a ∷ b ∷ bs) none =
    let h = or_parts (eqb a 42 && eqb b 47) (has_close (b ∷ bs)) none in
    let rest : before_close (b ∷ bs) ≡ None = no_close_before (b ∷ bs) h.1 in
    rw (h.0, rest) refl

-- a piece that fits is what its octets begin with
pub front_piece : (p : Piece) (after : List ℕ) → fits p after ≡ true → front (spelling p ++ after) ≡ Is p
front_piece (WhiteSpace b) after h = rw (space_no_letter b h, h) refl
front_piece (LineComment body) after h = let x = and_parts (list_all is_in_line body) (ends_run is_in_line after) h in ap (λ l. Is (LineComment l)) (run_is is_in_line body after x.0 x.1)
front_piece (BlockComment body) after h =
    ap block_begins (ap before_close (append_assoc body (42 ∷ 47 ∷ []) after) ∙ before_first_close body after (not-true _ h))
front_piece (Word []) after h = absurd (cc h)
front_piece (Word (b ∷ bs)) after h =
    let outer = and_parts (is_letter b && list_all is_letter_or_digit bs && leb (length (b ∷ bs)) 255) (ends_run is_letter_or_digit after) h in
    let inner = and_parts (is_letter b && list_all is_letter_or_digit bs) (leb (length (b ∷ bs)) 255) outer.0 in
    let word = and_parts (is_letter b) (list_all is_letter_or_digit bs) inner.0 in
    let all : list_all is_letter_or_digit (b ∷ bs) ≡ true = and_from _ _ (or_left _ _ word.0) word.1 in
    let run : run_of is_letter_or_digit (b ∷ bs ++ after) ≡ b ∷ bs = run_is is_letter_or_digit (b ∷ bs) after all outer.1 in
    cond-true _ _ _ word.0 ∙ ap word_begins run ∙ cond-true _ _ _ inner.1
front_piece (Mark b) after h = rw (mark_no_letter b h, mark_no_space b h, h) refl
front_piece (Literal body) after h =
    let grouped : body ++ 34 ∷ [] ++ after ≡ body ++ 34 ∷ after = append_assoc body (34 ∷ []) after in
    ap (λ l. string_begins (run_of is_string_octet l) (drop (prefix_len is_string_octet l) l)) grouped
    ∙ (λ k. string_begins (run_is is_string_octet body (34 ∷ after) h refl k) (rest_is is_string_octet body (34 ∷ after) h refl k))

-- a slash that begins no comment begins nothing
slash_here : (b : ℕ) (bs : List ℕ) → begins_comment b bs ≡ false → cond (eqb b 47) (comment_begins bs) (Stops OctetOutside 0) ≡ Stops OctetOutside 0
slash_here b [] h = cond_both (eqb b 47) (Stops OctetOutside 0) (Stops OctetOutside 0) (λ x. x ≡ Stops OctetOutside 0) (λ e. refl) (λ e. refl)
slash_here b (c ∷ cs) h =
    cond_both (eqb b 47) (comment_begins (c ∷ cs)) (Stops OctetOutside 0) (λ x. x ≡ Stops OctetOutside 0)
    (λ e. let other : (eqb c 47 || eqb c 42) ≡ false = (rw e at h) in let o = or_parts (eqb c 47) (eqb c 42) other in rw (o.0, o.1) refl)
    (λ e. refl)

-- an octet that begins no piece
none_here : (b : ℕ) (bs : List ℕ) → not (begins_piece b bs) ≡ true → front (b ∷ bs) ≡ Stops OctetOutside 0
none_here b bs h =
    let all : (is_white b || is_letter b || is_punctuator b || eqb b 34 || begins_comment b bs) ≡ false = not-true _ h in
    let one = or_parts (is_white b || is_letter b || is_punctuator b || eqb b 34) (begins_comment b bs) all in
    let two = or_parts (is_white b || is_letter b || is_punctuator b) (eqb b 34) one.0 in
    let three = or_parts (is_white b || is_letter b) (is_punctuator b) two.0 in
    let four = or_parts (is_white b) (is_letter b) three.0 in
    cond-false _ _ _ four.1 ∙ cond-false _ _ _ four.0 ∙ cond-false _ _ _ three.1 ∙ cond-false _ _ _ two.1 ∙ slash_here b bs one.1

-- a word of too many octets stops the cut
long_word : (word after : List ℕ) → IsTrue (is_word word && ends_run is_letter_or_digit after) → 255 < length word → front (word ++ after) ≡ Stops IdentifierTooLong 0
long_word [] after whole long = absurd (omega arith)
long_word (b ∷ bs) after whole long =
    let outer = and_parts (is_letter b && list_all is_letter_or_digit bs) (ends_run is_letter_or_digit after) whole in
    let word = and_parts (is_letter b) (list_all is_letter_or_digit bs) outer.0 in
    let all : list_all is_letter_or_digit (b ∷ bs) ≡ true = and_from _ _ (or_left _ _ word.0) word.1 in
    let run : run_of is_letter_or_digit (b ∷ bs ++ after) ≡ b ∷ bs = run_is is_letter_or_digit (b ∷ bs) after all outer.1 in
    cond-true _ _ _ word.0 ∙ ap word_begins run ∙ cond-false _ _ _ (lt-leb _ _ long)

-- a fault is what the rest begins with
pub front_breaks : (reason : SourceReason) (ahead : ℕ) (rest : List ℕ) → Breaks reason ahead rest → front rest ≡ Stops reason ahead
front_breaks OctetOutside ahead rest (inl h) = ap front h.begins ∙ none_here h.octet h.after h.none ∙ ap (Stops OctetOutside) (sym h.there)
front_breaks OctetOutside ahead rest (inr h) =
    let tests = and_parts (not (is_string_octet h.octet)) (not (eqb h.octet 34)) h.forbidden in
    ap front h.begins
    ∙ (λ k. string_begins (run_is is_string_octet h.body (h.octet ∷ h.after) h.first tests.0 k) (rest_is is_string_octet h.body (h.octet ∷ h.after) h.first tests.0 k))
    ∙ cond-false _ _ _ (not-true _ tests.1) ∙ ap (Stops OctetOutside) (sym h.there)
front_breaks UnclosedComment ahead rest h = ap front h.begins ∙ ap block_begins (no_close_before h.body (not-true _ h.unclosed)) ∙ ap (Stops UnclosedComment) (sym h.there)
front_breaks UnclosedString ahead rest h =
    let grouped : rest ≡ 34 ∷ (h.body ++ []) = h.begins ∙ ap (λ l. 34 ∷ l) (sym (append-nil h.body)) in
    ap front grouped
    ∙ (λ k. string_begins (run_is is_string_octet h.body [] h.unclosed refl k) (rest_is is_string_octet h.body [] h.unclosed refl k))
    ∙ ap (Stops UnclosedString) (sym h.there)
front_breaks IdentifierTooLong ahead rest h = ap front h.begins ∙ long_word h.word h.after h.whole h.long ∙ ap (Stops IdentifierTooLong) (sym h.there)
front_breaks reason ahead rest h = absurd h

-- two cuts of one text are one
pub one_cut : (ps qs : List Piece) (r s : List ℕ) → joined ps ++ r ≡ joined qs ++ s → Fit ps r → Fit qs s → ((p : Piece) → front r ≡ Is p → ⊥) → ((p : Piece) → front s ≡ Is p → ⊥) → (ps ≡ qs) × (r ≡ s)
one_cut [] [] r s e f g end other = (refl, e)
one_cut [] (q ∷ qs) r s e f g end other = absurd (end q (ap front (e ∙ append_assoc (spelling q) (joined qs) s) ∙ front_piece q (joined qs ++ s) g.0))
one_cut (p ∷ ps) [] r s e f g end other = absurd (other p (ap front (sym e ∙ append_assoc (spelling p) (joined ps) r) ∙ front_piece p (joined ps ++ r) f.0))
one_cut (p ∷ ps) (q ∷ qs) r s e f g end other =
    let grouped : spelling p ++ (joined ps ++ r) ≡ spelling q ++ (joined qs ++ s) = sym (append_assoc (spelling p) (joined ps) r) ∙ e ∙ append_assoc (spelling q) (joined qs) s in
    let same : Is p ≡ Is q = sym (front_piece p (joined ps ++ r) f.0) ∙ ap front grouped ∙ front_piece q (joined qs ++ s) g.0 in
    let piece : p ≡ q = cc same in
    let after : joined ps ++ r ≡ joined qs ++ s = append_cancel_left (spelling p) (joined ps ++ r) (joined qs ++ s) (grouped ∙ ap (λ x. spelling x ++ (joined qs ++ s)) (sym piece)) in
    let rest = one_cut ps qs r s after f.1 g.1 end other in
    ((λ k. piece k ∷ rest.0 k), rest.1)

-- a fault is no piece
stops_no_piece : (reason : SourceReason) (ahead : ℕ) (rest : List ℕ) → Breaks reason ahead rest → (p : Piece) → front rest ≡ Is p → ⊥
stops_no_piece reason ahead rest h p e = let x : Stops reason ahead ≡ Is p = sym (front_breaks reason ahead rest h) ∙ e in cc x

-- nothing is no piece
ended_no_piece : (p : Piece) → front [] ≡ Is p → ⊥
ended_no_piece p e = cc e

-- a text has its tokens once
pub one_tokens : (text : List ℕ) (a b : List Token) → HasTokens text a → HasTokens text b → a ≡ b
one_tokens text a b x y =
    let cut = one_cut x.pieces y.pieces [] [] (append-nil (joined x.pieces) ∙ sym x.whole ∙ y.whole ∙ sym (append-nil (joined y.pieces))) x.fit y.fit ended_no_piece ended_no_piece in
    x.are ∙ ap (tokens_from text 0) cut.0 ∙ sym y.are

-- and a fault only where it has none
pub no_fault : (text : List ℕ) (a : List Token) (line : ℕ) (reason : SourceReason) → HasTokens text a → HasLexFault text line reason → ⊥
no_fault text a line reason x y =
    let cut = one_cut x.pieces y.pieces [] y.rest (append-nil (joined x.pieces) ∙ sym x.whole ∙ y.cut) x.fit y.fit ended_no_piece (stops_no_piece reason y.ahead y.rest y.breaks) in
    let e : Ended ≡ Stops reason y.ahead = ap front cut.1 ∙ front_breaks reason y.ahead y.rest y.breaks in
    cc e

-- the reason of a fault
abbrev reason_in : Begins → SourceReason
reason_in (Is p) = OctetOutside
reason_in (Stops reason ahead) = reason
reason_in Ended = OctetOutside

-- how far behind the front a fault stands
abbrev ahead_in : Begins → ℕ
ahead_in (Is p) = 0
ahead_in (Stops reason ahead) = ahead
ahead_in Ended = 0

-- and one fault, on one line, for one reason
pub one_fault : (text : List ℕ) (k l : ℕ) (r s : SourceReason) → HasLexFault text k r → HasLexFault text l s → (k ≡ l) × (r ≡ s)
one_fault text k l r s x y =
    let cut = one_cut x.pieces y.pieces x.rest y.rest (sym x.cut ∙ y.cut) x.fit y.fit (stops_no_piece r x.ahead x.rest x.breaks) (stops_no_piece s y.ahead y.rest y.breaks) in
    let e : Stops r x.ahead ≡ Stops s y.ahead = sym (front_breaks r x.ahead x.rest x.breaks) ∙ ap front cut.1 ∙ front_breaks s y.ahead y.rest y.breaks in (
      x.on ∙ (λ i. line_of text (length (joined (cut.0 i)) + ahead_in (e i))) ∙ sym y.on,
      ap reason_in e,
    )
