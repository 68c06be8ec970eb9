-- The tokens of a cut stand in order, each at its piece.
use Rattle.std.proofs.Common.{◌≡◌, ℕ, ◌+◌, ◌-◌, ◌<◌, ◌≤◌, true, List, [], ◌∷◌, ◌++◌, length, drop, sym, ap, ◌∙◌, subst, refl, arith, Option, Some, None, append_assoc, length-append}
use Rattle.std.proofs.lemmas.List.{take_at, drop_at, append-nil}
use Rattle.std.specs.List.{AllByRecursion}
use Rattle.module_lexer.specs.Cut.{Piece, WhiteSpace, LineComment, BlockComment, Word, Mark, Literal, spelling, fits, joined, Fit}
use Rattle.module_lexer.specs.Tokens.{line_of, token_kind, tokens_at, tokens_from, HasTokens, IsTokenOf, InOrder}
use Rattle.module_lexer.specs.declared.token.TokenKind.{TokenKind}
use Rattle.module_lexer.specs.declared.token.Token.{Token}

-- a piece has an octet at least
some_octets : (p : Piece) (after : List ℕ) → fits p after ≡ true → 0 < length (spelling p)
some_octets (WhiteSpace b) after h = omega arith
some_octets (LineComment body) after h = omega arith
some_octets (BlockComment body) after h = omega arith
some_octets (Word []) after h = absurd (cc h)
some_octets (Word (b ∷ bs)) after h = omega arith
some_octets (Mark b) after h = omega arith
some_octets (Literal body) after h = omega arith

-- what stands in order behind a place does so behind an earlier one
in_order_earlier : (from later to : ℕ) (tokens : List Token) → from ≤ later → InOrder later to tokens → InOrder from to tokens
in_order_earlier from later to [] le h = omega arith
in_order_earlier from later to (token ∷ tokens) le h = (omega (arith, h.0), h.1, h.2)

-- the token of a piece before those behind it
in_order_push : (kind : Option TokenKind) (place len line to : ℕ) (more : List Token) → 0 < len → InOrder (place + len) to more → InOrder place to (tokens_at kind place len line ++ more)
in_order_push None place len line to more some h = in_order_earlier place (place + len) to more (omega arith) h
in_order_push (Some kind) place len line to more some h = (omega arith, omega arith, h)

-- the tokens of pieces that reach from one place to another
in_order_from : (text : List ℕ) (place to : ℕ) (pieces : List Piece) → place + length (joined pieces) ≡ to → Fit pieces [] → InOrder place to (tokens_from text place pieces)
in_order_from text place to [] whole fit = omega (arith, whole)
in_order_from text place to (p ∷ ps) whole fit =
    let more : place + length (spelling p) + length (joined ps) ≡ to = omega (arith, whole, length-append (spelling p) (joined ps)) in
    in_order_push (token_kind p) place (length (spelling p)) (line_of text place) to (tokens_from text (place + length (spelling p)) ps)
    (some_octets p (joined ps ++ []) fit.0) (in_order_from text (place + length (spelling p)) to ps more fit.1)

-- the tokens of a text lie within it, in order
pub spans_in_order : (text : List ℕ) (tokens : List Token) → HasTokens text tokens → InOrder 0 (length text) tokens
spans_in_order text tokens h = subst (λ l. InOrder 0 (length text) l) (sym h.are) (in_order_from text 0 (length text) h.pieces (omega (arith, ap length h.whole)) h.fit)

-- the token of a piece that fits
token_of : (text before : List ℕ) (p : Piece) (after : List ℕ) (kind : TokenKind) → text ≡ before ++ (spelling p ++ after) → fits p after ≡ true → token_kind p ≡ Some kind
    → IsTokenOf text (record { kind = kind; start = length before; end = length before + length (spelling p); line = line_of text (length before) })
token_of text before p after kind split there kind_is =
    let len : length before + length (spelling p) - length before ≡ length (spelling p) = omega arith in
    let behind : drop (length before) text ≡ spelling p ++ after = ap (drop (length before)) split ∙ drop_at before (spelling p ++ after) (length before) refl in
    let grouped : text ≡ (before ++ spelling p) ++ after = split ∙ sym (append_assoc before (spelling p) after) in
    let rest : drop (length before + length (spelling p)) text ≡ after =
    ap (drop (length before + length (spelling p))) grouped ∙ drop_at (before ++ spelling p) after (length before + length (spelling p)) (length-append before (spelling p)) in
    record {
      piece = p;
      kind = kind_is;
      slice = rw (len, behind) (take_at (spelling p) after (length (spelling p)) refl);
      fit = rw rest there;
      line = refl;
    }

-- the token of a piece, and those behind it
all_push : (text : List ℕ) (kind : Option TokenKind) (place len line : ℕ) (more : List Token)
    → ((k : TokenKind) → kind ≡ Some k → IsTokenOf text (record { kind = k; start = place; end = place + len; line = line }))
    → AllByRecursion (IsTokenOf text) more → AllByRecursion (IsTokenOf text) (tokens_at kind place len line ++ more)
all_push text None place len line more one h = h
all_push text (Some kind) place len line more one h = (one kind refl, h)

-- the tokens of the pieces behind some octets
slices_from : (text before : List ℕ) (pieces : List Piece) (place : ℕ) → place ≡ length before → text ≡ before ++ joined pieces → Fit pieces []
    → AllByRecursion (IsTokenOf text) (tokens_from text place pieces)
slices_from text before [] place place_is split fit = tt
slices_from text before (p ∷ ps) place place_is split fit =
    let after : List ℕ = joined ps ++ [] in
    let here : text ≡ before ++ (spelling p ++ (joined ps ++ [])) = split ∙ ap (λ l. before ++ (spelling p ++ l)) (sym (append-nil (joined ps))) in
    let grouped : text ≡ (before ++ spelling p) ++ joined ps = split ∙ sym (append_assoc before (spelling p) (joined ps)) in
    all_push text (token_kind p) place (length (spelling p)) (line_of text place) (tokens_from text (place + length (spelling p)) ps)
    (λ kind kind_is. rw place_is (token_of text before p (joined ps ++ []) kind here fit.0 kind_is))
    (slices_from text (before ++ spelling p) ps (place + length (spelling p)) (omega (arith, place_is, length-append before (spelling p))) grouped fit.1)

-- each token of a text is at its piece
pub slices_are : (text : List ℕ) (tokens : List Token) → HasTokens text tokens → AllByRecursion (IsTokenOf text) tokens
slices_are text tokens h = subst (λ l. AllByRecursion (IsTokenOf text) l) (sym h.are) (slices_from text [] h.pieces 0 refl h.whole h.fit)
