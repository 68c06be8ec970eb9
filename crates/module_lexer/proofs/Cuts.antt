-- The loop that cuts a text: what it has cut so far, and what one piece more adds.
use Rattle.std.proofs.Common.{◌≡◌, ℕ, ◌+◌, ◌<◌, ◌≤◌, List, [], ◌∷◌, ◌++◌, length, take, drop, sym, ap, ◌∙◌, refl, arith, add-zero, zero-add, add_assoc, cond, Option, Some, None, append_assoc, length-append, take-append-drop, count_by}
use Rattle.std.specs.Prelude.{IsTrue}
use Rattle.std.proofs.lemmas.List.{drop-drop, drop-take, take-take, length-drop, length-take, append-nil}
use Rattle.std.proofs.lemmas.List.Sums.{sum_by-append, count_by-le-length}
use Rattle.module_lexer.specs.declared.token.TokenKind.{TokenKind}
use Rattle.module_lexer.specs.declared.token.Token.{Token}
use Rattle.module_lexer.specs.declared.reason.SourceReason.{SourceReason}
use Rattle.module_lexer.specs.Octets.{is_newline}
use Rattle.module_lexer.specs.Cut.{Piece, spelling, fits, joined, Fit}
use Rattle.module_lexer.specs.Tokens.{line_of, token_kind, tokens_at, tokens_from}
use Rattle.module_lexer.specs.Faults.{Breaks, HasLexFault}
use Rattle.module_lexer.specs.Fronts.{IsFront}

-- one piece more has its octets behind those before
joined_push : (ps : List Piece) (p : Piece) → joined (ps ++ p ∷ []) ≡ joined ps ++ spelling p
joined_push [] p = append-nil (spelling p)
joined_push (q ∷ ps) p = ap (λ l. spelling q ++ l) (joined_push ps p) ∙ sym (append_assoc (spelling q) (joined ps) (spelling p))

-- one piece more fits what stands behind it
Fit_push : (ps : List Piece) (p : Piece) (after : List ℕ) → Fit ps (spelling p ++ after) → IsTrue (fits p after) → Fit (ps ++ p ∷ []) after
Fit_push [] p after fit there = (there, tt)
Fit_push (q ∷ ps) p after fit there =
    let e : joined (ps ++ p ∷ []) ++ after ≡ joined ps ++ (spelling p ++ after) = rw joined_push (append_assoc (joined ps) (spelling p) after) in
    (rw e fit.0, Fit_push ps p after fit.1 there)

-- one piece more has its token behind those before
tokens_from_push : (text : List ℕ) (place : ℕ) (ps : List Piece) (p : Piece) → tokens_from text place (ps ++ p ∷ [])
    ≡ tokens_from text place ps ++ tokens_at (token_kind p) (place + length (joined ps)) (length (spelling p)) (line_of text (place + length (joined ps)))
tokens_from_push text place [] p = rw (add-zero, append-nil) refl
tokens_from_push text place (q ∷ ps) p =
    let here : ℕ = place + length (spelling q) in
    let at : place + length (spelling q) + length (joined ps) ≡ place + length (joined (q ∷ ps)) = omega (arith, length-append (spelling q) (joined ps)) in
    let more = tokens_from_push text (place + length (spelling q)) ps p in
    rw (more, at) (sym (append_assoc (tokens_at (token_kind q) place (length (spelling q)) (line_of text place)) (tokens_from text (place + length (spelling q)) ps) _))

-- the tokens so far are those of the first octets of the text, and what is left begins at a place
pub record CutBefore (text : List ℕ) (tokens : List Token) (place line : ℕ) : Type 0 where
  pub pieces : List Piece
  pub cut : text ≡ joined pieces ++ drop place text
  pub place_is : length (joined pieces) ≡ place
  pub fit : Fit pieces (drop place text)
  pub are : tokens ≡ tokens_from text 0 pieces
  pub line_is : line ≡ line_of text place
  pub few : length tokens ≤ place
  pub low : line ≤ place + 1
  pub within : place ≤ length text

-- a piece has no more tokens than octets
tokens_at_few : (kind : Option TokenKind) (place len line : ℕ) → 0 < len → length (tokens_at kind place len line) ≤ len
tokens_at_few None place len line positive = omega arith
tokens_at_few (Some kind) place len line positive = omega arith

-- the line of a later place
line_more : (text : List ℕ) (place len : ℕ) → line_of text (place + len) ≡ line_of text place + count_by is_newline (take len (drop place text))
line_more text place len =
    let halves : take (place + len) text ≡ take place text ++ take len (drop place text) =
    sym (take-append-drop place (take (place + len) text)) ∙ (rw (take-take place (place + len) text (omega arith), drop-take place len text) refl) in
    rw halves (rw (sum_by-append (λ x. cond (is_newline x) 1 0) (take place text) (take len (drop place text))) (sym (add_assoc 1 _ _)))

-- the piece at the front of what is left is cut
pub piece_cut : {text : List ℕ} {tokens : List Token} {place line len : ℕ} {kind : Option TokenKind} → (more : List Token) → CutBefore text tokens place line → IsFront (drop place text) kind len
    → more ≡ tokens ++ tokens_at kind place len line → CutBefore text more (place + len) (line + count_by is_newline (take len (drop place text)))
piece_cut {text} {tokens} {place} {line} {len} {kind} more before front more_is =
    let dropped : drop len (drop place text) ≡ drop (place + len) text = drop-drop len place text in
    let joined_is : joined (before.pieces ++ front.piece ∷ []) ≡ joined before.pieces ++ spelling front.piece = joined_push before.pieces front.piece in
    let split : drop place text ≡ spelling front.piece ++ drop (place + len) text = rw dropped at front.split in
    let there : IsTrue (fits front.piece (drop (place + len) text)) = rw dropped at front.fits_there in
    let length_is : length (joined (before.pieces ++ front.piece ∷ [])) ≡ place + len =
    omega (arith, ap length joined_is, length-append (joined before.pieces) (spelling front.piece), before.place_is, front.length_is) in
    let within : place + len ≤ length text = omega (arith, ap length split, length-append (spelling front.piece) (drop (place + len) text), front.length_is, length-drop place text, before.within) in
    let newlines : count_by is_newline (take len (drop place text)) ≤ len = omega (arith, count_by-le-length is_newline (take len (drop place text)), length-take len (drop place text)) in
    record {
      pieces = before.pieces ++ front.piece ∷ [];
      cut = before.cut ∙ ap (λ l. joined before.pieces ++ l) split ∙ sym (append_assoc (joined before.pieces) (spelling front.piece) (drop (place + len) text)) ∙ ap (λ l. l ++ drop (place + len) text) (sym joined_is);
      place_is = length_is;
      fit = Fit_push before.pieces front.piece (drop (place + len) text) (rw split at before.fit) there;
      are = more_is ∙ rw (before.are, front.kind_is, ← front.length_is, before.line_is, ← before.place_is) (sym (tokens_from_push text 0 before.pieces front.piece ∙ rw zero-add refl));
      line_is = ap (λ n. n + count_by is_newline (take len (drop place text))) before.line_is ∙ sym (line_more text place len);
      few = omega (arith, ap length more_is, length-append tokens (tokens_at kind place len line), tokens_at_few kind place len line front.positive, before.few);
      low = omega (arith, before.low, newlines);
      within = within;
    }

-- where what is left begins with no piece the cut ends
pub fault_cut : {text : List ℕ} {tokens : List Token} {place line : ℕ} {reason : SourceReason} (ahead : ℕ) → CutBefore text tokens place line → Breaks reason ahead (drop place text)
    → HasLexFault text (line + count_by is_newline (take ahead (drop place text))) reason
fault_cut {text} {tokens} {place} {line} ahead before breaks = record {
  pieces = before.pieces;
  rest = drop place text;
  ahead = ahead;
  cut = before.cut;
  fit = before.fit;
  breaks = breaks;
  on = ap (λ n. n + count_by is_newline (take ahead (drop place text))) before.line_is ∙ sym (line_more text place ahead) ∙ ap (λ n. line_of text (n + ahead)) (sym before.place_is);
}
