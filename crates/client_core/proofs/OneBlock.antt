-- The octets of a block are one block.
use Rattle.std.proofs.Common.{◌≡◌, ◌≢◌, ℕ, suc, Bool, true, false, not, List, [], ◌∷◌, ◌++◌, length, refl, sym, ap, subst, ◌∙◌, append_assoc, arith}
use Rattle.std.specs.Prelude.{◌==◌}
use Rattle.std.proofs.lemmas.Bool.{ne_eqb}
use Rattle.std.specs.List.{AllByRecursion}
use Rattle.std.proofs.lemmas.List.{append-nil}
use Rattle.cody_words.specs.Octets.{newline}
use Rattle.cody_words.specs.Lines.{Words}
use Rattle.cody_words.specs.Meanings.{meaning, is_marked}
use Rattle.cody_words.specs.Canonical.{canonical_line, canonical_text}
use Rattle.cody_words.proofs.Canon.{line_says_its_words, no_newline, canonical_line_is}
use Rattle.cody_words.proofs.Means.{meaning_is}
use Rattle.cody_batches.specs.Blocks.{blocks, begun_block, begun_line, held, is_blank, says_nothing}
use Rattle.cody_batches.proofs.BlockLaws.{by_block-run, begun_line-run, begun_line-ended, line_ends-marked, line_ends-unmarked}
use Rattle.mapper_requests.specs.Asked.{Asked, IsGood}
use Rattle.mapper_requests.specs.Asked as asked
use Rattle.mapper_requests.specs.Writing.{request_words}
use Rattle.client_core.specs.Scripts.{block_lines, block_text}
use Rattle.client_core.specs.Laws.{FitsLine}

word_some : (word : List ℕ) (words : List (List ℕ)) → word ∷ words ≢ []
word_some word words e = cc

words_some : (request : Asked) → IsGood request → request_words request ≢ []
unfolding request_words
words_some (asked.Hello version compiler ident) good = word_some _ _
words_some asked.Repo good = word_some _ _
words_some (asked.Export name flags) good = word_some _ _
words_some (asked.Import name flags) good = word_some _ _
words_some (asked.Compiled name flags) good = word_some _ _
words_some (asked.Translate name flags) good = word_some _ _
words_some (asked.Bad why) good = absurd good

-- the text of a request's line
abbrev text_of : Asked → Bool → List ℕ
text_of request more = canonical_text (request_words request) more

says : (request : Asked) (more : Bool) → FitsLine request → (Words (request_words request) ≡ meaning (text_of request more)) × (more ≡ is_marked (text_of request more))
says request more fits = meaning_is (text_of request more) (Words (request_words request)) more (line_says_its_words (request_words request) more (words_some request fits.0) (fits.1 more))

-- no block has ended, this one is begun, and no line
record Begun (fed : List ℕ) (front : List (List ℕ)) : Type 0 where
  pub none : blocks fed ≡ []
  pub block : begun_block fed ≡ front
  pub line : begun_line fed ≡ []

module _ (fed : List ℕ) (front : List (List ℕ)) (request : Asked) (more : Bool) (fits : FitsLine request) (begun : Begun fed front) where
  run : AllByRecursion (λ octet. octet ≢ newline) (text_of request more)
  run = no_newline (request_words request) more

  line_is : begun_line (fed ++ text_of request more) ≡ text_of request more
  line_is = begun_line-run fed (text_of request more) run ∙ ap (λ l. l ++ text_of request more) begun.line

  some : is_blank (begun_line (fed ++ text_of request more)) ≡ false
  some = ap is_blank line_is ∙ ap says_nothing (sym (says request more fits).0)

  marked : is_marked (begun_line (fed ++ text_of request more)) ≡ more
  marked = ap is_marked line_is ∙ sym (says request more fits).1

  none_within : blocks (fed ++ text_of request more) ≡ []
  none_within = ap (λ c. c.pieces) (by_block-run fed (text_of request more) run) ∙ begun.none

  block_within : begun_block (fed ++ text_of request more) ≡ front
  block_within = ap (λ c. c.rest) (by_block-run fed (text_of request more) run) ∙ begun.block

  joined : (fed ++ text_of request more) ++ newline ∷ [] ≡ fed ++ canonical_line (request_words request) more
  joined = append_assoc fed (text_of request more) (newline ∷ []) ∙ ap (λ l. fed ++ l) (sym (canonical_line_is (request_words request) more))

  front_is : begun_block (fed ++ text_of request more) ++ begun_line (fed ++ text_of request more) ∷ [] ≡ front ++ text_of request more ∷ []
  front_is = ap (λ (b : List (List ℕ)). b ++ begun_line (fed ++ text_of request more) ∷ []) block_within ∙ ap (λ (l : List ℕ). front ++ l ∷ []) line_is

  goes_on : more ≡ true → Begun (fed ++ canonical_line (request_words request) more) (front ++ text_of request more ∷ [])
  goes_on e =
      let law = line_ends-marked (fed ++ text_of request more) some (marked ∙ e) in
      record {
        none = ap blocks (sym joined) ∙ law.0 ∙ none_within;
        block = ap begun_block (sym joined) ∙ law.1 ∙ front_is;
        line = ap begun_line (sym joined) ∙ begun_line-ended (fed ++ text_of request more);
      }

  ends : more ≡ false → (blocks (fed ++ canonical_line (request_words request) more) ≡ (front ++ text_of request more ∷ []) ∷ []) × (held (fed ++ canonical_line (request_words request) more) ≡ 0)
  ends e =
      let law = line_ends-unmarked (fed ++ text_of request more) some (marked ∙ e) in
      let line : begun_line (fed ++ canonical_line (request_words request) more) ≡ [] = ap begun_line (sym joined) ∙ begun_line-ended (fed ++ text_of request more) in
      let block : begun_block (fed ++ canonical_line (request_words request) more) ≡ [] = ap begun_block (sym joined) ∙ law.1 in (
        ap blocks (sym joined) ∙ law.0 ∙ ap (λ (bs : List (List (List ℕ))). bs ++ (begun_block (fed ++ text_of request more) ++ begun_line (fed ++ text_of request more) ∷ []) ∷ []) none_within ∙ ap (λ (b : List (List ℕ)). b ∷ []) front_is,
        nothing_held (fed ++ canonical_line (request_words request) more) block line,
      )
    where
      nothing_held : (octets : List ℕ) → begun_block octets ≡ [] → begun_line octets ≡ [] → held octets ≡ 0
      nothing_held octets b l = rw (b, l) refl

more_true : (n : ℕ) → not (suc n == 0) ≡ true
more_true n = ap not (ne_eqb (suc n) 0 (λ f. omega arith))

one_from : (request : Asked) (rest : List Asked) (fed : List ℕ) (front : List (List ℕ)) → FitsLine request → AllByRecursion FitsLine rest → Begun fed front
    → (blocks (fed ++ block_text (request ∷ rest)) ≡ (front ++ block_lines (request ∷ rest)) ∷ []) × (held (fed ++ block_text (request ∷ rest)) ≡ 0)
one_from request [] fed front fits others begun =
    subst (λ o. (blocks o ≡ (front ++ text_of request false ∷ []) ∷ []) × (held o ≡ 0)) (ap (λ l. fed ++ l) (sym (append-nil (canonical_line (request_words request) false)))) (ends fed front request false fits begun refl)
one_from request (next ∷ rest) fed front fits others begun =
    let more = not (length (next ∷ rest) == 0) in
    let line = canonical_line (request_words request) more in
    let after = one_from next rest (fed ++ line) (front ++ text_of request more ∷ []) others.0 others.1 (goes_on fed front request more fits begun (more_true (length rest))) in
    let octets : (fed ++ line) ++ block_text (next ∷ rest) ≡ fed ++ (line ++ block_text (next ∷ rest)) = append_assoc fed line (block_text (next ∷ rest)) in
    let lines : (front ++ text_of request more ∷ []) ++ block_lines (next ∷ rest) ≡ front ++ (text_of request more ∷ block_lines (next ∷ rest)) = append_assoc front (text_of request more ∷ []) (block_lines (next ∷ rest)) in
    (ap blocks (sym octets) ∙ after.0 ∙ ap (λ (b : List (List ℕ)). b ∷ []) lines, ap held (sym octets) ∙ after.1)

pub block_is_one : (requests : List Asked) → requests ≢ [] → AllByRecursion FitsLine requests → (blocks (block_text requests) ≡ block_lines requests ∷ []) × (held (block_text requests) ≡ 0)
block_is_one [] ne fits = absurd (ne refl)
block_is_one (request ∷ rest) ne fits = one_from request rest [] [] fits.0 fits.1 (record { none = refl; block = refl; line = refl })
