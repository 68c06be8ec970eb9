-- The lines of a text, by its first line.
use Rattle.std.proofs.Common.{◌≡◌, ◌≢◌, ℕ, ◌+◌, ◌<◌, suc, List, [], ◌∷◌, ◌++◌, length, take, drop, get_or, refl, sym, ap, subst, ◌∙◌, arith}
use Rattle.std.specs.List.{All, onto_first}
use Rattle.std.proofs.lemmas.Bool.{ne_eqb, eqb-true, eq-eqb, cond-false}
use Rattle.std.proofs.lemmas.List.{take-append-drop, drop_more, get_or-take, length-take, get_or_default}
use Rattle.memchr.specs.Find.{Nowhere, NoneBefore, Passes, is_byte}
use Rattle.cody_words.specs.Octets.{newline}
use Rattle.unit_registry.specs.Lines.{lines_of}

-- the first line ends at the first NEWLINE
pub lines_of-found : (line behind : List ℕ) → All (λ octet. octet ≢ newline) line → lines_of (line ++ newline ∷ behind) ≡ line ∷ lines_of behind
lines_of-found [] behind none = refl
lines_of-found (octet ∷ line) behind none =
    cond-false _ _ _ (ne_eqb octet 10 (none 0 octet (omega arith)))
    ∙ ap (onto_first octet) (lines_of-found line behind (λ k d below. none (suc k) d (omega arith)))

-- a text without a NEWLINE is one line
pub lines_of-none : (text : List ℕ) → All (λ octet. octet ≢ newline) text → 0 < length text → lines_of text ≡ text ∷ []
lines_of-none [] none some = absurd (omega arith)
lines_of-none (octet ∷ []) none some = cond-false _ _ _ (ne_eqb octet 10 (none 0 octet (omega arith)))
lines_of-none (octet ∷ next ∷ rest) none some =
    cond-false _ _ _ (ne_eqb octet 10 (none 0 octet (omega arith)))
    ∙ ap (onto_first octet) (lines_of-none (next ∷ rest) (λ k d below. none (suc k) d (omega arith)) (omega arith))

-- what stands before the first NEWLINE has none
pub front_lacks : (octets line : List ℕ) (place : ℕ) → line ≡ take place octets → NoneBefore (Passes (is_byte newline) octets) 0 (length octets) place → All (λ octet. octet ≢ newline) line
front_lacks octets line place front first = subst (λ (front : List ℕ). All (λ octet. octet ≢ newline) front) (sym front) (λ k d below is.
    let short : k < place = omega (arith, length-take place octets) in
    first.before k (omega arith) short (eq-eqb (get_or octets k 0) 10 (get_or_default octets k 0 d (omega (arith, first.high)) ∙ sym (get_or-take place octets k d short) ∙ is)))

-- the octets are what stands before a NEWLINE, it, and what stands behind it
pub cut_whole : (octets line behind : List ℕ) (place : ℕ) → line ≡ take place octets → behind ≡ drop (place + 1) octets → place < length octets → Passes (is_byte newline) octets place → octets ≡ line ++ newline ∷ behind
cut_whole octets line behind place front back within passes =
    sym (take-append-drop place octets)
    ∙ ap (λ (rest : List ℕ). take place octets ++ rest) (drop_more octets place 0 within ∙ ap (λ (octet : ℕ). octet ∷ drop (place + 1) octets) (eqb-true (get_or octets place 0) 10 passes))
    ∙ ap (λ (before : List ℕ). before ++ newline ∷ drop (place + 1) octets) (sym front)
    ∙ ap (λ (rest : List ℕ). line ++ newline ∷ rest) (sym back)

-- octets without a NEWLINE
pub whole_lacks : (octets : List ℕ) → Nowhere (Passes (is_byte newline) octets) 0 (length octets) → All (λ octet. octet ≢ newline) octets
whole_lacks octets none = λ k d below is. none k (omega arith) below (eq-eqb (get_or octets k 0) 10 (get_or_default octets k 0 d below ∙ is))
