-- Pieces of octets, by the places where they begin.
use Rattle.std.proofs.Common.{◌≡◌, ℕ, ◌+◌, ◌-◌, ◌*◌, ◌<◌, ◌≤◌, zero, suc, List, [], ◌∷◌, ◌++◌, length, take, drop, get_or, refl, sym, ap, ◌∙◌, arith}
use Rattle.std.specs.Prelude.{slice_get, Some}
use Rattle.std.specs.List.{flat_map}
use Rattle.std.proofs.lemmas.List.{append-nil, length-append, length-drop, length-take, take-append-le, drop-append-le, drop_all, take_rest}
use Rattle.cody_words.specs.Pieces.{total, cut, InOrder, BeginsAtZero}
use Rattle.cody_words.specs.Canonical.{line_room}
use Rattle.cody_words.specs.Scan.{with_octet, with_word}

pub length-cut : (starts octets : List ℕ) → length (cut starts octets) ≡ length starts
length-cut [] octets = refl
length-cut (s ∷ []) octets = refl
length-cut (s ∷ t ∷ starts) octets = ap suc (length-cut (t ∷ starts) octets)

first_in : (s : ℕ) (starts : List ℕ) (end : ℕ) → InOrder (s ∷ starts) end → s ≤ end
first_in s [] end h = h
first_in s (t ∷ starts) end h = let r = first_in t starts end h.1 in omega arith

pub InOrder-more : (starts : List ℕ) (end : ℕ) → InOrder starts end → InOrder starts (end + 1)
InOrder-more [] end h = tt
InOrder-more (s ∷ []) end h = omega arith
InOrder-more (s ∷ t ∷ starts) end h = (h.0, InOrder-more (t ∷ starts) end h.1)

pub InOrder-begin : (starts : List ℕ) (end : ℕ) → InOrder starts end → InOrder (starts ++ end ∷ []) end
InOrder-begin [] end h = omega arith
InOrder-begin (s ∷ []) end h = (h, omega arith)
InOrder-begin (s ∷ t ∷ starts) end h = (h.0, InOrder-begin (t ∷ starts) end h.1)

pub BeginsAtZero-begin : (starts : List ℕ) (end : ℕ) → BeginsAtZero starts end → BeginsAtZero (starts ++ end ∷ []) end
BeginsAtZero-begin [] end h = h
BeginsAtZero-begin (s ∷ starts) end h = h

pub BeginsAtZero-more : (starts : List ℕ) (end : ℕ) → 0 < length starts → BeginsAtZero starts end → BeginsAtZero starts (end + 1)
BeginsAtZero-more [] end some h = absurd (omega arith)
BeginsAtZero-more (s ∷ starts) end some h = h

-- an octet more at the end is one more in the last piece
pub cut-push : (starts octets : List ℕ) (c : ℕ) → InOrder starts (length octets) → cut starts (octets ++ c ∷ []) ≡ with_octet (cut starts octets) c
cut-push [] octets c h = refl
cut-push (s ∷ []) octets c h = ap (λ (x : List ℕ). x ∷ []) (drop-append-le s octets (c ∷ []) h)
cut-push (s ∷ t ∷ starts) octets c h =
    let t_in = first_in t starts (length octets) h.1 in
    let fits : t - s ≤ length (drop s octets) = omega (arith, length-drop s octets) in
    let s_in : s ≤ length octets = omega (arith, t_in, h.0) in
    let front : take (t - s) (drop s (octets ++ c ∷ [])) ≡ take (t - s) (drop s octets) = ap (take (t - s)) (drop-append-le s octets (c ∷ []) s_in) ∙ take-append-le (t - s) (drop s octets) (c ∷ []) fits in
    ap (λ (x : List ℕ). x ∷ cut (t ∷ starts) (octets ++ c ∷ [])) front ∙ ap (λ (x : List (List ℕ)). take (t - s) (drop s octets) ∷ x) (cut-push (t ∷ starts) octets c h.1) ∙ sym (behind_first (take (t - s) (drop s octets)) t starts octets c)
  where
    behind_first : (w : List ℕ) (t : ℕ) (starts octets : List ℕ) (c : ℕ) → with_octet (w ∷ cut (t ∷ starts) octets) c ≡ w ∷ with_octet (cut (t ∷ starts) octets) c
    behind_first w t [] octets c = refl
    behind_first w t (u ∷ starts) octets c = refl

-- a place at the end begins an empty piece
pub cut-begin : (starts octets : List ℕ) → InOrder starts (length octets) → cut (starts ++ length octets ∷ []) octets ≡ with_word (cut starts octets)
cut-begin [] octets h = ap (λ (x : List ℕ). x ∷ []) (drop_all (length octets) octets (omega arith))
cut-begin (s ∷ []) octets h =
    let first : take (length octets - s) (drop s octets) ≡ drop s octets = take_rest octets s in
    let last : drop (length octets) octets ≡ [] = drop_all (length octets) octets (omega arith) in
    rw (first, last) refl
cut-begin (s ∷ t ∷ starts) octets h = ap (λ (x : List (List ℕ)). take (t - s) (drop s octets) ∷ x) (cut-begin (t ∷ starts) octets h.1)

-- the octets of the pieces are all from the first place on
total_from : (s : ℕ) (starts octets : List ℕ) → InOrder (s ∷ starts) (length octets) → total (cut (s ∷ starts) octets) ≡ length octets - s
total_from s [] octets h = rw append-nil (length-drop s octets)
total_from s (t ∷ starts) octets h =
    let t_in = first_in t starts (length octets) h.1 in
    let rest = total_from t starts octets h.1 in
    let piece : length (take (t - s) (drop s octets)) ≡ t - s = omega (arith, length-take (t - s) (drop s octets), length-drop s octets) in
    omega (arith, length-append (take (t - s) (drop s octets)) (flat_map (λ (w : List ℕ). w) (cut (t ∷ starts) octets)), piece, rest, t_in, h.0)

pub total-cut : (starts octets : List ℕ) → InOrder starts (length octets) → BeginsAtZero starts (length octets) → total (cut starts octets) ≡ length octets
total-cut [] octets h z = sym z
total-cut (s ∷ starts) octets h z = omega (arith, total_from s starts octets h)

-- the piece at a place, where another follows and where none does
pub slice_get-cut : (starts octets : List ℕ) (k : ℕ) → suc k < length starts → slice_get (cut starts octets) k ≡ Some (take (get_or starts (suc k) 0 - get_or starts k 0) (drop (get_or starts k 0) octets))
slice_get-cut [] octets k lt = absurd (omega arith)
slice_get-cut (s ∷ []) octets k lt = absurd (omega arith)
slice_get-cut (s ∷ t ∷ starts) octets zero lt = refl
slice_get-cut (s ∷ t ∷ starts) octets (suc k) lt = slice_get-cut (t ∷ starts) octets k (omega arith)

pub slice_get-cut_last : (starts octets : List ℕ) (k : ℕ) → suc k ≡ length starts → slice_get (cut starts octets) k ≡ Some (drop (get_or starts k 0) octets)
slice_get-cut_last [] octets k e = absurd (omega arith)
slice_get-cut_last (s ∷ []) octets zero e = refl
slice_get-cut_last (s ∷ []) octets (suc k) e = absurd (omega arith)
slice_get-cut_last (s ∷ t ∷ starts) octets zero e = absurd (omega arith)
slice_get-cut_last (s ∷ t ∷ starts) octets (suc k) e = slice_get-cut_last (t ∷ starts) octets k (omega arith)

pub place_in : (starts : List ℕ) (end k : ℕ) → InOrder starts end → get_or starts k 0 ≤ end
place_in [] end k h = omega arith
place_in (s ∷ starts) end zero h = first_in s starts end h
place_in (s ∷ []) end (suc k) h = omega arith
place_in (s ∷ t ∷ starts) end (suc k) h = place_in (t ∷ starts) end k h.1

pub places_rise : (starts : List ℕ) (end k : ℕ) → InOrder starts end → suc k < length starts → get_or starts k 0 ≤ get_or starts (suc k) 0
places_rise [] end k h lt = absurd (omega arith)
places_rise (s ∷ []) end k h lt = absurd (omega arith)
places_rise (s ∷ t ∷ starts) end zero h lt = h.0
places_rise (s ∷ t ∷ starts) end (suc k) h lt = places_rise (t ∷ starts) end k h.1 (omega arith)

pub total-cons : (w : List ℕ) (words : List (List ℕ)) → total (w ∷ words) ≡ length w + total words
total-cons w words = length-append w (flat_map (λ (x : List ℕ). x) words)

-- a word is no longer than all words together
pub word_within : (words : List (List ℕ)) (k : ℕ) (w : List ℕ) → slice_get words k ≡ Some w → length w ≤ total words
word_within [] k w e = absurd cc
word_within (v ∷ words) zero w e = omega (arith, total-cons v words, ap length (first_is v w e))
  where
    first_is : (v w : List ℕ) → slice_get (v ∷ words) zero ≡ Some w → v ≡ w
    first_is v w e = cc
word_within (v ∷ words) (suc k) w e = omega (arith, total-cons v words, word_within words k w e)

-- the room of a line, by the octets and the number of its words
pub line_room-total : (words : List (List ℕ)) → line_room words ≡ 3 * (total words + length words) + 3
line_room-total [] = refl
line_room-total (w ∷ words) = omega (arith, total-cons w words, line_room-total words)
