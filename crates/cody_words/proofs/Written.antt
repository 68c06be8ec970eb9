-- How long canonical texts are, and how a line grows by a word.
use Rattle.std.proofs.Common.{◌≡◌, ℕ, ◌+◌, ◌*◌, ◌<◌, ◌≤◌, zero, suc, Bool, true, false, cond, eqb, ltb, ◌||◌, List, [], ◌∷◌, ◌++◌, length, take, get_or, sym, ap, ◌∙◌, append_assoc, add-one, arith}
use Rattle.std.specs.Prelude.{slice_get, option_map, Some}
use Rattle.std.specs.Borrow.{Bor}
use Rattle.std.specs.List.{flat_map}
use Rattle.std.proofs.lemmas.List.{length-append, length-map, length-take}
use Rattle.std.proofs.lemmas.Bool.{ne_eqb}
use Rattle.std.proofs.lemmas.Option.{same_Some, slice_get-map, slice_get-get_or}
use Rattle.cody_words.specs.Buffers.{Buffer, Appends}
use Rattle.cody_words.specs.Canonical.{quoted_octet, is_bare, quote, spaced, mark, next_word, words_of, word_room, line_room}

cond_short : (b : Bool) (xs ys : List ℕ) → length xs ≤ 3 → length ys ≤ 3 → length (cond b xs ys) ≤ 3
cond_short true xs ys p q = p
cond_short false xs ys p q = q

length-quoted_octet : (c : ℕ) → length (quoted_octet c) ≤ 3
unfolding quoted_octet
length-quoted_octet c =
    cond_short (eqb c 10) _ _ (omega arith) (cond_short (eqb c 9) _ _ (omega arith) (cond_short (eqb c 39) _ _ (omega arith) (cond_short (eqb c 92) _ _ (omega arith) (cond_short (ltb c 32 || eqb c 127) _ _ (omega arith) (omega arith)))))

pub length-quoted : (octets : List ℕ) → length (flat_map quoted_octet octets) ≤ 3 * length octets
length-quoted [] = omega arith
length-quoted (c ∷ octets) = omega (arith, length-append (quoted_octet c) (flat_map quoted_octet octets), length-quoted_octet c, length-quoted octets)

-- while a word is written between quotes, there is room for the next octet, and at the end for the quote
pub quoted_room : (word : List ℕ) (k : ℕ) → k ≤ length word → length (39 ∷ flat_map quoted_octet (take k word)) ≤ 3 * k + 1
quoted_room word k le = omega (arith, length-quoted (take k word), length-take k word)

length-cond : (b : Bool) (xs ys : List ℕ) (n : ℕ) → length xs ≤ n → length ys ≤ n → length (cond b xs ys) ≤ n
length-cond true xs ys n p q = p
length-cond false xs ys n p q = q

pub length-quote : (word : List ℕ) → length (quote word) ≤ word_room word
length-quote word = length-cond (is_bare word) _ _ (word_room word) (omega arith) (omega (arith, length-append (flat_map quoted_octet word) (39 ∷ []), length-quoted word))

line_room_some : (words : List (List ℕ)) → 3 ≤ line_room words
line_room_some [] = omega arith
line_room_some (w ∷ words) = omega (arith, line_room_some words)

spaced_two : (w : List ℕ) (words : List (List ℕ)) → length (spaced (w ∷ words)) ≤ length (quote w) + 1 + length (spaced words)
spaced_two w [] = omega arith
spaced_two w (v ∷ words) = omega (arith, length-append (quote w) (32 ∷ spaced (v ∷ words)))

-- room for a space, the word at a place, and the end of the line
pub room_at : (words : List (List ℕ)) (k : ℕ) (w : List ℕ) → slice_get words k ≡ Some w → length (spaced (take k words)) + 1 + word_room w + 3 ≤ line_room words
room_at [] k w e = absurd cc
room_at (v ∷ words) zero w e =
    let same : v ≡ w = same_Some v w e in
    rw (← same) (omega (arith, line_room_some words))
room_at (v ∷ words) (suc k) w e = omega (arith, spaced_two v (take k words), length-quote v, room_at words k w e)

pub room_end : (words : List (List ℕ)) → length (spaced words) + 3 ≤ line_room words
room_end [] = omega arith
room_end (v ∷ words) = omega (arith, spaced_two v words, length-quote v, room_end words)

-- a line grows by a word
pub spaced_first : (words : List (List ℕ)) (w : List ℕ) → slice_get words 0 ≡ Some w → spaced (take 1 words) ≡ quote w
spaced_first [] w e = absurd cc
spaced_first (v ∷ words) w e = ap quote (same_Some v w e)

pub spaced_more : (words : List (List ℕ)) (k : ℕ) (w : List ℕ) → slice_get words (suc k) ≡ Some w → spaced (take (suc (suc k)) words) ≡ spaced (take (suc k) words) ++ 32 ∷ quote w
spaced_more [] k w e = absurd cc
spaced_more (v ∷ []) k w e = absurd cc
spaced_more (v ∷ u ∷ words) zero w e = ap (λ (x : List ℕ). quote v ++ 32 ∷ x) (spaced_first (u ∷ words) w e)
spaced_more (v ∷ u ∷ words) (suc k) w e = ap (λ (x : List ℕ). quote v ++ 32 ∷ x) (spaced_more (u ∷ words) k w e) ∙ sym (append_assoc (quote v) (32 ∷ spaced (take (suc k) (u ∷ words))) (32 ∷ quote w))

-- a line grows by the word at a place
pub spaced_next : (words : List (List ℕ)) (k : ℕ) (w : List ℕ) → slice_get words k ≡ Some w → spaced (take (k + 1) words) ≡ spaced (take k words) ++ next_word w (eqb k 0)
spaced_next words zero w e = spaced_first words w e
spaced_next words (suc k) w e = rw (add-one, ne_eqb (suc k) 0 (λ f. omega arith)) (spaced_more words k w e)

-- the word at a place of those that are lent
abbrev pub lent_word : List (Bor (List ℕ)) → ℕ → List ℕ
lent_word lent k = (get_or lent k (record { ref_ptr = (0, 0); now = [] })).now

pub lent_word_at : (lent : List (Bor (List ℕ))) (k : ℕ) → k < length lent → slice_get (words_of lent) k ≡ Some (lent_word lent k)
lent_word_at lent k lt = slice_get-map (λ (w : Bor (List ℕ)). w.now) lent k ∙ ap (option_map (λ (w : Bor (List ℕ)). w.now)) (slice_get-get_or lent k (record { ref_ptr = (0, 0); now = [] }) lt)

pub length-words_of : (lent : List (Bor (List ℕ))) → length (words_of lent) ≡ length lent
length-words_of lent = length-map lent (λ (w : Bor (List ℕ)). w.now)

-- one text behind another
pub Appends-then : (a b c : Buffer) (x y : List ℕ) → Appends a b x → Appends b c y → Appends a c (x ++ y)
Appends-then a b c x y p q = record {
  octets = q.octets ∙ ap (λ (t : List ℕ). t ++ y) p.octets ∙ append_assoc a.octets x y;
  spare = omega (arith, length-append x y, p.spare, q.spare);
}

pub length-line_end : (more : Bool) → length (mark more ++ 10 ∷ []) ≤ 3
length-line_end true = omega arith
length-line_end false = omega arith
