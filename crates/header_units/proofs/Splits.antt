-- A list is cut at an octet and joined again, and the other way round.
use Rattle.std.proofs.Common.{◌≡◌, ℕ, ◌+◌, ◌≤◌, Bool, true, false, cond, eqb, not, List, [], ◌∷◌, ◌++◌, length, drop, get_or, refl, sym, ap, ◌∙◌, append_assoc, arith}
use Rattle.std.specs.List.{All, list_all, slice_split, onto_first, join_with_byte, position_or_len, before_first, after_first}
use Rattle.std.proofs.lemmas.List.{drop_all, take_at, drop_at, length-append}
use Rattle.std.proofs.lemmas.List.Sums.{AllPass-from_list_all}
use Rattle.std.proofs.lemmas.List.Splits.{slice_split_none, slice_split_at}
use Rattle.std.proofs.lemmas.Bool.{and_parts, and_from, not-true, not_from_false, not_from_true, cond-true, cond-false, eq-eqb}
use Rattle.header_units.proofs.Each.{lacks}

-- where a list lacks an octet, each element is another
lacking : (c : ℕ) (xs : List ℕ) → lacks c xs ≡ true → All (λ x. eqb x c ≡ false) xs
lacking c xs h = λ k d lt. not-true (eqb (get_or xs k d) c) (AllPass-from_list_all (λ x. not (eqb x c)) xs h k d lt)

-- parts that lack the octet, joined by it, are cut into the same parts
pub slice_split-join : (c : ℕ) (part : List ℕ) (parts : List (List ℕ)) → list_all (lacks c) (part ∷ parts) ≡ true
    → slice_split (λ x. eqb x c) (join_with_byte c (part ∷ parts)) ≡ part ∷ parts
slice_split-join c part [] h =
    let both = and_parts (lacks c part) true h in
    slice_split_none (λ x. eqb x c) part (lacking c part both.0)
slice_split-join c part (next ∷ parts) h =
    let both = and_parts (lacks c part) (list_all (lacks c) (next ∷ parts)) h in
    slice_split_at (λ x. eqb x c) part c (join_with_byte c (next ∷ parts)) (lacking c part both.0) (eq-eqb c c refl)
    ∙ ap (λ (rest : List (List ℕ)). part ∷ rest) (slice_split-join c next parts both.1)

-- one octet more in front of the first part
lacks_onto : (x c : ℕ) (parts : List (List ℕ)) → eqb x c ≡ false → list_all (lacks c) parts ≡ true → list_all (lacks c) (onto_first x parts) ≡ true
lacks_onto x c [] f h = and_from (lacks c (x ∷ [])) true (and_from (not (eqb x c)) true (not_from_false (eqb x c) f) refl) refl
lacks_onto x c (part ∷ parts) f h =
    let both = and_parts (lacks c part) (list_all (lacks c) parts) h in
    and_from (lacks c (x ∷ part)) (list_all (lacks c) parts) (and_from (not (eqb x c)) (lacks c part) (not_from_false (eqb x c) f) both.0) both.1

-- a cut, or one octet more in front of the first part
lacks_cond : (b : Bool) (x c : ℕ) (parts : List (List ℕ)) → eqb x c ≡ b → list_all (lacks c) parts ≡ true → list_all (lacks c) (cond b ([] ∷ parts) (onto_first x parts)) ≡ true
lacks_cond true x c parts e h = h
lacks_cond false x c parts e h = lacks_onto x c parts e h

-- no part has the octet at which a list is cut
pub lacks-split : (c : ℕ) (xs : List ℕ) → list_all (lacks c) (slice_split (λ x. eqb x c) xs) ≡ true
lacks-split c [] = refl
lacks-split c (x ∷ xs) = lacks_cond (eqb x c) x c (slice_split (λ y. eqb y c) xs) refl (lacks-split c xs)

-- the first such octet stands behind a front that lacks it
place_behind : (c : ℕ) (front back : List ℕ) → lacks c front ≡ true → position_or_len (λ x. eqb x c) (front ++ c ∷ back) ≡ length front
place_behind c [] back h = cond-false (not (eqb c c)) (1 + position_or_len (λ x. eqb x c) back) 0 (not_from_true (eqb c c) (eq-eqb c c refl))
place_behind c (x ∷ front) back h =
    let both = and_parts (not (eqb x c)) (lacks c front) h in
    let more = place_behind c front back both.1 in
    cond-true (not (eqb x c)) (1 + position_or_len (λ y. eqb y c) (front ++ c ∷ back)) 0 both.0 ∙ omega arith

-- what stands before the first such octet
pub before_first-append : (c : ℕ) (front back : List ℕ) → lacks c front ≡ true → before_first (λ x. eqb x c) (front ++ c ∷ back) ≡ front
before_first-append c front back h = take_at front (c ∷ back) (position_or_len (λ x. eqb x c) (front ++ c ∷ back)) (sym (place_behind c front back h))

-- what stands behind it
pub after_first-append : (c : ℕ) (front back : List ℕ) → lacks c front ≡ true → after_first (λ x. eqb x c) (front ++ c ∷ back) ≡ back
after_first-append c front back h =
    let place = place_behind c front back h in
    ap (λ (xs : List ℕ). drop (position_or_len (λ x. eqb x c) (front ++ c ∷ back) + 1) xs) (sym (append_assoc front (c ∷ []) back))
    ∙ drop_at (front ++ c ∷ []) back (position_or_len (λ x. eqb x c) (front ++ c ∷ back) + 1) (omega (arith, length-append front (c ∷ []), place))

-- where no element passes, nothing stands behind
pub after_none : (p : ℕ → Bool) (xs : List ℕ) → length xs ≤ position_or_len p xs → after_first p xs ≡ []
after_none p xs h = drop_all (position_or_len p xs + 1) xs (omega arith)
