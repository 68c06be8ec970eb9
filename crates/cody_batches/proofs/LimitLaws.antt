-- Laws of what is taken within the limits, each under the name of its law function.
use Rattle.std.proofs.Common.{inl, inr, ◌≡◌, ℕ, zero, suc, ◌≤◌, ◌<◌, Bool, true, false, cond, not, ltb, ◌||◌, List, [], ◌∷◌, ◌++◌, length, take, refl, sym, ap, ◌∙◌, append_assoc, arith}
use Rattle.std.specs.Prelude.{filter, take_while}
use Rattle.std.specs.List.{AllByRecursion, list_any}
use Rattle.std.proofs.lemmas.List.{append-nil, length-append, length_push, take_all, take_at, take-append-le}
use Rattle.std.proofs.lemmas.List.Sums.{take_while-cons}
use Rattle.std.proofs.lemmas.Bool.{cases_Bool, cond-true, cond-false, or_parts, ltb-true, ltb-false, lt-ltb}
use Rattle.cody_words.specs.Octets.{newline}
use Rattle.cody_batches.specs.Cutting.{Cut, put_first, cut_behind}
use Rattle.cody_batches.specs.Blocks.{lines, begun_line, is_blank, by_block, blocks, begun_block, most_octets, is_long, has_long_block, taken, PassesLimits}
use Rattle.cody_batches.proofs.Cuts.{then_push, rest_clean, ends_block, not_blank, more_lines, by_block-append, blocks_grow}
use Rattle.cody_batches.proofs.Grows.{not_both, by_block-blank, by_block-line, has_long, has_long-push}
use Rattle.cody_batches.proofs.BlockLaws.{long_stays}

abbrev is_short : List (List ℕ) → Bool
is_short group = not (is_long group)

-- ---- the groups before the first that is too long

all_short : (groups : List (List (List ℕ))) → list_any is_long groups ≡ false → take_while is_short groups ≡ groups
all_short [] e = refl
all_short (group ∷ groups) e =
    let h = or_parts (is_long group) (list_any is_long groups) e in
    take_while-cons is_short group groups ∙ cond-true _ _ _ (ap not h.0) ∙ ap (λ (x : List (List (List ℕ))). group ∷ x) (all_short groups h.1)

short_then : (groups others : List (List (List ℕ))) → list_any is_long groups ≡ false → take_while is_short (groups ++ others) ≡ groups ++ take_while is_short others
short_then [] others e = refl
short_then (group ∷ groups) others e =
    let h = or_parts (is_long group) (list_any is_long groups) e in
    take_while-cons is_short group (groups ++ others) ∙ cond-true _ _ _ (ap not h.0) ∙ ap (λ (x : List (List (List ℕ))). group ∷ x) (short_then groups others h.1)

long_first : (group : List (List ℕ)) (groups : List (List (List ℕ))) → is_long group ≡ true → take_while is_short (group ∷ groups) ≡ []
long_first group groups e = take_while-cons is_short group groups ∙ cond-false _ _ _ (ap not e)

short_grow : (groups more : List (List (List ℕ))) → (others : List (List (List ℕ))) × (take_while is_short (groups ++ more) ≡ take_while is_short groups ++ others)
short_grow [] more = (take_while is_short more, refl)
short_grow (group ∷ groups) more = grow_step group groups more (is_long group) refl (short_grow groups more)
  where
    grow_step : (group : List (List ℕ)) (groups more : List (List (List ℕ))) (b : Bool) → is_long group ≡ b
        → (others : List (List (List ℕ))) × (take_while is_short (groups ++ more) ≡ take_while is_short groups ++ others)
        → (others : List (List (List ℕ))) × (take_while is_short (group ∷ (groups ++ more)) ≡ take_while is_short (group ∷ groups) ++ others)
    grow_step group groups more true e h = ([], long_first group (groups ++ more) e ∙ ap (λ (x : List (List (List ℕ))). x ++ []) (sym (long_first group groups e)))
    grow_step group groups more false e h = (h.0, take_while-cons is_short group (groups ++ more) ∙ cond-true _ _ _ (ap not e) ∙ ap (λ (x : List (List (List ℕ))). group ∷ x) h.1 ∙ ap (λ (x : List (List (List ℕ))). x ++ h.0) (sym (take_while-cons is_short group groups ∙ cond-true _ _ _ (ap not e))))

-- a group that is too long settles what stands before it
long_settles : (groups more : List (List (List ℕ))) → list_any is_long groups ≡ true → take_while is_short (groups ++ more) ≡ take_while is_short groups
long_settles [] more e = absurd (not_both true refl (sym e))
long_settles (group ∷ groups) more e = settle_step group groups more (is_long group) refl e (λ t. long_settles groups more t)
  where
    settle_step : (group : List (List ℕ)) (groups more : List (List (List ℕ))) (b : Bool) → is_long group ≡ b → (is_long group || list_any is_long groups) ≡ true
        → (list_any is_long groups ≡ true → take_while is_short (groups ++ more) ≡ take_while is_short groups) → take_while is_short (group ∷ (groups ++ more)) ≡ take_while is_short (group ∷ groups)
    settle_step group groups more true long e h = long_first group (groups ++ more) long ∙ sym (long_first group groups long)
    settle_step group groups more false short e h =
        let rest : list_any is_long groups ≡ true = sym (ap (λ t. t || list_any is_long groups) short) ∙ e in
        take_while-cons is_short group (groups ++ more) ∙ ap (λ (x : List (List (List ℕ))). cond (is_short group) (group ∷ x) []) (h rest) ∙ sym (take_while-cons is_short group groups)

-- ---- the first octets

take_grows : (n : ℕ) (xs ys : List ℕ) → (others : List ℕ) × (take n (xs ++ ys) ≡ take n xs ++ others)
take_grows zero xs ys = ([], refl)
take_grows (suc n) [] ys = (take (suc n) ys, refl)
take_grows (suc n) (x ∷ xs) ys = let h = take_grows n xs ys in (h.0, ap (λ (t : List ℕ). x ∷ t) h.1)

take_beyond : (n : ℕ) (xs ys : List ℕ) → length xs ≤ n → (others : List ℕ) × (take n (xs ++ ys) ≡ xs ++ others)
take_beyond n xs ys le = let h = take_grows n xs ys in (h.0, h.1 ∙ ap (λ (t : List ℕ). t ++ h.0) (take_all n xs le))

-- ---- laws

-- what is taken, at any number of octets
abbrev taken_of : ℕ → List ℕ → List (List (List ℕ))
taken_of n octets = take_while is_short (blocks (take n octets))

taken_of-whole : (n : ℕ) (octets first : List ℕ) → take n octets ≡ first → has_long_block first ≡ false → taken_of n octets ≡ blocks first
taken_of-whole n octets first e fits = ap (λ (x : List ℕ). take_while is_short (blocks x)) e ∙ all_short (blocks first) (or_parts (list_any is_long (blocks first)) (is_long (begun_block first)) fits).0

pub taken_whole : (octets : List ℕ) → length octets ≤ most_octets → has_long_block octets ≡ false → taken octets ≡ blocks octets
taken_whole octets le fits = taken_of-whole most_octets octets octets (take_all most_octets octets le) fits

taken_of-grows : (n : ℕ) (octets more : List ℕ) → (others : List (List (List ℕ))) × (taken_of n (octets ++ more) ≡ taken_of n octets ++ others)
taken_of-grows n octets more =
    let first = take_grows n octets more in
    let groups = blocks_grow (take n octets) first.0 in
    let short = short_grow (blocks (take n octets)) groups.0 in
    (short.0, ap (λ (x : List ℕ). take_while is_short (blocks x)) first.1 ∙ ap (take_while is_short) groups.1 ∙ short.1)

pub taken_grows : (octets more : List ℕ) → (others : List (List (List ℕ))) × (taken (octets ++ more) ≡ taken octets ++ others)
taken_grows octets more = taken_of-grows most_octets octets more

pub taken_at_octets_limit : (octets more : List ℕ) → length octets ≡ most_octets → has_long_block octets ≡ false → (taken (octets ++ more) ≡ blocks octets) × (has_long_block (take most_octets (octets ++ more)) ≡ false)
taken_at_octets_limit octets more full fits =
    let first = take_at octets more most_octets full in
    (taken_of-whole most_octets (octets ++ more) octets first fits, ap has_long_block first ∙ fits)

-- ---- the first group behind clean items begins with them

abbrev BeginsWith : {X : Type 0} → List X → List (List X) → Type 0
BeginsWith xs [] = Unit {0}
BeginsWith {X} xs (piece ∷ pieces) = (behind : List X) × (piece ≡ xs ++ behind)

begins_with_none : {X : Type 0} (pieces : List (List X)) → BeginsWith [] pieces
begins_with_none [] = tt
begins_with_none (piece ∷ pieces) = (piece, refl)

put_first-begins : {X : Type 0} (x : X) (xs : List X) (pieces : List (List X)) (rest : List X) → BeginsWith xs pieces → BeginsWith (x ∷ xs) (put_first x pieces rest).pieces
put_first-begins x xs [] rest h = tt
put_first-begins {X} x xs (piece ∷ pieces) rest h = (h.0, ap (λ (t : List X). x ∷ t) h.1)

clean_begins : {X : Type 0} (ends : X → Bool) (xs ys : List X) → AllByRecursion (λ x. ends x ≡ false) xs → BeginsWith xs (cut_behind ends (xs ++ ys)).pieces
clean_begins ends [] ys h = begins_with_none (cut_behind ends ys).pieces
clean_begins ends (x ∷ xs) ys h = let others = cut_behind ends (xs ++ ys) in rw h.0 (put_first-begins x xs others.pieces others.rest (clean_begins ends xs ys h.1))

longer_is_long : (group behind : List (List ℕ)) → is_long group ≡ true → is_long (group ++ behind) ≡ true
longer_is_long group behind e = lt-ltb 1024 (length (group ++ behind)) (omega (arith, ltb-true 1024 (length group) e, length-append group behind))

none_short : (group : List (List ℕ)) (groups : List (List (List ℕ))) → is_long group ≡ true → BeginsWith group groups → take_while is_short groups ≡ []
none_short group [] e h = refl
none_short group (first ∷ groups) e h = long_first first groups (ap is_long h.1 ∙ longer_is_long group h.0 e)

-- behind a block that is too long nothing more is taken
long_block_ends : (octets more : List ℕ) → has_long_block octets ≡ true → take_while is_short (blocks (octets ++ more)) ≡ take_while is_short (blocks octets)
long_block_ends octets more e = by_kind (list_any is_long (blocks octets)) refl
  where
    by_kind : (b : Bool) → list_any is_long (blocks octets) ≡ b → take_while is_short (blocks (octets ++ more)) ≡ take_while is_short (blocks octets)
    by_kind true whole = let groups = blocks_grow octets more in ap (take_while is_short) groups.1 ∙ long_settles (blocks octets) groups.0 whole
    by_kind false short =
        let begun = begun_block octets in
        let come = filter not_blank (more_lines octets more) in
        let others = (cut_behind ends_block (begun ++ come)).pieces in
        let long : is_long begun ≡ true = sym (ap (λ t. t || is_long begun) short) ∙ e in
        ap (λ d. take_while is_short d.pieces) (by_block-append octets more)
        ∙ short_then (blocks octets) others short
        ∙ ap (λ (x : List (List (List ℕ))). blocks octets ++ x) (none_short begun others long (clean_begins ends_block begun come (rest_clean ends_block (filter not_blank (lines octets)))))
        ∙ append-nil (blocks octets)
        ∙ sym (all_short (blocks octets) short)

-- where the line that comes makes a group too long, only the groups before it are taken
long_ends : (c : Cut (List ℕ)) (line : List ℕ) (b : Bool) → list_any is_long c.pieces ≡ false → is_long (c.rest ++ line ∷ []) ≡ true → take_while is_short (then_push c line b).pieces ≡ c.pieces
long_ends c line true fits long =
    let group = c.rest ++ line ∷ [] in
    short_then c.pieces (group ∷ []) fits ∙ ap (λ (x : List (List (List ℕ))). c.pieces ++ x) (long_first group [] long) ∙ append-nil c.pieces
long_ends c line false fits long = all_short c.pieces fits

-- the line that made a block too long isn't blank
long_not_blank : (octets : List ℕ) → has_long_block octets ≡ false → has_long_block (octets ++ newline ∷ []) ≡ true → (b : Bool) → is_blank (begun_line octets) ≡ b → b ≡ false
long_not_blank octets fits long true e = absurd (not_both (has_long_block (octets ++ newline ∷ [])) long (ap has_long (by_block-blank octets 10 refl e) ∙ fits))
long_not_blank octets fits long false e = refl

long_taken : (octets more : List ℕ) → has_long_block octets ≡ false → has_long_block (octets ++ newline ∷ []) ≡ true → take_while is_short (blocks ((octets ++ newline ∷ []) ++ more)) ≡ blocks octets
long_taken octets more fits long =
    let c = by_block octets in
    let line = begun_line octets in
    let some = long_not_blank octets fits long (is_blank line) refl in
    let pushed = by_block-line octets 10 refl some in
    let short = (or_parts (list_any is_long c.pieces) (is_long c.rest) fits).0 in
    let now_long : is_long (c.rest ++ line ∷ []) ≡ true = sym (has_long-push c line (ends_block line) ∙ ap (λ t. t || is_long (c.rest ++ line ∷ [])) short) ∙ sym (ap has_long pushed) ∙ long in
    long_block_ends (octets ++ newline ∷ []) more long ∙ ap (λ d. take_while is_short d.pieces) pushed ∙ long_ends c line (ends_block line) short now_long

first_behind : (n : ℕ) (octets more : List ℕ) → length octets < n → (others : List ℕ) × (take n (octets ++ newline ∷ more) ≡ (octets ++ newline ∷ []) ++ others)
first_behind n octets more lt =
    let h = take_beyond n (octets ++ newline ∷ []) more (omega (arith, length_push octets 10)) in
    (h.0, ap (take n) (sym (append_assoc octets (newline ∷ []) more)) ∙ h.1)

pub long_at_lines_limit : (octets more : List ℕ) → length octets < most_octets → has_long_block (octets ++ newline ∷ []) ≡ true → has_long_block (take most_octets (octets ++ newline ∷ more)) ≡ true
long_at_lines_limit octets more lt long =
    let first = first_behind most_octets octets more lt in
    ap has_long_block first.1 ∙ long_stays (octets ++ newline ∷ []) first.0 long

pub taken_at_lines_limit : (octets more : List ℕ) → length octets < most_octets → has_long_block octets ≡ false → has_long_block (octets ++ newline ∷ []) ≡ true
    → (taken (octets ++ newline ∷ more) ≡ blocks octets) × (has_long_block (take most_octets (octets ++ newline ∷ more)) ≡ true)
taken_at_lines_limit octets more lt fits long =
    let first = first_behind most_octets octets more lt in
    (ap (λ (x : List ℕ). take_while is_short (blocks x)) first.1 ∙ long_taken octets first.0 fits long, long_at_lines_limit octets more lt long)

pub passes_at_octets_limit : (octets more : List ℕ) (octet : ℕ) → length octets ≡ most_octets → PassesLimits (octets ++ octet ∷ more)
passes_at_octets_limit octets more octet full = inl (longer octets more octet most_octets full)
  where
    longer : (octets more : List ℕ) (octet n : ℕ) → length octets ≡ n → n < length (octets ++ octet ∷ more)
    longer octets more octet n full = omega (arith, full, length-append octets (octet ∷ more))

pub limits_stay : (octets more : List ℕ) → PassesLimits octets → PassesLimits (octets ++ more)
limits_stay octets more (inl lt) = inl (longer octets more most_octets lt)
  where
    longer : (octets more : List ℕ) (n : ℕ) → n < length octets → n < length (octets ++ more)
    longer octets more n lt = omega (arith, lt, length-append octets more)
limits_stay octets more (inr long) = let first = take_grows most_octets octets more in inr (ap has_long_block first.1 ∙ long_stays (take most_octets octets) first.0 long)

pub limits_stay-taken : (octets more : List ℕ) → PassesLimits octets → taken (octets ++ more) ≡ taken octets
limits_stay-taken octets more (inl lt) = ap (λ (x : List ℕ). take_while is_short (blocks x)) (take-append-le most_octets octets more (below most_octets (length octets) lt))
  where
    below : (n m : ℕ) → n < m → n ≤ m
    below n m lt = omega (arith, lt)
limits_stay-taken octets more (inr long) = let first = take_grows most_octets octets more in ap (λ (x : List ℕ). take_while is_short (blocks x)) first.1 ∙ long_block_ends (take most_octets octets) first.0 long

pub within_limits : (octets : List ℕ) → length octets ≤ most_octets → has_long_block octets ≡ false → PassesLimits octets → ⊥
within_limits octets le fits (inl lt) = both (length octets) most_octets le lt
  where
    both : (n m : ℕ) → n ≤ m → m < n → ⊥
    both n m le lt = omega (arith, le, lt)
within_limits octets le fits (inr long) = not_both (has_long_block octets) (sym (ap has_long_block (take_all most_octets octets le)) ∙ long) fits

pub within_limits-octets : (octets : List ℕ) → (PassesLimits octets → ⊥) → length octets ≤ most_octets
within_limits-octets octets h = elim (cases_Bool (ltb most_octets (length octets))) [
  | inl t ↦ absurd (h (inl (ltb-true most_octets (length octets) t)))
  | inr f ↦ ltb-false most_octets (length octets) f
]

pub within_limits-lines : (octets : List ℕ) → (PassesLimits octets → ⊥) → has_long_block octets ≡ false
within_limits-lines octets h = elim (cases_Bool (has_long_block octets)) [
  | inl t ↦ absurd (h (inr (ap has_long_block (take_all most_octets octets (within_limits-octets octets h)) ∙ t)))
  | inr f ↦ f
]
