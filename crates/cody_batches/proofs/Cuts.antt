-- Cutting a list that grows.
use Rattle.std.proofs.Common.{◌≡◌, ℕ, ◌-◌, Bool, true, false, cond, not, List, [], ◌∷◌, ◌++◌, length, map, take, refl, ap, ◌∙◌}
use Rattle.std.specs.Prelude.{filter}
use Rattle.std.specs.List.{AllByRecursion}
use Rattle.std.proofs.lemmas.List.{append-nil, map-append}
use Rattle.cody_words.specs.Meanings.{is_marked}
use Rattle.cody_batches.specs.Cutting.{Cut, put_first, cut_behind, IsCut}
use Rattle.cody_batches.specs.Blocks.{is_newline, lines, begun_line, is_blank, by_block, blocks, begun_block}

-- the cut of xs, and then of what is behind its pieces with ys
abbrev pub then_cut : {X : Type 0} → (X → Bool) → Cut X → List X → Cut X
then_cut ends c ys = let after = cut_behind ends (c.rest ++ ys) in record { pieces = c.pieces ++ after.pieces; rest = after.rest }

put_then : {X : Type 0} (ends : X → Bool) (x : X) (ys : List X) (pieces : List (List X)) (rest : List X) → ends x ≡ false
    → put_first x (pieces ++ (cut_behind ends (rest ++ ys)).pieces) (cut_behind ends (rest ++ ys)).rest ≡ then_cut ends (put_first x pieces rest) ys
put_then ends x ys [] rest e = rw e refl
put_then ends x ys (piece ∷ pieces) rest e = refl

step_cut : {X : Type 0} (ends : X → Bool) (x : X) (xs ys : List X) (b : Bool) → ends x ≡ b → cut_behind ends (xs ++ ys) ≡ then_cut ends (cut_behind ends xs) ys
    → cut_behind ends (x ∷ (xs ++ ys)) ≡ then_cut ends (cut_behind ends (x ∷ xs)) ys
step_cut ends x xs ys true e h = rw e (ap (λ c. record { pieces = (x ∷ []) ∷ c.pieces; rest = c.rest }) h)
step_cut ends x xs ys false e h =
    let c = cut_behind ends xs in
    rw e (ap (λ d. put_first x d.pieces d.rest) h ∙ put_then ends x ys c.pieces c.rest e)

pub cut_behind-append : {X : Type 0} (ends : X → Bool) (xs ys : List X) → cut_behind ends (xs ++ ys) ≡ then_cut ends (cut_behind ends xs) ys
cut_behind-append ends [] ys = refl
cut_behind-append ends (x ∷ xs) ys = step_cut ends x xs ys (ends x) refl (cut_behind-append ends xs ys)

pub filter-append : {X : Type 0} (p : X → Bool) (xs ys : List X) → filter p (xs ++ ys) ≡ filter p xs ++ filter p ys
filter-append p [] ys = refl
filter-append p (x ∷ xs) ys = filter_step p x xs ys (p x) refl (filter-append p xs ys)
  where
    filter_step : {X : Type 0} (p : X → Bool) (x : X) (xs ys : List X) (b : Bool) → p x ≡ b → filter p (xs ++ ys) ≡ filter p xs ++ filter p ys → filter p (x ∷ (xs ++ ys)) ≡ filter p (x ∷ xs) ++ filter p ys
    filter_step p x xs ys true e h = rw e (ap (λ t. x ∷ t) h)
    filter_step p x xs ys false e h = rw e h

-- the lines that come with more octets
abbrev pub more_lines : List ℕ → List ℕ → List (List ℕ)
more_lines octets more = lines (begun_line octets ++ more)

pub lines-append : (octets more : List ℕ) → lines (octets ++ more) ≡ lines octets ++ more_lines octets more
lines-append octets more = ap (λ c. map (λ line. take (length line - 1) line) c.pieces) (cut_behind-append is_newline octets more) ∙ map-append _ (cut_behind is_newline octets).pieces (cut_behind is_newline (begun_line octets ++ more)).pieces

abbrev pub not_blank : List ℕ → Bool
not_blank line = not (is_blank line)

abbrev pub ends_block : List ℕ → Bool
ends_block line = not (is_marked line)

pub by_block-append : (octets more : List ℕ) → by_block (octets ++ more) ≡ then_cut ends_block (by_block octets) (filter not_blank (more_lines octets more))
by_block-append octets more =
    ap (λ ls. cut_behind ends_block (filter not_blank ls)) (lines-append octets more) ∙ ap (cut_behind ends_block) (filter-append not_blank (lines octets) (more_lines octets more)) ∙ cut_behind-append ends_block (filter not_blank (lines octets)) (filter not_blank (more_lines octets more))

pub blocks_grow : (octets more : List ℕ) → (others : List (List (List ℕ))) × (blocks (octets ++ more) ≡ blocks octets ++ others)
blocks_grow octets more = ((cut_behind ends_block (begun_block octets ++ filter not_blank (more_lines octets more))).pieces, ap (λ c. c.pieces) (by_block-append octets more))

-- ---- one item more

abbrev pub cut_of : {X : Type 0} → List (List X) → List X → Cut X
cut_of pieces rest = record { pieces = pieces; rest = rest }

-- a cut with one item more, which ends a piece or not
abbrev pub then_push : {X : Type 0} → Cut X → X → Bool → Cut X
then_push c x true = record { pieces = c.pieces ++ (c.rest ++ x ∷ []) ∷ []; rest = [] }
then_push c x false = record { pieces = c.pieces; rest = c.rest ++ x ∷ [] }

-- what stands behind the last piece has no item of the kind
pub rest_clean : {X : Type 0} (ends : X → Bool) (xs : List X) → AllByRecursion (λ x. ends x ≡ false) (cut_behind ends xs).rest
rest_clean ends [] = tt
rest_clean ends (x ∷ xs) = rest_step ends x (cut_behind ends xs).pieces (cut_behind ends xs).rest (ends x) refl (rest_clean ends xs)
  where
    rest_step : {X : Type 0} (ends : X → Bool) (x : X) (pieces : List (List X)) (rest : List X) (b : Bool) → ends x ≡ b → AllByRecursion (λ y. ends y ≡ false) rest
        → AllByRecursion (λ y. ends y ≡ false) (cond (ends x) (cut_of ((x ∷ []) ∷ pieces) rest) (put_first x pieces rest)).rest
    rest_step ends x pieces rest true e h = rw e h
    rest_step ends x [] rest false e h = rw e (e, h)
    rest_step ends x (piece ∷ pieces) rest false e h = rw e h

-- an item behind clean ones
cut_clean : {X : Type 0} (ends : X → Bool) (xs : List X) (x : X) → AllByRecursion (λ y. ends y ≡ false) xs → cut_behind ends (xs ++ x ∷ []) ≡ cond (ends x) (cut_of ((xs ++ x ∷ []) ∷ []) []) (cut_of [] (xs ++ x ∷ []))
cut_clean ends [] x h = refl
cut_clean ends (y ∷ xs) x h = rw (h.0, cut_clean ends xs x h.1) (put_cond y xs x (ends x))
  where
    put_cond : {X : Type 0} (y : X) (xs : List X) (x : X) (b : Bool)
        → put_first y (cond b (cut_of ((xs ++ x ∷ []) ∷ []) []) (cut_of [] (xs ++ x ∷ []))).pieces (cond b (cut_of ((xs ++ x ∷ []) ∷ []) []) (cut_of [] (xs ++ x ∷ []))).rest
        ≡ cond b (cut_of ((y ∷ (xs ++ x ∷ [])) ∷ []) []) (cut_of [] (y ∷ (xs ++ x ∷ [])))
    put_cond y xs x true = refl
    put_cond y xs x false = refl

-- one item behind a list
pub cut_behind-push : {X : Type 0} (ends : X → Bool) (xs : List X) (x : X) → cut_behind ends (xs ++ x ∷ []) ≡ then_push (cut_behind ends xs) x (ends x)
cut_behind-push ends xs x = cut_behind-append ends xs (x ∷ []) ∙ push_at ends (cut_behind ends xs) x (cut_clean ends (cut_behind ends xs).rest x (rest_clean ends xs)) (ends x) refl
  where
    push_at : {X : Type 0} (ends : X → Bool) (c : Cut X) (x : X) → cut_behind ends (c.rest ++ x ∷ []) ≡ cond (ends x) (cut_of ((c.rest ++ x ∷ []) ∷ []) []) (cut_of [] (c.rest ++ x ∷ [])) → (b : Bool) → ends x ≡ b → then_cut ends c (x ∷ []) ≡ then_push c x (ends x)
    push_at ends c x h true e = rw (h, e) refl
    push_at ends c x h false e = rw (h, e) (ap (λ p. cut_of p (c.rest ++ x ∷ [])) (append-nil c.pieces))

-- ---- a cut is a cut

cut_step : {X : Type 0} (ends : X → Bool) (x : X) (xs : List X) (pieces : List (List X)) (rest : List X) (b : Bool) → ends x ≡ b → IsCut ends xs (cut_of pieces rest) → IsCut ends (x ∷ xs) (cond b (cut_of ((x ∷ []) ∷ pieces) rest) (put_first x pieces rest))
cut_step ends x xs pieces rest true e h = record {
  whole = ap (λ t. x ∷ t) h.whole;
  each = (record { front = []; last = x; whole = refl; ended = e; clean = tt }, h.each);
  clean = h.clean;
}
cut_step ends x xs [] rest false e h = record { whole = ap (λ t. x ∷ t) h.whole; each = tt; clean = (e, h.clean) }
cut_step ends x xs (piece ∷ pieces) rest false e h = record {
  whole = ap (λ t. x ∷ t) h.whole;
  each = (record { front = x ∷ h.each.0.front; last = h.each.0.last; whole = ap (λ t. x ∷ t) h.each.0.whole; ended = h.each.0.ended; clean = (e, h.each.0.clean) }, h.each.1);
  clean = h.clean;
}

pub is_cut : {X : Type 0} (ends : X → Bool) (xs : List X) → IsCut ends xs (cut_behind ends xs)
is_cut ends [] = record { whole = refl; each = tt; clean = tt }
is_cut ends (x ∷ xs) = cut_step ends x xs (cut_behind ends xs).pieces (cut_behind ends xs).rest (ends x) refl (is_cut ends xs)
