-- What one octet more does to lines and blocks.
use Rattle.std.proofs.Common.{◌≡◌, ℕ, ◌+◌, ◌-◌, inl, inr, Bool, true, false, cond, not, ltb, ◌||◌, List, [], ◌∷◌, ◌++◌, length, map, take, refl, ap, ◌∙◌, arith}
use Rattle.std.specs.Prelude.{filter}
use Rattle.std.specs.List.{list_any}
use Rattle.std.proofs.lemmas.List.{append-nil, map-append, take_at, length_push}
use Rattle.std.proofs.lemmas.Bool.{or_parts, or_cases, or_left, or_right, ltb-true, lt-ltb}
use Rattle.cody_batches.specs.Cutting.{Cut, cut_behind}
use Rattle.cody_batches.specs.Blocks.{is_newline, by_newline, lines, begun_line, is_blank, by_block, is_long, has_long_block}
use Rattle.cody_batches.proofs.Cuts.{then_push, cut_behind-push, filter-append, not_blank, ends_block}

-- no test answers both
pub not_both : (b : Bool) → b ≡ true → b ≡ false → ⊥
not_both true p q = absurd cc
not_both false p q = absurd cc

rest_push : {X : Type 0} (c : Cut X) (x : X) (b : Bool) → (then_push c x b).rest ≡ cond b [] (c.rest ++ x ∷ [])
rest_push c x true = refl
rest_push c x false = refl

pub begun_line-push : (fed : List ℕ) (c : ℕ) → begun_line (fed ++ c ∷ []) ≡ cond (is_newline c) [] (begun_line fed ++ c ∷ [])
begun_line-push fed c = ap (λ d. d.rest) (cut_behind-push is_newline fed c) ∙ rest_push (by_newline fed) c (is_newline c)

abbrev texts : List (List ℕ) → List (List ℕ)
texts pieces = map (λ line. take (length line - 1) line) pieces

text_of : (line : List ℕ) (c : ℕ) → take (length (line ++ c ∷ []) - 1) (line ++ c ∷ []) ≡ line
text_of line c = take_at line (c ∷ []) (length (line ++ c ∷ []) - 1) (omega (arith, length_push line c))

lines_at : (d : Cut ℕ) (c : ℕ) (b : Bool) → texts (then_push d c b).pieces ≡ cond b (texts d.pieces ++ d.rest ∷ []) (texts d.pieces)
lines_at d c true = map-append _ d.pieces ((d.rest ++ c ∷ []) ∷ []) ∙ ap (λ (x : List ℕ). texts d.pieces ++ x ∷ []) (text_of d.rest c)
lines_at d c false = refl

pub lines-push : (fed : List ℕ) (c : ℕ) → lines (fed ++ c ∷ []) ≡ cond (is_newline c) (lines fed ++ begun_line fed ∷ []) (lines fed)
lines-push fed c = ap (λ d. texts d.pieces) (cut_behind-push is_newline fed c) ∙ lines_at (by_newline fed) c (is_newline c)

-- an octet within a line changes no block
pub by_block-within : (fed : List ℕ) (c : ℕ) → is_newline c ≡ false → by_block (fed ++ c ∷ []) ≡ by_block fed
by_block-within fed c e = ap (λ ls. cut_behind ends_block (filter not_blank ls)) (lines-push fed c ∙ rw e refl)

filter_one : {X : Type 0} (p : X → Bool) (x : X) (b : Bool) → p x ≡ b → filter p (x ∷ []) ≡ cond b (x ∷ []) []
filter_one p x true e = rw e refl
filter_one p x false e = rw e refl

blocks_at : (fed : List ℕ) (c : ℕ) → is_newline c ≡ true → by_block (fed ++ c ∷ []) ≡ cut_behind ends_block (filter not_blank (lines fed) ++ filter not_blank (begun_line fed ∷ []))
blocks_at fed c e = ap (λ ls. cut_behind ends_block (filter not_blank ls)) (lines-push fed c ∙ rw e refl) ∙ ap (cut_behind ends_block) (filter-append not_blank (lines fed) (begun_line fed ∷ []))

-- a blank line changes none
pub by_block-blank : (fed : List ℕ) (c : ℕ) → is_newline c ≡ true → is_blank (begun_line fed) ≡ true → by_block (fed ++ c ∷ []) ≡ by_block fed
by_block-blank fed c e blank = blocks_at fed c e ∙ ap (λ ls. cut_behind ends_block (filter not_blank (lines fed) ++ ls)) (filter_one not_blank (begun_line fed) false (ap not blank)) ∙ ap (cut_behind ends_block) (append-nil (filter not_blank (lines fed)))

-- each other line joins the block, or ends it
pub by_block-line : (fed : List ℕ) (c : ℕ) → is_newline c ≡ true → is_blank (begun_line fed) ≡ false → by_block (fed ++ c ∷ []) ≡ then_push (by_block fed) (begun_line fed) (ends_block (begun_line fed))
by_block-line fed c e some = blocks_at fed c e ∙ ap (λ ls. cut_behind ends_block (filter not_blank (lines fed) ++ ls)) (filter_one not_blank (begun_line fed) true (ap not some)) ∙ cut_behind-push ends_block (filter not_blank (lines fed)) (begun_line fed)

-- ---- groups that are too long

abbrev pub has_long : Cut (List ℕ) → Bool
has_long c = list_any is_long c.pieces || is_long c.rest

any_push : (xs : List (List (List ℕ))) (x : List (List ℕ)) → list_any is_long (xs ++ x ∷ []) ≡ (list_any is_long xs || is_long x)
any_push [] x = or_false (is_long x)
  where
    or_false : (b : Bool) → (b || false) ≡ b
    or_false true = refl
    or_false false = refl
any_push (y ∷ xs) x = ap (λ b. is_long y || b) (any_push xs x) ∙ or_assoc (is_long y) (list_any is_long xs) (is_long x)
  where
    or_assoc : (a b c : Bool) → (a || (b || c)) ≡ ((a || b) || c)
    or_assoc true b c = refl
    or_assoc false b c = refl

or_nothing : (b : Bool) → (b || false) ≡ b
or_nothing true = refl
or_nothing false = refl

pub has_long-push : (c : Cut (List ℕ)) (l : List ℕ) (b : Bool) → has_long (then_push c l b) ≡ (list_any is_long c.pieces || is_long (c.rest ++ l ∷ []))
has_long-push c l true = or_nothing (list_any is_long (c.pieces ++ (c.rest ++ l ∷ []) ∷ [])) ∙ any_push c.pieces (c.rest ++ l ∷ [])
has_long-push c l false = refl

longer_is_long : (group : List (List ℕ)) (l : List ℕ) → is_long group ≡ true → is_long (group ++ l ∷ []) ≡ true
longer_is_long group l e = lt-ltb 1024 (length (group ++ l ∷ [])) (omega (arith, ltb-true 1024 (length group) e, length_push group l))

pub stays_long : (c : Cut (List ℕ)) (l : List ℕ) (b : Bool) → has_long c ≡ true → has_long (then_push c l b) ≡ true
stays_long c l b e = has_long-push c l b ∙ elim (or_cases (list_any is_long c.pieces) (is_long c.rest) e) [
  | inl h ↦ or_left _ _ h
  | inr h ↦ or_right _ _ (longer_is_long c.rest l h)
]

-- where no group was too long, one is with the last line alone
pub long_now : (c : Cut (List ℕ)) (l : List ℕ) (b : Bool) → has_long c ≡ false → has_long (then_push c l b) ≡ ltb 1024 (length c.rest + 1)
long_now c l b e = has_long-push c l b ∙ ap (λ t. t || is_long (c.rest ++ l ∷ [])) (or_parts (list_any is_long c.pieces) (is_long c.rest) e).0 ∙ ap (ltb 1024) (length_push c.rest l)

-- a group that is too long stays so, whatever comes
pub octet_stays_long : (fed : List ℕ) (c : ℕ) → has_long_block fed ≡ true → has_long_block (fed ++ c ∷ []) ≡ true
octet_stays_long fed c e = by_kind (is_newline c) (is_blank (begun_line fed)) refl refl
  where
    by_kind : (n k : Bool) → is_newline c ≡ n → is_blank (begun_line fed) ≡ k → has_long_block (fed ++ c ∷ []) ≡ true
    by_kind false k en ek = ap has_long (by_block-within fed c en) ∙ e
    by_kind true true en ek = ap has_long (by_block-blank fed c en ek) ∙ e
    by_kind true false en ek = ap has_long (by_block-line fed c en ek) ∙ stays_long (by_block fed) (begun_line fed) (ends_block (begun_line fed)) e
