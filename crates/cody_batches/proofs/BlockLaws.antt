-- Laws of lines and blocks, each under the name of its law function.
use Rattle.std.proofs.Common.{inl, inr, ◌≡◌, ℕ, ◌+◌, ◌-◌, ◌≤◌, Bool, true, false, cond, not, ltb, List, [], ◌∷◌, ◌++◌, length, map, take, refl, sym, ap, subst, ◌∙◌, append_assoc, arith}
use Rattle.std.specs.Prelude.{◌≢◌, All, filter}
use Rattle.std.specs.List.{AllByRecursion, flat_map, list_any}
use Rattle.std.proofs.lemmas.List.{append-nil, take_at, length_push}
use Rattle.std.proofs.lemmas.List.Elements.{recursion_from_All}
use Rattle.std.proofs.lemmas.Bool.{cases_Bool, ne_eqb, eqb-true, or_parts, ltb-true, ltb-false, lt-ltb, not-true, not-false}
use Rattle.cody_words.specs.Octets.{newline}
use Rattle.cody_words.specs.Meanings.{is_marked}
use Rattle.cody_batches.specs.Cutting.{IsPieceOf}
use Rattle.cody_batches.specs.Blocks.{is_newline, by_newline, lines, begun_line, ended, is_blank, counted_lines, by_block, blocks, begun_block, GoesOn, IsBlock, most_lines, is_long, has_long_block}
use Rattle.cody_batches.proofs.Cuts.{then_push, ends_block, not_blank, is_cut}
use Rattle.cody_batches.proofs.Grows.{not_both, begun_line-push, by_block-within, by_block-blank, by_block-line, has_long, long_now, octet_stays_long}

-- ---- within a line

-- no octet of the run is a NEWLINE
abbrev pub IsRun : List ℕ → Type 0
IsRun run = AllByRecursion (λ octet. octet ≢ newline) run

pub by_block-run : (fed run : List ℕ) → IsRun run → by_block (fed ++ run) ≡ by_block fed
by_block-run fed [] h = ap by_block (append-nil fed)
by_block-run fed (c ∷ run) h = ap by_block (sym (append_assoc fed (c ∷ []) run)) ∙ by_block-run (fed ++ c ∷ []) run h.1 ∙ by_block-within fed c (ne_eqb c 10 h.0)

pub begun_line-run : (fed run : List ℕ) → IsRun run → begun_line (fed ++ run) ≡ begun_line fed ++ run
begun_line-run fed [] h = ap begun_line (append-nil fed) ∙ sym (append-nil (begun_line fed))
begun_line-run fed (c ∷ run) h =
    let one : begun_line (fed ++ c ∷ []) ≡ begun_line fed ++ c ∷ [] = begun_line-push fed c ∙ rw (ne_eqb c 10 h.0) refl in
    ap begun_line (sym (append_assoc fed (c ∷ []) run)) ∙ begun_line-run (fed ++ c ∷ []) run h.1 ∙ ap (λ (x : List ℕ). x ++ run) one ∙ append_assoc (begun_line fed) (c ∷ []) run

pub run_within : (fed run : List ℕ) → All (λ octet. octet ≢ newline) run
    → (blocks (fed ++ run) ≡ blocks fed) × (begun_block (fed ++ run) ≡ begun_block fed) × (begun_line (fed ++ run) ≡ begun_line fed ++ run) × (has_long_block (fed ++ run) ≡ has_long_block fed)
run_within fed run h =
    let each : IsRun run = recursion_from_All (λ octet. octet ≢ newline) run h in
    let same = by_block-run fed run each in
    (ap (λ d. d.pieces) same, ap (λ d. d.rest) same, begun_line-run fed run each, ap has_long same)

-- ---- the end of a line

pub begun_line-ended : (fed : List ℕ) → begun_line (fed ++ newline ∷ []) ≡ []
begun_line-ended fed = begun_line-push fed 10

pub blank_line_ends : (fed : List ℕ) → is_blank (begun_line fed) ≡ true
    → (blocks (fed ++ newline ∷ []) ≡ blocks fed) × (begun_block (fed ++ newline ∷ []) ≡ begun_block fed) × (begun_line (fed ++ newline ∷ []) ≡ []) × (has_long_block (fed ++ newline ∷ []) ≡ has_long_block fed)
blank_line_ends fed blank =
    let same = by_block-blank fed 10 refl blank in
    (ap (λ d. d.pieces) same, ap (λ d. d.rest) same, begun_line-ended fed, ap has_long same)

pub line_ends-marked : (fed : List ℕ) → is_blank (begun_line fed) ≡ false → is_marked (begun_line fed) ≡ true → (blocks (fed ++ newline ∷ []) ≡ blocks fed) × (begun_block (fed ++ newline ∷ []) ≡ begun_block fed ++ begun_line fed ∷ [])
line_ends-marked fed some marked =
    let same = by_block-line fed 10 refl some ∙ ap (λ m. then_push (by_block fed) (begun_line fed) (not m)) marked in
    (ap (λ d. d.pieces) same, ap (λ d. d.rest) same)

pub line_ends-unmarked : (fed : List ℕ) → is_blank (begun_line fed) ≡ false → is_marked (begun_line fed) ≡ false → (blocks (fed ++ newline ∷ []) ≡ blocks fed ++ (begun_block fed ++ begun_line fed ∷ []) ∷ []) × (begun_block (fed ++ newline ∷ []) ≡ [])
line_ends-unmarked fed some unmarked =
    let same = by_block-line fed 10 refl some ∙ ap (λ m. then_push (by_block fed) (begun_line fed) (not m)) unmarked in
    (ap (λ d. d.pieces) same, ap (λ d. d.rest) same)

pub line_ends : (fed : List ℕ) → is_blank (begun_line fed) ≡ false
    → (is_marked (begun_line fed) ≡ true → (blocks (fed ++ newline ∷ []) ≡ blocks fed) × (begun_block (fed ++ newline ∷ []) ≡ begun_block fed ++ begun_line fed ∷ []))
    × (is_marked (begun_line fed) ≡ false → (blocks (fed ++ newline ∷ []) ≡ blocks fed ++ (begun_block fed ++ begun_line fed ∷ []) ∷ []) × (begun_block (fed ++ newline ∷ []) ≡ []))
    × (begun_line (fed ++ newline ∷ []) ≡ [])
line_ends fed some = (λ marked. line_ends-marked fed some marked, λ unmarked. line_ends-unmarked fed some unmarked, begun_line-ended fed)

-- ---- blocks that are too long

pub long_stays : (octets more : List ℕ) → has_long_block octets ≡ true → has_long_block (octets ++ more) ≡ true
long_stays octets [] e = ap has_long_block (append-nil octets) ∙ e
long_stays octets (c ∷ more) e = ap has_long_block (sym (append_assoc octets (c ∷ []) more)) ∙ long_stays (octets ++ c ∷ []) more (octet_stays_long octets c e)

pub long_stays-begins : (octets more : List ℕ) → has_long_block (octets ++ more) ≡ false → has_long_block octets ≡ false
long_stays-begins octets more e = elim (cases_Bool (has_long_block octets)) [
  | inl t ↦ absurd (not_both (has_long_block (octets ++ more)) (long_stays octets more t) e)
  | inr f ↦ f
]

-- a line that isn't blank makes a block too long by its number alone
line_long : (fed : List ℕ) → is_blank (begun_line fed) ≡ false → has_long_block fed ≡ false → has_long_block (fed ++ newline ∷ []) ≡ ltb 1024 (length (begun_block fed) + 1)
line_long fed some fits = ap has_long (by_block-line fed 10 refl some) ∙ long_now (by_block fed) (begun_line fed) (ends_block (begun_line fed)) fits

few_each : (groups : List (List (List ℕ))) → list_any is_long groups ≡ false → AllByRecursion (λ (block : List (List ℕ)). length block ≤ most_lines) groups
few_each [] e = tt
few_each (group ∷ groups) e = let h = or_parts (is_long group) (list_any is_long groups) e in (ltb-false 1024 (length group) h.0, few_each groups h.1)

pub few_lines : (octets : List ℕ) → has_long_block octets ≡ false → AllByRecursion (λ (block : List (List ℕ)). length block ≤ most_lines) (blocks octets) × (length (begun_block octets) ≤ most_lines)
few_lines octets e =
    let h = or_parts (list_any is_long (blocks octets)) (is_long (begun_block octets)) e in
    (few_each (blocks octets) h.0, ltb-false 1024 (length (begun_block octets)) h.1)

pub long_begins : (fed : List ℕ) (octet : ℕ) → has_long_block fed ≡ false → has_long_block (fed ++ octet ∷ []) ≡ true → (octet ≡ newline) × (is_blank (begun_line fed) ≡ false) × (length (begun_block fed) ≡ most_lines)
long_begins fed octet fits long = by_kind (is_newline octet) (is_blank (begun_line fed)) refl refl
  where
    full : (n : ℕ) → n ≤ 1024 → ltb 1024 (n + 1) ≡ true → n ≡ 1024
    full n le t = omega (arith, ltb-true 1024 (n + 1) t)

    at_newline : (c : ℕ) → c ≡ 10 → is_blank (begun_line fed) ≡ false → has_long_block (fed ++ c ∷ []) ≡ true → length (begun_block fed) ≡ 1024
    at_newline c e some t = full (length (begun_block fed)) (few_lines fed fits).1 (sym (line_long fed some fits) ∙ ap (λ (d : ℕ). has_long_block (fed ++ d ∷ [])) (sym e) ∙ t)

    by_kind : (n k : Bool) → is_newline octet ≡ n → is_blank (begun_line fed) ≡ k → (octet ≡ newline) × (is_blank (begun_line fed) ≡ false) × (length (begun_block fed) ≡ most_lines)
    by_kind false k en ek = absurd (not_both (has_long_block fed) (sym (ap has_long (by_block-within fed octet en)) ∙ long) fits)
    by_kind true true en ek = absurd (not_both (has_long_block fed) (sym (ap has_long (by_block-blank fed octet en ek)) ∙ long) fits)
    by_kind true false en ek = (eqb-true octet 10 en, ek, at_newline octet (eqb-true octet 10 en) ek long)

pub long_begins-always : (fed : List ℕ) → is_blank (begun_line fed) ≡ false → length (begun_block fed) ≡ most_lines → has_long_block (fed ++ newline ∷ []) ≡ true
long_begins-always fed some full = elim (cases_Bool (has_long_block fed)) [
  | inl t ↦ octet_stays_long fed 10 t
  | inr f ↦ line_long fed some f ∙ lt-ltb 1024 (length (begun_block fed) + 1) (omega (arith, full))
]

-- ---- what a block is

all_split : {X : Type 0} (P : X → Type 0) (xs ys : List X) → AllByRecursion P (xs ++ ys) → AllByRecursion P xs × AllByRecursion P ys
all_split P [] ys h = (tt, h)
all_split P (x ∷ xs) ys h = let t = all_split P xs ys h.1 in ((h.0, t.0), t.1)

all_flat : {X : Type 0} (P : X → Type 0) (pieces : List (List X)) → AllByRecursion P (flat_map (λ (piece : List X). piece) pieces) → AllByRecursion (AllByRecursion P) pieces
all_flat P [] h = tt
all_flat P (piece ∷ pieces) h = let t = all_split P piece (flat_map (λ piece. piece) pieces) h in (t.0, all_flat P pieces t.1)

filter_passes : {X : Type 0} (p : X → Bool) (xs : List X) → AllByRecursion (λ x. p x ≡ true) (filter p xs)
filter_passes p [] = tt
filter_passes p (x ∷ xs) = filter_step p x xs (p x) refl (filter_passes p xs)
  where
    filter_step : {X : Type 0} (p : X → Bool) (x : X) (xs : List X) (b : Bool) → p x ≡ b → AllByRecursion (λ y. p y ≡ true) (filter p xs) → AllByRecursion (λ y. p y ≡ true) (cond (p x) (x ∷ filter p xs) (filter p xs))
    filter_step p x xs true e h = rw e (e, h)
    filter_step p x xs false e h = rw e h

all_go_on : (group : List (List ℕ)) → AllByRecursion (λ line. not_blank line ≡ true) group → AllByRecursion (λ line. ends_block line ≡ false) group → AllByRecursion GoesOn group
all_go_on [] some clean = tt
all_go_on (line ∷ group) some clean = ((not-true (is_blank line) some.0, not-false (is_marked line) clean.0), all_go_on group some.1 clean.1)

is_block : (block : List (List ℕ)) → AllByRecursion (λ line. not_blank line ≡ true) block → IsPieceOf ends_block block → IsBlock block
is_block block some h =
    let parts = all_split (λ line. not_blank line ≡ true) h.front (h.last ∷ []) (subst (λ (x : List (List ℕ)). AllByRecursion (λ line. not_blank line ≡ true) x) h.whole some) in
    record {
      front = h.front;
      last = h.last;
      whole = h.whole;
      goes_on = all_go_on h.front parts.0 h.clean;
      ends = (not-true (is_blank h.last) parts.1.0, not-true (is_marked h.last) h.ended);
    }

are_blocks : (groups : List (List (List ℕ))) → AllByRecursion (AllByRecursion (λ line. not_blank line ≡ true)) groups → AllByRecursion (IsPieceOf ends_block) groups → AllByRecursion IsBlock groups
are_blocks [] some each = tt
are_blocks (block ∷ groups) some each = (is_block block some.0 each.0, are_blocks groups some.1 each.1)

pub line_by_line : (octets : List ℕ) → (counted_lines octets ≡ flat_map (λ (block : List (List ℕ)). block) (blocks octets) ++ begun_block octets) × AllByRecursion IsBlock (blocks octets) × AllByRecursion GoesOn (begun_block octets)
line_by_line octets =
    let cut = is_cut ends_block (counted_lines octets) in
    let some = subst (λ (x : List (List ℕ)). AllByRecursion (λ line. not_blank line ≡ true) x) cut.whole (filter_passes not_blank (lines octets)) in
    let parts = all_split (λ line. not_blank line ≡ true) (flat_map (λ (block : List (List ℕ)). block) (blocks octets)) (begun_block octets) some in
    (cut.whole, are_blocks (blocks octets) (all_flat (λ line. not_blank line ≡ true) (blocks octets) parts.0) cut.each, all_go_on (begun_block octets) parts.1 cut.clean)

-- ---- what the lines are

abbrev text : List ℕ → List ℕ
text piece = take (length piece - 1) piece

text_is : (front : List ℕ) (last : ℕ) → text (front ++ last ∷ []) ≡ front
text_is front last = take_at front (last ∷ []) (length (front ++ last ∷ []) - 1) (omega (arith, length_push front last))

run_from : (xs : List ℕ) → AllByRecursion (λ c. is_newline c ≡ false) xs → IsRun xs
run_from [] h = tt
run_from (c ∷ xs) h = (λ e. not_both (is_newline c) (ap is_newline e) h.0, run_from xs h.1)

piece_text : (piece : List ℕ) → (h : IsPieceOf is_newline piece) → text piece ≡ h.front
piece_text piece h = ap text h.whole ∙ text_is h.front h.last

piece_ended : (piece : List ℕ) → IsPieceOf is_newline piece → piece ≡ ended (text piece)
piece_ended piece h = h.whole ∙ ap (λ (c : ℕ). h.front ++ c ∷ []) (eqb-true h.last 10 h.ended) ∙ ap ended (sym (piece_text piece h))

pieces_ended : (pieces : List (List ℕ)) → AllByRecursion (IsPieceOf is_newline) pieces → flat_map (λ (piece : List ℕ). piece) pieces ≡ flat_map ended (map text pieces)
pieces_ended [] h = refl
pieces_ended (piece ∷ pieces) h = ap (λ (x : List ℕ). x ++ flat_map (λ (p : List ℕ). p) pieces) (piece_ended piece h.0) ∙ ap (λ (x : List ℕ). ended (text piece) ++ x) (pieces_ended pieces h.1)

pieces_run : (pieces : List (List ℕ)) → AllByRecursion (IsPieceOf is_newline) pieces → AllByRecursion IsRun (map text pieces)
pieces_run [] h = tt
pieces_run (piece ∷ pieces) h = (subst IsRun (sym (piece_text piece h.0)) (run_from h.0.front h.0.clean), pieces_run pieces h.1)

pub line_list : (octets : List ℕ) → (octets ≡ flat_map ended (lines octets) ++ begun_line octets) × AllByRecursion IsRun (lines octets) × IsRun (begun_line octets)
line_list octets =
    let cut = is_cut is_newline octets in
    (cut.whole ∙ ap (λ (x : List ℕ). x ++ begun_line octets) (pieces_ended (by_newline octets).pieces cut.each), pieces_run (by_newline octets).pieces cut.each, run_from (begun_line octets) cut.clean)
