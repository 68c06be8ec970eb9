-- How much room the words of a line need at most, by the length of the line.
use Rattle.std.proofs.Common.{◌≡◌, ◌≢◌, ℕ, ◌+◌, ◌*◌, ◌≤◌, inl, inr, Bool, true, false, ltb, List, [], ◌∷◌, ◌++◌, length, refl, ap, arith}
use Rattle.std.specs.Bool.{MatchBool}
use Rattle.std.specs.List.{flat_map}
use Rattle.std.proofs.lemmas.List.{length-append, length-map}
use Rattle.std.proofs.lemmas.Bool.{ltb-false}
use Rattle.cody_words.specs.declared.reason.Reason.TheVariants.{LineTooLong}
use Rattle.cody_words.specs.Canonical.{line_room}
use Rattle.cody_words.specs.Lines.{Words, Malformed, HasBody, SaysWords, BodySays, Says, longest_line}
use Rattle.cody_words.specs.Spelling.{Item, plain, escaped_newline, escaped_tab, escaped_apostrophe, escaped_backslash, escaped_space, one_digit, two_digits, item_raw, item_value, items_raw, Part, bare, quoted, part_raw, part_value, Spells}

item_some : (i : Item) → 1 ≤ length (item_raw i)
item_some (plain c) = omega arith
item_some escaped_newline = omega arith
item_some escaped_tab = omega arith
item_some escaped_apostrophe = omega arith
item_some escaped_backslash = omega arith
item_some escaped_space = omega arith
item_some (one_digit n) = omega arith
item_some (two_digits m n) = omega arith

items_some : (items : List Item) → length items ≤ length (items_raw items)
items_some [] = omega arith
items_some (i ∷ items) = omega (arith, length-append (item_raw i) (items_raw items), item_some i, items_some items)

part_within : (p : Part) → length (part_value p) ≤ length (part_raw p)
part_within (bare c) = omega arith
part_within (quoted items) = omega (arith, length-map items item_value, length-append (items_raw items) (39 ∷ []), items_some items)

part_some : (p : Part) → 1 ≤ length (part_raw p)
part_some (bare c) = omega arith
part_some (quoted items) = omega arith

parts_within : (parts : List Part) → length (flat_map part_value parts) ≤ length (flat_map part_raw parts)
parts_within [] = omega arith
parts_within (p ∷ parts) = omega (arith, length-append (part_value p) (flat_map part_value parts), length-append (part_raw p) (flat_map part_raw parts), part_within p, parts_within parts)

parts_some : (parts : List Part) → parts ≢ [] → 1 ≤ length (flat_map part_raw parts)
parts_some [] some = absurd (some refl)
parts_some (p ∷ parts) some = omega (arith, length-append (part_raw p) (flat_map part_raw parts), part_some p)

-- a raw word is as long as its word at least, and isn't empty
pub spells_within : (raw word : List ℕ) → Spells raw word → length word ≤ length raw
spells_within raw word h = omega (arith, parts_within h.parts, ap length h.written, ap length h.meant)

pub spells_some : (raw word : List ℕ) → Spells raw word → 1 ≤ length raw
spells_some raw word h = omega (arith, parts_some h.parts h.some, ap length h.written)

words_within : (words : List (List ℕ)) (body : List ℕ) → SaysWords body words → line_room words ≤ 6 * length body + 3
words_within [] body h = omega arith
words_within (word ∷ words) body (rest, first, more) = omega (arith, ap length first.whole, length-append first.gap (first.raw ++ rest), length-append first.raw rest, spells_within first.raw word first.spells, spells_some first.raw word first.spells, words_within words rest more)

body_within : (line body : List ℕ) (more : Bool) → HasBody line more body → length body ≤ length line
body_within line body true (inl h) = omega (arith, ap length h.1)
body_within line body true (inr (c, w, e)) = omega (arith, ap length e, length-append body (c ∷ 59 ∷ []))
body_within line body false h = omega (arith, ap length h.1)

says_body : (long : Bool) (words : List (List ℕ)) (body : List ℕ) → MatchBool long (Words words ≡ Malformed longest_line LineTooLong) (BodySays body (Words words)) → (long ≡ false) × SaysWords body words
says_body true words body h = absurd cc
says_body false words body h = (refl, h.1)

-- a line that says words isn't too long, and its length bounds their room
pub words_fit : (line : List ℕ) (words : List (List ℕ)) (more : Bool) → Says line (Words words) more → (length line ≤ longest_line) × (line_room words ≤ 6 * length line + 3)
words_fit line words more h =
    let s = says_body (ltb longest_line (length line)) words h.body h.says in
    (ltb-false longest_line (length line) s.0, omega (arith, words_within words h.body s.1, body_within line h.body more h.has_body))
