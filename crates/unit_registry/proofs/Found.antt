-- The first unit with a word, and the number of a word in a list.
use Rattle.std.proofs.Common.{◌≡◌, ◌≢◌, ℕ, ◌+◌, ◌<◌, zero, suc, Bool, true, false, cond, eqb, not, ◌&&◌, List, [], ◌∷◌, ◌++◌, length, Option, Some, None, refl, sym, ap, subst, ◌∙◌, arith}
use Rattle.std.specs.Prelude.{slice_get, IfSome}
use Rattle.std.specs.List.{position_from}
use Rattle.std.specs.Option.{option_map_or}
use Rattle.std.specs.Str.{bytes_eq}
use Rattle.std.specs.Map.{lookup}
use Rattle.std.proofs.lemmas.Bool.{both_ways, and_parts, and_right, ne_eqb}
use Rattle.std.proofs.lemmas.Option.{slice_get_within}
use Rattle.std.proofs.lemmas.Slice.Eq.{bytes_eq-Decides}
use Rattle.unit_registry.specs.declared.unit.Declared.{Declared}
use Rattle.unit_registry.specs.Projects.{has_word, find_by}
use Rattle.unit_registry.specs.Numbers.{number_in, with_number}

-- what is found with one item more: what was found before, or that item
abbrev pub pushed : Option ℕ → Bool → ℕ → Option ℕ
pushed (Some k) test n = Some k
pushed None test n = cond test (Some n) None

pub pushed-false : (r : Option ℕ) (n : ℕ) → pushed r false n ≡ r
pushed-false (Some k) n = refl
pushed-false None n = refl

pub position_from-push : (test : Declared → Bool) (i : ℕ) (units : List Declared) (unit : Declared) → position_from test i (units ++ unit ∷ []) ≡ pushed (position_from test i units) (test unit) (i + length units)
position_from-push test i [] unit = ap (λ n. cond (test unit) (Some n) None) (omega arith)
position_from-push test i (first ∷ units) unit = by (test first) (position_from-push test (i + 1) units unit)
  where
    by : (b : Bool) → position_from test (i + 1) (units ++ unit ∷ []) ≡ pushed (position_from test (i + 1) units) (test unit) (i + 1 + length units)
        → cond b (Some i) (position_from test (i + 1) (units ++ unit ∷ [])) ≡ pushed (cond b (Some i) (position_from test (i + 1) units)) (test unit) (i + suc (length units))
    by true again = refl
    by false again = again ∙ ap (λ n. pushed (position_from test (i + 1) units) (test unit) n) (omega arith)

pub find_by-push : (word_of : Declared → List ℕ) (units : List Declared) (unit : Declared) (word : List ℕ) → find_by word_of (units ++ unit ∷ []) word ≡ pushed (find_by word_of units word) (has_word word_of word unit) (length units)
unfolding find_by
find_by-push word_of units unit word = position_from-push (has_word word_of word) 0 units unit ∙ ap (λ n. pushed (position_from (has_word word_of word) 0 units) (has_word word_of word unit) n) (omega arith)

-- a unit stands at the place, and passes the test
pub record IsAt (test : Declared → Bool) (units : List Declared) (place : ℕ) : Type 0 where
  pub unit : Declared
  pub at : slice_get units place ≡ Some unit
  pub passes : test unit ≡ true

position_from_at : (test : Declared → Bool) (i : ℕ) (units : List Declared) (k : ℕ) → position_from test i units ≡ Some k → (j : ℕ) × (k ≡ i + j) × IsAt test units j
position_from_at test i [] k e = let f : ⊥ = cc in absurd f
position_from_at test i (first ∷ units) k e = by (test first) refl e (λ s. position_from_at test (i + 1) units k s)
  where
    by : (b : Bool) → test first ≡ b → cond b (Some i) (position_from test (i + 1) units) ≡ Some k
        → (position_from test (i + 1) units ≡ Some k → (j : ℕ) × (k ≡ i + 1 + j) × IsAt test units j)
        → (j : ℕ) × (k ≡ i + j) × IsAt test (first ∷ units) j
    by true t s again = (0, (let same : i ≡ k = cc in omega arith), record { unit = first; at = refl; passes = t })
    by false t s again =
        let found = again s in
        (suc found.0, omega (arith, found.1), record { unit = found.2.unit; at = found.2.at; passes = found.2.passes })

pub find_by_at : (word_of : Declared → List ℕ) (units : List Declared) (word : List ℕ) (k : ℕ) → find_by word_of units word ≡ Some k → IsAt (has_word word_of word) units k
unfolding find_by
find_by_at word_of units word k e =
    let found = position_from_at (has_word word_of word) 0 units k e in
    let same : found.0 ≡ k = omega (arith, found.1) in
    subst (λ n. IsAt (has_word word_of word) units n) same found.2

pub find_by-within : (word_of : Declared → List ℕ) (units : List Declared) (word : List ℕ) (k : ℕ) → find_by word_of units word ≡ Some k → k < length units
find_by-within word_of units word k e = let found = find_by_at word_of units word k e in slice_get_within units k found.unit found.at

-- only a word that isn't empty is found
pub find_by-some : (word_of : Declared → List ℕ) (units : List Declared) (word : List ℕ) (k : ℕ) → find_by word_of units word ≡ Some k → 0 < length word
find_by-some word_of units [] k e = let f : false ≡ true = (find_by_at word_of units [] k e).passes in let g : ⊥ = cc in absurd g
find_by-some word_of units (c ∷ word) k e = omega arith

-- an empty word is found nowhere
position_from-empty : (word_of : Declared → List ℕ) (i : ℕ) (units : List Declared) → position_from (has_word word_of []) i units ≡ None
position_from-empty word_of i [] = refl
position_from-empty word_of i (unit ∷ units) = position_from-empty word_of (i + 1) units

pub find_by-empty : (word_of : Declared → List ℕ) (units : List Declared) → find_by word_of units [] ≡ None
unfolding find_by
find_by-empty word_of units = position_from-empty word_of 0 units

-- where nothing is found, no unit passes the test
position_from-none : (test : Declared → Bool) (i : ℕ) (units : List Declared) → position_from test i units ≡ None → (k : ℕ) (unit : Declared) → slice_get units k ≡ Some unit → test unit ≡ false
position_from-none test i [] none k unit at = let f : ⊥ = cc in absurd f
position_from-none test i (first ∷ units) none k unit at = by (test first) refl none (λ later j behind. position_from-none test (i + 1) units later j unit behind) k at
  where
    by : (b : Bool) → test first ≡ b → cond b (Some i) (position_from test (i + 1) units) ≡ None
        → (position_from test (i + 1) units ≡ None → (j : ℕ) → slice_get units j ≡ Some unit → test unit ≡ false)
        → (k : ℕ) → slice_get (first ∷ units) k ≡ Some unit → test unit ≡ false
    by true t later again k at = let f : ⊥ = cc in absurd f
    by false t later again zero at = let same : first ≡ unit = cc in ap test (sym same) ∙ t
    by false t later again (suc j) at = again later j at

pub find_by-bound : (word_of : Declared → List ℕ) (units : List Declared) (word : List ℕ) (r : Option ℕ) → r ≡ find_by word_of units word → IfSome r (λ k. k < length units)
find_by-bound word_of units word None e = tt
find_by-bound word_of units word (Some k) e = find_by-within word_of units word k (sym e)

-- a unit that has the word as this one
pub has_word-same : (word_of : Declared → List ℕ) (word : List ℕ) (unit : Declared) → has_word word_of word unit ≡ true → word_of unit ≡ word
has_word-same word_of word unit h = sym ((bytes_eq-Decides word (word_of unit)).0 (and_parts _ _ h).1)

-- only a word that isn't empty can be one that isn't
pub has_word-some : (word_of : Declared → List ℕ) (word : List ℕ) (unit : Declared) → 0 < length (word_of unit) → has_word word_of word unit ≡ bytes_eq word (word_of unit)
has_word-some word_of word unit some = by word (word_of unit) some
  where
    by : (w own : List ℕ) → 0 < length own → (not (eqb (length w) 0) && bytes_eq w own) ≡ bytes_eq w own
    by w [] s = absurd (omega arith)
    by [] (x ∷ xs) s = refl
    by (y ∷ ys) (x ∷ xs) s = ap (λ b. not b && bytes_eq (y ∷ ys) (x ∷ xs)) (ne_eqb (suc (length ys)) 0 (λ f. omega arith))

-- no word is that of a unit without one
pub has_word-none : (word_of : Declared → List ℕ) (word : List ℕ) (unit : Declared) → word_of unit ≡ [] → has_word word_of word unit ≡ false
has_word-none word_of word unit none = by word (word_of unit) none
  where
    by : (w own : List ℕ) → own ≡ [] → (not (eqb (length w) 0) && bytes_eq w own) ≡ false
    by w (x ∷ xs) e = let f : ⊥ = cc in absurd f
    by [] [] e = refl
    by (y ∷ ys) [] e = and_right (not (eqb (suc (length ys)) 0)) false refl

pub has_word-own : (word_of : Declared → List ℕ) (unit : Declared) → 0 < length (word_of unit) → has_word word_of (word_of unit) unit ≡ true
has_word-own word_of unit some = has_word-some word_of (word_of unit) unit some ∙ (bytes_eq-Decides (word_of unit) (word_of unit)).1 refl

-- the number of a word with one word more
pub number_in-push : (entries : List (List ℕ × ℕ)) (word : List ℕ) (n : ℕ) (q : List ℕ) → number_in (entries ++ (word, n) ∷ []) q ≡ pushed (number_in entries q) (bytes_eq q word) n
number_in-push [] word n q = refl
number_in-push (entry ∷ entries) word n q = by (bytes_eq q entry.0) (number_in-push entries word n q)
  where
    by : (b : Bool) → number_in (entries ++ (word, n) ∷ []) q ≡ pushed (number_in entries q) (bytes_eq q word) n
        → cond b (Some entry.1) (number_in (entries ++ (word, n) ∷ []) q) ≡ pushed (cond b (Some entry.1) (number_in entries q)) (bytes_eq q word) n
    by true again = refl
    by false again = again

-- what a map finds by a word
pub lookup-number : (q : List ℕ) (entries : List (List ℕ × ℕ)) → lookup (bytes_eq q) entries ≡ number_in entries q
lookup-number q [] = refl
lookup-number q (entry ∷ entries) = ap (λ r. cond (bytes_eq q entry.0) (Some entry.1) r) (lookup-number q entries)

-- the numbers of the units' words, with those of one unit more
pub number_in-with : (word_of : Declared → List ℕ) (units : List Declared) (unit : Declared) (entries : List (List ℕ × ℕ)) (word : List ℕ)
    → word_of unit ≡ word
    → ((q : List ℕ) → number_in entries q ≡ find_by word_of units q)
    → (q : List ℕ) → number_in (with_number entries word (length units)) q ≡ find_by word_of (units ++ unit ∷ []) q
number_in-with word_of units unit entries [] own same q =
    same q
    ∙ sym (pushed-false (find_by word_of units q) (length units))
    ∙ ap (λ b. pushed (find_by word_of units q) b (length units)) (sym (has_word-none word_of q unit own))
    ∙ sym (find_by-push word_of units unit q)
number_in-with word_of units unit entries (c ∷ word) own same q =
    number_in-push entries (c ∷ word) (length units) q
    ∙ ap (λ r. pushed r (bytes_eq q (c ∷ word)) (length units)) (same q)
    ∙ ap (λ b. pushed (find_by word_of units q) b (length units)) (ap (bytes_eq q) (sym own) ∙ sym (has_word-some word_of q unit (omega (arith, ap length own))))
    ∙ sym (find_by-push word_of units unit q)

pub with_number-some : (entries : List (List ℕ × ℕ)) (word : List ℕ) (n : ℕ) → false ≡ eqb (length word) 0 → with_number entries word n ≡ entries ++ (word, n) ∷ []
with_number-some entries [] n e = let f : ⊥ = cc in absurd f
with_number-some entries (c ∷ word) n e = refl

-- where no unit is found by a word, none has it
pub find_by-none : (word_of : Declared → List ℕ) (units : List Declared) (word : List ℕ) → 0 < length word → find_by word_of units word ≡ None
    → (unit : ℕ) → option_map_or word_of (slice_get units unit) [] ≢ word
unfolding find_by
find_by-none word_of units word some none unit = by (slice_get units unit) refl
  where
    by : (r : Option Declared) → slice_get units unit ≡ r → option_map_or word_of r [] ≢ word
    by None at is = absurd (omega (arith, ap length is))
    by (Some found) at is =
        let fails : has_word word_of word found ≡ false = position_from-none (has_word word_of word) 0 units none unit found at in
        let own : has_word word_of (word_of found) found ≡ true = has_word-own word_of found (omega (arith, ap length is)) in
        both_ways (has_word word_of word found) fails (ap (λ w. has_word word_of w found) (sym is) ∙ own)
