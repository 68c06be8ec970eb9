-- Sums, counts and beginnings of lists.
use Rattle.std.proofs.Common.{◌⊎◌, nat_lt, Bool, true, false, cond, inl, inr, ◌≡◌, ◌≢◌, ℕ, zero, suc, ◌+◌, ◌<◌, ◌≤◌, ◌==◌, List, [], ◌∷◌, ◌++◌, length, set, Contains, refl, sym, ap, ◌∙◌, arith, append_assoc, length-append, zero-add, add-zero, ap₂, eq-eqb, ne_eqb}
use Rattle.std.specs.Prelude.{if◌then◌else◌, sum_by, count_by, slice_get, Some}
use Rattle.std.proofs.lemmas.Bool.Decides.{nat_tests}
use Rattle.std.proofs.lemmas.List.{append-nil}
use Rattle.std.proofs.lemmas.List.Sums.{sum_by-cons, sum_by-append}
use mathlib.Core.Logic.{dite}
use native.Mathlib.Decide.{ℕ_discrete, dec_lt}
use mathlib.Core.Option.{some, some-injective, some-ne-none}
use lib.ListN.{get_elem?}
use Rattle.ruled_history.specs.Runs.{StartsWith, times, Has, once_below, in_run, made_at}
use Rattle.ruled_history.specs.Views.{longer, shorter}

module _ {A : Type 0} where
  pub sum_set : (f : A → ℕ) (xs : List A) (i : ℕ) (v w : A) → get_elem? xs i ≡ some v → sum_by f (set xs i w) + f v ≡ sum_by f xs + f w
  sum_set f [] i v w e = absurd (some-ne-none v (sym e))
  sum_set f (x ∷ xs) zero v w e = omega (arith, sum_by-cons f w xs, sum_by-cons f x xs, ap f (some-injective x v e))
  sum_set f (x ∷ xs) (suc i) v w e = omega (arith, sum_by-cons f x xs, sum_by-cons f x (set xs i w), sum_set f xs i v w e)

  pub sum_at : (f : A → ℕ) (xs : List A) (i : ℕ) (v : A) → get_elem? xs i ≡ some v → f v ≤ sum_by f xs
  sum_at f [] i v e = absurd (some-ne-none v (sym e))
  sum_at f (x ∷ xs) zero v e = omega (arith, sum_by-cons f x xs, ap f (some-injective x v e))
  sum_at f (x ∷ xs) (suc i) v e = omega (arith, sum_by-cons f x xs, sum_at f xs i v e)

  pub sum_le : (f g : A → ℕ) (xs : List A) → ((i : ℕ) (v : A) → get_elem? xs i ≡ some v → f v ≤ g v) → sum_by f xs ≤ sum_by g xs
  sum_le f g [] h = omega arith
  sum_le f g (x ∷ xs) h = omega (arith, sum_by-cons f x xs, sum_by-cons g x xs, h 0 x refl, sum_le f g xs (λ i v e. h (suc i) v e))

  pub sum_lt : (f g : A → ℕ) (xs : List A) → ((i : ℕ) (x : A) → get_elem? xs i ≡ some x → f x ≤ g x) → (i : ℕ) (x : A) → get_elem? xs i ≡ some x → f x < g x → sum_by f xs < sum_by g xs
  sum_lt f g [] h i x at lt = absurd (some-ne-none x (sym at))
  sum_lt f g (y ∷ ys) h zero x at lt = let is = some-injective y x at in omega (arith, sum_by-cons f y ys, sum_by-cons g y ys, ap f is, ap g is, sum_le f g ys (λ i z e. h (suc i) z e))
  sum_lt f g (y ∷ ys) h (suc i) x at lt = omega (arith, sum_by-cons f y ys, sum_by-cons g y ys, h 0 y refl, sum_lt f g ys (λ j z e. h (suc j) z e) i x at lt)

  -- two members of the list, at different places
  pub sum_two : (f : A → ℕ) (xs : List A) (i j : ℕ) (v w : A) → i ≢ j → get_elem? xs i ≡ some v → get_elem? xs j ≡ some w → f v + f w ≤ sum_by f xs
  sum_two f [] i j v w ne e d = absurd (some-ne-none v (sym e))
  sum_two f (x ∷ xs) zero zero v w ne e d = absurd (ne refl)
  sum_two f (x ∷ xs) zero (suc j) v w ne e d = omega (arith, sum_by-cons f x xs, ap f (some-injective x v e), sum_at f xs j w d)
  sum_two f (x ∷ xs) (suc i) zero v w ne e d = omega (arith, sum_by-cons f x xs, ap f (some-injective x w d), sum_at f xs i v e)
  sum_two f (x ∷ xs) (suc i) (suc j) v w ne e d = omega (arith, sum_by-cons f x xs, sum_two f xs i j v w (λ h. ne (ap suc h)) e d)

  sum_none : (f : A → ℕ) (xs : List A) → ((i : ℕ) (x : A) → get_elem? xs i ≡ some x → f x ≡ 0) → sum_by f xs ≡ 0
  sum_none f [] none = refl
  sum_none f (x ∷ xs) none = omega (arith, sum_by-cons f x xs, none 0 x refl, sum_none f xs (λ i y at. none (suc i) y at))

  -- where all others have none, one has all
  pub sum_alone : (f : A → ℕ) (xs : List A) (i : ℕ) (v : A) → get_elem? xs i ≡ some v → ((j : ℕ) (x : A) → j ≢ i → get_elem? xs j ≡ some x → f x ≡ 0) → sum_by f xs ≡ f v
  sum_alone f [] i v at none = absurd (some-ne-none v (sym at))
  sum_alone f (x ∷ xs) zero v at none = omega (arith, sum_by-cons f x xs, ap f (some-injective x v at), sum_none f xs (λ j y at_j. none (suc j) y (λ same. absurd (omega arith)) at_j))
  sum_alone f (x ∷ xs) (suc i) v at none =
      omega (arith, sum_by-cons f x xs, none 0 x (λ same. absurd (omega arith)) refl, sum_alone f xs i v at (λ j y ne at_j. none (suc j) y (λ same. let less : j ≡ i = omega arith in ne less) at_j))

  pub sum_both : (f g h : A → ℕ) (xs : List A) → ((x : A) → h x ≡ f x + g x) → sum_by h xs ≡ sum_by f xs + sum_by g xs
  sum_both f g h [] both = refl
  sum_both f g h (x ∷ xs) both = omega (arith, sum_by-cons f x xs, sum_by-cons g x xs, sum_by-cons h x xs, both x, sum_both f g h xs both)

  pub in_list : (xs : List A) (i : ℕ) (v : A) → get_elem? xs i ≡ some v → i < length xs
  in_list [] i v e = absurd (some-ne-none v (sym e))
  in_list (x ∷ xs) zero v e = omega arith
  in_list (x ∷ xs) (suc i) v e = omega (arith, in_list xs i v e)

  -- ---- beginnings of lists

  pub begins_all : (xs : List A) → StartsWith xs xs
  begins_all xs = ([], sym (append-nil xs))

  pub begins_more : (whole seen more : List A) → StartsWith whole seen → StartsWith (whole ++ more) seen
  begins_more whole seen more h = (h.0 ++ more, ap (λ l. l ++ more) h.1 ∙ append_assoc seen h.0 more)

  pub begins_length : (whole seen : List A) → StartsWith whole seen → length seen ≤ length whole
  begins_length whole seen h = omega (arith, ap length h.1, length-append seen h.0)

  pub begins_trans : (xs ys zs : List A) → StartsWith ys xs → StartsWith zs ys → StartsWith zs xs
  begins_trans xs ys zs h k = (h.0 ++ k.0, k.1 ∙ (ap (λ l. l ++ k.0) h.1 ∙ append_assoc xs h.0 k.0))

  pub begins_shorter : (xs ys zs : List A) → StartsWith zs xs → StartsWith zs ys → length xs ≤ length ys → StartsWith ys xs
  begins_shorter [] ys zs h k le = (ys, refl)
  begins_shorter (x ∷ xs) [] zs h k le = absurd (omega arith)
  begins_shorter (x ∷ xs) (y ∷ ys) [] h k le = absurd (cc (h.1))
  begins_shorter (x ∷ xs) (y ∷ ys) (z ∷ zs) h k le =
      let heads : y ≡ x = cc (h.1, k.1) in
      let rest = begins_shorter xs ys zs (h.0, cc (h.1)) (k.0, cc (k.1)) (omega arith) in
      (rest.0, cc (heads, rest.1))

  pub begins_whole : (xs ys : List A) → StartsWith ys xs → StartsWith xs ys → xs ≡ ys
  begins_whole [] [] h k = refl
  begins_whole [] (y ∷ ys) h k = absurd (cc (k.1))
  begins_whole (x ∷ xs) [] h k = absurd (cc (h.1))
  begins_whole (x ∷ xs) (y ∷ ys) h k = let rest = begins_whole xs ys (h.0, cc (h.1)) (k.0, cc (k.1)) in cc (h.1, rest)

  -- the longer of two lists begins with both, where it begins with the shorter
  pub longer_both : (xs ys : List A) (b : Bool) → StartsWith (if b then ys else xs) (if b then xs else ys) → StartsWith (if b then ys else xs) xs × StartsWith (if b then ys else xs) ys
  longer_both xs ys true h = (h, begins_all ys)
  longer_both xs ys false h = (begins_all xs, h)

  longer_by : (xs ys zs : List A) (b : Bool) → nat_lt (length xs) (length ys) ≡ b → StartsWith zs xs → StartsWith zs ys
      → StartsWith zs (if b then ys else xs) × StartsWith (if b then ys else xs) (if b then xs else ys) × StartsWith (if b then ys else xs) xs × StartsWith (if b then ys else xs) ys
  longer_by xs ys zs true e h k = (k, begins_shorter xs ys zs h k (grind (arith, nat_tests)), begins_shorter xs ys zs h k (grind (arith, nat_tests)), begins_all ys)
  longer_by xs ys zs false e h k = (h, begins_shorter ys xs zs k h (grind (arith, nat_tests)), begins_all xs, begins_shorter ys xs zs k h (grind (arith, nat_tests)))

  -- the longer one of two beginnings begins with both
  pub longer_begins : (xs ys zs : List A) → StartsWith zs xs → StartsWith zs ys
      → StartsWith zs (longer xs ys) × StartsWith (longer xs ys) (shorter xs ys) × StartsWith (longer xs ys) xs × StartsWith (longer xs ys) ys
  longer_begins xs ys zs h k = longer_by xs ys zs (nat_lt (length xs) (length ys)) refl h k

  pub snoc_same : (xs : List A) (a b : A) → xs ++ a ∷ [] ≡ xs ++ b ∷ [] → a ≡ b
  snoc_same [] a b e = cc
  snoc_same (x ∷ xs) a b e = snoc_same xs a b (cc)

  pub append_none : (xs ys : List A) → xs ++ ys ≡ [] → (xs ≡ []) × (ys ≡ [])
  append_none [] ys e = (refl, e)
  append_none (x ∷ xs) ys e = absurd (cc)

  -- ---- members of longer lists

  -- a member of a list one longer
  pub at_end : (xs : List A) (x : A) (j : ℕ) (y : A) {n : ℕ} → length xs ≡ n → get_elem? (xs ++ x ∷ []) j ≡ some y → (get_elem? xs j ≡ some y) ⊎ ((j ≡ n) × (x ≡ y))
  at_end [] x zero y len e = inr (len, some-injective x y e)
  at_end [] x (suc j) y len e = absurd (some-ne-none y (sym e))
  at_end (z ∷ xs) x zero y len e = inl e
  at_end (z ∷ xs) x (suc j) y {n} len e = elim (at_end xs x j y refl e) [
    | inl here ↦ inl here
    | inr t ↦ inr (omega (arith, t.0), t.1)
  ]

  -- the same of entries
  pub got_end : (xs : List A) (x : A) (j : ℕ) (y : A) → slice_get (xs ++ x ∷ []) j ≡ Some y → (slice_get xs j ≡ Some y) ⊎ ((j ≡ length xs) × (x ≡ y))
  got_end [] x zero y e = inr (refl, cc)
  got_end [] x (suc j) y e = absurd (cc)
  got_end (z ∷ xs) x zero y e = inl e
  got_end (z ∷ xs) x (suc j) y e = elim (got_end xs x j y e) [
    | inl here ↦ inl here
    | inr t ↦ inr (omega (arith, t.0), t.1)
  ]

  pub got_left : (xs ys : List A) (i : ℕ) (y : A) → i < length xs → slice_get (xs ++ ys) i ≡ Some y → slice_get xs i ≡ Some y
  got_left [] ys i y lt e = absurd (omega arith)
  got_left (x ∷ xs) ys zero y lt e = e
  got_left (x ∷ xs) ys (suc i) y lt e = got_left xs ys i y (omega arith) e

-- ---- how often a number stands in a list

pub times-cons : (x y : ℕ) (ys : List ℕ) → times x (y ∷ ys) ≡ cond (y == x) 1 0 + times x ys
times-cons x y ys = sum_by-cons (λ z. cond (z == x) 1 0) y ys

pub times-append : (x : ℕ) (xs ys : List ℕ) → times x (xs ++ ys) ≡ times x xs + times x ys
times-append x xs ys = sum_by-append (λ z. cond (z == x) 1 0) xs ys

times_here : (x y : ℕ) (ys : List ℕ) → y ≡ x → times x (y ∷ ys) ≡ 1 + times x ys
times_here x y ys e = times-cons x y ys ∙ ap (λ b. cond b 1 0 + times x ys) (eq-eqb y x e)

times_there : (x y : ℕ) (ys : List ℕ) → y ≢ x → times x (y ∷ ys) ≡ times x ys
times_there x y ys ne = times-cons x y ys ∙ ap (λ b. cond b 1 0 + times x ys) (ne_eqb y x ne) ∙ zero-add _

pub not_last : (x y : ℕ) → y ≢ x → times x (y ∷ []) ≡ 0
not_last x y ne = times_there x y [] ne

pub is_last : (x : ℕ) → times x (x ∷ []) ≡ 1
is_last x = times_here x x [] refl

pub last_le : (x y : ℕ) → times x (y ∷ []) ≤ 1
last_le x y = dite (ℕ_discrete y x) (λ e. omega (arith, times_here x y [] e)) (λ ne. omega (arith, times_there x y [] ne))

has_further : (x y : ℕ) (ys : List ℕ) → y ≢ x → Has x (y ∷ ys) → Has x ys
has_further x y ys ne h = omega (arith, times_there x y ys ne)

has_here : (x : ℕ) (xs : List ℕ) → Has x (x ∷ xs)
has_here x xs = omega (arith, times_here x x xs refl)

has_there : (x y : ℕ) (xs : List ℕ) → Has y xs → Has y (x ∷ xs)
has_there x y xs h = dite (ℕ_discrete x y) (λ e. omega (arith, times_here y x xs e)) (λ ne. omega (arith, times_there y x xs ne))

pub has_left : (x : ℕ) (xs ys : List ℕ) → Has x xs → Has x (xs ++ ys)
has_left x xs ys h = omega (arith, times-append x xs ys)

pub has_right : (x : ℕ) (xs ys : List ℕ) → Has x ys → Has x (xs ++ ys)
has_right x xs ys h = let both = times-append x xs ys in omega arith

pub has_either : (x : ℕ) (xs ys : List ℕ) → Has x (xs ++ ys) → Has x xs ⊎ Has x ys
has_either x xs ys h = dite (dec_lt 0 (times x xs)) inl (λ none_left. inr (let both = times-append x xs ys in omega arith))

pub has_snoc : (x y : ℕ) (xs : List ℕ) → Has x (xs ++ y ∷ []) → Has x xs ⊎ (x ≡ y)
has_snoc x y xs h = dite (ℕ_discrete y x) (λ e. inr (sym e)) (λ ne. inl (let none = not_last x y ne in omega (arith, times-append x xs (y ∷ []))))

pub has_last : (x : ℕ) (xs : List ℕ) → Has x (xs ++ x ∷ [])
has_last x xs = let one = is_last x in omega (arith, times-append x xs (x ∷ []))

pub once_snoc : (x y : ℕ) (xs : List ℕ) → times x xs ≤ 1 → times y xs ≡ 0 → times x (xs ++ y ∷ []) ≤ 1
once_snoc x y xs le none = dite (ℕ_discrete y x) (λ e. omega (arith, times-append x xs (y ∷ []), ap (λ (n : ℕ). times n xs) e, last_le x y)) (λ ne. let zero_last = not_last x y ne in omega (arith, times-append x xs (y ∷ [])))

-- each member of the one is none of the other
pub once_joined : (x : ℕ) (xs ys : List ℕ) → times x xs ≤ 1 → times x ys ≤ 1 → (Has x xs → Has x ys → ⊥) → times x (xs ++ ys) ≤ 1
once_joined x xs ys h k apart = let both = times-append x xs ys in
    dite (dec_lt 0 (times x xs)) (λ here. dite (dec_lt 0 (times x ys)) (λ there. absurd (apart here there)) (λ none_there. omega arith)) (λ none_here. omega arith)

-- std's membership
pub has_contained : (x : ℕ) (xs : List ℕ) → Contains xs x → Has x xs
has_contained x [] h = absurd (omega (arith, h.1))
has_contained x (y ∷ ys) (zero, lt, is) = omega (arith, times_here x y ys is)
has_contained x (y ∷ ys) (suc k, lt, is) = has_there y x ys (has_contained x ys (k, (omega arith), is))

pub contains_had : (x : ℕ) (xs : List ℕ) → Has x xs → Contains xs x
contains_had x [] h = absurd (omega arith)
contains_had x (y ∷ ys) h = dite (ℕ_discrete y x) (λ e. (0, (omega arith), e)) (λ ne. let there = contains_had x ys (has_further x y ys ne h) in (suc there.0, omega (arith, there.1), there.2))

-- ---- counts of members

abbrev pub one_if : Bool → ℕ
one_if b = cond b 1 0

pub count_same : (p q : ℕ → Bool) (xs : List ℕ) → ((x : ℕ) → Has x xs → p x ≡ q x) → count_by p xs ≡ count_by q xs
count_same p q [] h = refl
count_same p q (x ∷ xs) h =
    sum_by-cons (λ z. cond (p z) 1 0) x xs
    ∙ (ap₂ (λ (a b : ℕ). a + b) (ap (λ b. cond b 1 0) (h x (has_here x xs))) (count_same p q xs (λ y k. h y (has_there x y xs k)))
    ∙ sym (sum_by-cons (λ z. cond (q z) 1 0) x xs))

pub count-append : (p : ℕ → Bool) (xs ys : List ℕ) → count_by p (xs ++ ys) ≡ count_by p xs + count_by p ys
count-append p xs ys = sum_by-append (λ z. cond (p z) 1 0) xs ys

pub count_one : (p : ℕ → Bool) (x : ℕ) (b : Bool) → p x ≡ b → count_by p (x ∷ []) ≡ cond b 1 0
count_one p x b e = sum_by-cons (λ z. cond (p z) 1 0) x [] ∙ (add-zero _ ∙ ap (λ c. cond c 1 0) e)

-- one member that is counted is counted no more
pub count_less : (p q : ℕ → Bool) (x : ℕ) (xs : List ℕ) → times x xs ≡ 1 → ((y : ℕ) → y ≢ x → p y ≡ q y) → p x ≡ true → q x ≡ false → count_by q xs + 1 ≡ count_by p xs
count_less p q x [] one same yes_p no_q = absurd (omega arith)
count_less p q x (y ∷ ys) one same yes_p no_q = dite (ℕ_discrete y x)
    (λ e.
    let none_left : times x ys ≡ 0 = omega (arith, times_here x y ys e) in
    let rest : count_by p ys ≡ count_by q ys = count_same p q ys (λ z k. same z (λ is. absurd (omega (arith, none_left, ap (λ (n : ℕ). times n ys) is)))) in
    let here_p : one_if (p y) ≡ 1 = ap (λ z. one_if (p z)) e ∙ ap one_if yes_p in
    let here_q : one_if (q y) ≡ 0 = ap (λ z. one_if (q z)) e ∙ ap one_if no_q in
    omega (arith, sum_by-cons (λ z. cond (p z) 1 0) y ys, sum_by-cons (λ z. cond (q z) 1 0) y ys))
    (λ ne.
    let rest = count_less p q x ys (omega (arith, times_there x y ys ne)) same yes_p no_q in
    let here : one_if (p y) ≡ one_if (q y) = ap one_if (same y ne) in
    omega (arith, sum_by-cons (λ z. cond (p z) 1 0) y ys, sum_by-cons (λ z. cond (q z) 1 0) y ys))

-- a counted member is there
pub count_some : (p : ℕ → Bool) (x : ℕ) (xs : List ℕ) → Has x xs → p x ≡ true → 0 < count_by p xs
count_some p x [] h is = absurd (omega arith)
count_some p x (y ∷ ys) h is = dite (ℕ_discrete y x)
    (λ e. let here : one_if (p y) ≡ 1 = ap (λ z. one_if (p z)) e ∙ ap one_if is in omega (arith, sum_by-cons (λ z. cond (p z) 1 0) y ys))
    (λ ne. omega (arith, sum_by-cons (λ z. cond (p z) 1 0) y ys, count_some p x ys (has_further x y ys ne h) is))

-- ---- what was made under a run

pub made_past : (a s : ℕ) (by : List ℕ) (place : ℕ) → length by ≤ place → made_at a s by place ≡ 0
made_past a s [] place h = refl
made_past a s (w ∷ ws) zero h = absurd (omega arith)
made_past a s (w ∷ ws) (suc place) h = made_past a s ws place (omega arith)

pub made_snoc : (a s : ℕ) (by : List ℕ) (w place : ℕ) → made_at a s (by ++ w ∷ []) place ≡ made_at a s by place + (if length by == place then in_run a s w else 0)
made_snoc a s [] w zero = sym (zero-add (in_run a s w))
made_snoc a s [] w (suc place) = grind (arith, nat_tests)
made_snoc a s (x ∷ xs) w zero = grind (arith, nat_tests)
made_snoc a s (x ∷ xs) w (suc place) = made_snoc a s xs w place ∙ grind (arith, nat_tests)

in_run_join : (a s t w : ℕ) → in_run a (s + t) w ≡ in_run a s w + in_run (a + s) t w
in_run_join a s t w = grind (arith, nat_tests)

pub made_join : (a s t : ℕ) (by : List ℕ) (place : ℕ) → made_at a (s + t) by place ≡ made_at a s by place + made_at (a + s) t by place
made_join a s t [] place = refl
made_join a s t (w ∷ ws) zero = in_run_join a s t w
made_join a s t (w ∷ ws) (suc place) = made_join a s t ws place

pub in_run_first : (a s : ℕ) → 0 < s → in_run a s a ≡ 1
in_run_first a s h = grind (arith, nat_tests)

pub in_run_in : (a s w : ℕ) → a ≤ w → w < a + s → in_run a s w ≡ 1
in_run_in a s w h l = grind (arith, nat_tests)

-- a worker number outside the run
pub in_run_out : (a s w : ℕ) → (a ≤ w → w < a + s → ⊥) → in_run a s w ≡ 0
in_run_out a s w h = grind (arith, nat_tests)

in_run_le : (a s w : ℕ) → in_run a s w ≤ 1
in_run_le a s w = grind (arith, nat_tests)

pub made_le : (a s : ℕ) (by : List ℕ) (place : ℕ) → made_at a s by place ≤ 1
made_le a s [] place = omega arith
made_le a s (w ∷ ws) zero = in_run_le a s w
made_le a s (w ∷ ws) (suc place) = made_le a s ws place

pub made_none : (a : ℕ) (by : List ℕ) (place : ℕ) → made_at a 0 by place ≡ 0
made_none a [] place = refl
made_none a (w ∷ ws) zero = in_run_out a 0 w (λ h l. omega arith)
made_none a (w ∷ ws) (suc place) = made_none a ws place

-- what was made under a run, after one entry more
pub made_before : (a s : ℕ) (by : List ℕ) (w place : ℕ) → place < length by → made_at a s (by ++ w ∷ []) place ≡ made_at a s by place
made_before a s by w place lt = made_snoc a s by w place ∙ grind (arith, nat_tests)

pub made_last : (a s : ℕ) (by : List ℕ) (w place : ℕ) → place ≡ length by → made_at a s (by ++ w ∷ []) place ≡ in_run a s w
made_last a s by w place is = made_snoc a s by w place ∙ (ap (λ (z : ℕ). z + (if length by == place then in_run a s w else 0)) (made_past a s by place (omega arith)) ∙ rw (eq-eqb (length by) place (sym is)) (zero-add (in_run a s w)))

pub made_here : (a s : ℕ) (by : List ℕ) (place : ℕ) → place ≡ length by → 0 < s → made_at a s (by ++ a ∷ []) place ≡ 1
made_here a s by place is share = made_last a s by a place is ∙ in_run_first a s share

-- the own places after one more
pub own_place : (a s : ℕ) (by places : List ℕ) (place end : ℕ) → end ≡ length by → 0 < s → times place places ≡ made_at a s by place → times place (places ++ end ∷ []) ≡ made_at a s (by ++ a ∷ []) place
own_place a s by places place end at share was = dite (ℕ_discrete end place)
    (λ e. times-append place places (end ∷ []) ∙ (omega (arith, was, times_here place end [] e, made_past a s by place (omega arith)) ∙ sym (made_here a s by place (sym e ∙ at) share)))
    (λ ne. times-append place places (end ∷ []) ∙ (omega (arith, was, times_there place end [] ne) ∙ sym (made_snoc a s by a place ∙ (ap (λ b. made_at a s by place + cond b (in_run a s a) 0) (ne_eqb (length by) place (λ z. ne (at ∙ z))) ∙ add-zero _))))

pub own_early : (places : List ℕ) (place end : ℕ) → end < place → times place places ≡ 0 → times place (places ++ end ∷ []) ≡ 0
own_early places place end lt was = times-append place places (end ∷ []) ∙ omega (arith, not_last place end (λ e. omega arith))

pub other_place : (a s : ℕ) (by : List ℕ) (w place : ℕ) → (a ≤ w → w < a + s → ⊥) → made_at a s by place ≡ made_at a s (by ++ w ∷ []) place
other_place a s by w place out = sym (made_snoc a s by w place ∙ (ap (λ (z : ℕ). made_at a s by place + (if length by == place then z else 0)) (in_run_out a s w out) ∙ grind (arith, nat_tests)))

-- where all worker numbers are in the run, each place is
pub made_all : (n : ℕ) (by : List ℕ) (place : ℕ) → ((k w : ℕ) → slice_get by k ≡ Some w → w < n) → made_at 0 n by place ≡ once_below place (length by)
made_all n [] place all = grind (arith, nat_tests)
made_all n (w ∷ ws) zero all = in_run_in 0 n w (omega arith) (omega (arith, all 0 w refl)) ∙ grind (arith, nat_tests)
made_all n (w ∷ ws) (suc place) all = made_all n ws place (λ k x e. all (suc k) x e) ∙ grind (arith, nat_tests)
