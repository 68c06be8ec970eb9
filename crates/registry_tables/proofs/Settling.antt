-- The loops over the imports that wait.
use Rattle.std.proofs.Common.{◌≡◌, ◌⊎◌, ℕ, ◌+◌, ◌<◌, Bool, true, false, not, ◌||◌, ◌&&◌, ◌==◌, inl, inr, List, [], ◌∷◌, ◌++◌, length, map, filter, reverse, take, drop, get_or, set, Option, None, is_none, refl, sym, ap, subst, ◌∙◌, arith, get_or-set_same, get_or-set_other, add-one, length-set}
use Rattle.std.proofs.Math.Seq.{drop-cons, take-suc}
use Rattle.std.proofs.lemmas.Bool.{cases_eq, both_ways, cond-false}
use Rattle.std.proofs.lemmas.List.{map-append, get_or_default, reverse-append, reverse-reverse}
use Rattle.histories.specs.declared.answer.Answer.{Answer}
use Rattle.histories.proofs.Members.{In}
use Rattle.histories.proofs.Members.{In-at, In-reverse}
use Rattle.wait_graph.specs.Graph.{Graph}
use Rattle.registry_tables.specs.declared.imports.Waiting.{Waiting}
use Rattle.registry_tables.specs.Imported.{Settles, is_ended_in, ended_places}
use Rattle.registry_tables.specs.Tabled.{Tabled, fate_in}
use Rattle.registry_tables.proofs.Openings.{filter_alike, filter_twice, reverse_filter}

-- the element at an index is one of the list
pub in_at : {A : Type 0} (xs : List A) (i : ℕ) (d : A) → i < length xs → In (get_or xs i d) xs
in_at xs i d below = In-at (get_or xs i d) xs i below (get_or_default xs i (get_or xs i d) d below)

pub newest_more : {A : Type 0} (xs : List A) (i : ℕ) (d : A) → i < length xs → reverse (take (i + 1) xs) ≡ get_or xs i d ∷ reverse (take i xs)
newest_more xs i d below =
    ap (λ n. reverse (take n xs)) (add-one i) ∙ ap reverse (take-suc xs i d below) ∙ reverse-append (take i xs) (get_or xs i d ∷ [])

-- each reply is right, or its import is still ahead
pub record Ahead (t : Tabled) (ahead : List Waiting) (replies : List (Option Answer)) (reply : ℕ → Option Answer) : Type 0 where
  pub right : (k : ℕ) → k < length replies → (get_or replies k None ≡ reply k) ⊎ ((w : Waiting) × In w ahead × (w.place ≡ k) × (is_none (fate_in t w.unit) ≡ false))

pub ahead_start : (t : Tabled) (waiting : List Waiting) (replies : List (Option Answer)) (reply : ℕ → Option Answer) → Settles t (reverse waiting) replies reply → Ahead t waiting replies reply
ahead_start t waiting replies reply s = record {
  right = λ k below. elim (s.others k below) [
    | inl is ↦ inl is
    | inr w ↦ inr (w.0, subst (λ xs. In w.0 xs) (reverse-reverse waiting) (In-reverse w.0 (reverse waiting) w.1), w.2, w.3)
  ];
}

pub ahead_passes : (t : Tabled) (w : Waiting) (ahead : List Waiting) (replies : List (Option Answer)) (reply : ℕ → Option Answer) → fate_in t w.unit ≡ None → Ahead t (w ∷ ahead) replies reply → Ahead t ahead replies reply
ahead_passes t w ahead replies reply none a = record {
  right = λ k below. elim (a.right k below) [
    | inl is ↦ inl is
    | inr x ↦ other k x.0 x.1 x.2 x.3
  ];
}
  where
    other : (k : ℕ) (x : Waiting) → In x (w ∷ ahead) → x.place ≡ k → is_none (fate_in t x.unit) ≡ false → (get_or replies k None ≡ reply k) ⊎ ((y : Waiting) × In y ahead × (y.place ≡ k) × (is_none (fate_in t y.unit) ≡ false))
    other k x (inl same) p f = absurd (both_ways (is_none (fate_in t x.unit)) f (subst (λ (y : Waiting). is_none (fate_in t y.unit) ≡ true) same (ap (λ o. is_none o) none)))
    other k x (inr there) p f = inr (x, there, p, f)

pub ahead_writes : (t : Tabled) (w : Waiting) (ahead : List Waiting) (replies : List (Option Answer)) (reply : ℕ → Option Answer) (answer : Option Answer) → w.place < length replies → answer ≡ reply w.place → Ahead t (w ∷ ahead) replies reply → Ahead t ahead (set replies w.place answer) reply
ahead_writes t w ahead replies reply answer within is a = record { right = λ k below. at k (cases_eq k w.place) (let l : length (set replies w.place answer) ≡ length replies = length-set replies w.place answer in omega arith) }
  where
    other : (k : ℕ) (x : Waiting) → (k ≡ w.place → ⊥) → In x (w ∷ ahead) → x.place ≡ k → is_none (fate_in t x.unit) ≡ false → (get_or (set replies w.place answer) k None ≡ reply k) ⊎ ((y : Waiting) × In y ahead × (y.place ≡ k) × (is_none (fate_in t y.unit) ≡ false))
    other k x ne (inl same) p f = absurd (ne (sym p ∙ sym (ap (λ (y : Waiting). y.place) same)))
    other k x ne (inr there) p f = inr (x, there, p, f)

    at : (k : ℕ) → (k ≡ w.place) ⊎ (k ≡ w.place → ⊥) → k < length replies → (get_or (set replies w.place answer) k None ≡ reply k) ⊎ ((y : Waiting) × In y ahead × (y.place ≡ k) × (is_none (fate_in t y.unit) ≡ false))
    at k (inl same) below = inl (subst (λ j. get_or (set replies w.place answer) j None ≡ reply j) (sym same) (get_or-set_same replies w.place answer None within ∙ is))
    at k (inr ne) below = elim (a.right k below) [
      | inl was ↦ inl (get_or-set_other replies w.place k answer None ne ∙ was)
      | inr x ↦ other k x.0 ne x.1 x.2 x.3
    ]

pub drop_more : {A : Type 0} (xs : List A) (i : ℕ) (d : A) → i < length xs → drop i xs ≡ get_or xs i d ∷ drop (i + 1) xs
drop_more xs i d below = drop-cons xs i d below ∙ ap (λ n. get_or xs i d ∷ drop n xs) (sym (add-one i))

-- the pairs after one more import
pub settles_more : (t : Tabled) (w : Waiting) (before : List Waiting) (pairs : List (ℕ × ℕ)) → not (is_none (fate_in t w.unit)) ≡ true → filter (λ p. not (p.1 == w.unit)) (filter (λ p. not (is_ended_in t before p.1)) pairs) ≡ filter (λ p. not (is_ended_in t (w ∷ before) p.1)) pairs
settles_more t w before pairs ended =
    filter_twice (λ p. not (p.1 == w.unit)) (λ p. not (is_ended_in t before p.1)) pairs
    ∙ filter_alike (λ p. not (is_ended_in t before p.1) && not (p.1 == w.unit)) (λ p. not (is_ended_in t (w ∷ before) p.1)) (λ p. both p.1) pairs
  where
    table : (a b : Bool) → (not b && not a) ≡ not (a || b)
    table true true = refl
    table true false = refl
    table false true = refl
    table false false = refl

    eqb_sym : (m n : ℕ) → (m == n) ≡ (n == m)
    eqb_sym m n = grind arith

    both : (u : ℕ) → (not (is_ended_in t before u) && not (u == w.unit)) ≡ not (is_ended_in t (w ∷ before) u)
    both u = ap (λ a. not (is_ended_in t before u) && not a) (eqb_sym u w.unit) ∙ table (w.unit == u) (is_ended_in t before u) ∙ ap (λ b. not ((b && w.unit == u) || is_ended_in t before u)) (sym ended)

pub settles_none : (t : Tabled) (w : Waiting) (before : List Waiting) (pairs : List (ℕ × ℕ)) → not (is_none (fate_in t w.unit)) ≡ false → filter (λ p. not (is_ended_in t before p.1)) pairs ≡ filter (λ p. not (is_ended_in t (w ∷ before) p.1)) pairs
settles_none t w before pairs stays =
    filter_alike (λ p. not (is_ended_in t before p.1)) (λ p. not (is_ended_in t (w ∷ before) p.1)) (λ p. ap (λ b. not ((b && w.unit == p.1) || is_ended_in t before p.1)) (sym stays)) pairs

map_reversed : {A B : Type 0} (f : A → B) → (xs : List A) → map f (reverse xs) ≡ reverse (map f xs)
map_reversed f [] = refl
map_reversed f (x ∷ xs) =
    ap (map f) (reverse-append (x ∷ []) xs)
    ∙ map-append f (reverse xs) (x ∷ [])
    ∙ ap (λ ys. ys ++ f x ∷ []) (map_reversed f xs)
    ∙ sym (reverse-append (f x ∷ []) (map f xs))

-- the places of those that have ended, of a list that starts with the oldest
pub ended_turned : (t : Tabled) (items : List Waiting) → map (λ (w : Waiting). w.place) (filter (λ w. not (is_none (fate_in t w.unit))) items) ≡ ended_places t (reverse items)
ended_turned t items =
    sym (ap (λ (ws : List Waiting). reverse (map (λ (w : Waiting). w.place) ws)) (sym (reverse_filter (λ w. not (is_none (fate_in t w.unit))) items))
    ∙ ap reverse (map_reversed (λ (w : Waiting). w.place) (filter (λ w. not (is_none (fate_in t w.unit))) items))
    ∙ reverse-reverse (map (λ (w : Waiting). w.place) (filter (λ w. not (is_none (fate_in t w.unit))) items)))

pub none_pass : {A : Type 0} (p : A → Bool) → (xs : List A) → ((x : A) → In x xs → p x ≡ false) → filter p xs ≡ []
none_pass p [] none = refl
none_pass p (x ∷ xs) none = cond-false _ _ _ (none x (inl refl)) ∙ none_pass p xs (λ y there. none y (inr there))

pub pass_all : {A : Type 0} (xs : List A) → xs ≡ filter (λ x. true) xs
pass_all [] = refl
pass_all (x ∷ xs) = ap (λ ys. x ∷ ys) (pass_all xs)

abbrev pub with_pairs : Graph → List (ℕ × ℕ) → Graph
with_pairs g pairs = record g { pairs = pairs }

abbrev pub settled_graph : Tabled → List Waiting → Graph → Graph
settled_graph t before g = record g { pairs = filter (λ p. not (is_ended_in t before p.1)) g.pairs }

pub graph_start : (t : Tabled) (g : Graph) → g ≡ settled_graph t [] g
graph_start t g = ap (λ (ps : List (ℕ × ℕ)). with_pairs g ps) (pass_all g.pairs)

settled_step : (t : Tabled) (w : Waiting) (before : List Waiting) (g0 g g' : Graph) (none : Bool) → is_none (fate_in t w.unit) ≡ none → g ≡ settled_graph t before g0 → (is_none (fate_in t w.unit) ≡ false → g' ≡ record g { pairs = filter (λ p. not (p.1 == w.unit)) g.pairs }) → (is_none (fate_in t w.unit) ≡ true → g' ≡ g) → g' ≡ settled_graph t (w ∷ before) g0
settled_step t w before g0 g g' true stays was gone same =
    same stays ∙ was ∙ ap (λ ps. with_pairs g0 ps) (settles_none t w before g0.pairs (ap (λ b. not b) stays))
settled_step t w before g0 g g' false ended was gone same =
    gone ended ∙ ap (λ (x : Graph). with_pairs x (filter (λ p. not (p.1 == w.unit)) x.pairs)) was ∙ ap (λ ps. with_pairs g0 ps) (settles_more t w before g0.pairs (ap (λ b. not b) ended))

-- the pairs that are left after one more import
pub graph_step : (t : Tabled) (w : Waiting) (before : List Waiting) (g0 g g' : Graph) → g ≡ settled_graph t before g0 → (is_none (fate_in t w.unit) ≡ false → g' ≡ record g { pairs = filter (λ p. not (p.1 == w.unit)) g.pairs }) → (is_none (fate_in t w.unit) ≡ true → g' ≡ g) → g' ≡ settled_graph t (w ∷ before) g0
graph_step t w before g0 g g' was gone same = settled_step t w before g0 g g' (is_none (fate_in t w.unit)) refl was gone same
