-- How many imports of each connection wait.
use Rattle.std.proofs.Common.{◌≡◌, ℕ, zero, suc, ◌+◌, ◌-◌, ◌≤◌, Bool, true, false, cond, not, ◌&&◌, ◌||◌, ◌==◌, List, [], ◌∷◌, ◌++◌, length, filter, get_or, is_none, refl, ap, ◌∙◌, arith, ne_eqb}
use Rattle.std.specs.Prelude.{if◌then◌else◌}
use Rattle.std.specs.List.{list_any}
use Rattle.registry_tables.specs.declared.imports.Waiting.{Waiting}
use Rattle.registry_tables.specs.Imported.{count_of}
use Rattle.registry_tables.specs.Tabled.{Tabled, fate_in}
use Rattle.registry_tables.proofs.Openings.{filter_alike, filter_twice}
use Rattle.registry_tables.proofs.Settling.{none_pass}

-- ---- numbers by place

-- one more 0 behind the numbers
pub zero_behind : (xs : List ℕ) (k : ℕ) → get_or (xs ++ 0 ∷ []) k 0 ≡ get_or xs k 0
zero_behind [] zero = refl
zero_behind [] (suc k) = refl
zero_behind (x ∷ xs) zero = refl
zero_behind (x ∷ xs) (suc k) = zero_behind xs k

-- ---- the imports of a connection

pub count_more : (w : Waiting) (ws : List Waiting) (c : ℕ) → count_of (w ∷ ws) c ≡ (if w.conn == c then 1 else 0) + count_of ws c
count_more w ws c = by (w.conn == c)
  where
    by : (b : Bool) → length (cond b (w ∷ filter (λ x. x.conn == c) ws) (filter (λ x. x.conn == c) ws)) ≡ (if b then 1 else 0) + length (filter (λ x. x.conn == c) ws)
    by true = omega arith
    by false = omega arith

pub count_push : (ws : List Waiting) (w : Waiting) (c : ℕ) → count_of (ws ++ w ∷ []) c ≡ (if w.conn == c then 1 else 0) + count_of ws c
count_push [] w c = count_more w [] c
count_push (x ∷ ws) w c =
    swapped (if x.conn == c then 1 else 0) (if w.conn == c then 1 else 0) (count_of (x ∷ (ws ++ w ∷ [])) c) (count_of (ws ++ w ∷ []) c) (count_of ws c) (count_of (x ∷ ws) c) (count_more x (ws ++ w ∷ []) c) (count_push ws w c) (count_more x ws c)
  where
    swapped : (a b whole more few one : ℕ) → whole ≡ a + more → more ≡ b + few → one ≡ a + few → whole ≡ b + one
    swapped a b whole more few one e f g = omega arith

pub count_few : (ws : List Waiting) (c : ℕ) → count_of ws c ≤ length ws
count_few [] c = omega arith
count_few (w ∷ ws) c = by (count_few ws c) (w.conn == c) (count_more w ws c)
  where
    by : count_of ws c ≤ length ws → (b : Bool) → count_of (w ∷ ws) c ≡ (if b then 1 else 0) + count_of ws c → count_of (w ∷ ws) c ≤ length (w ∷ ws)
    by ih true e = omega arith
    by ih false e = omega arith

-- those that pass a test, and those that don't
pub count_split : (p : Waiting → Bool) (ws : List Waiting) (c : ℕ) → count_of ws c ≡ count_of (filter p ws) c + count_of (filter (λ w. not (p w)) ws) c
count_split p [] c = refl
count_split p (w ∷ ws) c = by (count_split p ws c) (p w)
  where
    left : (a whole one rest f g : ℕ) → whole ≡ a + rest → rest ≡ f + g → one ≡ a + f → whole ≡ one + g
    left a whole one rest f g e h k = omega arith

    right : (a whole one rest f g : ℕ) → whole ≡ a + rest → rest ≡ f + g → one ≡ a + g → whole ≡ f + one
    right a whole one rest f g e h k = omega arith

    by : count_of ws c ≡ count_of (filter p ws) c + count_of (filter (λ x. not (p x)) ws) c → (b : Bool) → count_of (w ∷ ws) c ≡ count_of (cond b (w ∷ filter p ws) (filter p ws)) c + count_of (cond (not b) (w ∷ filter (λ x. not (p x)) ws) (filter (λ x. not (p x)) ws)) c
    by ih true = left (if w.conn == c then 1 else 0) _ _ _ _ _ (count_more w ws c) ih (count_more w (filter p ws) c)
    by ih false = right (if w.conn == c then 1 else 0) _ _ _ _ _ (count_more w ws c) ih (count_more w (filter (λ x. not (p x)) ws) c)

-- without those of a connection
pub count_without : (conn : ℕ) (ws : List Waiting) (c : ℕ) → count_of (filter (λ w. not (w.conn == conn)) ws) c ≡ (if conn == c then 0 else count_of ws c)
count_without conn ws c = ap length (filter_twice (λ (w : Waiting). w.conn == c) (λ w. not (w.conn == conn)) ws) ∙ by (conn == c) refl
  where
    gone : (n conn c : ℕ) → (conn == c) ≡ true → (not (n == conn) && n == c) ≡ false
    gone n conn c e = grind arith

    stay : (n conn c : ℕ) → (conn == c) ≡ false → (not (n == conn) && n == c) ≡ (n == c)
    stay n conn c e = grind arith

    by : (b : Bool) → (conn == c) ≡ b → length (filter (λ (w : Waiting). not (w.conn == conn) && w.conn == c) ws) ≡ (if b then 0 else count_of ws c)
    by true e = ap length (none_pass (λ (w : Waiting). not (w.conn == conn) && w.conn == c) ws (λ w there. gone w.conn conn c e))
    by false e = ap length (filter_alike (λ (w : Waiting). not (w.conn == conn) && w.conn == c) (λ w. w.conn == c) (λ w. stay w.conn conn c e) ws)

-- whether a connection waits
pub any_counted : (ws : List Waiting) (c : ℕ) → not (count_of ws c == 0) ≡ list_any (λ w. w.conn == c) ws
any_counted [] c = refl
any_counted (w ∷ ws) c = by (any_counted ws c) (w.conn == c)
  where
    by : not (count_of ws c == 0) ≡ list_any (λ x. x.conn == c) ws → (b : Bool) → not (length (cond b (w ∷ filter (λ x. x.conn == c) ws) (filter (λ x. x.conn == c) ws)) == 0) ≡ (b || list_any (λ x. x.conn == c) ws)
    by ih true = ap not (ne_eqb (suc (length (filter (λ (x : Waiting). x.conn == c) ws))) 0 (λ same. omega arith))
    by ih false = ih

-- ---- the imports whose unit has ended are taken off one by one

abbrev pub ahead_of : Tabled → List Waiting → ℕ → ℕ
ahead_of t ws c = count_of (filter (λ w. not (is_none (fate_in t w.unit))) ws) c

pub ended_off : (t : Tabled) (w : Waiting) (rest : List Waiting) (c n m : ℕ) → not (is_none (fate_in t w.unit)) ≡ true → n ≡ m + ahead_of t (w ∷ rest) c → n - (if w.conn == c then 1 else 0) ≡ m + ahead_of t rest c
ended_off t w rest c n m ended is =
    off (if w.conn == c then 1 else 0) n m (ahead_of t (w ∷ rest) c) (ahead_of t rest c) is (ap (λ b. count_of (cond b (w ∷ filter (λ x. not (is_none (fate_in t x.unit))) rest) (filter (λ x. not (is_none (fate_in t x.unit))) rest)) c) ended ∙ count_more w (filter (λ x. not (is_none (fate_in t x.unit))) rest) c)
  where
    off : (a n m whole rest : ℕ) → n ≡ m + whole → whole ≡ a + rest → n - a ≡ m + rest
    off a n m whole rest e f = omega arith

pub none_off : (t : Tabled) (w : Waiting) (rest : List Waiting) (c n m : ℕ) → not (is_none (fate_in t w.unit)) ≡ false → n ≡ m + ahead_of t (w ∷ rest) c → n ≡ m + ahead_of t rest c
none_off t w rest c n m stays is = is ∙ ap (λ b. m + count_of (cond b (w ∷ filter (λ x. not (is_none (fate_in t x.unit))) rest) (filter (λ x. not (is_none (fate_in t x.unit))) rest)) c) stays
