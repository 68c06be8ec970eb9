-- The pairs of the imports that wait.
use Rattle.std.proofs.Common.{◌≡◌, ℕ, ◌+◌, ◌≤◌, Bool, true, false, cond, not, ◌&&◌, ◌==◌, inl, inr, List, [], ◌∷◌, ◌++◌, length, filter, Option, Some, None, is_none, refl, sym, ap, ap₂, subst, ◌∙◌, arith, true≢false, eq-eqb, eqb-true}
use Rattle.std.proofs.lemmas.Bool.{both_ways, false_from_ne_true, and_parts, and_from}
use Rattle.std.proofs.lemmas.List.Elements.{filter_map-append}
use Rattle.std.specs.List.{cons_option}
use Rattle.histories.proofs.Members.{In}
use Rattle.histories.proofs.Members.{any_to, any_from}
use Rattle.registry_tables.specs.declared.imports.Waiting.{Waiting}
use Rattle.registry_tables.specs.Imported.{pair_by, pairs_in, without, IsTied, is_ended_in}
use Rattle.registry_tables.specs.Tabled.{Tabled, fate_in}

not_not : (b : Bool) → not (not b) ≡ b
not_not true = refl
not_not false = refl

-- there are no more pairs than imports
length_cons : (o : Option (ℕ × ℕ)) (ps : List (ℕ × ℕ)) → length (cons_option o ps) ≤ length ps + 1
length_cons None ps = omega arith
length_cons (Some p) ps = omega arith

pub pairs_few : (waiting : List Waiting) → length (pairs_in waiting) ≤ length waiting
pairs_few [] = omega arith
pairs_few (w ∷ ws) = let a = pairs_few ws in let b = length_cons (pair_by w.holder w.unit) (pairs_in ws) in omega arith

pub pairs_push : (waiting : List Waiting) (w : Waiting) → pairs_in (waiting ++ w ∷ []) ≡ pairs_in waiting ++ pairs_in (w ∷ [])
pairs_push waiting w = filter_map-append (λ (x : Waiting). pair_by x.holder x.unit) waiting (w ∷ [])

-- a test of pairs that agrees with a test of imports
filter_step : (q : ℕ × ℕ → Bool) (t : Waiting → Bool) (w : Waiting) (ws : List Waiting) → filter q (pairs_in ws) ≡ pairs_in (filter t ws) → ((h : ℕ) → w.holder ≡ Some h → q (h, w.unit) ≡ t w) → (o : Option ℕ) → w.holder ≡ o → (b : Bool) → t w ≡ b → filter q (cons_option (pair_by o w.unit) (pairs_in ws)) ≡ pairs_in (cond b (w ∷ filter t ws) (filter t ws))
filter_step q t w ws ih agree None e true s = ih ∙ sym (ap (λ o. cons_option (pair_by o w.unit) (pairs_in (filter t ws))) e)
filter_step q t w ws ih agree None e false s = ih
filter_step q t w ws ih agree (Some h) e true s = ap (λ b. cond b ((h, w.unit) ∷ filter q (pairs_in ws)) (filter q (pairs_in ws))) (agree h e ∙ s) ∙ ap (λ (ps : List (ℕ × ℕ)). (h, w.unit) ∷ ps) ih ∙ sym (ap (λ o. cons_option (pair_by o w.unit) (pairs_in (filter t ws))) e)
filter_step q t w ws ih agree (Some h) e false s = ap (λ b. cond b ((h, w.unit) ∷ filter q (pairs_in ws)) (filter q (pairs_in ws))) (agree h e ∙ s) ∙ ih

pub pairs_filter : (q : ℕ × ℕ → Bool) (t : Waiting → Bool) → (ws : List Waiting) → ((w : Waiting) → In w ws → (h : ℕ) → w.holder ≡ Some h → q (h, w.unit) ≡ t w) → filter q (pairs_in ws) ≡ pairs_in (filter t ws)
pairs_filter q t [] agree = refl
pairs_filter q t (w ∷ ws) agree = filter_step q t w ws (pairs_filter q t ws (λ x there. agree x (inr there))) (agree w (inl refl)) w.holder refl (t w) refl

pub filter_alike_in : {A : Type 0} (p q : A → Bool) → (xs : List A) → ((x : A) → In x xs → p x ≡ q x) → filter p xs ≡ filter q xs
filter_alike_in p q [] same = refl
filter_alike_in p q (x ∷ xs) same = ap₂ (λ b ys. cond b (x ∷ ys) ys) (same x (inl refl)) (filter_alike_in p q xs (λ y there. same y (inr there)))

-- whether it is within and has ended, of those within
pub within_ended : (within bare : Bool) → within ≡ true → not (within && not bare) ≡ bare
within_ended true bare e = not_not bare
within_ended false bare e = absurd (true≢false (sym e))

-- the imports of a connection that goes
same_test : (a b : ℕ) (m n : ℕ) → (a ≡ b → m ≡ n) → (m ≡ n → a ≡ b) → (a == b) ≡ (m == n)
same_test a b m n to from = grind arith

pub pairs_without : (conn : ℕ) (holder : Option ℕ) (ws : List Waiting) → ((w : Waiting) → In w ws → IsTied conn holder w) → without holder (pairs_in ws) ≡ pairs_in (filter (λ w. not (w.conn == conn)) ws)
pairs_without conn (Some unit) ws tied =
    pairs_filter (λ p. not (p.0 == unit)) (λ w. not (w.conn == conn)) ws (λ w there h e. ap not (same_test h unit w.conn conn (λ s. (tied w there).same_conn unit (e ∙ ap (λ x. Some x) s) refl) (λ s. (let q : Some h ≡ Some unit = sym e ∙ (tied w there).same_holder s in cc))))
pairs_without conn None ws tied =
    sym (all_pass (pairs_in ws)) ∙ pairs_filter (λ p. true) (λ w. not (w.conn == conn)) ws (λ w there h e. sym (ap not (false_from_ne_true (w.conn == conn) (λ s. (let q : Some h ≡ None = sym e ∙ (tied w there).same_holder (eqb-true w.conn conn s) in absurd (cc))))))
  where
    all_pass : (ps : List (ℕ × ℕ)) → filter (λ p. true) ps ≡ ps
    all_pass [] = refl
    all_pass (p ∷ ps) = ap (λ qs. p ∷ qs) (all_pass ps)

-- the imports whose unit has ended
pub ended_is : (t : Tabled) (all : List Waiting) (w : Waiting) → In w all → is_ended_in t all w.unit ≡ not (is_none (fate_in t w.unit))
ended_is t all w there = by (not (is_none (fate_in t w.unit))) refl
  where
    by : (b : Bool) → not (is_none (fate_in t w.unit)) ≡ b → is_ended_in t all w.unit ≡ b
    by true e = any_from (λ x. not (is_none (fate_in t x.unit)) && x.unit == w.unit) w (and_from _ _ e (eq-eqb w.unit w.unit refl)) all there
    by false e = false_from_ne_true _ (λ h. let found = any_to (λ x. not (is_none (fate_in t x.unit)) && x.unit == w.unit) all h in let parts = and_parts (not (is_none (fate_in t found.0.unit))) (found.0.unit == w.unit) found.2 in both_ways (not (is_none (fate_in t w.unit))) e (subst (λ u. not (is_none (fate_in t u)) ≡ true) (eqb-true found.0.unit w.unit parts.1) parts.0))

pub pairs_settled : (t : Tabled) (all : List Waiting) (ws : List Waiting) → ((w : Waiting) → In w ws → In w all) → filter (λ p. not (is_ended_in t all p.1)) (pairs_in ws) ≡ pairs_in (filter (λ w. is_none (fate_in t w.unit)) ws)
pairs_settled t all ws within =
    pairs_filter (λ p. not (is_ended_in t all p.1)) (λ w. is_none (fate_in t w.unit)) ws (λ w there h e. ap not (ended_is t all w (within w there)) ∙ not_not (is_none (fate_in t w.unit)))
