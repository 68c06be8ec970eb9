-- Tests of all open connections and of all imports that wait, in the order in which the code takes them.
use Rattle.std.proofs.Common.{◌≡◌, ℕ, Bool, true, false, ◌&&◌, ◌||◌, ◌==◌, inl, inr, List, [], ◌∷◌, reverse, is_none, refl, sym, ap, ap₂, subst, ◌∙◌}
use Rattle.std.proofs.lemmas.List.{reverse-append}
use Rattle.std.proofs.lemmas.List.Folds.{list_any-append, list_all-append}
use Rattle.std.specs.List.{list_any, list_all}
use Rattle.histories.specs.Members.{In}
use Rattle.histories.proofs.Members.{In-reverse}
use Rattle.registry_tables.specs.declared.imports.Waiting.{Waiting}
use Rattle.registry_tables.specs.Stalled.{AreWithin, is_waiting_in}
use Rattle.registry_tables.specs.Tabled.{Tabled, fate_in}

-- a list and its reverse pass a test alike
pub any_reversed : {A : Type 0} (p : A → Bool) → (xs : List A) → list_any p (reverse xs) ≡ list_any p xs
any_reversed p [] = refl
any_reversed p (x ∷ xs) =
    ap (λ ys. list_any p ys) (reverse-append (x ∷ []) xs)
    ∙ list_any-append p (reverse xs) (x ∷ [])
    ∙ ap (λ b. b || (p x || false)) (any_reversed p xs)
    ∙ turned (p x) (list_any p xs)
  where
    turned : (a b : Bool) → (b || (a || false)) ≡ (a || b)
    turned true true = refl
    turned true false = refl
    turned false true = refl
    turned false false = refl

pub all_reversed : {A : Type 0} (p : A → Bool) → (xs : List A) → list_all p (reverse xs) ≡ list_all p xs
all_reversed p [] = refl
all_reversed p (x ∷ xs) =
    ap (λ ys. list_all p ys) (reverse-append (x ∷ []) xs)
    ∙ list_all-append p (reverse xs) (x ∷ [])
    ∙ ap (λ b. b && (p x && true)) (all_reversed p xs)
    ∙ turned (p x) (list_all p xs)
  where
    turned : (a b : Bool) → (b && (a && true)) ≡ (a && b)
    turned true true = refl
    turned true false = refl
    turned false true = refl
    turned false false = refl

-- a test of two parts
pub all_of_both : {A : Type 0} (p q : A → Bool) → (xs : List A) → list_all (λ x. p x && q x) xs ≡ (list_all p xs && list_all q xs)
all_of_both p q [] = refl
all_of_both p q (x ∷ xs) = ap (λ b. (p x && q x) && b) (all_of_both p q xs) ∙ regrouped (p x) (q x) (list_all p xs) (list_all q xs)
  where
    regrouped : (a b c d : Bool) → ((a && b) && (c && d)) ≡ ((a && c) && (b && d))
    regrouped true true c d = refl
    regrouped true false true d = refl
    regrouped true false false d = refl
    regrouped false b c d = refl

-- the imports that the tables have rows for, the oldest first
pub within_turned : (t : Tabled) (items waiting : List Waiting) → reverse items ≡ waiting → AreWithin t waiting → AreWithin t items
within_turned t items waiting same a = record {
  units = λ w there. a.units w (subst (λ (ws : List Waiting). In w ws) same (In-reverse w items there));
  conns = λ w there. a.conns w (subst (λ (ws : List Waiting). In w ws) same (In-reverse w items there));
}

-- where the unit of none has ended, a connection waits exactly where one of them is its own
pub waits_alike : (t : Tabled) (conn : ℕ) → (ws : List Waiting) → ((w : Waiting) → In w ws → is_none (fate_in t w.unit) ≡ true) → list_any (λ w. w.conn == conn) ws ≡ is_waiting_in t ws conn
waits_alike t conn [] none = refl
waits_alike t conn (w ∷ ws) none = ap₂ (λ a b. a || b) (sym (ap (λ b. w.conn == conn && b) (none w (inl refl)) ∙ and_true (w.conn == conn))) (waits_alike t conn ws (λ x there. none x (inr there)))
  where
    and_true : (b : Bool) → (b && true) ≡ b
    and_true true = refl
    and_true false = refl
