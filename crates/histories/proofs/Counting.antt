-- The open connections and the counts with one more entry, and their bounds.
use Rattle.std.proofs.Common.{◌≡◌, ℕ, ◌+◌, Bool, true, false, cond, not, ◌||◌, ◌&&◌, ◌==◌, inl, inr, List, [], ◌∷◌, length, filter, Some, None, refl, sym, ap, ap₂, subst, ◌∙◌, arith, eq-eqb, ne_eqb}
use Rattle.std.proofs.lemmas.Bool.{cond-true, cond-false}
use Rattle.std.proofs.lemmas.List.Elements.{filter_agree}
use Rattle.std.proofs.lemmas.List.Sums.{sum_by-cons}
use Rattle.std.specs.List.{cons_option}
use Rattle.unit_registry.specs.declared.act.Act.{Act}
use Rattle.unit_registry.specs.declared.act.Act.TheVariants.{Open, Left, Lost, Done}
use Rattle.unit_registry.specs.Acts.{is_open_act, is_done, goes}
use Rattle.histories.specs.declared.answered.Answered.{Answered}
use Rattle.histories.specs.Answered.{has_gone, is_open, opened, open_connections, opened_count, open_count, done_count}
use Rattle.histories.specs.Counts.{Effect, Opens, Goes, Ends, effect_of}
use Rattle.histories.proofs.Members.{In, In-filter}
use Rattle.histories.proofs.Stalls.{in_open}
use Rattle.histories.proofs.Steps.{Distinct, IsNumbered}

-- ---- the kinds of acts

abbrev pub does_open : Effect → Bool
does_open Opens = true
does_open _ = false

abbrev pub does_go : Effect → Bool
does_go Goes = true
does_go _ = false

abbrev pub does_end : Effect → Bool
does_end Ends = true
does_end _ = false

pub open_act : (act : Act) → is_open_act act ≡ does_open (effect_of act)
open_act Open = refl
open_act Left = refl
open_act Lost = refl
open_act Done = refl
open_act act = refl

pub going_act : (act : Act) → goes act ≡ does_go (effect_of act)
going_act Open = refl
going_act Left = refl
going_act Lost = refl
going_act Done = refl
going_act act = refl

pub done_act : (act : Act) → is_done act ≡ does_end (effect_of act)
done_act Open = refl
done_act Left = refl
done_act Lost = refl
done_act Done = refl
done_act act = refl

-- what the tests say of an act of a kind
pub record IsOfKind (act : Act) (effect : Effect) : Type 0 where
  pub opening : is_open_act act ≡ does_open effect
  pub going : goes act ≡ does_go effect
  pub ending : is_done act ≡ does_end effect

pub of_kind : (act : Act) (effect : Effect) → effect_of act ≡ effect → IsOfKind act effect
of_kind act effect e = record {
  opening = open_act act ∙ ap does_open e;
  going = going_act act ∙ ap does_go e;
  ending = done_act act ∙ ap does_end e;
}

-- ---- lists that are filtered

filter_twice_step : {A : Type 0} (p q : A → Bool) (x : A) (xs : List A) → filter p (filter q xs) ≡ filter (λ y. q y && p y) xs → (b : Bool) → filter p (cond b (x ∷ filter q xs) (filter q xs)) ≡ cond (b && p x) (x ∷ filter (λ y. q y && p y) xs) (filter (λ y. q y && p y) xs)
filter_twice_step p q x xs ih true = ap (λ ys. cond (p x) (x ∷ ys) ys) ih
filter_twice_step p q x xs ih false = ih

pub filter_twice : {A : Type 0} (p q : A → Bool) (xs : List A) → filter p (filter q xs) ≡ filter (λ y. q y && p y) xs
filter_twice p q [] = refl
filter_twice p q (x ∷ xs) = filter_twice_step p q x xs (filter_twice p q xs) (q x)

none_dropped : (c : ℕ) → (xs : List ℕ) → (In c xs → ⊥) → filter (λ x. not (x == c)) xs ≡ xs
none_dropped c [] h = refl
none_dropped c (x ∷ xs) h =
    cond-true _ _ _ (ap not (ne_eqb x c (λ e. h (inl e))))
    ∙ ap (λ ys. x ∷ ys) (none_dropped c xs (λ there. h (inr there)))

-- a connection that goes is exactly one less
one_dropped : (c : ℕ) → (xs : List ℕ) → Distinct xs → In c xs → length (filter (λ x. not (x == c)) xs) + 1 ≡ length xs
one_dropped c [] d h = absurd h
one_dropped c (x ∷ xs) d (inl e) =
    let a : length (filter (λ y. not (y == c)) (x ∷ xs)) ≡ length (filter (λ y. not (y == c)) xs) = ap length (cond-false _ _ _ (ap not (eq-eqb x c e))) in
    let b : length (filter (λ y. not (y == c)) xs) ≡ length xs = ap length (none_dropped c xs (subst (λ y. In y xs → ⊥) e d.0)) in
    omega arith
one_dropped c (x ∷ xs) d (inr h) =
    let a : length (filter (λ y. not (y == c)) (x ∷ xs)) ≡ length (x ∷ filter (λ y. not (y == c)) xs) = ap length (cond-true _ _ _ (ap not (ne_eqb x c (λ e. d.0 (subst (λ y. In y xs) (sym e) h))))) in
    let b = one_dropped c xs d.1 h in
    omega arith

distinct_step : (p : ℕ → Bool) (x : ℕ) (xs : List ℕ) → (In x xs → ⊥) → Distinct (filter p xs) → (b : Bool) → Distinct (cond b (x ∷ filter p xs) (filter p xs))
distinct_step p x xs h d true = ((λ there. h (In-filter p x xs there).0), d)
distinct_step p x xs h d false = d

distinct_filter : (p : ℕ → Bool) → (xs : List ℕ) → Distinct xs → Distinct (filter p xs)
distinct_filter p [] d = tt
distinct_filter p (x ∷ xs) d = distinct_step p x xs d.0 (distinct_filter p xs d.1) (p x)

-- ---- the open connections with one more entry

gone_alike : (e : Answered) (answered : List Answered) → goes e.act ≡ false → (c : ℕ) → not (has_gone (e ∷ answered) c) ≡ not (has_gone answered c)
gone_alike e answered stays c = by (e.conn == c) (goes e.act) stays
  where
    by : (a g : Bool) → g ≡ false → not ((a && g) || has_gone answered c) ≡ not (has_gone answered c)
    by true g s = ap (λ b. not (b || has_gone answered c)) s
    by false g s = refl

gone_with : (e : Answered) (answered : List Answered) → goes e.act ≡ true → (c : ℕ) → not (has_gone (e ∷ answered) c) ≡ (not (has_gone answered c) && not (c == e.conn))
gone_with e answered leaves c = by (e.conn == c) (c == e.conn) (eqb_sym e.conn c) (goes e.act) (has_gone answered c) leaves
  where
    table : (b h : Bool) → not ((b && true) || h) ≡ (not h && not b)
    table true true = refl
    table true false = refl
    table false true = refl
    table false false = refl

    by : (a b : Bool) → a ≡ b → (g h : Bool) → g ≡ true → not ((a && g) || h) ≡ (not h && not b)
    by a b s g h l = ap₂ (λ x y. not ((x && y) || h)) s l ∙ table b h

    eqb_sym : (m n : ℕ) → (m == n) ≡ (n == m)
    eqb_sym m n = grind arith

unopened : (e : Answered) (answered : List Answered) → is_open_act e.act ≡ false → opened (e ∷ answered) ≡ opened answered
unopened e answered h = ap (λ (b : Bool). cons_option (cond b (Some e.conn) None) (opened answered)) h

pub one_opens : (e : Answered) (answered : List Answered) → is_open_act e.act ≡ true → goes e.act ≡ false → has_gone answered e.conn ≡ false → open_connections (e ∷ answered) ≡ e.conn ∷ open_connections answered
one_opens e answered h stays fresh =
    ap (λ (b : Bool). filter (λ c. not (has_gone (e ∷ answered) c)) (cons_option (cond b (Some e.conn) None) (opened answered))) h
    ∙ filter_agree (λ c. not (has_gone (e ∷ answered) c)) (λ c. not (has_gone answered c)) (gone_alike e answered stays) (e.conn ∷ opened answered)
    ∙ ap (λ b. cond (not b) (e.conn ∷ open_connections answered) (open_connections answered)) fresh

pub one_stays : (e : Answered) (answered : List Answered) → is_open_act e.act ≡ false → goes e.act ≡ false → open_connections (e ∷ answered) ≡ open_connections answered
one_stays e answered h stays =
    ap (λ xs. filter (λ c. not (has_gone (e ∷ answered) c)) xs) (unopened e answered h)
    ∙ filter_agree (λ c. not (has_gone (e ∷ answered) c)) (λ c. not (has_gone answered c)) (gone_alike e answered stays) (opened answered)

pub one_goes : (e : Answered) (answered : List Answered) → is_open_act e.act ≡ false → goes e.act ≡ true → open_connections (e ∷ answered) ≡ filter (λ c. not (c == e.conn)) (open_connections answered)
one_goes e answered h leaves =
    ap (λ xs. filter (λ c. not (has_gone (e ∷ answered) c)) xs) (unopened e answered h)
    ∙ filter_agree (λ c. not (has_gone (e ∷ answered) c)) (λ c. not (has_gone answered c) && not (c == e.conn)) (gone_with e answered leaves) (opened answered)
    ∙ sym (filter_twice (λ c. not (c == e.conn)) (λ c. not (has_gone answered c)) (opened answered))

pub one_less : (e : Answered) (answered : List Answered) → IsNumbered answered → is_open_act e.act ≡ false → goes e.act ≡ true → is_open answered e.conn ≡ true → open_count (e ∷ answered) + 1 ≡ open_count answered
one_less e answered n h leaves there =
    let a : open_count (e ∷ answered) ≡ length (filter (λ c. not (c == e.conn)) (open_connections answered)) = ap length (one_goes e answered h leaves) in
    let b = one_dropped e.conn (open_connections answered) (distinct_filter (λ c. not (has_gone answered c)) (opened answered) n.once) (in_open answered e.conn there) in
    omega arith

-- ---- the counts with one more entry

pub opened_count-more : (e : Answered) (answered : List Answered) → opened_count (e ∷ answered) ≡ opened_count answered + cond (is_open_act e.act) 1 0
opened_count-more e answered = by (is_open_act e.act)
  where
    by : (b : Bool) → length (cons_option (cond b (Some e.conn) None) (opened answered)) ≡ opened_count answered + cond b 1 0
    by true = omega arith
    by false = omega arith

pub done_count-more : (e : Answered) (answered : List Answered) → done_count (e ∷ answered) ≡ done_count answered + cond (is_done e.act) 1 0
done_count-more e answered = let s : done_count (e ∷ answered) ≡ cond (is_done e.act) 1 0 + done_count answered = sum_by-cons (λ (x : Answered). cond (is_done x.act) 1 0) e answered in omega arith
