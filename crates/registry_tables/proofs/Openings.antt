-- The open connections and the counts after one more entry.
use Rattle.std.proofs.Common.{◌≡◌, ℕ, ◌+◌, ◌<◌, Bool, true, false, cond, not, append-nil, ◌||◌, ◌&&◌, ◌==◌, List, [], ◌∷◌, ◌++◌, length, filter, reverse, Option, Some, None, is_some, IfSome, refl, sym, ap, ap₂, subst, ◌∙◌, arith, true≢false}
use Rattle.std.proofs.lemmas.List.{reverse-append}
use Rattle.std.proofs.lemmas.List.Elements.{filter-append}
use Rattle.std.proofs.lemmas.List.Sums.{sum_by-cons}
use Rattle.std.specs.Prelude.{if◌then◌else◌}
use Rattle.std.specs.List.{cons_option}
use Rattle.std.specs.Option.{option_map_or}
use Rattle.unit_registry.specs.declared.act.Act.{Act}
use Rattle.unit_registry.specs.declared.act.Act.TheVariants.{Open, Hello, Left, Lost}
use Rattle.histories.specs.declared.answered.Answered.{Answered}
use Rattle.histories.specs.declared.standing.Who.TheVariants.{Holder}
use Rattle.unit_registry.specs.Acts.{is_open_act, goes, is_done, hello_of, unit_of, names}
use Rattle.histories.specs.Answered.{is_accepted}
use Rattle.histories.specs.Answered.{has_gone, opened, open_connections, opened_count, done_count, takes, holder, who, who_by, accepted_hello}

pub filter_alike : {A : Type 0} (p q : A → Bool) → ((x : A) → p x ≡ q x) → (xs : List A) → filter p xs ≡ filter q xs
filter_alike p q same [] = refl
filter_alike p q same (x ∷ xs) = ap₂ (λ b ys. cond b (x ∷ ys) ys) (same x) (filter_alike p q same xs)

filter_twice_step : {A : Type 0} (p q : A → Bool) (x : A) (xs : List A) → filter p (filter q xs) ≡ filter (λ y. q y && p y) xs → (b : Bool) → filter p (cond b (x ∷ filter q xs) (filter q xs)) ≡ cond (b && p x) (x ∷ filter (λ y. q y && p y) xs) (filter (λ y. q y && p y) xs)
filter_twice_step p q x xs ih true = ap (λ ys. cond (p x) (x ∷ ys) ys) ih
filter_twice_step p q x xs ih false = ih

pub filter_twice : {A : Type 0} (p q : A → Bool) (xs : List A) → filter p (filter q xs) ≡ filter (λ y. q y && p y) xs
filter_twice p q [] = refl
filter_twice p q (x ∷ xs) = filter_twice_step p q x xs (filter_twice p q xs) (q x)

reverse_step : {A : Type 0} (p : A → Bool) (x : A) (xs : List A) → reverse (filter p xs) ≡ filter p (reverse xs) → (b : Bool) → p x ≡ b → reverse (cond b (x ∷ filter p xs) (filter p xs)) ≡ filter p (reverse xs ++ x ∷ [])
reverse_step p x xs ih true e = reverse-append (x ∷ []) (filter p xs) ∙ ap (λ ys. ys ++ x ∷ []) ih ∙ sym (filter-append p (reverse xs) (x ∷ []) ∙ ap (λ b. filter p (reverse xs) ++ cond b (x ∷ []) []) e)
reverse_step p x xs ih false e = ih ∙ sym (filter-append p (reverse xs) (x ∷ []) ∙ ap (λ b. filter p (reverse xs) ++ cond b (x ∷ []) []) e ∙ append-nil (filter p (reverse xs)))

pub reverse_filter : {A : Type 0} (p : A → Bool) (xs : List A) → reverse (filter p xs) ≡ filter p (reverse xs)
reverse_filter p [] = refl
reverse_filter p (x ∷ xs) = reverse_step p x xs (reverse_filter p xs) (p x) refl ∙ ap (λ ys. filter p ys) (sym (reverse-append (x ∷ []) xs))

pub stays_open : (act : Act) → is_open_act act ≡ true → goes act ≡ false
stays_open Open h = refl
stays_open Left h = absurd (true≢false (sym h))
stays_open Lost h = absurd (true≢false (sym h))
stays_open act h = refl

gone_alike : (e : Answered) (answered : List Answered) → goes e.act ≡ false → (c : ℕ) → not (has_gone (e ∷ answered) c) ≡ not (has_gone answered c)
gone_alike e answered stays c = by (e.conn == c) (goes e.act) stays
  where
    by : (a g : Bool) → g ≡ false → not ((a && g) || has_gone answered c) ≡ not (has_gone answered c)
    by true g s = ap (λ b. not (b || has_gone answered c)) s
    by false g s = refl

gone_with : (e : Answered) (answered : List Answered) → goes e.act ≡ true → (c : ℕ) → not (has_gone (e ∷ answered) c) ≡ (not (has_gone answered c) && not (c == e.conn))
gone_with e answered leaves c = by (e.conn == c) (c == e.conn) (eqb_sym e.conn c) (goes e.act) (has_gone answered c) leaves
  where
    by : (a b : Bool) → a ≡ b → (g h : Bool) → g ≡ true → not ((a && g) || h) ≡ (not h && not b)
    by a b s g h l = ap₂ (λ x y. not ((x && y) || h)) s l ∙ table b h
      where
        table : (b h : Bool) → not ((b && true) || h) ≡ (not h && not b)
        table true true = refl
        table true false = refl
        table false true = refl
        table false false = refl

    eqb_sym : (m n : ℕ) → (m == n) ≡ (n == m)
    eqb_sym m n = grind arith

pub opens : (opened_list : List ℕ) (answered : List Answered) (e : Answered) → is_open_act e.act ≡ true → has_gone answered e.conn ≡ false → reverse opened_list ≡ open_connections answered → reverse (opened_list ++ e.conn ∷ []) ≡ open_connections (e ∷ answered)
opens opened_list answered e is_open stays was =
    reverse-append opened_list (e.conn ∷ [])
    ∙ ap (λ xs. e.conn ∷ xs) was
    ∙ sym (ap (λ (b : Bool). filter (λ c. not (has_gone (e ∷ answered) c)) (cons_option (cond b (Some e.conn) None) (opened answered))) is_open
    ∙ filter_alike (λ c. not (has_gone (e ∷ answered) c)) (λ c. not (has_gone answered c)) (gone_alike e answered (stays_open e.act is_open)) (e.conn ∷ opened answered)
    ∙ ap (λ b. cond (not b) (e.conn ∷ open_connections answered) (open_connections answered)) stays)

unopened : (e : Answered) (answered : List Answered) → is_open_act e.act ≡ false → opened (e ∷ answered) ≡ opened answered
unopened e answered h = ap (λ (b : Bool). cons_option (cond b (Some e.conn) None) (opened answered)) h

pub goes_away : (opened_list : List ℕ) (answered : List Answered) (e : Answered) → is_open_act e.act ≡ false → goes e.act ≡ true → reverse opened_list ≡ open_connections answered → reverse (filter (λ c. not (c == e.conn)) opened_list) ≡ open_connections (e ∷ answered)
goes_away opened_list answered e not_opens leaves was =
    reverse_filter (λ c. not (c == e.conn)) opened_list
    ∙ ap (λ xs. filter (λ c. not (c == e.conn)) xs) was
    ∙ filter_twice (λ c. not (c == e.conn)) (λ c. not (has_gone answered c)) (opened answered)
    ∙ sym (ap (λ xs. filter (λ c. not (has_gone (e ∷ answered) c)) xs) (unopened e answered not_opens)
    ∙ filter_alike (λ c. not (has_gone (e ∷ answered) c)) (λ c. not (has_gone answered c) && not (c == e.conn)) (gone_with e answered leaves) (opened answered))

pub opened_more : (answered : List Answered) (e : Answered) → opened_count (e ∷ answered) ≡ opened_count answered + cond (is_open_act e.act) 1 0
opened_more answered e = by (is_open_act e.act)
  where
    by : (b : Bool) → length (cons_option (cond b (Some e.conn) None) (opened answered)) ≡ opened_count answered + cond b 1 0
    by true = omega arith
    by false = omega arith

pub done_more : (answered : List Answered) (e : Answered) → done_count (e ∷ answered) ≡ done_count answered + cond (is_done e.act) 1 0
done_more answered e = let s : done_count (e ∷ answered) ≡ cond (is_done e.act) 1 0 + done_count answered = sum_by-cons (λ (x : Answered). cond (is_done x.act) 1 0) e answered in omega arith

hello_stays : (act : Act) → is_some (hello_of act) ≡ true → is_done act ≡ false
hello_stays (Hello version unit) h = refl
hello_stays act h = absurd (true≢false (sym h))

pub taken_by : (accepted : Bool) (hello : Option (Option ℕ)) (unit : ℕ) → option_map_or (λ named. names named unit) (if accepted then hello else None) false ≡ true → is_some hello ≡ true
taken_by true None unit h = absurd (true≢false (sym h))
taken_by true (Some named) unit h = refl
taken_by false hello unit h = absurd (true≢false (sym h))

pub holder_within : (e : Answered) (answered : List Answered) (room : ℕ) → (is_done e.act ≡ false → e.conn < room) → ((unit conn : ℕ) → holder answered unit ≡ Some conn → conn < room) → (unit conn : ℕ) → holder (e ∷ answered) unit ≡ Some conn → conn < room
holder_within e answered room below before unit conn h = by (takes unit e) refl h
  where
    by : (b : Bool) → takes unit e ≡ b → (if b then Some e.conn else holder answered unit) ≡ Some conn → conn < room
    by true t h = let s : e.conn ≡ conn = cc in let l = below (hello_stays e.act (taken_by (is_accepted e.said) (hello_of e.act) unit t)) in omega arith
    by false t h = before unit conn h

pub opens_no_done : (act : Act) → is_open_act act ≡ true → is_done act ≡ false
opens_no_done Open h = refl
opens_no_done act h = absurd (true≢false (sym h))

pub reverse_push : {A : Type 0} (xs : List A) (x : A) → reverse (xs ++ x ∷ []) ≡ x ∷ reverse xs
reverse_push xs x = reverse-append xs (x ∷ [])

hello_unit : (act : Act) (unit : ℕ) → hello_of act ≡ Some (Some unit) → unit_of act ≡ Some unit
hello_unit (Hello version u) unit h = cc
hello_unit act unit h = absurd (cc)

held_by : (accepted : Bool) (hello : Option (Option ℕ)) (unit : ℕ) → who_by (if accepted then hello else None) ≡ Holder unit → hello ≡ Some (Some unit)
held_by true None unit h = absurd (cc)
held_by true (Some None) unit h = absurd (cc)
held_by true (Some (Some u)) unit h = let s : u ≡ unit = cc in ap (λ x. Some (Some x)) s
held_by false hello unit h = absurd (cc)

abbrev UnitWithin : Option ℕ → ℕ → Type 0
UnitWithin o count = IfSome o (λ u. u < count)

pub held_within : (e : Answered) (answered : List Answered) (count : ℕ) → UnitWithin (unit_of e.act) count → ((conn unit : ℕ) → who answered conn ≡ Holder unit → unit < count) → (conn unit : ℕ) → who (e ∷ answered) conn ≡ Holder unit → unit < count
held_within e answered count within before conn unit h = by (e.conn == conn && is_some (accepted_hello e)) h
  where
    by : (b : Bool) → (if b then who_by (accepted_hello e) else who answered conn) ≡ Holder unit → unit < count
    by true h = subst (λ o. UnitWithin o count) (hello_unit e.act unit (held_by (is_accepted e.said) (hello_of e.act) unit h)) within
    by false h = before conn unit h

pub same_bool : (a b : Bool) → (a ≡ true → b ≡ true) → (b ≡ true → a ≡ true) → a ≡ b
same_bool true b f g = sym (f refl)
same_bool false true f g = g refl
same_bool false false f g = refl
