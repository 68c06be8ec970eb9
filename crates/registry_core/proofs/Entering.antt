-- What the tables and the imports are after one more entry.
use Rattle.histories.specs.Answered.{open_count}
use Rattle.std.proofs.Common.{◌≡◌, ℕ, ◌+◌, Bool, true, false, cond, not, ◌||◌, ◌&&◌, ◌==◌, inl, inr, List, [], ◌∷◌, length, filter, map, get_or, Option, Some, None, is_none, refl, sym, ap, ap₂, subst, ◌∙◌, arith, true≢false}
use Rattle.std.proofs.lemmas.Bool.{cond-false}
use Rattle.std.proofs.lemmas.List.{length-map}
use Rattle.std.specs.Prelude.{if◌then◌else◌}
use Rattle.std.specs.List.{list_any, list_all}
use Rattle.std.specs.Option.{option_map_or}
use Rattle.histories.specs.declared.entry.Entry.{Entry}
use Rattle.histories.specs.declared.standing.Fate.{Fate}
use Rattle.histories.specs.declared.answer.Said.{Said}
use Rattle.histories.specs.declared.answer.Said.TheVariants.{Reply, Waits, Nothing}
use Rattle.histories.specs.declared.answered.Answered.{Answered}
use Rattle.histories.specs.declared.answered.Wait.{Wait}
use Rattle.histories.proofs.Members.{In}
use Rattle.unit_registry.specs.Projects.{ProjectView, is_built}
use Rattle.histories.specs.Answered.{has_gone, is_open, open_connections, done_count, is_paused, holder, is_reported, wait_of, told_to_wait}
use Rattle.histories.specs.Noted.{Noted, answered_of, fate, is_given_up, pending}
use Rattle.histories.specs.Histories.{and_then, is_stalled, is_waiting, fault}
use Rattle.histories.proofs.Members.{In-filter}
use Rattle.histories.proofs.OneEntry.{is_open-parts, is_open-from}
use Rattle.histories.proofs.Acyclic.{IsKept, answered_entry, noted_entry, kept-more}
use Rattle.histories.proofs.Steps.{IsStanding}
use Rattle.histories.proofs.GoingOn.{candidates, still, pending_after}
use Rattle.registry_tables.specs.Tabled.{fate_by}

-- lists of tests
pub any_alike_in : {A : Type 0} (p q : A → Bool) → (xs : List A) → ((x : A) → In x xs → p x ≡ q x) → list_any p xs ≡ list_any q xs
any_alike_in p q [] same = refl
any_alike_in p q (x ∷ xs) same = ap₂ (λ a b. a || b) (same x (inl refl)) (any_alike_in p q xs (λ y there. same y (inr there)))

pub all_alike_in : {A : Type 0} (p q : A → Bool) → (xs : List A) → ((x : A) → In x xs → p x ≡ q x) → list_all p xs ≡ list_all q xs
all_alike_in p q [] same = refl
all_alike_in p q (x ∷ xs) same = ap₂ (λ a b. a && b) (same x (inl refl)) (all_alike_in p q xs (λ y there. same y (inr there)))

pub any_map : {A B : Type 0} (f : A → B) (p : B → Bool) → (xs : List A) → list_any p (map f xs) ≡ list_any (λ x. p (f x)) xs
any_map f p [] = refl
any_map f p (x ∷ xs) = ap (λ b. p (f x) || b) (any_map f p xs)

any_filter_step : {A : Type 0} (p q : A → Bool) (x : A) (xs : List A) → list_any p (filter q xs) ≡ list_any (λ y. q y && p y) xs → (b : Bool) → list_any p (cond b (x ∷ filter q xs) (filter q xs)) ≡ ((b && p x) || list_any (λ y. q y && p y) xs)
any_filter_step p q x xs ih true = ap (λ b. p x || b) ih
any_filter_step p q x xs ih false = ih

pub any_filter : {A : Type 0} (p q : A → Bool) → (xs : List A) → list_any p (filter q xs) ≡ list_any (λ x. q x && p x) xs
any_filter p q [] = refl
any_filter p q (x ∷ xs) = any_filter_step p q x xs (any_filter p q xs) (q x)

filter_map_step : {A B : Type 0} (f : A → B) (p : B → Bool) (x : A) (xs : List A) → filter p (map f xs) ≡ map f (filter (λ y. p (f y)) xs) → (b : Bool) → cond b (f x ∷ filter p (map f xs)) (filter p (map f xs)) ≡ map f (cond b (x ∷ filter (λ y. p (f y)) xs) (filter (λ y. p (f y)) xs))
filter_map_step f p x xs ih true = ap (λ ys. f x ∷ ys) ih
filter_map_step f p x xs ih false = ih

pub filter_mapped : {A B : Type 0} (f : A → B) (p : B → Bool) → (xs : List A) → filter p (map f xs) ≡ map f (filter (λ x. p (f x)) xs)
filter_mapped f p [] = refl
filter_mapped f p (x ∷ xs) = filter_map_step f p x xs (filter_mapped f p xs) (p (f x))

pub map_alike_in : {A B : Type 0} (f g : A → B) → (xs : List A) → ((x : A) → In x xs → f x ≡ g x) → map f xs ≡ map g xs
map_alike_in f g [] same = refl
map_alike_in f g (x ∷ xs) same = ap₂ (λ y ys. y ∷ ys) (same x (inl refl)) (map_alike_in f g xs (λ y there. same y (inr there)))

-- the fate by the flags is the fate
pub fate_is : (project : ProjectView) (noted : List Noted) (answered : List Answered) (given : List Bool) (unit : ℕ) → answered ≡ answered_of noted → get_or given unit false ≡ is_given_up noted unit → fate_by project answered given unit ≡ fate project noted unit
fate_is project noted answered given unit same flag =
    ap (λ (a : List Answered). fate_by project a given unit) same ∙ ap (λ (b : Bool). by_flag b) flag
  where
    by_flag : Bool → Option Fate
    by_flag b = if is_built project unit || is_reported (answered_of noted) unit then Some Rattle.histories.specs.declared.standing.Fate.TheVariants.Compiled
        else (if b || option_map_or (has_gone (answered_of noted)) (holder (answered_of noted) unit) false then Some Rattle.histories.specs.declared.standing.Fate.TheVariants.Failed
        else None)

-- the entry, before anything is given up with it
abbrev pub middle : ProjectView → List Noted → Entry → List Noted
middle project noted entry = noted_entry project noted entry [] ∷ noted

-- with one worker more than there are connections and ends nothing is stalled
never_equal : (n : ℕ) → (n == n + 1) ≡ false
never_equal n = grind arith

not_stalled : (project : ProjectView) (noted : List Noted) (n w : ℕ) → open_count (answered_of noted) + done_count (answered_of noted) ≡ n → (n == w) ≡ false → is_stalled project w noted ≡ false
not_stalled project noted n w is differs = by (not (open_count (answered_of noted) == 0)) (open_count (answered_of noted) + done_count (answered_of noted) == w) (ap (λ m. m == w) is ∙ differs)
  where
    all : Bool
    all = list_all (λ c. is_paused (answered_of noted) c && is_waiting project noted c) (open_connections (answered_of noted))

    by : (a b : Bool) → b ≡ false → (a && b && all) ≡ false
    by true b h = ap (λ x. x && all) h
    by false b h = refl

as_middle : (project : ProjectView) (noted : List Noted) (entry : Entry) → (n : ℕ) → length (open_connections (answered_of (middle project noted entry))) + done_count (answered_of (middle project noted entry)) ≡ n → and_then project (n + 1) noted entry ≡ middle project noted entry
as_middle project noted entry n is =
    ap (λ (given : List ℕ). noted_entry project noted entry given ∷ noted) (cond-false _ _ _ (not_stalled project (middle project noted entry) n (n + 1) is (never_equal n)))

pub pending_middle : (project : ProjectView) (noted : List Noted) (entry : Entry) → IsStanding project noted → pending project (middle project noted entry) ≡ filter (still project (middle project noted entry)) (candidates project noted entry)
pending_middle project noted entry s =
    let n : ℕ = length (open_connections (answered_of (middle project noted entry))) + done_count (answered_of (middle project noted entry)) in
    subst (λ (after : List Noted). pending project after ≡ filter (still project after) (candidates project noted entry)) (as_middle project noted entry n refl) (pending_after project (n + 1) noted entry s)

-- a candidate was told to wait
in_waits_of : (said : Said) (place conn : ℕ) (ws vs : List Wait) → ((w : Wait) → In w ws → In w vs) → (w : Wait) → In w (wait_of said place conn ws) → In w (wait_of said place conn vs)
in_waits_of (Waits unit) place conn ws vs h w (inl e) = inl e
in_waits_of (Waits unit) place conn ws vs h w (inr there) = inr (h w there)
in_waits_of (Reply answer) place conn ws vs h w there = h w there
in_waits_of Nothing place conn ws vs h w there = h w there

pub candidate_told : (project : ProjectView) (noted : List Noted) (entry : Entry) (w : Wait) → In w (candidates project noted entry) → In w (told_to_wait (answered_entry project noted entry ∷ answered_of noted))
candidate_told project noted entry w there =
    subst (λ (p : ℕ). In w (wait_of (answered_entry project noted entry).said p entry.conn (told_to_wait (answered_of noted)))) (sym (length-map noted (λ (x : Noted). x.answered)))
    (in_waits_of (answered_entry project noted entry).said (length noted) entry.conn (pending project noted) (told_to_wait (answered_of noted)) (λ v h. (In-filter (λ x. is_open (answered_of noted) x.conn && is_none (Rattle.histories.specs.Noted.reply_in project noted x.place)) v (told_to_wait (answered_of noted)) h).0) w there)

pub true_bool : (a b : Bool) → (a ≡ true → b ≡ true) → (b ≡ true → a ≡ true) → a ≡ b
true_bool true b f g = sym (f refl)
true_bool false true f g = g refl
true_bool false false f g = refl

not_flip : (b : Bool) → b ≡ false → not b ≡ true
not_flip false h = refl
not_flip true h = absurd (true≢false h)

flip_not : (b : Bool) → not b ≡ true → b ≡ false
flip_not false h = refl
flip_not true h = absurd (true≢false (sym h))

pub open_is : (project : ProjectView) (workers limit : ℕ) (noted : List Noted) (entry : Entry) → IsStanding project noted → is_none (fault project workers limit noted entry) ≡ true → (w : Wait) → In w (candidates project noted entry) → is_open (answered_entry project noted entry ∷ answered_of noted) w.conn ≡ not (has_gone (answered_entry project noted entry ∷ answered_of noted) w.conn)
open_is project workers limit noted entry s passes w there =
    let kept : IsKept project (middle project noted entry) = kept-more project workers limit noted entry passes [] s.kept in
    let told = kept.was_opened w (candidate_told project noted entry w there) in
    true_bool _ _ (λ h. not_flip _ (is_open-parts (answered_entry project noted entry ∷ answered_of noted) w.conn h).1) (λ h. is_open-from (answered_entry project noted entry ∷ answered_of noted) w.conn told (flip_not _ h))
