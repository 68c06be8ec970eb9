-- What is told, and that lines are replies, say the same.
use Rattle.std.proofs.Common.{◌≡◌, ◌↔◌, ℕ, suc, zero, ◌<◌, not, List, [], ◌∷◌, length, take, drop, Option, Some, None, refl, sym, ap, subst, ◌∙◌, arith}
use Rattle.std.specs.Prelude.{slice_get, ◌==◌}
use Rattle.mapper_requests.specs.Asked.{Asked}
use Rattle.mapper_replies.specs.Values.{ReplyValue}
use Rattle.client_core.specs.Replies.{AreReplies, Telling, Awaited, All, Faulty, with_first, told_by, line_reply}
use Rattle.client_core.proofs.Tellings.{is_more, none_some, some_same, told_awaited, told_all}

-- ---- each telling is one alone

awaited_all : (vs : List ReplyValue) → Awaited ≡ All vs → ⊥
awaited_all vs e = cc

awaited_faulty : (n : ℕ) → Awaited ≡ Faulty n → ⊥
awaited_faulty n e = cc

all_faulty : (vs : List ReplyValue) (n : ℕ) → All vs ≡ Faulty n → ⊥
all_faulty vs n e = cc

faulty_all : (n : ℕ) (vs : List ReplyValue) → Faulty n ≡ All vs → ⊥
faulty_all n vs e = cc

faulty_awaited : (n : ℕ) → Faulty n ≡ Awaited → ⊥
faulty_awaited n e = cc

all_awaited : (vs : List ReplyValue) → All vs ≡ Awaited → ⊥
all_awaited vs e = cc

all_same : (vs ws : List ReplyValue) → All vs ≡ All ws → vs ≡ ws
all_same vs ws e = cc

faulty_same : (m n : ℕ) → Faulty m ≡ Faulty n → m ≡ n
faulty_same m n e = cc

-- ---- what a telling says of the first line

pub record FirstAll (found : Option ReplyValue) (rest : Telling) (vs : List ReplyValue) : Type 0 where
  pub value : ReplyValue
  pub values : List ReplyValue
  pub found_is : found ≡ Some value
  pub rest_is : rest ≡ All values
  pub whole : vs ≡ value ∷ values

first_all : (found : Option ReplyValue) (rest : Telling) (vs : List ReplyValue) → with_first found rest ≡ All vs → FirstAll found rest vs
first_all None rest vs e = absurd (faulty_all 1 vs e)
first_all (Some v) Awaited vs e = absurd (awaited_all vs e)
first_all (Some v) (All values) vs e = record { value = v; values = values; found_is = refl; rest_is = refl; whole = sym (all_same (v ∷ values) vs e) }
first_all (Some v) (Faulty n) vs e = absurd (faulty_all (suc n) vs e)

first_awaited : (found : Option ReplyValue) (rest : Telling) → with_first found rest ≡ Awaited → (v : ReplyValue) × (found ≡ Some v) × (rest ≡ Awaited)
first_awaited None rest e = absurd (faulty_awaited 1 e)
first_awaited (Some v) Awaited e = (v, refl, refl)
first_awaited (Some v) (All values) e = absurd (all_awaited (v ∷ values) e)
first_awaited (Some v) (Faulty n) e = absurd (faulty_awaited (suc n) e)

first_some : (found : Option ReplyValue) (rest : Telling) → with_first found rest ≡ Faulty 0 → ⊥
first_some None rest e = absurd (let f : 1 ≡ 0 = faulty_same 1 0 e in omega (arith, f))
first_some (Some v) Awaited e = awaited_faulty 0 e
first_some (Some v) (All values) e = all_faulty (v ∷ values) 0 e
first_some (Some v) (Faulty n) e = absurd (let f : suc n ≡ 0 = faulty_same (suc n) 0 e in omega (arith, f))

first_one : (found : Option ReplyValue) (rest : Telling) → (rest ≡ Faulty 0 → ⊥) → with_first found rest ≡ Faulty 1 → found ≡ None
first_one None rest never e = refl
first_one (Some v) Awaited never e = absurd (awaited_faulty 1 e)
first_one (Some v) (All values) never e = absurd (all_faulty (v ∷ values) 1 e)
first_one (Some v) (Faulty n) never e = let same : suc n ≡ 1 = faulty_same (suc n) 1 e in let none : n ≡ 0 = omega (arith, same) in absurd (never (ap Faulty none))

first_later : (found : Option ReplyValue) (rest : Telling) (before : ℕ) → with_first found rest ≡ Faulty (suc (suc before)) → (v : ReplyValue) × (found ≡ Some v) × (rest ≡ Faulty (suc before))
first_later None rest before e = absurd (let f : 1 ≡ suc (suc before) = faulty_same 1 (suc (suc before)) e in omega (arith, f))
first_later (Some v) Awaited before e = absurd (awaited_faulty (suc (suc before)) e)
first_later (Some v) (All values) before e = absurd (all_faulty (v ∷ values) (suc (suc before)) e)
first_later (Some v) (Faulty n) before e = let same : suc n ≡ suc (suc before) = faulty_same (suc n) (suc (suc before)) e in let less : n ≡ suc before = omega (arith, same) in (v, refl, ap Faulty less)

-- ---- from what is told

told_values : (rs : List Asked) (ls : List (List ℕ)) (vs : List ReplyValue) → told_by rs ls ≡ All vs → AreReplies rs (take (length rs) ls) vs × (length vs ≡ length rs)
told_values [] ls vs e = subst (λ ws. AreReplies [] [] ws × (length ws ≡ 0)) (all_same [] vs e) (tt, refl)
told_values (r ∷ rest) [] vs e = absurd (awaited_all vs e)
told_values (r ∷ rest) (l ∷ ls) vs e =
    let first = first_all (line_reply r (not (length rest == 0)) l) (told_by rest ls) vs e in
    let more = told_values rest ls first.values first.rest_is in
    subst (λ ws. AreReplies (r ∷ rest) (l ∷ take (length rest) ls) ws × (length ws ≡ suc (length rest))) (sym first.whole) ((first.found_is, more.0), ap suc more.1)

told_take : (rs : List Asked) (ls : List (List ℕ)) → told_by rs (take (length rs) ls) ≡ told_by rs ls
told_take [] ls = refl
told_take (r ∷ rest) [] = refl
told_take (r ∷ rest) (l ∷ ls) = ap (with_first (line_reply r (not (length rest == 0)) l)) (told_take rest ls)

pub all_are_told : (requests : List Asked) (lines : List (List ℕ)) (values : List ReplyValue)
    → (told_by requests lines ≡ All values) ↔ (AreReplies requests (take (length requests) lines) values × (length values ≡ length requests))
all_are_told rs ls vs = (told_values rs ls vs, λ h. sym (told_take rs ls) ∙ told_all rs (take (length rs) ls) vs h.0 h.1)

awaited_values : (rs : List Asked) (ls : List (List ℕ)) → told_by rs ls ≡ Awaited → (values : List ReplyValue) × AreReplies rs ls values × (length ls < length rs)
awaited_values [] ls e = absurd (all_awaited [] e)
awaited_values (r ∷ rest) [] e = ([], tt, omega arith)
awaited_values (r ∷ rest) (l ∷ ls) e =
    let first = first_awaited (line_reply r (not (length rest == 0)) l) (told_by rest ls) e in
    let more = awaited_values rest ls first.2 in
    (first.0 ∷ more.0, (first.1, more.1), (let lt = more.2 in omega (arith, lt)))

as_many : (rs : List Asked) (ls : List (List ℕ)) (vs : List ReplyValue) → AreReplies rs ls vs → length vs ≡ length ls
as_many rs [] [] h = refl
as_many (r ∷ rest) (l ∷ ls) (v ∷ vs) h = ap suc (as_many rest ls vs h.1)
as_many [] (l ∷ ls) vs h = absurd h
as_many rs [] (v ∷ vs) h = absurd h
as_many rs (l ∷ ls) [] h = absurd h

pub more_is_awaited : (requests : List Asked) (lines : List (List ℕ)) → (told_by requests lines ≡ Awaited) ↔ ((values : List ReplyValue) × AreReplies requests lines values × (length lines < length requests))
more_is_awaited rs ls = (awaited_values rs ls, λ h. told_awaited rs ls h.0 h.1 (let lt = h.2 in omega (arith, lt, as_many rs ls h.0 h.1)))

told_some : (rs : List Asked) (ls : List (List ℕ)) → told_by rs ls ≡ Faulty 0 → ⊥
told_some [] ls e = all_faulty [] 0 e
told_some (r ∷ rest) [] e = awaited_faulty 0 e
told_some (r ∷ rest) (l ∷ ls) e = first_some (line_reply r (not (length rest == 0)) l) (told_by rest ls) e

-- the lines before this are replies, and it isn't the one that is due
abbrev FirstFault : List Asked → List (List ℕ) → ℕ → Type 0
FirstFault rs ls before = (values : List ReplyValue) × (request : Asked) × (line : List ℕ)
    × AreReplies rs (take before ls) values × (slice_get rs before ≡ Some request) × (slice_get ls before ≡ Some line)
    × (line_reply request (not (length (drop (suc before) rs) == 0)) line ≡ None)

faulty_values : (rs : List Asked) (ls : List (List ℕ)) (before : ℕ) → told_by rs ls ≡ Faulty (suc before) → FirstFault rs ls before
faulty_values [] ls before e = absurd (all_faulty [] (suc before) e)
faulty_values (r ∷ rest) [] before e = absurd (awaited_faulty (suc before) e)
faulty_values (r ∷ rest) (l ∷ ls) zero e = ([], r, l, tt, refl, refl, first_one (line_reply r (not (length rest == 0)) l) (told_by rest ls) (told_some rest ls) e)
faulty_values (r ∷ rest) (l ∷ ls) (suc before) e =
    let first = first_later (line_reply r (not (length rest == 0)) l) (told_by rest ls) before e in
    let more = faulty_values rest ls before first.2 in
    (first.0 ∷ more.0, more.1, more.2, (first.1, more.3), more.4, more.5, more.6)

from_fault : (rs : List Asked) (ls : List (List ℕ)) (before : ℕ) (vs : List ReplyValue) (q : Asked) (m : List ℕ) → AreReplies rs (take before ls) vs → slice_get rs before ≡ Some q → slice_get ls before ≡ Some m
    → line_reply q (is_more rs before) m ≡ None → told_by rs ls ≡ Faulty (suc before)
from_fault [] ls before vs q m h at there none = absurd (none_some q at)
from_fault (r ∷ rest) [] before vs q m h at there none = absurd (none_some m there)
from_fault (r ∷ rest) (l ∷ ls) zero vs q m h at there none =
    let first : line_reply r (not (length rest == 0)) l ≡ None = subst (λ k. line_reply k (not (length rest == 0)) l ≡ None) (sym (some_same r q at)) (subst (λ k. line_reply q (not (length rest == 0)) k ≡ None) (sym (some_same l m there)) none) in
    ap (λ x. with_first x (told_by rest ls)) first
from_fault (r ∷ rest) (l ∷ ls) (suc before) [] q m h at there none = absurd h
from_fault (r ∷ rest) (l ∷ ls) (suc before) (v ∷ vs) q m h at there none = ap (λ x. with_first x (told_by rest ls)) h.0 ∙ ap (with_first (Some v)) (from_fault rest ls before vs q m h.1 at there none)

pub first_is_faulty : (requests : List Asked) (lines : List (List ℕ)) (before : ℕ)
    → (told_by requests lines ≡ Faulty (suc before))
    ↔ ((values : List ReplyValue) × (request : Asked) × (line : List ℕ)
    × AreReplies requests (take before lines) values × (slice_get requests before ≡ Some request) × (slice_get lines before ≡ Some line)
    × (line_reply request (not (length (drop (suc before) requests) == 0)) line ≡ None))
first_is_faulty rs ls before = (faulty_values rs ls before, λ h. from_fault rs ls before h.0 h.1 h.2 h.3 h.4 h.5 h.6)
