-- What lines tell, by the replies that they are.
use Rattle.std.proofs.Common.{◌≡◌, ℕ, suc, zero, ◌<◌, inl, inr, ◌⊎◌, Bool, not, List, [], ◌∷◌, ◌++◌, length, drop, Option, Some, None, refl, sym, ap, subst, ◌∙◌, arith}
use Rattle.std.specs.Prelude.{slice_get, ◌==◌}
use Rattle.cody_batches.specs.Blocks.{counted_lines}
use Rattle.mapper_requests.specs.Asked.{Asked}
use Rattle.mapper_replies.specs.Values.{ReplyValue}
use Rattle.client_core.specs.Replies.{AreReplies, Telling, Awaited, All, Faulty, with_first, told_by, told, line_reply}
use Rattle.client_core.proofs.Lines.{counted_grow}

-- whether more requests follow so many
abbrev pub is_more : List Asked → ℕ → Bool
is_more requests before = not (length (drop (suc before) requests) == 0)

pub none_some : {X : Type 0} (x : X) → None ≡ Some x → ⊥
none_some x e = cc

pub some_none : {X : Type 0} (x : X) → Some x ≡ None → ⊥
some_none x e = cc

pub some_same : {X : Type 0} (x y : X) → Some x ≡ Some y → x ≡ y
some_same x y e = cc

-- the next reply
pub are_more : (rs : List Asked) (ls : List (List ℕ)) (vs : List ReplyValue) (r : Asked) (l : List ℕ) (v : ReplyValue) → AreReplies rs ls vs → slice_get rs (length vs) ≡ Some r
    → line_reply r (is_more rs (length vs)) l ≡ Some v → AreReplies rs (ls ++ l ∷ []) (vs ++ v ∷ [])
are_more [] [] [] r l v h at e = absurd (none_some r at)
are_more (r' ∷ rest) [] [] r l v h at e = (subst (λ q. line_reply q (not (length rest == 0)) l ≡ Some v) (sym (some_same r' r at)) e, tt)
are_more (r' ∷ rest) (l' ∷ ls) (v' ∷ vs) r l v h at e = (h.0, are_more rest ls vs r l v h.1 at e)
are_more [] (l' ∷ ls) vs r l v h at e = absurd h
are_more rs [] (v' ∷ vs) r l v h at e = absurd h
are_more rs (l' ∷ ls) [] r l v h at e = absurd h

pub told_awaited : (rs : List Asked) (ls : List (List ℕ)) (vs : List ReplyValue) → AreReplies rs ls vs → length vs < length rs → told_by rs ls ≡ Awaited
told_awaited [] ls vs h lt = absurd (omega arith)
told_awaited (r ∷ rest) [] vs h lt = refl
told_awaited (r ∷ rest) (l ∷ ls) [] h lt = absurd h
told_awaited (r ∷ rest) (l ∷ ls) (v ∷ vs) h lt = ap (λ x. with_first x (told_by rest ls)) h.0 ∙ ap (with_first (Some v)) (told_awaited rest ls vs h.1 (omega arith))

pub told_all : (rs : List Asked) (ls : List (List ℕ)) (vs : List ReplyValue) → AreReplies rs ls vs → length vs ≡ length rs → told_by rs ls ≡ All vs
told_all [] [] [] h e = refl
told_all [] [] (v ∷ vs) h e = absurd h
told_all [] (l ∷ ls) vs h e = absurd h
told_all (r ∷ rest) [] [] h e = absurd (omega (arith, e))
told_all (r ∷ rest) [] (v ∷ vs) h e = absurd h
told_all (r ∷ rest) (l ∷ ls) [] h e = absurd h
told_all (r ∷ rest) (l ∷ ls) (v ∷ vs) h e = ap (λ x. with_first x (told_by rest ls)) h.0 ∙ ap (with_first (Some v)) (told_all rest ls vs h.1 (omega (arith, e)))

pub told_fault : (rs : List Asked) (ls : List (List ℕ)) (vs : List ReplyValue) (r : Asked) (l : List ℕ) → AreReplies rs ls vs → slice_get rs (length vs) ≡ Some r
    → line_reply r (is_more rs (length vs)) l ≡ None → told_by rs (ls ++ l ∷ []) ≡ Faulty (suc (length vs))
told_fault [] [] [] r l h at e = absurd (none_some r at)
told_fault (r' ∷ rest) [] [] r l h at e = ap (λ x. with_first x (told_by rest [])) (subst (λ q. line_reply q (not (length rest == 0)) l ≡ None) (sym (some_same r' r at)) e)
told_fault (r' ∷ rest) (l' ∷ ls) (v' ∷ vs) r l h at e = ap (λ x. with_first x (told_by rest (ls ++ l ∷ []))) h.0 ∙ ap (with_first (Some v')) (told_fault rest ls vs r l h.1 at e)
told_fault [] (l' ∷ ls) vs r l h at e = absurd h
told_fault rs [] (v' ∷ vs) r l h at e = absurd h
told_fault rs (l' ∷ ls) [] r l h at e = absurd h

-- ---- more lines take nothing back

stays_by : (v : ReplyValue) (one other : Telling) → (one ≡ Awaited) ⊎ (other ≡ one) → (with_first (Some v) one ≡ Awaited) ⊎ (with_first (Some v) other ≡ with_first (Some v) one)
stays_by v one other (inl e) = inl (ap (with_first (Some v)) e)
stays_by v one other (inr e) = inr (ap (with_first (Some v)) e)

stays_first : (found : Option ReplyValue) (one other : Telling) → (one ≡ Awaited) ⊎ (other ≡ one) → (with_first found one ≡ Awaited) ⊎ (with_first found other ≡ with_first found one)
stays_first None one other h = inr refl
stays_first (Some v) one other h = stays_by v one other h

lines_stay : (rs : List Asked) (ls more : List (List ℕ)) → (told_by rs ls ≡ Awaited) ⊎ (told_by rs (ls ++ more) ≡ told_by rs ls)
lines_stay [] ls more = inr refl
lines_stay (r ∷ rest) [] more = inl refl
lines_stay (r ∷ rest) (l ∷ ls) more = stays_first (line_reply r (not (length rest == 0)) l) (told_by rest ls) (told_by rest (ls ++ more)) (lines_stay rest ls more)

drop_append : (n : ℕ) (xs ys : List (List ℕ)) → (zs : List (List ℕ)) × (drop n (xs ++ ys) ≡ drop n xs ++ zs)
drop_append zero xs ys = (ys, refl)
drop_append (suc n) [] ys = (drop (suc n) ys, refl)
drop_append (suc n) (x ∷ xs) ys = drop_append n xs ys

-- more octets take nothing back of what was told
pub tellings_stay : (before : ℕ) (requests : List Asked) (got more : List ℕ) → (told before requests got ≡ Awaited) ⊎ (told before requests (got ++ more) ≡ told before requests got)
tellings_stay before requests got more =
    let grown = counted_grow got more in
    let cut = drop_append before (counted_lines got) grown.0 in
    subst (λ ls. (told before requests got ≡ Awaited) ⊎ (told_by requests ls ≡ told before requests got)) (sym (ap (drop before) grown.1 ∙ cut.1)) (lines_stay requests (drop before (counted_lines got)) cut.0)

-- so where a reply is awaited, it was awaited before
pub was_awaited : (before : ℕ) (requests : List Asked) (got more : List ℕ) → told before requests (got ++ more) ≡ Awaited → told before requests got ≡ Awaited
was_awaited before requests got more e = elim (tellings_stay before requests got more) [
  | inl h ↦ h
  | inr h ↦ sym h ∙ e
]
