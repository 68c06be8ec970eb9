-- What holds of each of many halls and what all of them tell, where one more comes last.
use Rattle.std.proofs.Common.{◌≡◌, ◌⊎◌, inl, inr, ℕ, suc, List, [], ◌∷◌, ◌++◌, length, Option, Some, None, Contains, refl, sym, ap, subst, ◌∙◌, append_assoc, arith}
use Rattle.std.proofs.lemmas.List.{append-nil, map-append}
use Rattle.std.proofs.lemmas.List.Elements.{Contains-append_left, Contains-append_right, Contains-append_cases, filter_map-append}
use Rattle.mm_outside.specs.Causes.{Rose}
use Rattle.mm_outside.specs.Hall.{Links}
use Rattle.mm_outside.specs.Told.{Told, TellsSo}
use Rattle.mm_outside.specs.declared.hall.Back.{Back}
use Rattle.mapper_server.specs.Backs.{conns_of, new_back}
use Rattle.mapper_server.specs.Headline.{EachPair, EndsWith, SomePair, new_backs, told_all, told_with}
use Rattle.mapper_server.specs.Statuses.{Grew, less_of, statuses_of}
use Rattle.mapper_server.specs.Workers.{EndsLeast}
use Rattle.mapper_server.proofs.Leasts.{least_both, least_map}

-- ---- two lists, member by member

module _ {A B : Type 0} where
  pub each_map : (R S : A → B → Type 0) → ((x : A) (y : B) → R x y → S x y) → (xs : List A) (ys : List B) → EachPair R xs ys → EachPair S xs ys
  each_map R S step [] [] h = tt
  each_map R S step [] (y ∷ ys) h = absurd h
  each_map R S step (x ∷ xs) [] h = absurd h
  each_map R S step (x ∷ xs) (y ∷ ys) h = (step x y h.0, each_map R S step xs ys h.1)

  pub each_length : (R : A → B → Type 0) (xs : List A) (ys : List B) → EachPair R xs ys → length xs ≡ length ys
  each_length R [] [] h = refl
  each_length R [] (y ∷ ys) h = absurd h
  each_length R (x ∷ xs) [] h = absurd h
  each_length R (x ∷ xs) (y ∷ ys) h = ap suc (each_length R xs ys h.1)

  pub each_last : (R : A → B → Type 0) (xs : List A) (ys : List B) (x : A) (y : B) → EachPair R xs ys → R x y → EachPair R (xs ++ x ∷ []) (ys ++ y ∷ [])
  each_last R [] [] x y h last = (last, tt)
  each_last R [] (z ∷ ys) x y h last = absurd h
  each_last R (z ∷ xs) [] x y h last = absurd h
  each_last R (z ∷ xs) (w ∷ ys) x y h last = (h.0, each_last R xs ys x y h.1 last)

  pub some_left : (R : A → B → Type 0) (xs zs : List A) (ys ws : List B) → SomePair R xs ys → SomePair R (xs ++ zs) (ys ++ ws)
  some_left R [] zs ys ws h = absurd h
  some_left R (x ∷ xs) zs [] ws h = absurd h
  some_left R (x ∷ xs) zs (y ∷ ys) ws (inl here) = inl here
  some_left R (x ∷ xs) zs (y ∷ ys) ws (inr there) = inr (some_left R xs zs ys ws there)

  pub some_right : (R : A → B → Type 0) (xs zs : List A) (ys ws : List B) → length xs ≡ length ys → SomePair R zs ws → SomePair R (xs ++ zs) (ys ++ ws)
  some_right R [] zs [] ws same h = h
  some_right R [] zs (y ∷ ys) ws same h = absurd (omega (arith, same))
  some_right R (x ∷ xs) zs [] ws same h = absurd (omega (arith, same))
  some_right R (x ∷ xs) zs (y ∷ ys) ws same h = inr (some_right R xs zs ys ws (omega (arith, same)) h)

  pub some_either : (R : A → B → Type 0) (xs zs : List A) (ys ws : List B) → length xs ≡ length ys → SomePair R (xs ++ zs) (ys ++ ws) → SomePair R xs ys ⊎ SomePair R zs ws
  some_either R [] zs [] ws same h = inr h
  some_either R [] zs (y ∷ ys) ws same h = absurd (omega (arith, same))
  some_either R (x ∷ xs) zs [] ws same h = absurd (omega (arith, same))
  some_either R (x ∷ xs) zs (y ∷ ys) ws same (inl here) = inl (inl here)
  some_either R (x ∷ xs) zs (y ∷ ys) ws same (inr there) = further (some_either R xs zs ys ws (omega (arith, same)) there)
    where
      further : SomePair R xs ys ⊎ SomePair R zs ws → (R x y ⊎ SomePair R xs ys) ⊎ SomePair R zs ws
      further (inl left) = inl (inr left)
      further (inr right) = inr right

-- ---- what all halls tell, where one more comes last

module _ {A : Type 0} where
  told_last : Option (List A) → Option A → Option (List A)
  told_last (Some told) (Some last) = Some (told ++ last ∷ [])
  told_last (Some told) None = None
  told_last None last = None

  with_last : (first : Option A) (told : Option (List A)) (last : Option A) → told_with first (told_last told last) ≡ told_last (told_with first told) last
  unfolding told_last
  with_last None None last = refl
  with_last None (Some told) (Some last) = refl
  with_last None (Some told) None = refl
  with_last (Some first) None last = refl
  with_last (Some first) (Some told) (Some last) = refl
  with_last (Some first) (Some told) None = refl

  only_last : (told : Option A) → told_with told (Some []) ≡ told_last (Some []) told
  unfolding told_last
  only_last None = refl
  only_last (Some told) = refl

  told_snoc : {H : Type 0} (tell : H → Option A) (halls : List H) (last : H) → told_all tell (halls ++ last ∷ []) ≡ told_last (told_all tell halls) (tell last)
  told_snoc tell [] last = only_last (tell last)
  told_snoc tell (hall ∷ halls) last = ap (told_with (tell hall)) (told_snoc tell halls last) ∙ with_last (tell hall) (told_all tell halls) (tell last)

  with_length : (first : Option A) (rest : Option (List A)) (told : List A) (n : ℕ) → ((told : List A) → rest ≡ Some told → length told ≡ n) → told_with first rest ≡ Some told → length told ≡ suc n
  with_length (Some first) (Some rest) told n ih e = let is : first ∷ rest ≡ told = cc (e) in ap length (sym is) ∙ ap suc (ih rest refl)
  with_length (Some first) None told n ih e = absurd (cc (e))
  with_length None rest told n ih e = absurd (cc (e))

  pub told_length : {H : Type 0} (tell : H → Option A) (halls : List H) (told : List A) → told_all tell halls ≡ Some told → length told ≡ length halls
  told_length tell [] told e = let is : [] ≡ told = cc (e) in ap length (sym is)
  told_length tell (hall ∷ halls) told e = with_length (tell hall) (told_all tell halls) told (length halls) (λ rest is. told_length tell halls rest is) e

  tells_last : (R : List A → List A → Type 0) (S : A → A → Type 0) (Q : List A → List A → Type 0) (olds news : Option (List A)) (old new : Option A)
      → ((a b : List A) (c d : A) → olds ≡ Some a → news ≡ Some b → R a b → S c d → Q (a ++ c ∷ []) (b ++ d ∷ []))
      → TellsSo R olds news → TellsSo S old new → TellsSo Q (told_last olds old) (told_last news new)
  unfolding told_last
  tells_last R S Q None news old new step first second = tt
  tells_last R S Q (Some a) news None new step first second = tt
  tells_last R S Q (Some a) None (Some c) new step first second = absurd first
  tells_last R S Q (Some a) (Some b) (Some c) None step first second = absurd second
  tells_last R S Q (Some a) (Some b) (Some c) (Some d) step first second = step a b c d refl refl first second

  -- what holds of the lists that are told, and of what the last tells, with one more at the end
  pub Told-last : {H : Type 0} (tell : H → Option A) (R : List A → List A → Type 0) (S : A → A → Type 0) (Q : List A → List A → Type 0) (befores nows : List H) (before now : H)
      → length befores ≡ length nows
      → ((a b : List A) (c d : A) → length a ≡ length b → R a b → S c d → Q (a ++ c ∷ []) (b ++ d ∷ []))
      → Told R (told_all tell befores) (told_all tell nows) → Told S (tell before) (tell now) → Told Q (told_all tell (befores ++ before ∷ [])) (told_all tell (nows ++ now ∷ []))
  Told-last tell R S Q befores nows before now same step first second = record {
    so = subst (λ (p : Option (List A) × Option (List A)). TellsSo Q p.0 p.1) (λ i. (sym (told_snoc tell befores before) i, sym (told_snoc tell nows now) i))
        (tells_last R S Q (told_all tell befores) (told_all tell nows) (tell before) (tell now)
        (λ a b c d was is. step a b c d (told_length tell befores a was ∙ same ∙ sym (told_length tell nows b is))) first.so second.so);
  }

  tells_one : (S : A → A → Type 0) (Q : List A → List A → Type 0) (old new : Option A) → ((c d : A) → S c d → Q (c ∷ []) (d ∷ [])) → TellsSo S old new → TellsSo Q (told_with old (Some [])) (told_with new (Some []))
  tells_one S Q None new step h = tt
  tells_one S Q (Some c) None step h = absurd h
  tells_one S Q (Some c) (Some d) step h = step c d h

  pub Told-one : {H : Type 0} (tell : H → Option A) (S : A → A → Type 0) (Q : List A → List A → Type 0) (before now : H) → ((c d : A) → S c d → Q (c ∷ []) (d ∷ [])) → Told S (tell before) (tell now) → Told Q (told_all tell (before ∷ [])) (told_all tell (now ∷ []))
  Told-one tell S Q before now step h = record { so = tells_one S Q (tell before) (tell now) step h.so }

  tells_each : (R : A → A → Type 0) (old new : Option A) (olds news : Option (List A)) → TellsSo R old new → TellsSo (EachPair R) olds news → TellsSo (EachPair R) (told_with old olds) (told_with new news)
  tells_each R None new olds news first rest = tt
  tells_each R (Some a) new None news first rest = tt
  tells_each R (Some a) None (Some c) news first rest = absurd first
  tells_each R (Some a) (Some b) (Some c) None first rest = absurd rest
  tells_each R (Some a) (Some b) (Some c) (Some d) first rest = (first, rest)

  each_tells : {H : Type 0} (tell : H → Option A) (R : A → A → Type 0) (befores nows : List H) → EachPair (λ (old new : H). Told R (tell old) (tell new)) befores nows → TellsSo (EachPair R) (told_all tell befores) (told_all tell nows)
  each_tells tell R [] [] h = tt
  each_tells tell R [] (now ∷ nows) h = absurd h
  each_tells tell R (before ∷ befores) [] h = absurd h
  each_tells tell R (before ∷ befores) (now ∷ nows) h = tells_each R (tell before) (tell now) (told_all tell befores) (told_all tell nows) h.0.so (each_tells tell R befores nows h.1)

  -- what holds of what each tells holds of what all tell, member by member
  pub Told-each : {H : Type 0} (tell : H → Option A) (R : A → A → Type 0) (befores nows : List H) → EachPair (λ (old new : H). Told R (tell old) (tell new)) befores nows → Told (EachPair R) (told_all tell befores) (told_all tell nows)
  Told-each tell R befores nows h = record { so = each_tells tell R befores nows h }

-- ---- the links that came back, where one more hall comes last

module _ {L : Type 0} where
  pub new_backs_last : (olds news : List (Links L)) (old new : Links L) → length olds ≡ length news → new_backs (olds ++ old ∷ []) (news ++ new ∷ []) ≡ new_backs olds news ++ new_back old new
  new_backs_last [] [] old new same = append-nil (new_back old new)
  new_backs_last [] (y ∷ news) old new same = absurd (omega (arith, same))
  new_backs_last (x ∷ olds) [] old new same = absurd (omega (arith, same))
  new_backs_last (x ∷ olds) (y ∷ news) old new same =
      ap (λ (backs : List (Back L)). new_back x y ++ backs) (new_backs_last olds news old new (omega (arith, same))) ∙ sym (append_assoc (new_back x y) (new_backs olds news) (new_back old new))

  pub conns_last : (olds news : List (Links L)) (old new : Links L) → length olds ≡ length news → conns_of (new_backs (olds ++ old ∷ []) (news ++ new ∷ [])) ≡ conns_of (new_backs olds news) ++ conns_of (new_back old new)
  conns_last olds news old new same = ap conns_of (new_backs_last olds news old new same) ∙ filter_map-append (λ (back : Back L). back.conn) (new_backs olds news) (new_back old new)

  pub conns_one : (old new : Links L) → conns_of (new_backs (old ∷ []) (new ∷ [])) ≡ conns_of (new_back old new)
  conns_one old new = ap conns_of (append-nil (new_back old new))

-- ---- the status

module _ {H L : Type 0} (hall_faults : H → ℕ) where
  ends_left : (Counts : ℕ → ℕ → Type 0) (befores nows : List H) (before now : H) (backs more : List (Back L)) (status : ℕ)
      → EndsWith hall_faults Counts befores nows backs status → EndsWith hall_faults Counts (befores ++ before ∷ []) (nows ++ now ∷ []) (backs ++ more) status
  ends_left Counts befores nows before now backs more status (inl there) =
      inl (subst (λ (all : List ℕ). Contains all status) (sym (map-append (λ (back : Back L). back.status) backs more)) (Contains-append_left (statuses_of backs) (statuses_of more) status there))
  ends_left Counts befores nows before now backs more status (inr failed) =
      inr (failed.0, some_left (λ (old new : H). Counts (hall_faults old) (hall_faults new)) befores (before ∷ []) nows (now ∷ []) failed.1)

  ends_right : (Counts : ℕ → ℕ → Type 0) (befores nows : List H) (before now : H) (backs more : List (Back L)) (status : ℕ) → length befores ≡ length nows
      → EndsWith hall_faults Counts (before ∷ []) (now ∷ []) more status → EndsWith hall_faults Counts (befores ++ before ∷ []) (nows ++ now ∷ []) (backs ++ more) status
  ends_right Counts befores nows before now backs more status same (inl there) =
      inl (subst (λ (all : List ℕ). Contains all status) (sym (map-append (λ (back : Back L). back.status) backs more)) (Contains-append_right (statuses_of backs) (statuses_of more) status there))
  ends_right Counts befores nows before now backs more status same (inr failed) =
      inr (failed.0, some_right (λ (old new : H). Counts (hall_faults old) (hall_faults new)) befores (before ∷ []) nows (now ∷ []) same failed.1)

  ends_either : (Counts : ℕ → ℕ → Type 0) (befores nows : List H) (before now : H) (backs more : List (Back L)) (status : ℕ) → length befores ≡ length nows
      → EndsWith hall_faults Counts (befores ++ before ∷ []) (nows ++ now ∷ []) (backs ++ more) status
      → EndsWith hall_faults Counts befores nows backs status ⊎ EndsWith hall_faults Counts (before ∷ []) (now ∷ []) more status
  ends_either Counts befores nows before now backs more status same (inl there) =
      elim (Contains-append_cases (statuses_of backs) (statuses_of more) status (subst (λ (all : List ℕ). Contains all status) (map-append (λ (back : Back L). back.status) backs more) there)) [
        | inl left ↦ inl (inl left)
        | inr right ↦ inr (inl right)
      ]
  ends_either Counts befores nows before now backs more status same (inr failed) =
      elim (some_either (λ (old new : H). Counts (hall_faults old) (hall_faults new)) befores (before ∷ []) nows (now ∷ []) same failed.1) [
        | inl left ↦ inl (inr (failed.0, left))
        | inr right ↦ inr (inr (failed.0, right))
      ]

  -- the least status of all halls, where one more comes last
  pub statuses_last : (befores nows : List H) (before now : H) (olds news : List (Links L)) (old new : Links L) (all one : ℕ) → length befores ≡ length nows → length olds ≡ length news
      → EndsLeast hall_faults befores nows (new_backs olds news) all
      → EndsLeast hall_faults (before ∷ []) (now ∷ []) (new_back old new) one
      → EndsLeast hall_faults (befores ++ before ∷ []) (nows ++ now ∷ []) (new_backs (olds ++ old ∷ []) (news ++ new ∷ [])) (less_of all one)
  statuses_last befores nows before now olds news old new all one same as_many first second =
      subst (λ (backs : List (Back L)). EndsLeast hall_faults (befores ++ before ∷ []) (nows ++ now ∷ []) backs (less_of all one))
      (sym (new_backs_last olds news old new as_many)) (least_map may must (least_both first second))
    where
      may : (s : ℕ) → EndsWith hall_faults Rose befores nows (new_backs olds news) s ⊎ EndsWith hall_faults Rose (before ∷ []) (now ∷ []) (new_back old new) s
          → EndsWith hall_faults Rose (befores ++ before ∷ []) (nows ++ now ∷ []) (new_backs olds news ++ new_back old new) s
      may s (inl left) = ends_left Rose befores nows before now (new_backs olds news) (new_back old new) s left
      may s (inr right) = ends_right Rose befores nows before now (new_backs olds news) (new_back old new) s same right

      must : (s : ℕ) → EndsWith hall_faults Grew (befores ++ before ∷ []) (nows ++ now ∷ []) (new_backs olds news ++ new_back old new) s
          → EndsWith hall_faults Grew befores nows (new_backs olds news) s ⊎ EndsWith hall_faults Grew (before ∷ []) (now ∷ []) (new_back old new) s
      must s counts = ends_either Grew befores nows before now (new_backs olds news) (new_back old new) s same counts

  -- the statuses of one hall are those of all, where there is no other
  pub statuses_one : (before now : H) (old new : Links L) (status : ℕ)
      → EndsLeast hall_faults (before ∷ []) (now ∷ []) (new_back old new) status
      → EndsLeast hall_faults (before ∷ []) (now ∷ []) (new_backs (old ∷ []) (new ∷ [])) status
  statuses_one before now old new status h =
      subst (λ (backs : List (Back L)). EndsLeast hall_faults (before ∷ []) (now ∷ []) backs status)
      (sym (append-nil (new_back old new))) h
