-- Marks that spread along pairs.
use Rattle.std.proofs.Common.{◌≡◌, ℕ, zero, suc, ◌<◌, ◌≤◌, ◌+◌, inl, inr, Bool, true, false, cond, List, [], ◌∷◌, length, get_or, set, refl, sym, ap, subst, ◌∙◌, arith, true≢false, get_or-set_same, get_or-set_other}
use Rattle.std.proofs.lemmas.Bool.{cases_eq}
use Rattle.std.proofs.lemmas.List.Sums.{sum_by-cons}
use Rattle.std.proofs.lemmas.List.Elements.{All-contains, Contains-get_or}
use Rattle.wait_graph.specs.Walks.{Leads, IsWalk}
use Rattle.wait_graph.specs.Marks.{HasMark, AreLedFrom, IsClosed, mark_count}
use Rattle.wait_graph.proofs.WalkLaws.{Pairs, Leads-then}

-- what a round has done at the first pairs
pub record Spreads (pairs : Pairs) (old now : List Bool) (made : Bool) (i : ℕ) : Type 0 where
  pub kept : (unit : ℕ) → HasMark old unit → HasMark now unit
  pub led : (from : ℕ) → AreLedFrom pairs from old → AreLedFrom pairs from now
  pub closed : made ≡ false → (j : ℕ) (d : ℕ × ℕ) → j < i → HasMark now (get_or pairs j d).0 → HasMark now (get_or pairs j d).1
  pub grown : mark_count old ≤ mark_count now
  pub more : made ≡ true → mark_count old < mark_count now

one_more : (s : ℕ) → 1 + s ≡ suc (0 + s)
one_more s = omega arith

more_behind : (b t s : ℕ) → t ≡ suc s → b + t ≡ suc (b + s)
more_behind b t s e = omega arith

-- one more mark is one more
count_more : (marks : List Bool) (k : ℕ) → k < length marks → get_or marks k false ≡ false → mark_count (set marks k true) ≡ suc (mark_count marks)
count_more [] k below bare = absurd (omega arith)
count_more (true ∷ marks) zero below bare = absurd (true≢false bare)
count_more (false ∷ marks) zero below bare =
    sum_by-cons (λ x. cond x 1 0) true marks
    ∙ one_more (mark_count marks)
    ∙ ap suc (sym (sum_by-cons (λ x. cond x 1 0) false marks))
count_more (b ∷ marks) (suc k) below bare =
    sum_by-cons (λ x. cond x 1 0) b (set marks k true)
    ∙ more_behind (cond b 1 0) (mark_count (set marks k true)) (mark_count marks) (count_more marks k (omega arith) bare)
    ∙ ap suc (sym (sum_by-cons (λ x. cond x 1 0) b marks))

-- a pair that makes no mark
pub Spreads-keep : (pairs : Pairs) (old now : List Bool) (made : Bool) (i : ℕ) → Spreads pairs old now made i → ((d : ℕ × ℕ) → HasMark now (get_or pairs i d).0 → HasMark now (get_or pairs i d).1) → Spreads pairs old now made (i + 1)
Spreads-keep pairs old now made i s here = record {
  kept = s.kept;
  led = s.led;
  closed = λ e j d l. elim (cases_eq j i) [
    | inl same ↦ subst (λ x. HasMark now (get_or pairs x d).0 → HasMark now (get_or pairs x d).1) (sym same) (here d)
    | inr other ↦ s.closed e j d (omega arith)
  ];
  grown = s.grown;
  more = s.more;
}

-- a pair that makes one
pub Spreads-mark : (pairs : Pairs) (old now : List Bool) (made : Bool) (i : ℕ) (d : ℕ × ℕ) → Spreads pairs old now made i → i < length pairs → (get_or pairs i d).1 < length now → HasMark now (get_or pairs i d).0 → get_or now (get_or pairs i d).1 false ≡ false → Spreads pairs old (set now (get_or pairs i d).1 true) true (i + 1)
Spreads-mark pairs old now made i d s below within first second = record {
  kept = λ unit h. keep unit (s.kept unit h);
  led = λ from start unit h. elim (cases_eq unit to) [
    | inl same ↦ subst (λ x. Leads pairs from x) (sym same) (Leads-then pairs from (get_or pairs i d).0 to (s.led from start (get_or pairs i d).0 first) (to ∷ [], (Contains-get_or pairs i d below, refl)))
    | inr other ↦ s.led from start unit (sym (get_or-set_other now to unit true false other) ∙ h)
  ];
  closed = λ e. absurd (true≢false e);
  grown = let g = s.grown in let c : mark_count (set now to true) ≡ suc (mark_count now) = count_more now to within second in omega arith;
  more = λ e. let g = s.grown in let c : mark_count (set now to true) ≡ suc (mark_count now) = count_more now to within second in omega arith;
}
  where
    to : ℕ
    to = (get_or pairs i d).1

    keep : (unit : ℕ) → HasMark now unit → HasMark (set now to true) unit
    keep unit h = elim (cases_eq unit to) [
      | inl same ↦ subst (λ x. HasMark (set now to true) x) (sym same) (get_or-set_same now to true false within)
      | inr other ↦ get_or-set_other now to unit true false other ∙ h
    ]

-- marks that are closed under the pairs have each unit to which a walk leads
pub marks_all : (pairs : Pairs) (marks : List Bool) → IsClosed pairs marks → (to : ℕ) (units : List ℕ) (from : ℕ) → HasMark marks from → IsWalk pairs from units to → HasMark marks to
marks_all pairs marks closed to [] from here e = subst (λ x. HasMark marks x) e here
marks_all pairs marks closed to (next ∷ units) from here h =
    marks_all pairs marks closed to units next (All-contains (λ pair. HasMark marks pair.0 → HasMark marks pair.1) pairs (from, next) closed h.0 here) h.1
