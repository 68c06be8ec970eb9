-- The least of statuses, where several come one after another.
use Rattle.std.proofs.Common.{◌≡◌, ◌⊎◌, inl, inr, ℕ, zero, suc, ◌<◌, ◌≤◌, min, leb, List, [], ◌∷◌, ◌++◌, Contains, refl, sym, subst, ◌∙◌, arith, leb-true, leb-false}
use Rattle.std.proofs.Math.Nat.{min-eq_left, min-eq_right}
use Rattle.std.proofs.lemmas.Bool.{cases_Bool}
use Rattle.std.proofs.lemmas.List.{map-append}
use Rattle.std.proofs.lemmas.List.Elements.{Contains-append_left, Contains-push, Contains-push_cases}
use Rattle.mm_outside.specs.Causes.{Rose}
use Rattle.mm_outside.specs.declared.hall.Back.{Back}
use Rattle.connection_core.specs.declared.conn_end.ConnEnd.{ConnEnd}
use Rattle.connection_core.specs.declared.conn_end.ConnEnd.TheVariants.{Closed, Truncated, ReadFault, WriteFault, TooLong, BatchTooLong, HistoryFull}
use Rattle.connection_core.specs.Ends.{status_of}
use Rattle.mapper_server.specs.Headline.{EndsPrinting, SomePair}
use Rattle.mapper_server.specs.Statuses.{IsLeast, IsServingStatus, IsUpTo, Grew, less_of, statuses_of}
use Rattle.mapper_server.specs.Workers.{EndsLeast}

-- ---- the less of two

min_cases : (a b : ℕ) → ((min a b ≡ a) × (a ≤ b)) ⊎ ((min a b ≡ b) × (b ≤ a))
min_cases a b = elim (cases_Bool (leb a b)) [
  | inl less ↦ (let le = leb-true a b less in inl (min-eq_left le, le))
  | inr more ↦ (let lt = leb-false a b more in let le : b ≤ a = omega (arith, lt) in inr (min-eq_right le, le))
]

less_is : (a b : ℕ) → (less_of a b ≡ a) ⊎ (less_of a b ≡ b)
less_is zero b = inr refl
less_is (suc a) zero = inl refl
less_is (suc a) (suc b) = elim (min_cases (suc a) (suc b)) [
  | inl first ↦ inl first.0
  | inr second ↦ inr second.0
]

pub least_first : (a b : ℕ) → 0 < a → IsUpTo a (less_of a b)
least_first zero b positive = absurd (omega (arith, positive))
least_first (suc a) zero positive = (omega arith, omega arith)
least_first (suc a) (suc b) positive = elim (min_cases (suc a) (suc b)) [
  | inl first ↦ (let e = first.0 in (omega (arith, e), omega (arith, e)))
  | inr second ↦ (let e = second.0 in let le = second.1 in (omega (arith, e), omega (arith, e, le)))
]

pub least_second : (a b : ℕ) → 0 < b → IsUpTo b (less_of a b)
least_second zero b positive = (positive, omega arith)
least_second (suc a) zero positive = absurd (omega (arith, positive))
least_second (suc a) (suc b) positive = elim (min_cases (suc a) (suc b)) [
  | inl first ↦ (let e = first.0 in let le = first.1 in (omega (arith, e), omega (arith, e, le)))
  | inr second ↦ (let e = second.0 in (omega (arith, e), omega (arith, e)))
]

-- ---- the least of what may count and must

-- what may count may be more, and what must may be less
pub least_map : {may may_now must must_now : ℕ → Type 0} {status : ℕ} → ((s : ℕ) → may s → may_now s) → ((s : ℕ) → must_now s → must s) → IsLeast may must status → IsLeast may_now must_now status
least_map {may} {may_now} {must} {must_now} {status} wider narrower h = record {
  cause = elim h.cause [
    | inl none ↦ inl none
    | inr counts ↦ inr (wider status counts)
  ];
  least = λ other positive counts. h.least other positive (narrower other counts);
}

-- of two parts
pub least_both : {may may_too must must_too : ℕ → Type 0} {a b : ℕ} → IsLeast may must a → IsLeast may_too must_too b → IsLeast (λ s. may s ⊎ may_too s) (λ s. must s ⊎ must_too s) (less_of a b)
least_both {may} {may_too} {must} {must_too} {a} {b} first second = record { cause = cause; least = least }
  where
    cause : (less_of a b ≡ 0) ⊎ (may (less_of a b) ⊎ may_too (less_of a b))
    cause = elim (less_is a b) [
      | inl e ↦ elim first.cause [
        | inl none ↦ inl (e ∙ none)
        | inr counts ↦ inr (inl (subst may (sym e) counts))
      ]
      | inr e ↦ elim second.cause [
        | inl none ↦ inl (e ∙ none)
        | inr counts ↦ inr (inr (subst may_too (sym e) counts))
      ]
    ]

    least : (other : ℕ) → 0 < other → must other ⊎ must_too other → IsUpTo other (less_of a b)
    least other positive (inl counts) =
        let h = first.least other positive counts in
        let l = least_first a b h.0 in
        (l.0, omega (arith, l.1, h.1))
    least other positive (inr counts) =
        let h = second.least other positive counts in
        let l = least_second a b h.0 in
        (l.0, omega (arith, l.1, h.1))

-- where one number counts
pub least_one : (status : ℕ) → IsLeast (λ s. s ≡ status) (λ s. s ≡ status) status
least_one status = record {
  cause = inr refl;
  least = λ other positive same. (omega (arith, positive, same), omega (arith, same));
}

-- ---- the statuses of links that were given back

-- no link was
pub least_begins : IsLeast (Contains []) (Contains []) 0
least_begins = record { cause = inl refl; least = λ other positive there. absurd (omega (arith, there.1)) }

-- one link more was
pub least_push : (statuses : List ℕ) (least status : ℕ) → IsLeast (Contains statuses) (Contains statuses) least → IsLeast (Contains (statuses ++ status ∷ [])) (Contains (statuses ++ status ∷ [])) (less_of least status)
least_push statuses least status h = least_map within apart (least_both h (least_one status))
  where
    within : (s : ℕ) → Contains statuses s ⊎ (s ≡ status) → Contains (statuses ++ status ∷ []) s
    within s (inl earlier) = Contains-append_left statuses (status ∷ []) s earlier
    within s (inr same) = subst (Contains (statuses ++ status ∷ [])) (sym same) (Contains-push statuses status)

    apart : (s : ℕ) → Contains (statuses ++ status ∷ []) s → Contains statuses s ⊎ (s ≡ status)
    apart s there = elim (Contains-push_cases statuses status s there) [
      | inl earlier ↦ inl earlier
      | inr same ↦ inr (sym same)
    ]

pub statuses_push : {L : Type 0} (backs : List (Back L)) (back : Back L) → statuses_of (backs ++ back ∷ []) ≡ statuses_of backs ++ back.status ∷ []
statuses_push {L} backs back = map-append (λ (b : Back L). b.status) backs (back ∷ [])

-- ---- with what the hall of a worker came to

module _ {H L : Type 0} (hall_faults : H → ℕ) (before now : H) (backs : List (Back L)) where
  -- the hall has had no fault
  pub least_kept : (status : ℕ) → hall_faults now ≡ hall_faults before → IsLeast (Contains (statuses_of backs)) (Contains (statuses_of backs)) status
      → EndsLeast hall_faults (before ∷ []) (now ∷ []) backs status
  least_kept status kept h = least_map (λ s there. inl there) (λ s counts. elim counts [ inl there ↦ there | inr fault ↦ absurd (none fault.1) ]) h
    where
      none : SomePair (λ (old new : H). Grew (hall_faults old) (hall_faults new)) (before ∷ []) (now ∷ []) → ⊥
      none (inl grew) = omega (arith, kept, grew)
      none (inr further) = further

  -- the hall has failed
  pub least_failed : (status : ℕ) → Rose (hall_faults before) (hall_faults now) → IsLeast (Contains (statuses_of backs)) (Contains (statuses_of backs)) status
      → EndsLeast hall_faults (before ∷ []) (now ∷ []) backs (less_of status 4)
  least_failed status rose h = least_map (λ s counts. elim counts [ inl there ↦ inl there | inr same ↦ inr (same, inl rose) ]) (λ s counts. elim counts [ inl there ↦ inl there | inr fault ↦ inr fault.0 ]) (least_both h (least_one 4))

-- ---- which statuses come

pub none_serves : IsServingStatus 0
none_serves = inl refl

four_serves : IsServingStatus 4
four_serves = inr (inl refl)

five_serves : IsServingStatus 5
five_serves = inr (inr (inl refl))

pub nine_serves : IsServingStatus 9
nine_serves = inr (inr (inr (inr (inr refl))))

-- that of a connection's end
conn_serves : (how : ConnEnd) → IsServingStatus (status_of how)
conn_serves Closed = none_serves
conn_serves (Truncated lines) = inr (inr (inr (inl refl)))
conn_serves ReadFault = four_serves
conn_serves WriteFault = five_serves
conn_serves TooLong = inr (inr (inr (inr (inl refl))))
conn_serves BatchTooLong = inr (inr (inr (inr (inl refl))))
conn_serves (HistoryFull entries kept) = nine_serves

pub end_serves : (how : ConnEnd) (status : ℕ) → status ≡ status_of how → IsServingStatus status
end_serves how status is = subst IsServingStatus (sym is) (conn_serves how)

-- that of a printing
pub printing_serves : (status sink_before sink_now : ℕ) → IsLeast (EndsPrinting Rose sink_before sink_now) (EndsPrinting Grew sink_before sink_now) status → IsServingStatus status
printing_serves status sink_before sink_now h = elim h.cause [
  | inl none ↦ subst IsServingStatus (sym none) none_serves
  | inr fault ↦ subst IsServingStatus (sym fault.0) five_serves
]

-- the less of two
pub less_serves : (a b less : ℕ) → less ≡ less_of a b → IsServingStatus a → IsServingStatus b → IsServingStatus less
less_serves a b less is first second = elim (less_is a b) [
  | inl e ↦ subst IsServingStatus (sym (is ∙ e)) first
  | inr e ↦ subst IsServingStatus (sym (is ∙ e)) second
]

-- that of a worker whose hall has failed
pub failed_serves : (status less : ℕ) → less ≡ less_of status 4 → IsServingStatus status → IsServingStatus less
failed_serves status less is first = less_serves status 4 less is first four_serves

-- ---- a fault counts whatever is told

-- the first of two statuses is that small
pub less_up_first : (most a b : ℕ) → IsUpTo most a → IsUpTo most (less_of a b)
less_up_first most a b h = let l = least_first a b h.0 in (l.0, omega (arith, l.1, h.1))

-- the second one is
pub less_up_second : (most a b : ℕ) → IsUpTo most b → IsUpTo most (less_of a b)
less_up_second most a b h = let l = least_second a b h.0 in (l.0, omega (arith, l.1, h.1))
