-- An entry passes the checks exactly where what its kind needs is there.
use Rattle.std.proofs.Common.{◌≡◌, ℕ, ◌+◌, ◌≤◌, Bool, true, false, cond, not, ◌||◌, ◌&&◌, ◌==◌, List, ◌∷◌, length, None, is_none, refl, ap, ap₂, ◌∙◌, arith, true≢false, eq-eqb, ne_eqb}
use Rattle.std.proofs.lemmas.Bool.{or_from}
use Rattle.std.specs.Prelude.{◌↔◌}
use Rattle.unit_registry.specs.declared.act.Act.{Act}
use Rattle.unit_registry.specs.declared.act.Act.TheVariants.{Open, Left, Lost, Done}
use Rattle.unit_registry.specs.Acts.{is_open_act, is_done}
use Rattle.unit_registry.specs.Projects.{ProjectView}
use Rattle.histories.specs.declared.entry.Entry.{Entry}
use Rattle.histories.specs.Answered.{is_open, open_connections, opened_count, open_count, done_count, reserved}
use Rattle.histories.specs.Noted.{Noted, answered_of}
use Rattle.histories.specs.Histories.{noted_of, fault, is_out_of_range, IsLegal}
use Rattle.histories.specs.Counts.{Effect, Opens, Asks, Goes, Ends, effect_of, MayCome}
use Rattle.histories.proofs.Acyclic.{answered_entry}
use Rattle.histories.proofs.Legality.{none_is}
use Rattle.histories.proofs.Steps.{IsStanding, standing, opens_next, stands_open}
use Rattle.histories.proofs.Counting.{does_end, IsOfKind, of_kind, one_opens, one_stays, one_less}
use Rattle.histories.proofs.Passing.{checks, passes, Stands, more, HasWorkers, free_worker, fresh, done_by, changes_reserved}
use Rattle.histories.proofs.LegalCounts.{stands, not_lt, lt_not, enough_workers, noted_fits}

abbrev is_request : Effect → Bool
is_request Asks = true
is_request _ = false

-- an act that isn't a request names no unit
unnamed : (project : ProjectView) (act : Act) (effect : Effect) → effect_of act ≡ effect → is_request effect ≡ false → is_out_of_range project act ≡ false
unnamed project Open effect e h = refl
unnamed project Left effect e h = refl
unnamed project Lost effect e h = refl
unnamed project Done effect e h = refl
unnamed project act effect e h = absurd (true≢false (ap is_request e ∙ h))

abbrev IsPassing : ProjectView → ℕ → ℕ → List Noted → Entry → Type 0
IsPassing project workers limit noted entry = is_none (fault project workers limit noted entry) ≡ true

-- ---- what one that passes needs is there

needs : (project : ProjectView) (workers limit : ℕ) (noted : List Noted) (entry : Entry) (effect : Effect) → Stands project workers limit noted entry effect → HasWorkers workers noted → MayCome project workers limit noted entry effect
needs project workers limit noted entry Opens s enough = record {
  next = opens_next project workers limit noted entry s.passing s.kind.opening;
  free = free_worker project workers limit noted entry s.passing (ap (λ b. b || is_done entry.act) s.kind.opening) enough;
  room = let fits = not_lt limit _ (checks project workers limit noted entry s.passing).fits in
      let one = changes_reserved project workers limit noted entry Opens s enough in
      omega arith;
}
needs project workers limit noted entry Asks s enough = record {
  there = stands_open project workers limit noted entry s.passing (or_from _ _ s.kind.opening s.kind.ending);
  range = (checks project workers limit noted entry s.passing).in_range;
  room = let fits = not_lt limit _ (checks project workers limit noted entry s.passing).fits in
      let same = changes_reserved project workers limit noted entry Asks s enough in
      omega arith;
}
needs project workers limit noted entry Goes s enough =
    stands_open project workers limit noted entry s.passing (or_from _ _ s.kind.opening s.kind.ending)
needs project workers limit noted entry Ends s enough =
    free_worker project workers limit noted entry s.passing (ap₂ (λ a b. a || b) s.kind.opening s.kind.ending) enough

-- ---- and then it passes

done_is : (project : ProjectView) (noted : List Noted) (entry : Entry) (effect : Effect) → IsOfKind entry.act effect → done_count (more project noted entry) ≡ done_count (answered_of noted) + cond (does_end effect) 1 0
done_is project noted entry effect kind = done_by project 0 0 noted entry effect kind

come : (project : ProjectView) (workers limit : ℕ) (noted : List Noted) (entry : Entry) (effect : Effect) → effect_of entry.act ≡ effect → IsStanding project noted → HasWorkers workers noted → length noted + reserved workers (answered_of noted) ≤ limit → MayCome project workers limit noted entry effect → IsPassing project workers limit noted entry
come project workers limit noted entry Opens e s enough fits may = passes project workers limit noted entry (record {
  in_order = ap₂ (λ a b. a && not b) kind.opening (eq-eqb entry.conn (opened_count (answered_of noted)) may.next);
  is_there = ap (λ b. not (b || is_done entry.act) && not (is_open (answered_of noted) entry.conn)) kind.opening;
  has_worker = ap₂ (λ a b. (a || is_done entry.act) && b) kind.opening (ne_eqb _ _ (λ full. let free = may.free in omega arith));
  in_range = unnamed project entry.act Opens e refl;
  fits = lt_not limit _ (let one : open_count (more project noted entry) ≡ length (entry.conn ∷ open_connections (answered_of noted)) = ap length (one_opens (answered_entry project noted entry) (answered_of noted) kind.opening kind.going (fresh (answered_of noted) entry.conn s.numbered (let next = may.next in omega arith)).1) in
      let same : done_count (more project noted entry) ≡ done_count (answered_of noted) + 0 = done_is project noted entry Opens kind in
      let room = may.room in
      let workers_enough = enough in
      omega arith);
})
  where
    kind : IsOfKind entry.act Opens
    kind = of_kind entry.act Opens e
come project workers limit noted entry Asks e s enough fits may = passes project workers limit noted entry (record {
  in_order = ap (λ b. b && not (entry.conn == opened_count (answered_of noted))) kind.opening;
  is_there = ap₂ (λ a b. not a && not b) (or_from _ _ kind.opening kind.ending) may.there;
  has_worker = ap (λ b. b && open_count (answered_of noted) + done_count (answered_of noted) == workers) (or_from _ _ kind.opening kind.ending);
  in_range = may.range;
  fits = lt_not limit _ (let same : open_count (more project noted entry) ≡ open_count (answered_of noted) = ap length (one_stays (answered_entry project noted entry) (answered_of noted) kind.opening kind.going) in
      let done_same : done_count (more project noted entry) ≡ done_count (answered_of noted) + 0 = done_is project noted entry Asks kind in
      let room = may.room in
      let workers_enough = enough in
      omega arith);
})
  where
    kind : IsOfKind entry.act Asks
    kind = of_kind entry.act Asks e
come project workers limit noted entry Goes e s enough fits may = passes project workers limit noted entry (record {
  in_order = ap (λ b. b && not (entry.conn == opened_count (answered_of noted))) kind.opening;
  is_there = ap₂ (λ a b. not a && not b) (or_from _ _ kind.opening kind.ending) may;
  has_worker = ap (λ b. b && open_count (answered_of noted) + done_count (answered_of noted) == workers) (or_from _ _ kind.opening kind.ending);
  in_range = unnamed project entry.act Goes e refl;
  fits = lt_not limit _ (let less = one_less (answered_entry project noted entry) (answered_of noted) s.numbered kind.opening kind.going may in
      let done_same : done_count (more project noted entry) ≡ done_count (answered_of noted) + 0 = done_is project noted entry Goes kind in
      let workers_enough = enough in
      omega arith);
})
  where
    kind : IsOfKind entry.act Goes
    kind = of_kind entry.act Goes e
come project workers limit noted entry Ends e s enough fits may = passes project workers limit noted entry (record {
  in_order = ap (λ b. b && not (entry.conn == opened_count (answered_of noted))) kind.opening;
  is_there = ap₂ (λ a b. not (a || b) && not (is_open (answered_of noted) entry.conn)) kind.opening kind.ending;
  has_worker = ap₂ (λ a b. (is_open_act entry.act || a) && b) kind.ending (ne_eqb _ _ (λ full. omega arith)) ∙ ap (λ b. (b || true) && false) kind.opening;
  in_range = unnamed project entry.act Ends e refl;
  fits = lt_not limit _ (let same : open_count (more project noted entry) ≡ open_count (answered_of noted) = ap length (one_stays (answered_entry project noted entry) (answered_of noted) kind.opening kind.going) in
      let one : done_count (more project noted entry) ≡ done_count (answered_of noted) + 1 = done_is project noted entry Ends kind in
      let workers_enough = enough in
      omega arith);
})
  where
    kind : IsOfKind entry.act Ends
    kind = of_kind entry.act Ends e

pub may_come : (project : ProjectView) (workers limit : ℕ) (history : List Entry) (entry : Entry) → workers ≤ limit → IsLegal project workers limit history → (fault project workers limit (noted_of project workers history) entry ≡ None) ↔ MayCome project workers limit (noted_of project workers history) entry (effect_of entry.act)
may_come project workers limit history entry few legal = (
  λ none. needs project workers limit (noted_of project workers history) entry (effect_of entry.act) (stands project workers limit (noted_of project workers history) entry (standing project workers limit history legal) (ap (λ o. is_none o) none)) (enough_workers project workers limit history legal),
  λ may. none_is _ (come project workers limit (noted_of project workers history) entry (effect_of entry.act) refl (standing project workers limit history legal) (enough_workers project workers limit history legal) (noted_fits project workers limit history few legal) may),
)
