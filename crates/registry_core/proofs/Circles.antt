-- The graph's pairs are the waits of the history.
use Rattle.std.proofs.Common.{◌≡◌, ◌↔◌, ℕ, Bool, true, false, List, [], ◌∷◌, filter_map, map, reverse, Contains, IsTrue, refl, sym, ap, ap₂, subst, ◌∙◌}
use Rattle.std.proofs.lemmas.List.{reverse-reverse}
use Rattle.std.specs.List.{cons_option}
use Rattle.histories.specs.declared.answered.Wait.{Wait}
use Rattle.histories.specs.declared.standing.Who.{Who}
use Rattle.histories.specs.declared.standing.Who.TheVariants.{Nobody, Guest, Holder}
use Rattle.histories.proofs.Members.{In}
use Rattle.unit_registry.specs.Projects.{ProjectView}
use Rattle.histories.specs.Answered.{who}
use Rattle.histories.specs.Noted.{Noted, answered_of, pending, pair_of, waits}
use Rattle.wait_graph.specs.Walks.{Leads, leads}
use Rattle.histories.proofs.Members.{In-filter_map, In-filter_map_from, In-reverse, In-from_Contains, Contains-from_In}
use Rattle.wait_graph.proofs.WalkLaws.{Leads-more}
use Rattle.wait_graph.proofs.ShortWalks.{leads-true, leads-from}
use Rattle.registry_tables.specs.declared.imports.Waiting.{Waiting}
use Rattle.registry_tables.specs.Imported.{pair_by, pairs_in, held, ClosesNone}
use Rattle.histories.specs.Answers.{leads_to_held}
use Rattle.std.proofs.lemmas.Bool.{both_ways}
use Rattle.registry_core.specs.Standing.{waiting_of}

pair_is : (h : Who) (unit : ℕ) → pair_by (held h) unit ≡ pair_of h unit
pair_is Nobody unit = refl
pair_is Guest unit = refl
pair_is (Holder u) unit = refl

pub pairs_are : (noted : List Noted) (ws : List Wait) → pairs_in (map (waiting_of noted) ws) ≡ filter_map (λ w. pair_of (who (answered_of noted) w.conn) w.unit) ws
pairs_are noted [] = refl
pairs_are noted (w ∷ ws) = ap₂ (λ o ps. cons_option o ps) (pair_is (who (answered_of noted) w.conn) w.unit) (pairs_are noted ws)

back : (xs : List Waiting) (p : ℕ × ℕ) → Contains (pairs_in (reverse xs)) p → Contains (pairs_in xs) p
back xs p h =
    let found = In-filter_map (λ (w : Waiting). pair_by w.holder w.unit) p (reverse xs) (In-from_Contains p (pairs_in (reverse xs)) h) in
    Contains-from_In p (pairs_in xs) (In-filter_map_from (λ (w : Waiting). pair_by w.holder w.unit) p found.0 found.2 xs (subst (λ (ys : List Waiting). In found.0 ys) (reverse-reverse xs) (In-reverse found.0 (reverse xs) found.1)))

forth : (xs : List Waiting) (p : ℕ × ℕ) → Contains (pairs_in xs) p → Contains (pairs_in (reverse xs)) p
forth xs p h =
    let found = In-filter_map (λ (w : Waiting). pair_by w.holder w.unit) p xs (In-from_Contains p (pairs_in xs) h) in
    Contains-from_In p (pairs_in (reverse xs)) (In-filter_map_from (λ (w : Waiting). pair_by w.holder w.unit) p found.0 found.2 (reverse xs) (In-reverse found.0 xs found.1))

same_bool : (a b : Bool) → (a ≡ true → b ≡ true) → (b ≡ true → a ≡ true) → a ≡ b
same_bool true b f g = sym (f refl)
same_bool false true f g = g refl
same_bool false false f g = refl

-- the graph's answer is that of the waits
pub circle_is : (project : ProjectView) (noted : List Noted) (waiting : List Waiting) (from to : ℕ) (found : Bool) → waiting ≡ map (waiting_of noted) (pending project noted) → (IsTrue found ↔ Leads (pairs_in (reverse waiting)) from to) → found ≡ leads (waits project noted) from to
circle_is project noted waiting from to found is walk =
    let pairs : pairs_in waiting ≡ waits project noted = ap pairs_in is ∙ pairs_are noted (pending project noted) in
    same_bool found (leads (waits project noted) from to) (λ h. leads-from (waits project noted) from to (subst (λ ps. Leads ps from to) pairs (Leads-more (pairs_in (reverse waiting)) (pairs_in waiting) (back waiting) from to (walk.0 h)))) (λ h. walk.1 (Leads-more (pairs_in waiting) (pairs_in (reverse waiting)) (forth waiting) from to (subst (λ ps. Leads ps from to) (sym pairs) (leads-true (waits project noted) from to h))))

-- where the waits lead to no held unit, one more pair closes no circle
pub closes_none : (project : ProjectView) (noted : List Noted) (waiting : List Waiting) → waiting ≡ map (waiting_of noted) (pending project noted) → (unit : ℕ) (is_whose : Who) → leads_to_held (waits project noted) unit is_whose ≡ false → ClosesNone (reverse waiting) (held is_whose) unit
closes_none project noted waiting is unit (Holder taken) none =
    λ walk. both_ways (leads (waits project noted) unit taken) none (leads-from (waits project noted) unit taken (subst (λ ps. Leads ps unit taken) pairs (Leads-more (pairs_in (reverse waiting)) (pairs_in waiting) (back waiting) unit taken walk)))
  where
    pairs : pairs_in waiting ≡ waits project noted
    pairs = ap pairs_in is ∙ pairs_are noted (pending project noted)
closes_none project noted waiting is unit Nobody none = tt
closes_none project noted waiting is unit Guest none = tt
