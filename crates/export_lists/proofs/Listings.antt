-- The outcomes of a project's units, from what they are made of.
use Rattle.std.proofs.Common.{◌≡◌, ℕ, zero, suc, ◌+◌, ◌<◌, ◌≤◌, Bool, true, false, List, [], ◌∷◌, ◌++◌, length, take, drop, inl, inr, ◌⊎◌, Option, Some, cond, sym, ap, ◌∙◌, refl, subst, arith, get_or, length-append}
use Rattle.std.specs.Prelude.{slice_get, filter_map, zip, flat_map}
use Rattle.std.proofs.lemmas.Option.{get_or_from_slice_get, slice_get_read, same_Some}
use Rattle.std.proofs.lemmas.List.Sums.{sum_by_more, sum_by-take-le}
use Rattle.std.specs.Option.{option_map_or}
use Rattle.std.specs.Prelude.{IfOk, Result}
use Rattle.std.specs.List.{All}
use Rattle.std.specs.Int.{from_bool}
use Rattle.mm_outside.specs.declared.errors.Memory.{Memory}
use Rattle.std.proofs.lemmas.Result.{IfOk-weaker}
use Rattle.std.proofs.lemmas.List.{map-append, flat_map_more, take_at}
use Rattle.unit_registry.specs.Projects.{ProjectView, unit_count, is_built, ident_of}
use Rattle.unit_registry.specs.declared.unit.Declared.{Declared}
use Rattle.export_lists.specs.Lists.{Cmi}
use Rattle.export_lists.specs.Sources.{Source}
use Rattle.export_lists.specs.Outcomes.{Origin, FromSource, FromCmi, Outcome, Built, outcome}
use Rattle.export_lists.specs.Listings.{built_count, built_before, IsMadeOf, AreOrigins, AreOutcomes, IsListing}
use Rattle.export_lists.specs.Reports.{outcome_lines, report}
use Rattle.export_lists.specs.Slots.{Slot, Left, Over, first_slot, outcome_in, left_count, IsFirstSlot, IsSourceSlot, AreFirstSlots, IsTable, LeadsTo}
use Rattle.export_lists.proofs.SlotLists.{outcomes_count, outcome_at_slot, left_here}
use Rattle.export_lists.proofs.Tables.{there_or_not, none_past, table_first}
use Rattle.export_lists.proofs.Loops.{taken, paired, zip_ends}
use Rattle.export_lists.proofs.OneSource.{one_source}

-- the last of a list, and those before it
get_push : {X : Type 0} (xs : List X) (x : X) (k : ℕ) (found : X) → slice_get (xs ++ x ∷ []) k ≡ Some found → (slice_get xs k ≡ Some found) ⊎ ((k ≡ length xs) × (x ≡ found))
get_push [] x zero found e = inr (refl, same_Some x found e)
get_push [] x (suc k) found e = absurd (cc)
get_push (y ∷ xs) x zero found e = inl e
get_push (y ∷ xs) x (suc k) found e =
    elim (get_push xs x k found e) [
      | inl before ↦ inl before
      | inr last ↦ inr (ap suc last.0, last.1)
    ]

-- one slot more
pub firsts_more : (project : ProjectView) (sources : List (List ℕ)) (built : List Cmi) (count : ℕ) (slots : List Slot) (slot : Slot) → AreFirstSlots project sources built count slots → IsFirstSlot project sources built count slot → AreFirstSlots project sources built (count + 1) (slots ++ slot ∷ [])
firsts_more project sources built count slots slot are is = record {
  origins = are.origins ++ is.origin ∷ [];
  are_so_many = length-append are.origins (is.origin ∷ []) ∙ ap (λ n. n + 1) are.are_so_many;
  each = each;
  slots_are = (λ k. are.slots_are k ++ is.slot_is k ∷ []) ∙ sym (map-append first_slot are.origins (is.origin ∷ []));
}
  where
    each : (number : ℕ) (origin : Origin) → slice_get (are.origins ++ is.origin ∷ []) number ≡ Some origin → IsMadeOf origin project sources built number
    each number origin e =
        elim (get_push are.origins is.origin number origin e) [
          | inl before ↦ are.each number origin before
          | inr last ↦ subst (λ o. IsMadeOf o project sources built number) last.1 (subst (IsMadeOf is.origin project sources built) (sym (last.0 ∙ are.are_so_many)) is.made_of)
        ]

-- the unit of a number
pub unit_at : (project : ProjectView) (number : ℕ) → number < unit_count project → (unit : Declared) × (slice_get project.units number ≡ Some unit)
unit_at project number lt =
    elim (there_or_not (slice_get project.units number)) [
      | inl h ↦ h
      | inr none ↦ absurd (let out : length project.units ≤ number = none_past project.units number none in omega arith)
    ]

-- one unit more
pub built_more : (project : ProjectView) (number : ℕ) → number < unit_count project → built_before project (number + 1) ≡ built_before project number + cond (is_built project number) 1 0
built_more project number lt =
    let u = unit_at project number lt in
    sum_by_more (λ (v : Declared). cond v.built 1 0) project.units number u.0 lt
    ∙ ap (λ (v : Declared). built_before project number + cond v.built 1 0) (get_or_from_slice_get project.units number u.0 u.0 u.1)
    ∙ ap (λ (o : Option Declared). built_before project number + cond (option_map_or (λ (entry : Declared). entry.built) o false) 1 0) (sym u.1)

as_count : (built : Bool) → from_bool built ≡ cond built 1 0
as_count true = refl
as_count false = refl

pub built_next : (project : ProjectView) (number place one : ℕ) → number < unit_count project → place ≡ built_before project number → one ≡ from_bool (is_built project number) → place + one ≡ built_before project (number + 1)
built_next project number place one lt was is = (λ k. was k + (is ∙ as_count (is_built project number)) k) ∙ sym (built_more project number lt)

-- the interface of a built unit is there
built_below : (next before all one : ℕ) → next ≡ before + one → one ≡ 1 → next ≤ all → before < all
built_below next before all one more is within = omega arith

pub built_inside : (project : ProjectView) (number : ℕ) → number < unit_count project → is_built project number ≡ true → built_before project number < built_count project
built_inside project number lt built =
    let more : built_before project (number + 1) ≡ built_before project number + cond (is_built project number) 1 0 = built_more project number lt in
    let one : cond (is_built project number) 1 0 ≡ 1 = ap (λ b. cond b 1 0) built in
    let within : built_before project (number + 1) ≤ built_count project = sum_by-take-le (λ (v : Declared). cond v.built 1 0) project.units (number + 1) in
    built_below (built_before project (number + 1)) (built_before project number) (built_count project) (cond (is_built project number) 1 0) more one within

-- the outcome in a slot of a table in which no unit is left
slot_outcome : (project : ProjectView) (origins : List Origin) (slots : List Slot) → IsTable project origins slots → left_count slots ≡ 0 → (number : ℕ) (slot : Slot) → slice_get slots number ≡ Some slot → slice_get (filter_map outcome_in slots) number ≡ outcome project origins number
slot_outcome project origins slots t none number (Left unit) is = absurd (let some : 1 ≤ left_count slots = left_here slots number unit is in omega arith)
slot_outcome project origins slots t none number (Over found) is = outcome_at_slot slots number found none is ∙ sym (t.sound number (Over found) is)

-- so it has the outcomes of all units
pub outcomes_are : (project : ProjectView) (origins : List Origin) (slots : List Slot) → IsTable project origins slots → left_count slots ≡ 0 → AreOutcomes project origins (filter_map outcome_in slots)
outcomes_are project origins slots t none = record { count = outcomes_count slots none ∙ t.count; each = each }
  where
    each : (number : ℕ) → number < unit_count project → slice_get (filter_map outcome_in slots) number ≡ outcome project origins number
    each number lt =
        elim (there_or_not (slice_get slots number)) [
          | inl h ↦ slot_outcome project origins slots t none number h.0 h.1
          | inr nothing ↦ absurd (let out : length slots ≤ number = none_past slots number nothing in let count : length slots ≡ unit_count project = t.count in omega arith)
        ]

-- the listing
pub listing_of : (project : ProjectView) (sources : List (List ℕ)) (built : List Cmi) (first last : List Slot) → AreFirstSlots project sources built (unit_count project) first → LeadsTo project first last → left_count last ≡ 0
    → IsListing project sources built (filter_map outcome_in last)
listing_of project sources built first last are leads none = record {
  origins = are.origins;
  are = record { count = are.are_so_many; each = are.each };
  come_to = outcomes_are project are.origins last (leads.keeps are.origins (subst (IsTable project are.origins) (sym are.slots_are) (table_first project are.origins are.are_so_many))) none;
}

-- the slot of a unit that was built before
pub built_slot : (project : ProjectView) (sources : List (List ℕ)) (built : List Cmi) (number place : ℕ) (cmi copy : Cmi) → number < unit_count project → length built ≡ built_count project → place ≡ built_before project number → is_built project number ≡ true → cmi ≡ get_or built place cmi → copy ≡ cmi
    → IsFirstSlot project sources built number (Over (Built copy))
built_slot project sources built number place cmi copy lt count at is item same = record {
  origin = FromCmi copy;
  made_of = (is, ap (slice_get built) (sym at) ∙ slice_get_read built (length built) place cmi refl inside item ∙ ap Some (sym same));
  slot_is = refl;
}
  where
    inside : place < length built
    inside =
        let below : built_before project number < built_count project = built_inside project number lt is in
        omega arith

-- the slot of a unit with a source
pub short_source : (most : ℕ) (sources : List (List ℕ)) (number : ℕ) (source text : List ℕ) → All (λ source. length source ≤ most) sources → number < length sources → source ≡ get_or sources number source → text ≡ source → length text ≤ most
short_source most sources number source text short lt item same = subst (λ (t : List ℕ). length t ≤ most) (sym (same ∙ item)) (short number source lt)

pub source_slots : (project : ProjectView) (sources : List (List ℕ)) (built : List Cmi) (number : ℕ) (source text : List ℕ) (result : Result Slot Memory) → number < unit_count project → length sources ≡ unit_count project → is_built project number ≡ false → source ≡ get_or sources number source → text ≡ source
    → IfOk result (IsSourceSlot project number text) → IfOk result (IsFirstSlot project sources built number)
source_slots project sources built number source text result lt count is item same told = IfOk-weaker result (IsSourceSlot project number text) (IsFirstSlot project sources built number) each told
  where
    each : (slot : Slot) → IsSourceSlot project number text slot → IsFirstSlot project sources built number slot
    each slot s = record {
      origin = FromSource s.reading;
      made_of = (is, text, slice_get_read sources (length sources) number source refl (omega arith) item ∙ ap Some (sym same), s.reads);
      slot_is = s.slot_is;
    }

pub list_end : (project : ProjectView) (sources : List (List ℕ)) (built : List Cmi) (first old new last : List Slot) (outcomes : List Outcome) (len : ℕ) → length first ≡ len → old ≡ first → AreFirstSlots project sources built (unit_count project) first → LeadsTo project old new → left_count new ≡ 0
    → last ≡ take len (new ++ drop (length new) first) → outcomes ≡ filter_map outcome_in last → IsListing project sources built outcomes
list_end project sources built first old new last outcomes len count same are leads none is found =
    let short : length new ≡ len = leads.count ∙ ap length same ∙ count in
    let whole : last ≡ new = is ∙ take_at new (drop (length new) first) len short in
    subst (IsListing project sources built) (sym (found ∙ ap (filter_map outcome_in) whole))
    (listing_of project sources built first new are (subst (λ slots. LeadsTo project slots new) same leads) none)

-- what the report says of one unit more
pub report_more : (project : ProjectView) (outcomes : List Outcome) (number : ℕ) (found : Outcome) → number < unit_count project → slice_get outcomes number ≡ Some found → (text before after : List ℕ)
    → before ≡ text ++ flat_map (λ (u : Declared × Outcome). outcome_lines u.0.ident u.1) (take number (zip project.units outcomes)) → after ≡ before ++ outcome_lines (ident_of project number) found
    → after ≡ text ++ flat_map (λ (u : Declared × Outcome). outcome_lines u.0.ident u.1) (take (number + 1) (zip project.units outcomes))
report_more project outcomes number found lt at text before after was now =
    let u = unit_at project number lt in
    let ident : ident_of project number ≡ u.0.ident = ap (λ (o : Option Declared). option_map_or (λ (entry : Declared). entry.ident) o []) u.1 in
    let pair : slice_get (zip project.units outcomes) number ≡ Some (u.0, found) = paired project.units outcomes number u.0 found u.1 at in
    now ∙ (λ k. was k ++ outcome_lines (ident k) found)
    ∙ flat_map_more (λ (u : Declared × Outcome). outcome_lines u.0.ident u.1) text (take number (zip project.units outcomes)) (u.0, found)
    ∙ ap (λ us. text ++ flat_map (λ (u : Declared × Outcome). outcome_lines u.0.ident u.1) us) (sym (taken (zip project.units outcomes) number (u.0, found) pair))

-- the whole report: either list has no more items
pub report_all : (project : ProjectView) (outcomes : List Outcome) (number : ℕ) (text : List ℕ) → (unit_count project ≤ number) ⊎ (length outcomes ≤ number) → text ≡ flat_map (λ (u : Declared × Outcome). outcome_lines u.0.ident u.1) (take number (zip project.units outcomes)) → text ≡ report project outcomes
report_all project outcomes number text le e = e ∙ ap (λ us. flat_map (λ (u : Declared × Outcome). outcome_lines u.0.ident u.1) us) (zip_ends project.units outcomes number le)

-- lists with the same items are the same
same_items : {X : Type 0} (xs ys : List X) → length xs ≡ length ys → ((k : ℕ) → k < length xs → slice_get xs k ≡ slice_get ys k) → xs ≡ ys
same_items [] [] count each = refl
same_items [] (y ∷ ys) count each = absurd (omega arith)
same_items (x ∷ xs) [] count each = absurd (omega arith)
same_items (x ∷ xs) (y ∷ ys) count each =
    let first : x ≡ y = same_Some x y (each zero (omega arith)) in
    let rest : xs ≡ ys = same_items xs ys (omega arith) (λ k lt. each (suc k) (omega arith)) in
    λ k. first k ∷ rest k

-- a unit is made of one thing
one_origin : (project : ProjectView) (sources : List (List ℕ)) (built : List Cmi) (number : ℕ) (origin other : Origin) → IsMadeOf origin project sources built number → IsMadeOf other project sources built number → origin ≡ other
one_origin project sources built number (FromCmi cmi) (FromCmi other) a b = ap FromCmi (same_Some cmi other (sym a.1 ∙ b.1))
one_origin project sources built number (FromCmi cmi) (FromSource reading) a b = absurd (let e : true ≡ false = sym a.0 ∙ b.0 in cc)
one_origin project sources built number (FromSource reading) (FromCmi cmi) a b = absurd (let e : true ≡ false = sym b.0 ∙ a.0 in cc)
one_origin project sources built number (FromSource reading) (FromSource other) a b =
    let same : a.1 ≡ b.1 = same_Some a.1 b.1 (sym a.2 ∙ b.2) in
    ap FromSource (one_source project number b.1 reading other (subst (λ text. Source project number text reading) same a.3) b.3)

one_made : (project : ProjectView) (sources : List (List ℕ)) (built : List Cmi) (origins others : List Origin) → AreOrigins project sources built origins → AreOrigins project sources built others → origins ≡ others
one_made project sources built origins others a b = same_items origins others (a.count ∙ sym b.count) each
  where
    each : (k : ℕ) → k < length origins → slice_get origins k ≡ slice_get others k
    each k lt =
        elim (there_or_not (slice_get origins k)) [
          | inl h ↦
              elim (there_or_not (slice_get others k)) [
                | inl i ↦ h.1 ∙ ap Some (one_origin project sources built k h.0 i.0 (a.each k h.0 h.1) (b.each k i.0 i.1)) ∙ sym i.1
                | inr none ↦ absurd (let out : length others ≤ k = none_past others k none in let c : length origins ≡ unit_count project = a.count in let d : length others ≡ unit_count project = b.count in omega arith)
              ]
          | inr none ↦ absurd (let out : length origins ≤ k = none_past origins k none in omega arith)
        ]

-- there is one listing
pub one_listing : (project : ProjectView) (sources : List (List ℕ)) (built : List Cmi) (outcomes others : List Outcome) → IsListing project sources built outcomes → IsListing project sources built others → outcomes ≡ others
one_listing project sources built outcomes others a b = same_items outcomes others (a.come_to.count ∙ sym b.come_to.count) each
  where
    each : (k : ℕ) → k < length outcomes → slice_get outcomes k ≡ slice_get others k
    each k lt =
        let inside : k < unit_count project = (let c : length outcomes ≡ unit_count project = a.come_to.count in omega arith) in
        a.come_to.each k inside ∙ ap (λ origins. outcome project origins k) (one_made project sources built a.origins b.origins a.are b.are) ∙ sym (b.come_to.each k inside)
