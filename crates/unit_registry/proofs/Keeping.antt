-- One unit more is kept as those before it.
use Rattle.std.proofs.Common.{◌≡◌, ℕ, ◌<◌, ◌≤◌, ◌⊎◌, inl, inr, zero, suc, Bool, true, false, cond, not, List, [], ◌∷◌, ◌++◌, length, get_or, Option, Some, None, refl, sym, ap, subst, ◌∙◌, arith, rules}
use Rattle.std.specs.Prelude.{slice_get, is_some, IfSome}
use Rattle.std.specs.Option.{option_map_or}
use Rattle.std.proofs.lemmas.Bool.{eqb-true}
use Rattle.std.proofs.lemmas.Bool.Decides.{leb_tells}
use Rattle.std.proofs.lemmas.Option.{slice_get_cases}
use Rattle.std.proofs.lemmas.List.{length_push, get_or_default}
use Rattle.unit_registry.specs.declared.kind.Kind.{Kind}
use Rattle.unit_registry.specs.declared.kind.Kind.TheVariants.{Module, Header, Plain}
use Rattle.unit_registry.specs.declared.unit.Declared.{Declared}
use Rattle.unit_registry.specs.declared.reason.ProjectReason.{ProjectReason}
use Rattle.header_units.specs.Names.{name_kind}
use Rattle.unit_registry.specs.Projects.{has_word, find_by, own_name, own_ident, most_units, ProjectView, is_plain, IdentsDiffer, NamesDiffer, NamesFit}
use Rattle.unit_registry.specs.Kinds.{fits, is_plain_kind}
use Rattle.unit_registry.specs.Numbers.{with_number}
use Rattle.unit_registry.specs.Kept.{IsKept}
use Rattle.unit_registry.specs.Lines.{is_text, longest_text}
use Rattle.unit_registry.specs.Drafts.{unit_fault}
use Rattle.unit_registry.proofs.Found.{pushed, find_by-push, find_by-some, find_by_at, has_word-same, has_word-own, number_in-with}

-- no units are kept
pub kept_empty : IsKept [] [] []
unfolding find_by
kept_empty = record {
  few = omega arith;
  fitting = λ k unit e. let f : ⊥ = cc in absurd f;
  short = λ k unit e. let f : ⊥ = cc in absurd f;
  by_name = λ k unit e s. let f : ⊥ = cc in absurd f;
  by_ident = λ k unit e. let f : ⊥ = cc in absurd f;
  name_numbers = λ word. refl;
  ident_numbers = λ word. refl;
}

-- What a unit has that can follow these units.
pub record CanFollow (units : List Declared) (unit : Declared) : Type 0 where
  pub ident_some : 0 < length unit.ident
  pub ident_short : length unit.ident ≤ longest_text
  pub fitting : fits unit.kind unit.name ≡ true
  pub name_new : find_by own_name units unit.name ≡ None
  pub ident_new : find_by own_ident units unit.ident ≡ None
  pub room : length units < most_units

not_faulty : (b : Bool) (reason : ProjectReason) (rest : Option ProjectReason) → cond b (Some reason) rest ≡ None → (b ≡ false) × (rest ≡ None)
not_faulty true reason rest e = let f : ⊥ = cc in absurd f
not_faulty false reason rest e = (refl, e)

not_some : (r : Option ℕ) → is_some r ≡ false → r ≡ None
not_some (Some k) e = let f : ⊥ = cc in absurd f
not_some None e = refl

from_not : (b : Bool) → not b ≡ false → b ≡ true
from_not true e = refl
from_not false e = let f : ⊥ = cc in absurd f

text_some : (text : List ℕ) → is_text text ≡ true → 0 < length text
text_some [] h = let f : ⊥ = cc in absurd f
text_some (c ∷ rest) h = omega arith

text_short : (text : List ℕ) → is_text text ≡ true → length text ≤ longest_text
text_short text h = search rules

pub can_follow : (units : List Declared) (unit : Declared) → unit_fault units unit ≡ None → CanFollow units unit
can_follow units unit e =
    let text = not_faulty (not (is_text unit.ident)) _ _ e in
    let name = not_faulty (not (fits unit.kind unit.name)) _ _ text.1 in
    let twice = not_faulty (is_some (find_by own_name units unit.name)) _ _ name.1 in
    let again = not_faulty (is_some (find_by own_ident units unit.ident)) _ _ twice.1 in
    let many = not_faulty _ _ _ again.1 in
    record {
      ident_some = text_some unit.ident (from_not _ text.0);
      ident_short = text_short unit.ident (from_not _ text.0);
      fitting = from_not _ name.0;
      name_new = not_some _ twice.0;
      ident_new = not_some _ again.0;
      room = few (leb_tells most_units (length units)) many.0;
    }
  where
    few : {b : Bool} → ((b ≡ true) × (most_units ≤ length units)) ⊎ ((b ≡ false) × (length units < most_units)) → b ≡ false → length units < most_units
    few (inl h) f = let g : ⊥ = cc in absurd g
    few (inr h) f = h.1

slice_get-push : (units : List Declared) (unit : Declared) (k : ℕ) (other : Declared) → slice_get (units ++ unit ∷ []) k ≡ Some other → (slice_get units k ≡ Some other) ⊎ ((k ≡ length units) × (unit ≡ other))
slice_get-push [] unit zero other e = inr (refl, cc)
slice_get-push [] unit (suc k) other e = let f : ⊥ = cc in absurd f
slice_get-push (first ∷ units) unit zero other e = inl e
slice_get-push (first ∷ units) unit (suc k) other e = by (slice_get-push units unit k other e)
  where
    by : (slice_get units k ≡ Some other) ⊎ ((k ≡ length units) × (unit ≡ other)) → (slice_get units k ≡ Some other) ⊎ ((suc k ≡ suc (length units)) × (unit ≡ other))
    by (inl h) = inl h
    by (inr h) = inr (ap suc h.0, h.1)

module _ (units : List Declared) (unit : Declared) (new : CanFollow units unit) where
  -- a word by which each unit before is found, and the new one not yet
  found_again : (word_of : Declared → List ℕ) → find_by word_of units (word_of unit) ≡ None
      → ((k : ℕ) (d : Declared) → slice_get units k ≡ Some d → 0 < length (word_of d) → find_by word_of units (word_of d) ≡ Some k)
      → (k : ℕ) (d : Declared) → slice_get (units ++ unit ∷ []) k ≡ Some d → 0 < length (word_of d) → find_by word_of (units ++ unit ∷ []) (word_of d) ≡ Some k
  found_again word_of absent before k d e some = by (slice_get-push units unit k d e)
    where
      by : (slice_get units k ≡ Some d) ⊎ ((k ≡ length units) × (unit ≡ d)) → find_by word_of (units ++ unit ∷ []) (word_of d) ≡ Some k
      by (inl h) = find_by-push word_of units unit (word_of d) ∙ ap (λ r. pushed r (has_word word_of (word_of d) unit) (length units)) (before k d h some)
      by (inr h) =
          let same : find_by word_of units (word_of d) ≡ None = subst (λ (x : Declared). find_by word_of units (word_of x) ≡ None) h.1 absent in
          let own : has_word word_of (word_of d) unit ≡ true = subst (λ (x : Declared). has_word word_of (word_of d) x ≡ true) (sym h.1) (has_word-own word_of d some) in
          find_by-push word_of units unit (word_of d)
          ∙ ap (λ r. pushed r (has_word word_of (word_of d) unit) (length units)) same
          ∙ ap (λ b. cond b (Some (length units)) None) own
          ∙ ap Some (sym h.0)

  ident_some : (k : ℕ) (d : Declared) → ((j : ℕ) (x : Declared) → slice_get units j ≡ Some x → find_by own_ident units x.ident ≡ Some j)
      → (slice_get units k ≡ Some d) ⊎ ((k ≡ length units) × (unit ≡ d)) → 0 < length d.ident
  ident_some k d by_ident (inl h) = find_by-some own_ident units d.ident k (by_ident k d h)
  ident_some k d by_ident (inr h) = subst (λ (x : Declared). 0 < length x.ident) h.1 new.ident_some

  fitting : (k : ℕ) (d : Declared) → ((j : ℕ) (x : Declared) → slice_get units j ≡ Some x → fits x.kind x.name ≡ true)
      → (slice_get units k ≡ Some d) ⊎ ((k ≡ length units) × (unit ≡ d)) → fits d.kind d.name ≡ true
  fitting k d before (inl h) = before k d h
  fitting k d before (inr h) = subst (λ (x : Declared). fits x.kind x.name ≡ true) h.1 new.fitting

  short : (k : ℕ) (d : Declared) → ((j : ℕ) (x : Declared) → slice_get units j ≡ Some x → length x.ident ≤ longest_text)
      → (slice_get units k ≡ Some d) ⊎ ((k ≡ length units) × (unit ≡ d)) → length d.ident ≤ longest_text
  short k d before (inl h) = before k d h
  short k d before (inr h) = subst (λ (x : Declared). length x.ident ≤ longest_text) h.1 new.ident_short

  pub kept_push : {names idents : List (List ℕ × ℕ)} → IsKept units names idents
      → IsKept (units ++ unit ∷ []) (with_number names unit.name (length units)) (with_number idents unit.ident (length units))
  kept_push {names} {idents} kept = record {
    few = omega (arith, length_push units unit, new.room);
    fitting = λ k d e. fitting k d kept.fitting (slice_get-push units unit k d e);
    short = λ k d e. short k d kept.short (slice_get-push units unit k d e);
    by_name = found_again own_name new.name_new (λ j x at some. kept.by_name j x at some);
    by_ident = λ k d e. found_again own_ident new.ident_new (λ j x at some. kept.by_ident j x at) k d e (ident_some k d kept.by_ident (slice_get-push units unit k d e));
    name_numbers = number_in-with own_name units unit names unit.name refl kept.name_numbers;
    ident_numbers = number_in-with own_ident units unit idents unit.ident refl kept.ident_numbers;
  }

-- the lists that stand for a project with one unit more
pub kept_with : (units units' : List Declared) (unit : Declared) (names idents names' idents' : List (List ℕ × ℕ)) (n : ℕ)
    → IsKept units names idents → unit_fault units unit ≡ None → n ≡ length units
    → units' ≡ units ++ unit ∷ [] → names' ≡ with_number names unit.name n → idents' ≡ with_number idents unit.ident n
    → IsKept units' names' idents'
kept_with units units' unit names idents names' idents' n kept fine count us ns is =
    let kept_now : IsKept (units ++ unit ∷ []) (with_number names unit.name (length units)) (with_number idents unit.ident (length units)) = kept_push units unit (can_follow units unit fine) kept in
    let one : IsKept units' (with_number names unit.name (length units)) (with_number idents unit.ident (length units)) = subst (λ (x : List Declared). IsKept x (with_number names unit.name (length units)) (with_number idents unit.ident (length units))) (sym us) kept_now in
    let two : IsKept units' names' (with_number idents unit.ident (length units)) = subst (λ (x : List (List ℕ × ℕ)). IsKept units' x (with_number idents unit.ident (length units))) (sym (ns ∙ ap (with_number names unit.name) count)) one in
    subst (λ (x : List (List ℕ × ℕ)). IsKept units' names' x) (sym (is ∙ ap (with_number idents unit.ident) count)) two

-- the ident of a kept unit isn't too long
pub short_at : (units : List Declared) (names idents : List (List ℕ × ℕ)) → IsKept units names idents → (k : ℕ) (d : Declared) → k < length units → d ≡ get_or units k d → length d.ident ≤ longest_text
short_at units names idents kept k d within at = by (slice_get_cases units k).1
  where
    by : ((x : Declared) × (k < length units) × (slice_get units k ≡ Some x) × (get_or units k x ≡ x)) ⊎ ((length units ≤ k) × (slice_get units k ≡ None)) → length d.ident ≤ longest_text
    by (inl h) = subst (λ (x : Declared). length x.ident ≤ longest_text) (sym (at ∙ get_or_default units k d h.0 within ∙ h.3)) (kept.short k h.0 h.2)
    by (inr h) = absurd (omega arith)

-- a unit with a name that fits its kind isn't plain
not_plain : (kind : Kind) (name : List ℕ) → fits kind name ≡ true → 0 < length name → is_plain_kind kind ≡ false
not_plain Module name h s = refl
not_plain Header name h s = refl
not_plain Plain name h s = absurd (omega (arith, eqb-true (length name) 0 h))

name_some : (kind : Kind) (name : List ℕ) → fits kind name ≡ true → is_plain_kind kind ≡ false → 0 < length name
unfolding name_kind
name_some Module [] h n = let f : ⊥ = cc in absurd f
name_some Header [] h n = let f : ⊥ = cc in absurd f
name_some Plain [] h n = let f : ⊥ = cc in absurd f
name_some kind (c ∷ name) h n = omega arith

-- what is kept of each unit of a project
module _ (project : ProjectView) (names idents : List (List ℕ × ℕ)) (kept : IsKept project.units names idents) where
  abbrev at_place : ℕ → Option Declared → Type 0
  at_place unit r = (find_by own_ident project.units (option_map_or (λ (d : Declared). d.ident) r []) ≡ Some unit)
      × (option_map_or (λ (d : Declared). is_plain_kind d.kind) r false ≡ false → find_by own_name project.units (option_map_or (λ (d : Declared). d.name) r []) ≡ Some unit)
      × (fits (option_map_or (λ (d : Declared). d.kind) r Plain) (option_map_or (λ (d : Declared). d.name) r []) ≡ true)

  pub each_unit : (unit : ℕ) → unit < length project.units → at_place unit (slice_get project.units unit)
  each_unit unit within = by (slice_get_cases project.units unit).1
    where
      by : ((x : Declared) × (unit < length project.units) × (slice_get project.units unit ≡ Some x) × (get_or project.units unit x ≡ x)) ⊎ ((length project.units ≤ unit) × (slice_get project.units unit ≡ None)) → at_place unit (slice_get project.units unit)
      by (inl h) = subst (λ (r : Option Declared). at_place unit r) (sym h.2)
          (kept.by_ident unit h.0 h.2, λ named. kept.by_name unit h.0 h.2 (name_some h.0.kind h.0.name (kept.fitting unit h.0 h.2) named), kept.fitting unit h.0 h.2)
      by (inr h) = absurd (omega arith)

  pub idents_differ : IdentsDiffer project
  idents_differ = λ unit within. (each_unit unit within).0

  pub names_differ : NamesDiffer project
  names_differ = λ unit within. (each_unit unit within).1

  pub names_fit : NamesFit project
  names_fit = λ unit within. (each_unit unit within).2

  -- a unit that is found by a name isn't plain
  pub found_named : (name : List ℕ) (r : Option ℕ) → r ≡ find_by own_name project.units name → IfSome r (λ unit. is_plain project unit ≡ false)
  found_named name None e = tt
  found_named name (Some unit) e =
      let found = find_by_at own_name project.units name unit (sym e) in
      let same : found.unit.name ≡ name = has_word-same own_name name found.unit found.passes in
      let some : 0 < length found.unit.name = omega (arith, find_by-some own_name project.units name unit (sym e), ap length same) in
      ap (λ (r : Option Declared). option_map_or (λ (d : Declared). is_plain_kind d.kind) r false) found.at ∙ not_plain found.unit.kind found.unit.name (kept.fitting unit found.unit found.at) some
