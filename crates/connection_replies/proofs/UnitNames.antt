-- A unit whose name is no name has none.
use Rattle.std.proofs.Common.{◌≡◌, ℕ, ◌<◌, ◌≤◌, true, ◌⊎◌, inl, inr, List, [], ◌∷◌, ◌++◌, length, Option, None, refl, sym, ap, ◌∙◌, arith}
use Rattle.std.specs.Prelude.{codes}
use Rattle.std.specs.Option.{option_map_or}
use Rattle.std.proofs.lemmas.Bool.{cases_lt, eqb-true}
use Rattle.std.proofs.lemmas.Option.{slice_get_past}
use Rattle.header_units.specs.Names.{name_kind}
use Rattle.header_units.specs.CmiNames.{cmi_name, cmi_stem}
use Rattle.unit_registry.specs.declared.kind.Kind.{Kind}
use Rattle.unit_registry.specs.declared.kind.Kind.TheVariants.{Module, Header, Plain}
use Rattle.unit_registry.specs.Kinds.{fits, is_module_name, is_header_name}
use Rattle.unit_registry.specs.declared.unit.Declared.{Declared}
use Rattle.unit_registry.specs.Projects.{ProjectView, NamesFit, name_of, kind_of, own_name, unit_count}

by_kind : (kind : Kind) (name : List ℕ) → name_kind name ≡ None → fits kind name ≡ true → name ≡ []
by_kind Module name e f = absurd (cc (ap is_module_name e, f))
by_kind Header name e f = absurd (cc (ap is_header_name e, f))
by_kind Plain [] e f = refl
by_kind Plain (c ∷ name) e f = let none : length (c ∷ name) ≡ 0 = eqb-true _ _ f in absurd (omega (arith, none))

past : (project : ProjectView) (unit : ℕ) → unit_count project ≤ unit → name_of project unit ≡ []
past project unit le = ap (λ (d : Option Declared). option_map_or own_name d []) (slice_get_past project.units unit le)

empty_name : (project : ProjectView) (unit : ℕ) → NamesFit project → name_kind (name_of project unit) ≡ None → name_of project unit ≡ []
empty_name project unit fit e = by (cases_lt unit (unit_count project))
  where
    by : (unit < unit_count project) ⊎ (unit_count project ≤ unit) → name_of project unit ≡ []
    by (inl lt) = by_kind (kind_of project unit) (name_of project unit) e (fit unit lt)
    by (inr le) = past project unit le

-- the CMI name of no name
none_named : cmi_name [] ≡ codes ".gcm"
unfolding cmi_stem
none_named = refl

no_name : (project : ProjectView) (unit : ℕ) (name : List ℕ) → NamesFit project → name ≡ name_of project unit → name_kind name ≡ None → cmi_name (name_of project unit) ≡ codes ".gcm"
no_name project unit name fit at e = ap cmi_name (empty_name project unit fit (ap name_kind (sym at) ∙ e)) ∙ none_named

-- the ending alone was appended to nothing
pub ending_alone : (project : ProjectView) (unit : ℕ) (name before after : List ℕ) → NamesFit project → name ≡ name_of project unit → name_kind name ≡ None
    → before ≡ [] → after ≡ before ++ codes ".gcm" → after ≡ cmi_name (name_of project unit)
ending_alone project unit name before after fit at e none put = put ∙ ap (λ t. t ++ codes ".gcm") none ∙ sym (no_name project unit name fit at e)
