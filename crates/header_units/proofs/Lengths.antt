-- How long names and CMI names are.
use Rattle.std.proofs.Common.{◌≡◌, ℕ, ◌+◌, ◌*◌, ◌≤◌, Bool, true, false, cond, ltb, eqb, List, [], ◌∷◌, ◌++◌, length, map, drop, Option, Some, None, refl, ap, arith}
use Rattle.std.specs.Prelude.{codes}
use Rattle.std.specs.Str.{bytes_eq}
use Rattle.std.specs.List.{list_all, slice_split, join_with_byte}
use Rattle.std.proofs.lemmas.List.{length-append, length-map, length-drop}
use Rattle.std.proofs.lemmas.List.Splits.{join_with_byte-slice_split}
use Rattle.std.proofs.lemmas.Bool.{ltb-false}
use Rattle.header_units.specs.declared.name.NameKind.{NameKind}
use Rattle.header_units.specs.Names.{name_kind, is_relative, is_absolute}
use Rattle.header_units.specs.CmiNames.{cmi_component, cmi_path, cmi_octet, cmi_stem, cmi_name}

-- the first test, where it fails
short_in : (b : Bool) (n m : ℕ) (other : Option NameKind) (kind : NameKind) → ltb m n ≡ b → cond b None other ≡ Some kind → n ≤ m
short_in true n m other kind t e = absurd cc
short_in false n m other kind t e = ltb-false m n t

-- a name isn't too long
pub name_kind-short : (name : List ℕ) (kind : NameKind) → name_kind name ≡ Some kind → length name ≤ 512
unfolding name_kind
name_kind-short name kind e = short_in (ltb 512 (length name)) (length name) 512 _ kind refl e

-- a component brings three octets more at most, by the answers of the tests
component_by : (part : List ℕ) (commas one two : Bool) → bytes_eq part (codes ".") ≡ one → bytes_eq part (codes "..") ≡ two
    → length (cond commas (part ++ codes ",,,") (cond one (codes ",") (cond two (codes ",,") part))) ≤ length part + 3
component_by part true one two a b = omega (arith, length-append part (codes ",,,"))
component_by part false true two a b = omega arith
component_by part false false true a b = omega arith
component_by part false false false a b = omega arith

-- a component brings three octets more at most
length-cmi_component : (part : List ℕ) → length (cmi_component part) ≤ length part + 3
length-cmi_component part = component_by part (list_all (λ c. eqb c 44) part) (bytes_eq part (codes ".")) (bytes_eq part (codes "..")) refl refl

-- each octet of a path, and its end, brings four at most
length-joined : (parts : List (List ℕ)) → length (join_with_byte 47 (map cmi_component parts)) ≤ 4 * length (join_with_byte 47 parts) + 3
length-joined [] = omega arith
length-joined (part ∷ []) = omega (arith, length-cmi_component part)
length-joined (part ∷ next ∷ parts) =
    omega (arith, length-cmi_component part, length-joined (next ∷ parts), length-append part (47 ∷ join_with_byte 47 (next ∷ parts)), length-append (cmi_component part) (47 ∷ join_with_byte 47 (map cmi_component (next ∷ parts))))

-- the same for a path
length-cmi_path : (path : List ℕ) → length (cmi_path path) ≤ 4 * length path + 3
length-cmi_path path =
    let whole : length (join_with_byte 47 (slice_split (λ c. eqb c 47) path)) ≡ length path = ap length (join_with_byte-slice_split 47 path) in
    omega (arith, length-joined (slice_split (λ c. eqb c 47) path), whole)

-- an absolute name has a first octet
absolute_drops : (name : List ℕ) → is_absolute name ≡ true → 1 ≤ length name
absolute_drops [] t = absurd cc
absolute_drops (c ∷ name) t = omega arith

-- a CMI name without its ending, by the answers of the tests
stem_by : (name : List ℕ) (relative absolute : Bool) → is_absolute name ≡ absolute → length name ≤ 512
    → length (cond relative (codes ",/" ++ cmi_path (drop 2 name)) (cond absolute (codes "+/" ++ cmi_path (drop 1 name)) (map cmi_octet name))) ≤ 2053
stem_by name true absolute a le = omega (arith, length-cmi_path (drop 2 name), length-drop 2 name)
stem_by name false true a le = omega (arith, length-cmi_path (drop 1 name), length-drop 1 name, absolute_drops name a)
stem_by name false false a le = omega (arith, length-map name cmi_octet)

-- a CMI name has its room
pub length-cmi_name : (name : List ℕ) → length name ≤ 512 → length (cmi_name name) ≤ 2100
unfolding cmi_stem
length-cmi_name name le =
    omega (arith, length-append (cmi_stem name) (codes ".gcm"), stem_by name (is_relative name) (is_absolute name) refl le)
