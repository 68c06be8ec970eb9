-- A name can be read back from its CMI name.
use Rattle.std.proofs.Common.{◌≡◌, ℕ, ◌+◌, ◌-◌, ◌<◌, Bool, true, false, cond, eqb, not, List, [], ◌∷◌, ◌++◌, length, map, take, drop, refl, sym, ap, subst, ◌∙◌, arith}
use Rattle.std.specs.Prelude.{codes, nat_eq}
use Rattle.std.specs.Str.{bytes_eq}
use Rattle.std.specs.List.{list_all, slice_split, join_with_byte, starts_with}
use Rattle.std.proofs.lemmas.List.{append_cancel_right, length-append, take_at}
use Rattle.std.proofs.lemmas.List.Folds.{list_all-append, list_all-map}
use Rattle.std.proofs.lemmas.List.Splits.{join_with_byte-slice_split}
use Rattle.std.proofs.lemmas.Slice.Eq.{bytes_eq-Decides}
use Rattle.std.proofs.lemmas.Bool.{both_ways, and_parts, and_from, and_left, eqb-true, ne_eqb, cond-true, cond-false, false_from_ne_true}
use Rattle.header_units.specs.declared.name.NameKind.{NameKind}
use Rattle.header_units.specs.Octets.{is_letter}
use Rattle.header_units.specs.Grammar.{IsName}
use Rattle.header_units.specs.CmiNames.{cmi_component, cmi_path, cmi_octet, cmi_stem, cmi_name}
use Rattle.header_units.proofs.Paths.{HasFirst, split_first}
use Rattle.header_units.proofs.Each.{list_all_weaker, apart, lacks}
use Rattle.header_units.proofs.Splits.{slice_split-join, lacks-split}
use Rattle.header_units.proofs.Forms.{is_module_octet, dash_not_module, Begins, begins}
use Rattle.header_units.proofs.Forms as forms

-- ---- components

-- the component that a component of a CMI name stands for
abbrev component_of : List ℕ → List ℕ
component_of part =
    cond (bytes_eq part (codes ",")) (codes ".")
    (cond (bytes_eq part (codes ",,")) (codes "..")
    (cond (list_all (λ c. eqb c 44) part) (take (length part - 3) part) part))

-- a longer list is another
longer_differs : (part other : List ℕ) → length other < length part → bytes_eq part other ≡ false
longer_differs part other lt = false_from_ne_true (bytes_eq part other) (λ t. absurd (omega (arith, ap length ((bytes_eq-Decides part other).0 t))))

-- what isn't commas alone is no list of commas
uncommas_differ : (part other : List ℕ) → list_all (λ c. eqb c 44) part ≡ false → list_all (λ c. eqb c 44) other ≡ true → bytes_eq part other ≡ false
uncommas_differ part other f t = false_from_ne_true (bytes_eq part other) (λ e. both_ways (list_all (λ c. eqb c 44) part) f (ap (list_all (λ c. eqb c 44)) ((bytes_eq-Decides part other).0 e) ∙ t))

-- commas with three more are read back
three_more : (part : List ℕ) → list_all (λ c. eqb c 44) part ≡ true → component_of (part ++ codes ",,,") ≡ part
three_more part t =
    let long : length (part ++ codes ",,,") ≡ length part + 3 = length-append part (codes ",,,") in
    let commas : list_all (λ c. eqb c 44) (part ++ codes ",,,") ≡ true = list_all-append (λ c. eqb c 44) part (codes ",,,") ∙ and_from (list_all (λ c. eqb c 44) part) true t refl in
    cond-false _ _ _ (longer_differs (part ++ codes ",,,") (codes ",") (omega (arith, long)))
    ∙ cond-false _ _ _ (longer_differs (part ++ codes ",,,") (codes ",,") (omega (arith, long)))
    ∙ cond-true _ _ _ commas
    ∙ take_at part (codes ",,,") (length (part ++ codes ",,,") - 3) (omega (arith, long))

-- what stands for itself is read back
itself : (part : List ℕ) → list_all (λ c. eqb c 44) part ≡ false → component_of part ≡ part
itself part f =
    cond-false _ _ _ (uncommas_differ part (codes ",") f refl)
    ∙ cond-false _ _ _ (uncommas_differ part (codes ",,") f refl)
    ∙ cond-false _ _ _ f

-- each component is read back, by the answers of the tests
component_by : (part : List ℕ) (commas one two : Bool) → list_all (λ c. eqb c 44) part ≡ commas → bytes_eq part (codes ".") ≡ one → bytes_eq part (codes "..") ≡ two
    → component_of (cond commas (part ++ codes ",,,") (cond one (codes ",") (cond two (codes ",,") part))) ≡ part
component_by part true one two a b c = three_more part a
component_by part false true two a b c = sym ((bytes_eq-Decides part (codes ".")).0 b)
component_by part false false true a b c = sym ((bytes_eq-Decides part (codes "..")).0 c)
component_by part false false false a b c = itself part a

-- each component is read back
pub component_of-cmi_component : (part : List ℕ) → component_of (cmi_component part) ≡ part
component_of-cmi_component part = component_by part (list_all (λ c. eqb c 44) part) (bytes_eq part (codes ".")) (bytes_eq part (codes "..")) refl refl refl

-- components that differ are written differently
pub distinct_components : (part other : List ℕ) → cmi_component part ≡ cmi_component other → part ≡ other
distinct_components part other e = sym (component_of-cmi_component part) ∙ ap component_of e ∙ component_of-cmi_component other

-- no component is written with a slash, by the answers of the tests
slashless_by : (part : List ℕ) (commas one two : Bool) → lacks 47 part ≡ true → lacks 47 (cond commas (part ++ codes ",,,") (cond one (codes ",") (cond two (codes ",,") part))) ≡ true
slashless_by part true one two h = list_all-append (λ c. not (eqb c 47)) part (codes ",,,") ∙ and_from (lacks 47 part) true h refl
slashless_by part false true two h = refl
slashless_by part false false true h = refl
slashless_by part false false false h = h

-- no component is written with a slash
slashless : (part : List ℕ) → lacks 47 part ≡ true → lacks 47 (cmi_component part) ≡ true
slashless part h = slashless_by part (list_all (λ c. eqb c 44) part) (bytes_eq part (codes ".")) (bytes_eq part (codes "..")) h

-- ---- paths

-- the path that a path of a CMI name stands for
abbrev path_of : List ℕ → List ℕ
path_of path = join_with_byte 47 (map component_of (slice_split (λ c. eqb c 47) path))

-- all components are read back
all_back : (parts : List (List ℕ)) → map component_of (map cmi_component parts) ≡ parts
all_back [] = refl
all_back (part ∷ parts) =
    ap (λ (p : List ℕ). p ∷ map component_of (map cmi_component parts)) (component_of-cmi_component part)
    ∙ ap (λ (ps : List (List ℕ)). part ∷ ps) (all_back parts)

-- the components of a CMI name are cut as they were joined
split_again : (parts : List (List ℕ)) → HasFirst parts → list_all (lacks 47) parts ≡ true
    → slice_split (λ c. eqb c 47) (join_with_byte 47 (map cmi_component parts)) ≡ map cmi_component parts
split_again [] h t = absurd (let w = h.whole in cc)
split_again (part ∷ parts) h t =
    slice_split-join 47 (cmi_component part) (map cmi_component parts)
    (list_all-map (lacks 47) cmi_component (part ∷ parts) ∙ list_all_weaker (lacks 47) (λ p. lacks 47 (cmi_component p)) slashless (part ∷ parts) t)

-- a path is read back
pub path_of-cmi_path : (path : List ℕ) → path_of (cmi_path path) ≡ path
path_of-cmi_path path =
    ap (λ (parts : List (List ℕ)). join_with_byte 47 (map component_of parts)) (split_again (slice_split (λ c. eqb c 47) path) (split_first (λ c. eqb c 47) path) (lacks-split 47 path))
    ∙ ap (join_with_byte 47) (all_back (slice_split (λ c. eqb c 47) path))
    ∙ join_with_byte-slice_split 47 path

-- ---- module names

-- the octet that an octet of a CMI name stands for, in a module name
abbrev octet_of : ℕ → ℕ
octet_of c = cond (eqb c 45) 58 c

-- an octet that is no dash is read back
octet_by : (c : ℕ) (colon dash : Bool) → eqb c 58 ≡ colon → eqb c 45 ≡ dash → dash ≡ false → octet_of (cond colon 45 c) ≡ c
octet_by c true dash e f g = sym (eqb-true c 58 e)
octet_by c false dash e f g = cond-false (eqb c 45) 58 c (f ∙ g)

-- a module name is read back
octets_back : (name : List ℕ) → list_all is_module_octet name ≡ true → map octet_of (map cmi_octet name) ≡ name
octets_back [] h = refl
octets_back (c ∷ name) h =
    let both = and_parts (is_module_octet c) (list_all is_module_octet name) h in
    let same : octet_of (cmi_octet c) ≡ c = octet_by c (eqb c 58) (eqb c 45) refl refl (apart is_module_octet 45 dash_not_module c both.0) in
    ap (λ (d : ℕ). d ∷ map octet_of (map cmi_octet name)) same ∙ ap (λ (cs : List ℕ). c ∷ cs) (octets_back name both.1)

-- ---- CMI names

-- the name that a CMI name without its ending stands for
abbrev name_of : List ℕ → List ℕ
name_of stem =
    cond (starts_with nat_eq stem (codes ",/")) (codes "./" ++ path_of (drop 2 stem))
    (cond (starts_with nat_eq stem (codes "+/")) (codes "/" ++ path_of (drop 2 stem))
    (map octet_of stem))

-- a header name with `./` is read back
relative_back : (rest : List ℕ) → name_of (cmi_stem (46 ∷ 47 ∷ rest)) ≡ 46 ∷ 47 ∷ rest
unfolding cmi_stem
relative_back rest = ap (λ (path : List ℕ). 46 ∷ 47 ∷ path) (path_of-cmi_path rest)

-- a header name with `/` is read back
absolute_back : (rest : List ℕ) → name_of (cmi_stem (47 ∷ rest)) ≡ 47 ∷ rest
unfolding cmi_stem
absolute_back rest = ap (λ (path : List ℕ). 47 ∷ path) (path_of-cmi_path rest)

-- an octet that is no letter, before a letter
unletter : (d : ℕ) → is_letter d ≡ false → (c : ℕ) → is_letter c ≡ true → eqb d c ≡ false
unletter d f c t = ne_eqb d c (λ e. both_ways (is_letter d) f (ap is_letter e ∙ t))

-- `+`, `,`, `.`, `/` and `:` are no letters
not_letter : (is_letter 43 ≡ false) × (is_letter 44 ≡ false) × (is_letter 46 ≡ false) × (is_letter 47 ≡ false) × (is_letter 58 ≡ false)
unfolding is_letter
not_letter = (refl, refl, refl, refl, refl)

-- what begins with neither `,` nor `+` is a module name
unread : (c : ℕ) (rest : List ℕ) → eqb 44 c ≡ false → eqb 43 c ≡ false → name_of (c ∷ rest) ≡ map octet_of (c ∷ rest)
unread c rest m p =
    cond-false _ _ _ (and_left (eqb 44 c) _ m) ∙ cond-false _ _ _ (and_left (eqb 43 c) _ p)

-- what begins with neither `.` nor `/` is written as a module name
module_stem : (c : ℕ) (rest : List ℕ) → eqb 46 c ≡ false → eqb 47 c ≡ false → cmi_stem (c ∷ rest) ≡ map cmi_octet (c ∷ rest)
unfolding cmi_stem
module_stem c rest d s =
    cond-false _ _ _ (and_left (eqb 46 c) _ d) ∙ cond-false _ _ _ (and_left (eqb 47 c) _ s)

-- what begins with a letter is read back
letter_back : (c : ℕ) (rest : List ℕ) → is_letter c ≡ true → list_all is_module_octet (c ∷ rest) ≡ true → name_of (cmi_stem (c ∷ rest)) ≡ c ∷ rest
letter_back c rest t all =
    let first : cmi_octet c ≡ c = cond-false (eqb c 58) 45 c (apart is_letter 58 not_letter.4 c t) in
    ap name_of (module_stem c rest (unletter 46 not_letter.2 c t) (unletter 47 not_letter.3 c t))
    ∙ ap (λ (d : ℕ). name_of (d ∷ map cmi_octet rest)) first
    ∙ unread c (map cmi_octet rest) (unletter 44 not_letter.1 c t) (unletter 43 not_letter.0 c t)
    ∙ ap (λ (d : ℕ). map octet_of (d ∷ map cmi_octet rest)) (sym first)
    ∙ octets_back (c ∷ rest) all

-- a name is read back, by its beginning
begins_back : (name : List ℕ) → Begins name → name_of (cmi_stem name) ≡ name
begins_back name (forms.Begins.relative rest e) = subst (λ (n : List ℕ). name_of (cmi_stem n) ≡ n) (sym e) (relative_back rest)
begins_back name (forms.Begins.absolute rest e) = subst (λ (n : List ℕ). name_of (cmi_stem n) ≡ n) (sym e) (absolute_back rest)
begins_back name (forms.Begins.letter c rest e t all) =
    subst (λ (n : List ℕ). name_of (cmi_stem n) ≡ n) (sym e) (letter_back c rest t (subst (λ (n : List ℕ). list_all is_module_octet n ≡ true) e all))

-- a name is read back from its CMI name
pub name_of-cmi_stem : (kind : NameKind) (name : List ℕ) → IsName kind name → name_of (cmi_stem name) ≡ name
name_of-cmi_stem kind name h = begins_back name (begins kind name h)

-- names with the same CMI name are the same
pub distinct_cmi_names : (kind other : NameKind) (name another : List ℕ) → IsName kind name → IsName other another → cmi_name name ≡ cmi_name another → name ≡ another
distinct_cmi_names kind other name another h g e =
    let stems : cmi_stem name ≡ cmi_stem another = append_cancel_right (cmi_stem name) (cmi_stem another) (codes ".gcm") e in
    sym (name_of-cmi_stem kind name h) ∙ ap name_of stems ∙ name_of-cmi_stem other another g
