-- The set of the names of types, and the first use of an unknown one.
use Rattle.std.proofs.Common.{◌≡◌, ℕ, ◌+◌, ◌<◌, ◌≤◌, Bool, true, false, not, ◌||◌, List, [], ◌∷◌, ◌++◌, length, take, drop, get_or, Some, None, map, if◌then◌else◌, ap, sym, ◌∙◌, refl, append_assoc, inl, inr, ◌⊎◌}
use Rattle.std.specs.Prelude.{slice_get, filter, flat_map}
use Rattle.std.specs.List.{list_any}
use Rattle.std.specs.Str.{bytes_eq}
use Rattle.std.specs.Borrow.{Bor}
use Rattle.std.proofs.lemmas.Bool.{cases_Bool}
use Rattle.std.proofs.Math.Bool.{or-false}
use Rattle.std.proofs.lemmas.List.{map-append, append-nil}
use Rattle.std.proofs.lemmas.List.Folds.{list_any-append}
use Rattle.std.proofs.lemmas.Grind.{flat_map-append}
use Rattle.std.proofs.lemmas.Slice.Eq.{bytes_eq-Decides}
use Rattle.std.proofs.lemmas.Option.{slice_get_read}
use Rattle.module_units.specs.declared.unit.Unit.{Unit as UnitOf}
use Rattle.module_units.specs.declared.parts.Decl.{Decl}
use Rattle.module_units.specs.declared.parts.TypeUse.{TypeUse}
use Rattle.export_lists.specs.Entries.{Listed}
use Rattle.export_lists.specs.Lists.{Cmi, Imported, imported}
use Rattle.export_lists.specs.Compiling.{is_among, type_name, types_in, types_of, unknown_in, unknown_lines}
use Rattle.export_lists.specs.Types.{Knows}
use Rattle.export_lists.proofs.Loops.{taken, dropped, all_imported}
use Rattle.export_lists.proofs.Faults.{none_faulty}

-- equal lists are known alike
pub moved_names : {names more known : List (List ℕ)} → names ≡ more → Knows more known → Knows names known
moved_names e h = record { same = λ name. ap (λ ns. is_among ns name) e ∙ h.same name }

pub moved_known : {names known other : List (List ℕ)} → known ≡ other → Knows names known → Knows names other
moved_known e h = record { same = λ name. h.same name ∙ ap (λ ns. is_among ns name) e }

-- a name behind others
behind : (names : List (List ℕ)) (last name : List ℕ) → is_among (names ++ last ∷ []) name ≡ (is_among names name || bytes_eq name last)
behind names last name = list_any-append (bytes_eq name) names (last ∷ []) ∙ ap (λ b. is_among names name || b) (or-false (bytes_eq name last))

-- a name that is there adds nothing
stays : (names known : List (List ℕ)) (last : List ℕ) → Knows names known → is_among names last ≡ true → Knows names (known ++ last ∷ [])
stays names known last h there = record { same = λ name. by_name name (cases_Bool (bytes_eq name last)) }
  where
    true_or : (b : Bool) → b ≡ true → (c : Bool) → b ≡ (b || c)
    true_or true e c = refl
    true_or false e c = absurd (cc)

    by_name : (name : List ℕ) → (bytes_eq name last ≡ true) ⊎ (bytes_eq name last ≡ false) → is_among names name ≡ is_among (known ++ last ∷ []) name
    by_name name (inl e) =
        let same : name ≡ last = (bytes_eq-Decides name last).0 e in
        let found : is_among known name ≡ true = sym (h.same name) ∙ ap (is_among names) same ∙ there in
        h.same name ∙ true_or (is_among known name) found (bytes_eq name last) ∙ sym (behind known last name)
    by_name name (inr e) = h.same name ∙ sym (or-false (is_among known name)) ∙ ap (λ b. is_among known name || b) (sym e) ∙ sym (behind known last name)

-- a name that goes last
goes_last : (names known : List (List ℕ)) (last : List ℕ) → Knows names known → Knows (names ++ last ∷ []) (known ++ last ∷ [])
goes_last names known last h = record { same = λ name. behind names last name ∙ ap (λ b. b || bytes_eq name last) (h.same name) ∙ sym (behind known last name) }

-- the set with a key more
pub added : (keys new : List (Bor (List ℕ))) (key : Bor (List ℕ)) (known : List (List ℕ)) → new ≡ (if list_any (λ other. bytes_eq key.now other.now) keys then keys else keys ++ key ∷ [])
    → Knows (map (λ k. k.now) keys) known → Knows (map (λ k. k.now) new) (known ++ key.now ∷ [])
added keys new key known is h = by_test (list_any (λ other. bytes_eq key.now other.now) keys) refl
  where
    there : (items : List (Bor (List ℕ))) → list_any (λ other. bytes_eq key.now other.now) items ≡ is_among (map (λ k. k.now) items) key.now
    there [] = refl
    there (k ∷ items) = ap (λ b. bytes_eq key.now k.now || b) (there items)

    by_test : (b : Bool) → list_any (λ other. bytes_eq key.now other.now) keys ≡ b → Knows (map (λ k. k.now) new) (known ++ key.now ∷ [])
    by_test true e =
        let same : new ≡ keys = is ∙ ap (λ (b : Bool). if b then keys else keys ++ key ∷ []) e in
        moved_names (ap (map (λ (k : Bor (List ℕ)). k.now)) same) (stays (map (λ k. k.now) keys) known key.now h (sym (there keys) ∙ e))
    by_test false e =
        let same : new ≡ keys ++ key ∷ [] = is ∙ ap (λ (b : Bool). if b then keys else keys ++ key ∷ []) e in
        moved_names (ap (map (λ (k : Bor (List ℕ)). k.now)) same ∙ map-append (λ (k : Bor (List ℕ)). k.now) keys (key ∷ [])) (goes_last (map (λ k. k.now) keys) known key.now h)

-- one item more
flat_more : {X : Type 0} (f : X → List (List ℕ)) (known : List (List ℕ)) (xs : List X) (k : ℕ) (x : X) → slice_get xs k ≡ Some x → (known ++ flat_map f (take k xs)) ++ f x ≡ known ++ flat_map f (take (k + 1) xs)
flat_more f known xs k x e =
    append_assoc known (flat_map f (take k xs)) (f x)
    ∙ ap (λ ys. known ++ ys) (ap (λ ys. flat_map f (take k xs) ++ ys) (sym (append-nil (f x))) ∙ sym (flat_map-append f (take k xs) (x ∷ [])) ∙ ap (flat_map f) (sym (taken xs k x e)))

pub listed_more : (entries : List Listed) (k : ℕ) (entry : Listed) (known names new : List (List ℕ)) → k < length entries → entry ≡ get_or entries k entry
    → Knows names (known ++ types_in (take k entries)) → ((other : List (List ℕ)) → Knows names other → Knows new (other ++ type_name entry.kind entry.name))
    → Knows new (known ++ types_in (take (k + 1) entries))
listed_more entries k entry known names new lt is was adds =
    moved_known (flat_more (λ (e : Listed). type_name e.kind e.name) known entries k entry (slice_get_read entries (length entries) k entry refl lt is)) (adds (known ++ types_in (take k entries)) was)

types_in_append : (xs ys : List Listed) → types_in (xs ++ ys) ≡ types_in xs ++ types_in ys
types_in_append xs ys = flat_map-append (λ (e : Listed). type_name e.kind e.name) xs ys

-- what one import more brings
pub more_types : {X : Type 0} (f : X → List Listed) (names new : List (List ℕ)) (xs : List X) (k : ℕ) (x : X) (listed : List Listed) → slice_get xs k ≡ Some x → listed ≡ f x
    → Knows names (types_in (flat_map f (take k xs))) → ((known : List (List ℕ)) → Knows names known → Knows new (known ++ types_in listed)) → Knows new (types_in (flat_map f (take (k + 1) xs)))
more_types f names new xs k x listed e same was adds =
    moved_known
    (ap (λ l. types_in (flat_map f (take k xs)) ++ types_in l) (same ∙ sym (append-nil (f x)))
    ∙ sym (types_in_append (flat_map f (take k xs)) (f x ++ []))
    ∙ ap types_in (sym (flat_map-append f (take k xs) (x ∷ [])) ∙ ap (flat_map f) (sym (taken xs k x e))))
    (adds (types_in (flat_map f (take k xs))) was)

pub all_types : (f : Imported → List Listed) (names : List (List ℕ)) (unit : UnitOf) (cmis : List Cmi) (k : ℕ) → length unit.imports ≤ k
    → Knows names (types_in (flat_map f (take k (imported unit cmis)))) → Knows names (types_in (flat_map f (imported unit cmis)))
all_types f names unit cmis k le h = moved_known (ap (λ xs. types_in (flat_map f xs)) (all_imported unit cmis k le)) h

-- uses that are unknown in a set are unknown among its names
filter_same : (names known : List (List ℕ)) (uses : List TypeUse) → Knows names known → filter (λ (u : TypeUse). not (is_among names u.name)) uses ≡ filter (λ (u : TypeUse). not (is_among known u.name)) uses
filter_same names known [] h = refl
filter_same names known (used ∷ uses) h = λ i. if not (h.same used.name i) then used ∷ filter_same names known uses h i else filter_same names known uses h i

unknown_same : (names known : List (List ℕ)) (uses : List TypeUse) → Knows names known → unknown_in names uses ≡ unknown_in known uses
unknown_same names known uses h = ap (map (λ (u : TypeUse). u.line)) (filter_same names known uses h)

-- the first of two lists
first_front : (lines more : List ℕ) (line : ℕ) → slice_get lines 0 ≡ Some line → slice_get (lines ++ more) 0 ≡ Some line
first_front [] more line e = absurd (cc)
first_front (l ∷ lines) more line e = e

first_behind : (lines more : List ℕ) → slice_get lines 0 ≡ None → slice_get (lines ++ more) 0 ≡ slice_get more 0
first_behind lines more e = ap (λ ls. slice_get (ls ++ more) 0) (none_faulty lines e)

-- the lines of the rest
rest_lines : (decls : List Decl) (k : ℕ) (decl : Decl) (known : List (List ℕ)) → slice_get decls k ≡ Some decl
    → unknown_lines known (drop k decls) ≡ unknown_in known decl.types ++ unknown_lines (known ++ type_name decl.kind decl.name) (drop (k + 1) decls)
rest_lines decls k decl known e = ap (unknown_lines known) (dropped decls k decl e)

pub undeclared_here : (decls : List Decl) (k : ℕ) (decl : Decl) (known names : List (List ℕ)) (line : ℕ) → k < length decls → decl ≡ get_or decls k decl
    → Knows names (known ++ types_of (take k decls)) × (slice_get (unknown_lines known decls) 0 ≡ slice_get (unknown_lines (known ++ types_of (take k decls)) (drop k decls)) 0)
    → Some line ≡ slice_get (unknown_in names decl.types) 0 → Some line ≡ slice_get (unknown_lines known decls) 0
undeclared_here decls k decl known names line lt is was found =
    let e = slice_get_read decls (length decls) k decl refl lt is in
    let here : slice_get (unknown_in (known ++ types_of (take k decls)) decl.types) 0 ≡ Some line = ap (λ (lines : List ℕ). slice_get lines 0) (sym (unknown_same names (known ++ types_of (take k decls)) decl.types was.0)) ∙ sym found in
    sym (was.1 ∙ ap (λ (lines : List ℕ). slice_get lines 0) (rest_lines decls k decl (known ++ types_of (take k decls)) e) ∙ first_front (unknown_in (known ++ types_of (take k decls)) decl.types) (unknown_lines ((known ++ types_of (take k decls)) ++ type_name decl.kind decl.name) (drop (k + 1) decls)) line here)

pub undeclared_more : (decls : List Decl) (k : ℕ) (decl : Decl) (known names new : List (List ℕ)) → k < length decls → decl ≡ get_or decls k decl
    → Knows names (known ++ types_of (take k decls)) × (slice_get (unknown_lines known decls) 0 ≡ slice_get (unknown_lines (known ++ types_of (take k decls)) (drop k decls)) 0)
    → None ≡ slice_get (unknown_in names decl.types) 0 → ((other : List (List ℕ)) → Knows names other → Knows new (other ++ type_name decl.kind decl.name))
    → Knows new (known ++ types_of (take (k + 1) decls)) × (slice_get (unknown_lines known decls) 0 ≡ slice_get (unknown_lines (known ++ types_of (take (k + 1) decls)) (drop (k + 1) decls)) 0)
undeclared_more decls k decl known names new lt is was none adds =
    let e = slice_get_read decls (length decls) k decl refl lt is in
    let here : slice_get (unknown_in (known ++ types_of (take k decls)) decl.types) 0 ≡ None = ap (λ (lines : List ℕ). slice_get lines 0) (sym (unknown_same names (known ++ types_of (take k decls)) decl.types was.0)) ∙ sym none in
    let grown : (known ++ types_of (take k decls)) ++ type_name decl.kind decl.name ≡ known ++ types_of (take (k + 1) decls) = flat_more (λ (d : Decl). type_name d.kind d.name) known decls k decl e in (
      moved_known grown (adds (known ++ types_of (take k decls)) was.0),
      was.1 ∙ ap (λ (lines : List ℕ). slice_get lines 0) (rest_lines decls k decl (known ++ types_of (take k decls)) e)
          ∙ first_behind (unknown_in (known ++ types_of (take k decls)) decl.types) (unknown_lines ((known ++ types_of (take k decls)) ++ type_name decl.kind decl.name) (drop (k + 1) decls)) here
          ∙ ap (λ ks. slice_get (unknown_lines ks (drop (k + 1) decls)) 0) grown,
    )
