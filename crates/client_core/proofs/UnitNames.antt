-- A unit that was read has few imports, and their names are short.
use Rattle.std.proofs.Common.{◌≡◌, ℕ, ◌+◌, ◌≤◌, Bool, true, false, not, List, [], ◌∷◌, ◌++◌, length, map, refl, sym, subst, arith, Option, Some, None, is_some, leb, ltb}
use Rattle.std.proofs.lemmas.List.{length-append, length-map}
use Rattle.std.proofs.lemmas.Bool.{ltb-false, leb-false}
use Rattle.std.specs.List.{AllByRecursion}
use Rattle.header_units.specs.Octets.{colon}
use Rattle.header_units.specs.declared.name.NameKind.{NameKind}
use Rattle.header_units.specs.Names.{name_kind}
use Rattle.header_units.proofs.Lengths.{name_kind-short}
use Rattle.module_lexer.specs.declared.reason.SourceReason.{SourceReason}
use Rattle.module_units.specs.Grammar.{Dotted, ModuleDecl, Imported, Whole, Part, Header, ImportTree}
use Rattle.module_units.specs.declared.parts.Import.{Import as ImportOf}
use Rattle.module_units.specs.declared.parts.UnitKind.{UnitKind}
use Rattle.module_units.specs.declared.parts.UnitKind.TheVariants as kinds
use Rattle.module_units.specs.declared.unit.Unit.{Unit as UnitOf}
use Rattle.module_units.specs.Unit.{dotted_name, import_name, import_of, head_of, kind_of, own_imports}
use Rattle.module_units.specs.Rules.{fault_if, length_faults, is_header_kind, whole_name, head_faults, what_faults, import_faults}
use Rattle.module_units.specs.Reading.{ReadsUnit}
use Rattle.client_core.specs.declared.script.Script.{Script}
use Rattle.client_core.specs.declared.script.Script.TheVariants as scripts
use Rattle.client_core.specs.Scripts.{CanBeRead, reading_of}
use Rattle.client_core.specs.Working.{IsShort, IsSmall}

cons_nil : {X : Type 0} (x : X) (xs : List X) → x ∷ xs ≡ [] → ⊥
cons_nil x xs e = cc

nil_front : {X : Type 0} (xs ys : List X) → xs ++ ys ≡ [] → xs ≡ []
nil_front [] ys e = refl
nil_front (x ∷ xs) ys e = absurd (cons_nil x (xs ++ ys) e)

nil_back : {X : Type 0} (xs ys : List X) → xs ++ ys ≡ [] → ys ≡ []
nil_back [] ys e = e
nil_back (x ∷ xs) ys e = absurd (cons_nil x (xs ++ ys) e)

fault_none : (b : Bool) (line : ℕ) (reason : SourceReason) → fault_if b line reason ≡ [] → b ≡ false
fault_none true line reason e = absurd (cons_nil _ [] e)
fault_none false line reason e = refl

fits : (line : ℕ) (name : List ℕ) → length_faults line name ≡ [] → length name ≤ 512
fits line name e = let short = fault_none (ltb 512 (length name)) line _ e in ltb-false 512 (length name) short

some_header : (found : Option NameKind) (name : List ℕ) → name_kind name ≡ found → is_header_kind found ≡ true → length name ≤ 512
some_header None name e h = absurd (let f : ⊥ = cc in f)
some_header (Some kind) name e h = name_kind-short name kind e

not_false : (b : Bool) → not b ≡ false → b ≡ true
not_false true e = refl
not_false false e = sym e

-- what is imported has a short name
what_short : (kind : UnitKind) (m : List ℕ) (what : Imported) → what_faults kind m what ≡ [] → length (import_name m what) ≤ 512
what_short kinds.Interface m (Whole name) e = fits _ (dotted_name name) e
what_short kinds.Implementation m (Whole name) e = fits _ (dotted_name name) e
what_short kinds.PartitionInterface m (Whole name) e = fits _ (dotted_name name) e
what_short kinds.PartitionImplementation m (Whole name) e = fits _ (dotted_name name) e
what_short kinds.Plain m (Whole name) e = fits _ (dotted_name name) e
what_short kinds.Interface m (Part line name) e = fits line (m ++ colon ∷ [] ++ dotted_name name) e
what_short kinds.Implementation m (Part line name) e = fits line (m ++ colon ∷ [] ++ dotted_name name) e
what_short kinds.PartitionInterface m (Part line name) e = fits line (m ++ colon ∷ [] ++ dotted_name name) e
what_short kinds.PartitionImplementation m (Part line name) e = fits line (m ++ colon ∷ [] ++ dotted_name name) e
what_short kinds.Plain m (Part line name) e = absurd (cons_nil _ [] e)
what_short kinds.Interface m (Header name line) e = some_header (name_kind name) name refl (not_false _ (fault_none _ line _ e))
what_short kinds.Implementation m (Header name line) e = some_header (name_kind name) name refl (not_false _ (fault_none _ line _ e))
what_short kinds.PartitionInterface m (Header name line) e = some_header (name_kind name) name refl (not_false _ (fault_none _ line _ e))
what_short kinds.PartitionImplementation m (Header name line) e = some_header (name_kind name) name refl (not_false _ (fault_none _ line _ e))
what_short kinds.Plain m (Header name line) e = some_header (name_kind name) name refl (not_false _ (fault_none _ line _ e))

-- the imports of a tree are few and have short names
trees_short : (kind : UnitKind) (m : List ℕ) (before : ℕ) (trees : List ImportTree) → import_faults kind m before trees ≡ [] → AllByRecursion IsShort (map (import_of m) trees)
trees_short kind m before [] e = tt
trees_short kind m before (tree ∷ more) e = (what_short kind m tree.what (nil_back _ _ (nil_front _ _ e)), trees_short kind m (before + 1) more (nil_back _ _ e))

trees_few : (kind : UnitKind) (m : List ℕ) (before : ℕ) (trees : List ImportTree) → import_faults kind m before trees ≡ [] → before ≤ 1000 → before + length trees ≤ 1000
trees_few kind m before [] e le = omega arith
trees_few kind m before (tree ∷ more) e le =
    let this : leb 1000 before ≡ false = fault_none (leb 1000 before) _ _ (nil_back _ _ (nil_front _ _ (nil_front _ _ e))) in
    let rest : before + 1 + length more ≤ 1000 = trees_few kind m (before + 1) more (nil_back _ _ e) (omega (arith, leb-false 1000 before this)) in
    omega (arith, rest)

all_append : {X : Type 0} (P : X → Type 0) (xs ys : List X) → AllByRecursion P xs → AllByRecursion P ys → AllByRecursion P (xs ++ ys)
all_append P [] ys h g = g
all_append P (x ∷ xs) ys h g = (h.0, all_append P xs ys h.1 g)

-- the module that an implementation unit imports by itself
own_short : (exported : Option ℕ) (part : Option (ℕ × Dotted)) (name : List ℕ) (line at : ℕ) → length_faults line (whole_name name part) ≡ []
    → AllByRecursion IsShort (own_imports (kind_of (is_some exported) (is_some part)) name at) × (length (own_imports (kind_of (is_some exported) (is_some part)) name at) ≤ 1)
own_short (Some export) (Some part) name line at e = (tt, omega arith)
own_short (Some export) None name line at e = (tt, omega arith)
own_short None (Some part) name line at e = (tt, omega arith)
own_short None None name line at e = ((fits line name e, tt), omega arith)

head_short : (declaration : Option ModuleDecl) → head_faults declaration ≡ [] → AllByRecursion IsShort (head_of declaration).imports × (length (head_of declaration).imports ≤ 1)
head_short None e = (tt, omega arith)
head_short (Some declaration) e = own_short declaration.exported declaration.partition (dotted_name declaration.name) _ _ e

pub record HasFewImports (imports : List ImportOf) : Type 0 where
  pub few : length imports ≤ 1000
  pub short : AllByRecursion IsShort imports

pub unit_small : (text : List ℕ) (unit : UnitOf) → ReadsUnit text unit → HasFewImports unit.imports
unit_small text unit h =
    let tree = h.tree in
    let head = head_short tree.module_is (nil_front _ _ (nil_front _ _ h.lawful)) in
    let own = (head_of tree.module_is).imports in
    let name = (head_of tree.module_is).module in
    let lawful = nil_back _ _ (nil_front _ _ h.lawful) in
    let few : length own + length tree.imports ≤ 1000 = trees_few (head_of tree.module_is).kind name (length own) tree.imports lawful (omega (arith, head.1)) in
    subst (λ (u : UnitOf). HasFewImports u.imports) h.unit_is (record {
      few = omega (arith, few, length-append own (map (import_of name) tree.imports), length-map tree.imports (import_of name));
      short = all_append IsShort own (map (import_of name) tree.imports) head.0 (trees_short _ name (length own) tree.imports lawful);
    })

pub script_small : (ident name : List ℕ) (script : Script) → CanBeRead script → length ident ≤ 512 → length name ≤ 512 → IsSmall (record { ident = ident; name = name; reading = reading_of script })
script_small ident name (scripts.Good unit) h i n = let small = unit_small h.0 unit h.1 in record { ident = i; name = n; few = small.few; names = small.short }
script_small ident name (scripts.Broken line reason) h i n = record { ident = i; name = n; few = omega arith; names = tt }
