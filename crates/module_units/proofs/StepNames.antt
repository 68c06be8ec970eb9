-- The names that a step adds.
use Rattle.std.proofs.Common.{◌≡◌, ℕ, List, [], ◌++◌, map, Option, Some, None, sym, ap, refl, subst, is_some, true, false}
use Rattle.std.proofs.lemmas.List.{append-nil, map-append}
use Rattle.module_units.specs.Terminals.{Terminal, Name, Quoted, Export, Module, Import, Colon, Plain, Struct, Class, Using, Const, BuiltIn, Semicolon, LeftBrace, RightBrace}
use Rattle.module_units.specs.Unit.{UnitOf, headed, kind_of, first_line}
use Rattle.module_units.specs.Machine.{ItemStep, Fails, Goes, Ends, Stage, AtHead, AtImports, AtDecls, NamePlace, Wants, Has, Context, Alone, Grouped, Place, Parser, item_step, item_start, at, lift, name_step, in_name, between, exported, in_module, in_partition, after_import, in_import, after_header, in_group, step, with_import}
use Rattle.module_units.specs.FaultRuns.{ended_ident, name_ended, names_ended, names_of}
use Rattle.module_units.specs.Readers.{NoDecls}
use Rattle.module_units.specs.declared.places.Place.TheVariants as places

-- the step added these names, and nothing is declared where a module declaration may stand
abbrev pub Adds : UnitOf → List (List ℕ) → Option Parser → Type 0
Adds u names None = Unit {0}
Adds u names (Some p) = (names_of p.unit ≡ names_of u ++ names) × NoDecls p.unit p.place

same : (u : UnitOf) → names_of u ≡ names_of u ++ []
same u = sym (append-nil (names_of u))

lift_adds : (u : UnitOf) (c : Context) (s : ItemStep) → Adds u (name_ended (ended_ident s)) (lift u c s)
lift_adds u c Fails = tt
lift_adds u c (Goes p) = (same u, tt)
lift_adds u (Alone e) (Ends kind i types) = (map-append (λ d. d.name) u.decls _, tt)
lift_adds u (Grouped line) (Ends kind i types) = (map-append (λ d. d.name) u.decls _, tt)

start_ends : (t : Terminal) → name_ended (ended_ident (item_start t)) ≡ []
start_ends (Name n l) = refl
start_ends (Quoted n l) = refl
start_ends (Export l) = refl
start_ends (Module l) = refl
start_ends (Import l) = refl
start_ends (Colon l) = refl
start_ends (Plain Struct) = refl
start_ends (Plain Class) = refl
start_ends (Plain Using) = refl
start_ends (Plain Const) = refl
start_ends (Plain BuiltIn) = refl
start_ends (Plain key) = refl

start_adds : (u : UnitOf) (c : Context) (t : Terminal) → Adds u [] (lift u c (item_start t))
start_adds u c t = subst (λ names. Adds u names (lift u c (item_start t))) (start_ends t) (lift_adds u c (item_start t))

between_adds : (u : UnitOf) (s : Stage) (t : Terminal) → NoDecls u (places.Between s) → Adds u [] (between u s t)
between_adds u AtHead (Export line) none = (same u, none)
between_adds u AtImports (Export line) none = (same u, tt)
between_adds u AtDecls (Export line) none = (same u, tt)
between_adds u AtHead (Module line) none = (same u, none)
between_adds u AtHead (Import line) none = (same u, tt)
between_adds u AtHead t none = start_adds u (Alone None) t
between_adds u AtImports (Import line) none = (same u, tt)
between_adds u AtImports t none = start_adds u (Alone None) t
between_adds u AtDecls t none = start_adds u (Alone None) t

exported_adds : (u : UnitOf) (s : Stage) (line : ℕ) (t : Terminal) → NoDecls u (places.Exported s line) → Adds u [] (exported u s line t)
exported_adds u AtHead line (Module l) none = (same u, none)
exported_adds u AtHead line (Import l) none = (same u, tt)
exported_adds u AtHead line (Plain LeftBrace) none = (same u, tt)
exported_adds u AtHead line t none = start_adds u (Alone (Some line)) t
exported_adds u AtImports line (Import l) none = (same u, tt)
exported_adds u AtImports line (Plain LeftBrace) none = (same u, tt)
exported_adds u AtImports line t none = start_adds u (Alone (Some line)) t
exported_adds u AtDecls line (Plain LeftBrace) none = (same u, tt)
exported_adds u AtDecls line t none = start_adds u (Alone (Some line)) t

name_adds : (place : NamePlace → Place) (u : UnitOf) (o : Option NamePlace) → ((n : NamePlace) → NoDecls u (place n)) → Adds u [] (in_name place u o)
name_adds place u None none = tt
name_adds place u (Some n) none = (same u, none n)

head_adds : (kind : _) (m p : List ℕ) (line : ℕ) (u : UnitOf) → u.decls ≡ [] → Adds u [] (at (headed kind m p line) (places.Between AtImports))
head_adds kind m p line u none = (ap (λ ds. map (λ d. d.name) ds ++ []) (sym none), tt)

module_adds : (u : UnitOf) (e : Option ℕ) (line : ℕ) (n : NamePlace) (t : Terminal) → u.decls ≡ [] → Adds u [] (in_module u e line n t)
module_adds u e line (Has x) (Colon l) none = (same u, none)
module_adds u e line (Has x) (Plain Semicolon) none = head_adds (kind_of (is_some e) false) x [] (first_line e line) u none
module_adds u e line (Has x) t none = name_adds (places.InModule e line) u (name_step (Has x) t) (λ n. none)
module_adds u e line (Wants x) t none = name_adds (places.InModule e line) u (name_step (Wants x) t) (λ n. none)

partition_adds : (u : UnitOf) (e : Option ℕ) (line : ℕ) (m : List ℕ) (n : NamePlace) (t : Terminal) → u.decls ≡ [] → Adds u [] (in_partition u e line m n t)
partition_adds u e line m (Has x) (Plain Semicolon) none = head_adds (kind_of (is_some e) true) m x (first_line e line) u none
partition_adds u e line m (Has x) t none = name_adds (places.InPartition e line m) u (name_step (Has x) t) (λ n. none)
partition_adds u e line m (Wants x) t none = name_adds (places.InPartition e line m) u (name_step (Wants x) t) (λ n. none)

imported_adds : (u : UnitOf) (e : Option ℕ) (line : ℕ) (name : List ℕ) → Adds u [] (at (with_import u e line name) (places.Between AtImports))
imported_adds u e line name = (map-append (λ d. d.name) u.decls [], tt)

import_adds : (u : UnitOf) (e : Option ℕ) (line : ℕ) (n : NamePlace) (t : Terminal) → Adds u [] (in_import u e line n t)
import_adds u e line (Has x) (Plain Semicolon) = imported_adds u e line x
import_adds u e line (Has x) t = name_adds (places.InImport e line) u (name_step (Has x) t) (λ n. tt)
import_adds u e line (Wants x) t = name_adds (places.InImport e line) u (name_step (Wants x) t) (λ n. tt)

after_import_adds : (u : UnitOf) (e : Option ℕ) (line : ℕ) (t : Terminal) → Adds u [] (after_import u e line t)
after_import_adds u e line (Name n l) = (same u, tt)
after_import_adds u e line (Colon l) = (same u, tt)
after_import_adds u e line (Quoted n l) = (same u, tt)
after_import_adds u e line t = tt

after_header_adds : (u : UnitOf) (e : Option ℕ) (line : ℕ) (name : List ℕ) (t : Terminal) → Adds u [] (after_header u e line name t)
after_header_adds u e line name (Plain Semicolon) = imported_adds u e line name
after_header_adds u e line name t = tt

group_adds : (u : UnitOf) (line : ℕ) (t : Terminal) → Adds u [] (in_group u line t)
group_adds u line (Plain RightBrace) = (same u, tt)
group_adds u line t = start_adds u (Grouped line) t

-- a step adds the name of the item that it ends
pub step_adds : (u : UnitOf) (p : Place) (t : Terminal) → NoDecls u p → Adds u (names_ended p t) (step u p t)
step_adds u (places.Between s) t none = between_adds u s t none
step_adds u (places.Exported s line) t none = exported_adds u s line t none
step_adds u (places.InModule e line n) t none = module_adds u e line n t none
step_adds u (places.InPartition e line m n) t none = partition_adds u e line m n t none
step_adds u (places.AfterImport e line) t none = after_import_adds u e line t
step_adds u (places.InImport e line n) t none = import_adds u e line n t
step_adds u (places.AfterHeader e line name) t none = after_header_adds u e line name t
step_adds u (places.InItem c p) t none = lift_adds u c (item_step p t)
step_adds u (places.InGroup line) t none = group_adds u line t
