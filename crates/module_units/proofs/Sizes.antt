-- A step makes what a reader holds at most one larger.
use Rattle.std.proofs.Common.{◌≡◌, ℕ, suc, ◌+◌, ◌≤◌, ◌<◌, List, [], length, Option, Some, None, refl, arith, length-append, is_some, true, false}
use Rattle.module_units.specs.Terminals.{Terminal, Name, Quoted, Export, Module, Import, Colon, Plain, Struct, Class, Using, Const, BuiltIn, Semicolon, Comma, LeftParen, RightParen, LeftBrace, RightBrace, Star, Ampersand, Equals}
use Rattle.module_units.specs.Unit.{TypeUse, UnitOf, headed, kind_of, first_line}
use Rattle.module_units.specs.Machine.{TypePlace, Begin, AfterConst, AfterBase, AfterReference, Owner, OfAlias, OfDeclared, OfParameter, ItemPlace, WantsName, WantsAliasName, WantsEquals, InType, AfterName, AfterOpen, WantsEnd, ItemStep, Fails, Goes, Ends, AtHead, AtImports, AtDecls, NamePlace, Wants, Has, Context, Alone, Grouped, Place, Parser, after_type, type_step, item_step, item_start, at, lift, name_step, in_name, between, exported, in_module, in_partition, after_import, in_import, after_header, in_group, step, HasRoom, PlaceHasRoom, ParserHasRoom}
use Rattle.module_units.specs.Readers.{held_in, held_at, held}
use Rattle.module_units.specs.declared.places.Place.TheVariants as places
use Rattle.module_units.specs.declared.parts.UnitKind.TheVariants as kinds

abbrev pub ItemSized : ItemStep → ℕ → Type 0
ItemSized Fails n = Unit {0}
ItemSized (Goes p) n = held_in p ≤ n
ItemSized (Ends k i ts) n = length ts ≤ n

after_sized : (o : Owner) (ts : List TypeUse) (t : Terminal) → ItemSized (after_type o ts t) (suc (length ts))
after_sized (OfAlias i) ts (Plain Semicolon) = omega arith
after_sized OfDeclared ts (Name x l) = omega arith
after_sized (OfParameter i) ts (Plain Comma) = omega arith
after_sized (OfParameter i) ts (Plain RightParen) = omega arith
after_sized o ts t = tt

type_sized : (o : Owner) (ts : List TypeUse) (p : TypePlace) (t : Terminal) → ItemSized (type_step o ts p t) (suc (length ts))
type_sized o ts Begin (Plain Const) = omega arith
type_sized o ts Begin (Plain BuiltIn) = omega arith
type_sized o ts Begin (Name x l) = omega (arith, length-append ts)
type_sized o ts Begin t = tt
type_sized o ts AfterConst (Plain BuiltIn) = omega arith
type_sized o ts AfterConst (Name x l) = omega (arith, length-append ts)
type_sized o ts AfterConst t = tt
type_sized o ts AfterBase (Plain Star) = omega arith
type_sized o ts AfterBase (Plain Ampersand) = omega arith
type_sized o ts AfterBase t = after_sized o ts t
type_sized o ts AfterReference t = after_sized o ts t

item_sized : (p : ItemPlace) (t : Terminal) → ItemSized (item_step p t) (suc (held_in p))
item_sized (WantsName k) (Name x l) = omega arith
item_sized WantsAliasName (Name x l) = omega arith
item_sized (WantsEquals i) (Plain Equals) = omega arith
item_sized (InType o ts p) t = type_sized o ts p t
item_sized (AfterName ts i) (Plain Semicolon) = omega arith
item_sized (AfterName ts i) (Plain LeftParen) = omega arith
item_sized (AfterOpen ts i) (Plain RightParen) = omega arith
item_sized (AfterOpen ts i) t = type_sized (OfParameter i) ts Begin t
item_sized (WantsEnd k i ts) (Plain Semicolon) = omega arith
item_sized p t = tt

start_sized : (t : Terminal) → ItemSized (item_start t) 1
start_sized (Plain Struct) = omega arith
start_sized (Plain Class) = omega arith
start_sized (Plain Using) = omega arith
start_sized t = type_sized OfDeclared [] Begin t

abbrev pub Sized : Option Parser → ℕ → Type 0
Sized None n = Unit {0}
Sized (Some p) n = held p ≤ n

lift_sized : (u : UnitOf) (c : Context) (s : ItemStep) (n : ℕ) → ItemSized s (suc n) → Sized (lift u c s) (suc (length u.imports + length u.decls + n))
lift_sized u c Fails n h = tt
lift_sized u c (Goes p) n h = omega arith
lift_sized u (Alone e) (Ends k i ts) n h = omega (arith, length-append u.imports, length-append u.decls)
lift_sized u (Grouped l) (Ends k i ts) n h = omega (arith, length-append u.imports, length-append u.decls)

abbrev Steps : UnitOf → Option Parser → ℕ → Type 0
Steps u s n = Sized s (suc (length u.imports + length u.decls + n))

between_sized : (u : UnitOf) (s : _) (t : Terminal) → Steps u (between u s t) 0
between_sized u s (Export line) = omega arith
between_sized u AtHead (Module line) = omega arith
between_sized u AtHead (Import line) = omega arith
between_sized u AtHead t = lift_sized u (Alone None) (item_start t) 0 (start_sized t)
between_sized u AtImports (Import line) = omega arith
between_sized u AtImports t = lift_sized u (Alone None) (item_start t) 0 (start_sized t)
between_sized u AtDecls t = lift_sized u (Alone None) (item_start t) 0 (start_sized t)

exported_sized : (u : UnitOf) (s : _) (line : ℕ) (t : Terminal) → Steps u (exported u s line t) 0
exported_sized u AtHead line (Module l) = omega arith
exported_sized u AtHead line (Import l) = omega arith
exported_sized u AtHead line (Plain LeftBrace) = omega arith
exported_sized u AtHead line t = lift_sized u (Alone (Some line)) (item_start t) 0 (start_sized t)
exported_sized u AtImports line (Import l) = omega arith
exported_sized u AtImports line (Plain LeftBrace) = omega arith
exported_sized u AtImports line t = lift_sized u (Alone (Some line)) (item_start t) 0 (start_sized t)
exported_sized u AtDecls line (Plain LeftBrace) = omega arith
exported_sized u AtDecls line t = lift_sized u (Alone (Some line)) (item_start t) 0 (start_sized t)

named_sized : (P : NamePlace → Place) → ((n : NamePlace) → held_at (P n) ≡ 0) → (u : UnitOf) (o : Option NamePlace) → Steps u (in_name P u o) 0
named_sized P none u None = tt
named_sized P none u (Some n) = omega (arith, none n)

head_sized : (kind : _) (m p : List ℕ) (line : ℕ) (u : UnitOf) → Steps u (at (headed kind m p line) (places.Between AtImports)) 0
head_sized kinds.Interface m p line u = omega arith
head_sized kinds.Implementation m p line u = omega arith
head_sized kinds.PartitionInterface m p line u = omega arith
head_sized kinds.PartitionImplementation m p line u = omega arith
head_sized kinds.Plain m p line u = omega arith

step_sized_name : (u : UnitOf) (e : Option ℕ) (line : ℕ) (n : NamePlace) (t : Terminal) → Steps u (in_module u e line n t) 0
step_sized_name u e line (Has x) (Colon l) = omega arith
step_sized_name u e line (Has x) (Plain Semicolon) = head_sized (kind_of (is_some e) false) x [] (first_line e line) u
step_sized_name u e line (Has x) t = named_sized (places.InModule e line) (λ n. refl) u (name_step (Has x) t)
step_sized_name u e line (Wants x) t = named_sized (places.InModule e line) (λ n. refl) u (name_step (Wants x) t)

step_sized_part : (u : UnitOf) (e : Option ℕ) (line : ℕ) (m : List ℕ) (n : NamePlace) (t : Terminal) → Steps u (in_partition u e line m n t) 0
step_sized_part u e line m (Has x) (Plain Semicolon) = head_sized (kind_of (is_some e) true) m x (first_line e line) u
step_sized_part u e line m (Has x) t = named_sized (places.InPartition e line m) (λ n. refl) u (name_step (Has x) t)
step_sized_part u e line m (Wants x) t = named_sized (places.InPartition e line m) (λ n. refl) u (name_step (Wants x) t)

step_sized_import : (u : UnitOf) (e : Option ℕ) (line : ℕ) (n : NamePlace) (t : Terminal) → Steps u (in_import u e line n t) 0
step_sized_import u e line (Has x) (Plain Semicolon) = omega (arith, length-append u.imports, length-append u.decls)
step_sized_import u e line (Has x) t = named_sized (places.InImport e line) (λ n. refl) u (name_step (Has x) t)
step_sized_import u e line (Wants x) t = named_sized (places.InImport e line) (λ n. refl) u (name_step (Wants x) t)

after_import_sized : (u : UnitOf) (e : Option ℕ) (line : ℕ) (t : Terminal) → Steps u (after_import u e line t) 0
after_import_sized u e line (Name x l) = omega arith
after_import_sized u e line (Colon l) = omega arith
after_import_sized u e line (Quoted x l) = omega arith
after_import_sized u e line t = tt

after_header_sized : (u : UnitOf) (e : Option ℕ) (line : ℕ) (name : List ℕ) (t : Terminal) → Steps u (after_header u e line name t) 0
after_header_sized u e line name (Plain Semicolon) = omega (arith, length-append u.imports, length-append u.decls)
after_header_sized u e line name t = tt

group_sized : (u : UnitOf) (line : ℕ) (t : Terminal) → Steps u (in_group u line t) 0
group_sized u line (Plain RightBrace) = omega arith
group_sized u line t = lift_sized u (Grouped line) (item_start t) 0 (start_sized t)

pub step_sized : (u : UnitOf) (p : Place) (t : Terminal) → Steps u (step u p t) (held_at p)
step_sized u (places.Between s) t = between_sized u s t
step_sized u (places.Exported s line) t = exported_sized u s line t
step_sized u (places.InModule e line n) t = step_sized_name u e line n t
step_sized u (places.InPartition e line m n) t = step_sized_part u e line m n t
step_sized u (places.AfterImport e line) t = after_import_sized u e line t
step_sized u (places.InImport e line n) t = step_sized_import u e line n t
step_sized u (places.AfterHeader e line name) t = after_header_sized u e line name t
step_sized u (places.InItem c p) t = lift_sized u c (item_step p t) (held_in p) (item_sized p t)
step_sized u (places.InGroup line) t = group_sized u line t

item_room : (p : ItemPlace) → held_in p < 2147483648 → HasRoom p
item_room (InType o ts p) h = h
item_room (AfterName ts i) h = h
item_room (AfterOpen ts i) h = h
item_room p h = tt

place_room : (p : Place) → held_at p < 2147483648 → PlaceHasRoom p
place_room (places.InItem c p) h = item_room p h
place_room p h = tt

-- a reader that holds little has room
pub parser_room : (p : Parser) → held p < 2147483648 → ParserHasRoom p
parser_room p h = record { place = place_room p.place (omega arith); imports = omega arith; decls = omega arith }
