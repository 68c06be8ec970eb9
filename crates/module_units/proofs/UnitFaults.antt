-- What the tokens of a unit add is what its tree breaks.
use Rattle.std.proofs.Common.{◌≡◌, is_some, ℕ, ◌+◌, Bool, true, false, List, [], ◌∷◌, ◌++◌, length, map, Option, Some, None, sym, ap, ◌∙◌, refl, append_assoc}
use Rattle.std.proofs.lemmas.List.{append-nil, map-append}
use Rattle.std.specs.List.{flat_map}
use Rattle.module_units.specs.Terminals.{Terminal, Name, Quoted, Export, Module, Import, Colon, Plain, Struct, Class, Using, Const, BuiltIn, Semicolon, Dot, LeftBrace, RightBrace}
use Rattle.module_units.specs.Grammar.{Ident, ident, Dotted, dots, dotted, ModuleDecl, partition, module_decl, Imported, Whole, Part, Header, ImportTree, imported, import_tree, Item, StructItem, ClassItem, AliasItem, VariableItem, FunctionItem, item, DeclTree, Single, Group, decl_tree, UnitTree, head, unit_tree}
use Rattle.module_units.specs.Unit.{TypeUse, ImportOf, UnitOf, dotted_name, item_decl, tree_decls, import_name, import_of, head_of, with_parts, declared}
use Rattle.module_units.specs.Machine.{ItemPlace, ItemStep, Fails, Goes, Ends, item_step, item_start, Stage, AtHead, AtImports, AtDecls, NamePlace, Wants, Has, Context, Alone, Grouped, Place, Between, Exported, InModule, InPartition, AfterImport, InImport, InItem, InGroup, at, lift, step, start, context_marked, after_item, with_import}
use Rattle.module_units.proofs.UnitParts.{group_decls, import_with, with_none, item_decl_is}
use Rattle.module_units.specs.FaultRuns.{Behind, behind_at, import_length, colon_faults, twice, ended, too_many, fault_step, fault_run}
use Rattle.module_units.specs.Rules.{Fault, fault_if, export_faults, is_header_name, head_faults, what_faults, import_faults, item_faults, items_faults, item_name_of, tree_items, tree_export, decl_faults, faults_of}
use Rattle.module_units.proofs.Rounds.{Starts, item_begun, with_decls, with_imports, MayImport, from_head, from_imports}
use Rattle.std.proofs.Common.{leb, not}
use Rattle.std.proofs.lemmas.List.{length_push}
use Rattle.module_lexer.specs.declared.reason.SourceReason.TheVariants.{BadHeaderName, TooManyImports}
use Rattle.module_units.specs.declared.parts.UnitKind.{UnitKind}
use Rattle.module_units.proofs.ItemRuns.{item_run, start_run, item_round}
use Rattle.module_units.proofs.ItemParts.{item_kind, item_name, item_uses}
use Rattle.module_units.specs.declared.parts.DeclKind.{DeclKind}
use Rattle.module_units.specs.declared.parts.UnitKind.TheVariants as UnitKinds

-- what is left of an item's tokens adds what its end adds
abbrev EndsSo : Behind → UnitOf → Context → List Terminal → Ident → DeclKind → List TypeUse → List Fault → Type 0
EndsSo b u c more i kind types faults = faults ≡ twice u i ++ fault_run b (at (with_parts u [] (declared (context_marked c) kind i types ∷ [])) (after_item c)) more

by_step : (b : Behind) (u : UnitOf) (c : Context) (more : List Terminal) (kind : DeclKind) (i : Ident) (types : List TypeUse) (s : ItemStep) (ts : List Terminal)
    → ((q : ItemPlace) → item_run (Goes q) ts ≡ Ends kind i types → EndsSo b u c more i kind types (fault_run b (at u (InItem c q)) (ts ++ more)))
    → item_run s ts ≡ Ends kind i types → EndsSo b u c more i kind types (ended u s ++ fault_run b (lift u c s) (ts ++ more))
by_step b u c more kind i types (Goes q) ts again h = again q h
by_step b u c more kind i types (Ends k j us) [] again h = ap (λ s. ended u s ++ fault_run b (lift u c s) more) h
by_step b u c more kind i types (Ends k j us) (v ∷ vs) again h = absurd (cc)
by_step b u c more kind i types Fails [] again h = absurd (cc)
by_step b u c more kind i types Fails (v ∷ vs) again h = absurd (cc)

item_fault_run : (b : Behind) (u : UnitOf) (c : Context) (p : ItemPlace) (ts more : List Terminal) (kind : DeclKind) (i : Ident) (types : List TypeUse) → item_run (Goes p) ts ≡ Ends kind i types
    → EndsSo b u c more i kind types (fault_run b (at u (InItem c p)) (ts ++ more))
item_fault_run b u c p [] more kind i types ends = absurd (cc)
item_fault_run b u c p (t ∷ ts) more kind i types ends = by_step b u c more kind i types (item_step p t) ts (λ q h. item_fault_run b u c q ts more kind i types h) ends

-- an item's first token takes no item to its end
begins_on : (b : Behind) (u : UnitOf) (c : Context) (more : List Terminal) (kind : DeclKind) (i : Ident) (types : List TypeUse) (s : ItemStep) (ts : List Terminal) → ((k : DeclKind) (j : Ident) (us : List TypeUse) → s ≡ Ends k j us → ⊥)
    → item_run s ts ≡ Ends kind i types → EndsSo b u c more i kind types (fault_run b (lift u c s) (ts ++ more))
begins_on b u c more kind i types (Goes q) ts never h = item_fault_run b u c q ts more kind i types h
begins_on b u c more kind i types (Ends k j us) ts never h = absurd (never k j us refl)
begins_on b u c more kind i types Fails [] never h = absurd (cc)
begins_on b u c more kind i types Fails (v ∷ vs) never h = absurd (cc)

start_never : (t : Terminal) (k : DeclKind) (j : Ident) (us : List TypeUse) → item_start t ≡ Ends k j us → ⊥
start_never (Name n l) k j us e = cc e
start_never (Quoted n l) k j us e = cc e
start_never (Export l) k j us e = cc e
start_never (Module l) k j us e = cc e
start_never (Import l) k j us e = cc e
start_never (Colon l) k j us e = cc e
start_never (Plain Struct) k j us e = cc e
start_never (Plain Class) k j us e = cc e
start_never (Plain Using) k j us e = cc e
start_never (Plain Const) k j us e = cc e
start_never (Plain BuiltIn) k j us e = cc e
start_never (Plain key) k j us e = cc e

-- an item, from its first token on
lifted_faults : (b : Behind) (u : UnitOf) (c : Context) (is : Item) (t : Terminal) (rest more : List Terminal) → item is ≡ t ∷ rest
    → fault_run b (lift u c (item_start t)) (rest ++ more) ≡ twice u (item_name is) ++ fault_run b (at (with_parts u [] (item_decl (context_marked c) is ∷ [])) (after_item c)) more
lifted_faults b u c is t rest more first =
    begins_on b u c more (item_kind is) (item_name is) (item_uses is) (item_start t) rest (start_never t) (sym (ap start_run first) ∙ item_round is)
    ∙ ap (λ d. twice u (item_name is) ++ fault_run b (at (with_parts u [] (d ∷ [])) (after_item c)) more) (sym (item_decl_is (context_marked c) is))

start_between : (t : Terminal) → Starts t → (b : Behind) (u : UnitOf) (s : Stage) → fault_step b u (Between s) t ≡ []
start_between (Import l) h b u s = absurd (cc (h.between u AtHead))
start_between t h b u s = refl

start_exported : (t : Terminal) → Starts t → (b : Behind) (u : UnitOf) (s : Stage) (line : ℕ) → fault_step b u (Exported s line) t ≡ export_faults u.kind (Some line)
start_exported (Import l) h b u s line = absurd (cc (h.exported u AtHead line))
start_exported (Module l) h b u s line = absurd (cc (h.exported u AtHead line))
start_exported t h b u s line = refl

item_between_faults : (b : Behind) (u : UnitOf) (s : Stage) (is : Item) (more : List Terminal) → fault_run b (at u (Between s)) (item is ++ more) ≡ twice u (item_name is) ++ fault_run b (at (with_parts u [] (item_decl false is ∷ [])) (Between AtDecls)) more
item_between_faults b u s is more =
    let g = item_begun is in
    ap (λ l. fault_run b (at u (Between s)) (l ++ more)) g.2
    ∙ ap (λ f. f ++ fault_run b (step u (Between s) g.0) (g.1 ++ more)) (start_between g.0 g.3 b u s)
    ∙ ap (λ o. fault_run b o (g.1 ++ more)) (g.3.between u s)
    ∙ lifted_faults b u (Alone None) is g.0 g.1 more g.2

item_exported_faults : (b : Behind) (u : UnitOf) (s : Stage) (line : ℕ) (is : Item) (more : List Terminal)
    → fault_run b (at u (Exported s line)) (item is ++ more) ≡ export_faults u.kind (Some line) ++ (twice u (item_name is) ++ fault_run b (at (with_parts u [] (item_decl true is ∷ [])) (Between AtDecls)) more)
item_exported_faults b u s line is more =
    let g = item_begun is in
    ap (λ l. fault_run b (at u (Exported s line)) (l ++ more)) g.2
    ∙ ap (λ f. f ++ fault_run b (step u (Exported s line) g.0) (g.1 ++ more)) (start_exported g.0 g.3 b u s line)
    ∙ ap (λ o. export_faults u.kind (Some line) ++ fault_run b o (g.1 ++ more)) (g.3.exported u s line)
    ∙ ap (λ f. export_faults u.kind (Some line) ++ f) (lifted_faults b u (Alone (Some line)) is g.0 g.1 more g.2)

item_grouped_faults : (b : Behind) (u : UnitOf) (line : ℕ) (is : Item) (more : List Terminal) → fault_run b (at u (InGroup line)) (item is ++ more) ≡ twice u (item_name is) ++ fault_run b (at (with_parts u [] (item_decl true is ∷ [])) (InGroup line)) more
item_grouped_faults b u line is more =
    let g = item_begun is in
    ap (λ l. fault_run b (at u (InGroup line)) (l ++ more)) g.2
    ∙ ap (λ o. fault_run b o (g.1 ++ more)) (g.3.grouped u line)
    ∙ lifted_faults b u (Grouped line) is g.0 g.1 more g.2

-- the names of a unit's declarations
abbrev names : UnitOf → List (List ℕ)
names u = map (λ d. d.name) u.decls

item_names : (e : Bool) (is : Item) → (item_decl e is).name ≡ (item_name_of is).name
item_names e (StructItem i) = refl
item_names e (ClassItem i) = refl
item_names e (AliasItem i t) = refl
item_names e (VariableItem t i) = refl
item_names e (FunctionItem t i ts) = refl

twice_is : (u : UnitOf) (is : Item) → twice u (item_name is) ≡ item_faults (names u) is
twice_is u (StructItem i) = refl
twice_is u (ClassItem i) = refl
twice_is u (AliasItem i t) = refl
twice_is u (VariableItem t i) = refl
twice_is u (FunctionItem t i ts) = refl

names_with : (u : UnitOf) (e : Bool) (is : Item) → names (with_parts u [] (item_decl e is ∷ [])) ≡ names u ++ (item_name_of is).name ∷ []
names_with u e is = map-append (λ d. d.name) u.decls (item_decl e is ∷ []) ∙ ap (λ n. names u ++ n ∷ []) (item_names e is)

group_faults : (b : Behind) (u : UnitOf) (line : ℕ) (items : List Item) (more : List Terminal)
    → fault_run b (at u (InGroup line)) (flat_map item items ++ Plain RightBrace ∷ more) ≡ items_faults (names u) items ++ fault_run b (at (with_parts u [] (group_decls items)) (Between AtDecls)) more
group_faults b u line [] more = ap (λ v. fault_run b (at v (Between AtDecls)) more) (sym (with_none u))
group_faults b u line (is ∷ items) more =
    let v : UnitOf = with_parts u [] (item_decl true is ∷ []) in
    ap (λ l. fault_run b (at u (InGroup line)) l) (append_assoc (item is) (flat_map item items) (Plain RightBrace ∷ more))
    ∙ item_grouped_faults b u line is (flat_map item items ++ Plain RightBrace ∷ more)
    ∙ ap (λ f. twice u (item_name is) ++ f) (group_faults b (with_parts u [] (item_decl true is ∷ [])) line items more)
    ∙ (λ k. twice_is u is k ++ (items_faults (names_with u true is k) items ++ fault_run b (at (with_decls u (item_decl true is ∷ []) (group_decls items) k) (Between AtDecls)) more))
    ∙ sym (append_assoc (item_faults (names u) is) (items_faults (names u ++ (item_name_of is).name ∷ []) items) (fault_run b (at (with_parts u [] (group_decls (is ∷ items))) (Between AtDecls)) more))

export_faults_run : (b : Behind) (u : UnitOf) (s : Stage) (line : ℕ) (more : List Terminal) → fault_run b (at u (Between s)) (Export line ∷ more) ≡ fault_run b (at u (Exported s line)) more
export_faults_run b u AtHead line more = refl
export_faults_run b u AtImports line more = refl
export_faults_run b u AtDecls line more = refl

brace_faults_run : (b : Behind) (u : UnitOf) (s : Stage) (line : ℕ) (more : List Terminal) → fault_run b (at u (Exported s line)) (Plain LeftBrace ∷ more) ≡ export_faults u.kind (Some line) ++ fault_run b (at u (InGroup line)) more
brace_faults_run b u AtHead line more = refl
brace_faults_run b u AtImports line more = refl
brace_faults_run b u AtDecls line more = refl

one_item : (u : UnitOf) (is : Item) → twice u (item_name is) ≡ items_faults (names u) (is ∷ [])
one_item u is = twice_is u is ∙ sym (append-nil (item_faults (names u) is))

decl_faults_run : (b : Behind) (u : UnitOf) (s : Stage) (d : DeclTree) (more : List Terminal)
    → fault_run b (at u (Between s)) (decl_tree d ++ more) ≡ export_faults u.kind (tree_export d) ++ items_faults (names u) (tree_items d) ++ fault_run b (at (with_parts u [] (tree_decls d)) (Between AtDecls)) more
decl_faults_run b u s (Single None is) more =
    item_between_faults b u s is more ∙ ap (λ f. f ++ fault_run b (at (with_parts u [] (item_decl false is ∷ [])) (Between AtDecls)) more) (one_item u is)
decl_faults_run b u s (Single (Some line) is) more =
    export_faults_run b u s line (item is ++ more) ∙ item_exported_faults b u s line is more
    ∙ sym (append_assoc (export_faults u.kind (Some line)) (twice u (item_name is)) (fault_run b (at (with_parts u [] (item_decl true is ∷ [])) (Between AtDecls)) more))
    ∙ ap (λ f. export_faults u.kind (Some line) ++ f ++ fault_run b (at (with_parts u [] (item_decl true is ∷ [])) (Between AtDecls)) more) (one_item u is)
decl_faults_run b u s (Group line items) more =
    export_faults_run b u s line (Plain LeftBrace ∷ flat_map item items ++ Plain RightBrace ∷ [] ++ more)
    ∙ brace_faults_run b u s line (flat_map item items ++ Plain RightBrace ∷ [] ++ more)
    ∙ ap (λ l. export_faults u.kind (Some line) ++ fault_run b (at u (InGroup line)) l) (append_assoc (flat_map item items) (Plain RightBrace ∷ []) more)
    ∙ ap (λ f. export_faults u.kind (Some line) ++ f) (group_faults b u line items more)
    ∙ sym (append_assoc (export_faults u.kind (Some line)) (items_faults (names u) items) (fault_run b (at (with_parts u [] (group_decls items)) (Between AtDecls)) more))

abbrev tree_names : DeclTree → List (List ℕ)
tree_names d = flat_map (λ i. (item_name_of i).name ∷ []) (tree_items d)

group_names : (items : List Item) → map (λ d. d.name) (group_decls items) ≡ flat_map (λ i. (item_name_of i).name ∷ []) items
group_names [] = refl
group_names (is ∷ items) = λ k. item_names true is k ∷ group_names items k

names_more : (u : UnitOf) (d : DeclTree) → names (with_parts u [] (tree_decls d)) ≡ names u ++ tree_names d
names_more u (Single e is) = names_with u (is_some e) is
names_more u (Group line items) = map-append (λ d. d.name) u.decls (group_decls items) ∙ ap (λ l. names u ++ l) (group_names items)

decls_faults : (b : Behind) (u : UnitOf) (s : Stage) (ds : List DeclTree) → fault_run b (at u (Between s)) (flat_map decl_tree ds) ≡ decl_faults u.kind (names u) ds
decls_faults b u s [] = refl
decls_faults b u s (d ∷ ds) =
    decl_faults_run b u s d (flat_map decl_tree ds)
    ∙ ap (λ f. export_faults u.kind (tree_export d) ++ items_faults (names u) (tree_items d) ++ f) (decls_faults b (with_parts u [] (tree_decls d)) AtDecls ds ∙ ap (λ n. decl_faults u.kind n ds) (names_more u d))

-- a dotted name adds nothing behind its first identifier
record Quiet (u : UnitOf) (P : NamePlace → Place) : Type 0 where
  dot : (b : Behind) (x : List ℕ) (rest : List Terminal) → fault_run b (at u (P (Has x))) (Plain Dot ∷ rest) ≡ fault_run b (at u (P (Wants (x ++ 46 ∷ [])))) rest
  name : (b : Behind) (x n : List ℕ) (l : ℕ) (rest : List Terminal) → fault_run b (at u (P (Wants (x ++ 46 ∷ [])))) (Name n l ∷ rest) ≡ fault_run b (at u (P (Has (x ++ 46 ∷ [] ++ n)))) rest

dots_faults : {u : UnitOf} {P : NamePlace → Place} → Quiet u P → (b : Behind) (x : List ℕ) (is : List Ident) (more : List Terminal)
    → fault_run b (at u (P (Has x))) (dots is ++ more) ≡ fault_run b (at u (P (Has (x ++ flat_map (λ j. 46 ∷ j.name) is)))) more
dots_faults {u} {P} h b x [] more = ap (λ y. fault_run b (at u (P (Has y))) more) (sym (append-nil x))
dots_faults {u} {P} h b x (i ∷ is) more =
    h.dot b x (ident i ∷ dots is ++ more)
    ∙ h.name b x i.name i.line (dots is ++ more)
    ∙ dots_faults h b (x ++ 46 ∷ [] ++ i.name) is more
    ∙ ap (λ y. fault_run b (at u (P (Has y))) more) (append_assoc (x ++ 46 ∷ []) i.name (flat_map (λ j. 46 ∷ j.name) is) ∙ append_assoc x (46 ∷ []) (i.name ++ flat_map (λ j. 46 ∷ j.name) is))

import_quiet : (u : UnitOf) (e : Option ℕ) (line : ℕ) → Quiet u (InImport e line)
import_quiet u e line = record { dot = λ b x rest. refl; name = λ b x n l rest. refl }

partition_quiet : (u : UnitOf) (e : Option ℕ) (line : ℕ) (m : List ℕ) → Quiet u (InPartition e line m)
partition_quiet u e line m = record { dot = λ b x rest. refl; name = λ b x n l rest. refl }

module_quiet : (u : UnitOf) (e : Option ℕ) (line : ℕ) → Quiet u (InModule e line)
module_quiet u e line = record { dot = λ b x rest. refl; name = λ b x n l rest. at_name b x n l rest }
  where
    at_name : (b : Behind) (x n : List ℕ) (l : ℕ) (rest : List Terminal) → fault_run b (at u (InModule e line (Wants (x ++ 46 ∷ [])))) (Name n l ∷ rest) ≡ fault_run b (at u (InModule e line (Has (x ++ 46 ∷ [] ++ n)))) rest
    at_name b [] n l rest = refl
    at_name b (c ∷ cs) n l rest = refl

-- by kind: what an import adds at its end, and before
whole_faults : (kind : UnitKind) (m : List ℕ) (d : Dotted) → import_length kind (behind_at d.first.line false) (dotted_name d) ≡ what_faults kind m (Whole d)
whole_faults UnitKinds.Interface m d = refl
whole_faults UnitKinds.Implementation m d = refl
whole_faults UnitKinds.PartitionInterface m d = refl
whole_faults UnitKinds.PartitionImplementation m d = refl
whole_faults UnitKinds.Plain m d = refl

part_faults : (kind : UnitKind) (m : List ℕ) (c : ℕ) (d : Dotted) (more : List Fault) → colon_faults kind c ++ (import_length kind (behind_at c true) (m ++ 58 ∷ [] ++ dotted_name d) ++ more) ≡ what_faults kind m (Part c d) ++ more
part_faults UnitKinds.Interface m c d more = refl
part_faults UnitKinds.Implementation m c d more = refl
part_faults UnitKinds.PartitionInterface m c d more = refl
part_faults UnitKinds.PartitionImplementation m c d more = refl
part_faults UnitKinds.Plain m c d more = refl

header_faults : (kind : UnitKind) (m : List ℕ) (name : List ℕ) (l : ℕ) → fault_if (not (is_header_name name)) l BadHeaderName ≡ what_faults kind m (Header name l)
header_faults UnitKinds.Interface m name l = refl
header_faults UnitKinds.Implementation m name l = refl
header_faults UnitKinds.PartitionInterface m name l = refl
header_faults UnitKinds.PartitionImplementation m name l = refl
header_faults UnitKinds.Plain m name l = refl

abbrev behind_what : Imported → Behind
behind_what (Whole d) = (behind_at d.first.line false)
behind_what (Part c d) = (behind_at c true)
behind_what (Header name l) = (behind_at l false)

imported_faults : (b : Behind) (u : UnitOf) (e : Option ℕ) (line : ℕ) (what : Imported) (more : List Terminal)
    → fault_run b (at u (AfterImport e line)) (imported what ++ Plain Semicolon ∷ [] ++ more) ≡ what_faults u.kind u.module what ++ fault_run (behind_what what) (at (with_import u e line (import_name u.module what)) (Between AtImports)) more
imported_faults b u e line (Whole d) more =
    ap (λ l. fault_run b (at u (AfterImport e line)) l) (append_assoc (dotted d) (Plain Semicolon ∷ []) more)
    ∙ dots_faults (import_quiet u e line) (behind_at d.first.line false) d.first.name d.others (Plain Semicolon ∷ more)
    ∙ ap (λ f. f ++ fault_run (behind_at d.first.line false) (at (with_import u e line (dotted_name d)) (Between AtImports)) more) (whole_faults u.kind u.module d)
imported_faults b u e line (Part c d) more =
    ap (λ l. fault_run b (at u (AfterImport e line)) (Colon c ∷ l)) (append_assoc (dotted d) (Plain Semicolon ∷ []) more)
    ∙ ap (λ f. colon_faults u.kind c ++ f) (
    dots_faults (import_quiet u e line) (behind_at c true) (u.module ++ 58 ∷ [] ++ d.first.name) d.others (Plain Semicolon ∷ more)
    ∙ ap (λ y. fault_run (behind_at c true) (at u (InImport e line (Has y))) (Plain Semicolon ∷ more)) (append_assoc (u.module ++ 58 ∷ []) d.first.name (flat_map (λ j. 46 ∷ j.name) d.others)))
    ∙ part_faults u.kind u.module c d (fault_run (behind_at c true) (at (with_import u e line (import_name u.module (Part c d))) (Between AtImports)) more)
imported_faults b u e line (Header name l) more = ap (λ f. f ++ fault_run (behind_at l false) (at (with_import u e line name) (Between AtImports)) more) (header_faults u.kind u.module name l)

abbrev one_import : UnitOf → Option ℕ → ℕ → Imported → List Fault
one_import u e line what = export_faults u.kind e ++ fault_if (leb 1000 (length u.imports)) line TooManyImports ++ what_faults u.kind u.module what

import_faults_run : (b : Behind) (u : UnitOf) {s : Stage} → MayImport s → (e : Option ℕ) (line : ℕ) (what : Imported) (more : List Terminal)
    → fault_run b (at u (Between s)) (import_tree (import_with e line what) ++ more) ≡ one_import u e line what ++ fault_run (behind_what what) (at (with_parts u (import_of u.module (import_with e line what) ∷ []) []) (Between AtImports)) more
import_faults_run b u from_head None line what more = ap (λ f. too_many u line ++ f) (imported_faults b u None line what more) ∙ sym (append_assoc (too_many u line) (what_faults u.kind u.module what) _)
import_faults_run b u from_head (Some l) line what more =
    ap (λ f. export_faults u.kind (Some l) ++ too_many u line ++ f) (imported_faults b u (Some l) line what more) ∙ sym (append_assoc (export_faults u.kind (Some l) ++ too_many u line) (what_faults u.kind u.module what) _)
import_faults_run b u from_imports None line what more = ap (λ f. too_many u line ++ f) (imported_faults b u None line what more) ∙ sym (append_assoc (too_many u line) (what_faults u.kind u.module what) _)
import_faults_run b u from_imports (Some l) line what more =
    ap (λ f. export_faults u.kind (Some l) ++ too_many u line ++ f) (imported_faults b u (Some l) line what more) ∙ sym (append_assoc (export_faults u.kind (Some l) ++ too_many u line) (what_faults u.kind u.module what) _)

imports_faults : (b : Behind) (u : UnitOf) {s : Stage} → MayImport s → (is : List ImportTree) (more : List Terminal)
    → (s' : Stage) × (b' : Behind) × (fault_run b (at u (Between s)) (flat_map import_tree is ++ more) ≡ import_faults u.kind u.module (length u.imports) is ++ fault_run b' (at (with_parts u (map (import_of u.module) is) []) (Between s')) more)
imports_faults b u {s} may [] more = (s, b, ap (λ v. fault_run b (at v (Between s)) more) (sym (with_none u)))
imports_faults b u {s} may (i ∷ is) more =
    let rest = imports_faults (behind_what i.what) (with_parts u (import_of u.module i ∷ []) []) from_imports is more in (
      rest.0,
      rest.1,
      ap (λ l. fault_run b (at u (Between s)) l) (append_assoc (import_tree i) (flat_map import_tree is) more)
          ∙ import_faults_run b u may i.exported i.line i.what (flat_map import_tree is ++ more)
          ∙ ap (λ f. one_import u i.exported i.line i.what ++ f) (
          rest.2
          ∙ (λ k. import_faults u.kind u.module (length_push u.imports (import_of u.module i) k) is ++ fault_run rest.1 (at (with_imports u (import_of u.module i ∷ []) (map (import_of u.module) is) k) (Between rest.0)) more))
          ∙ sym (append_assoc (one_import u i.exported i.line i.what) (import_faults u.kind u.module (length u.imports + 1) is) (fault_run rest.1 (at (with_parts u (map (import_of u.module) (i ∷ is)) []) (Between rest.0)) more)),
    )

named_module_faults : (b : Behind) (u : UnitOf) (e : Option ℕ) (line : ℕ) (d : Dotted) (p : Option (ℕ × Dotted)) (more : List Terminal)
    → fault_run b (at u (InModule e line (Wants []))) (dotted d ++ (partition p ++ Plain Semicolon ∷ []) ++ more)
    ≡ head_faults (Some (record { exported = e; line = line; name = d; partition = p })) ++ fault_run (behind_at d.first.line false) (at (head_of (Some (record { exported = e; line = line; name = d; partition = p }))) (Between AtImports)) more
named_module_faults b u e line d None more =
    ap (λ l. fault_run b (at u (InModule e line (Wants []))) l) (append_assoc (dotted d) (Plain Semicolon ∷ []) more)
    ∙ dots_faults (module_quiet u e line) (behind_at d.first.line false) d.first.name d.others (Plain Semicolon ∷ more)
named_module_faults b u e line d (Some p) more =
    ap (λ l. fault_run b (at u (InModule e line (Wants []))) l) (append_assoc (dotted d) (Colon p.0 ∷ dotted p.1 ++ Plain Semicolon ∷ []) more ∙ ap (λ l. dotted d ++ (Colon p.0 ∷ l)) (append_assoc (dotted p.1) (Plain Semicolon ∷ []) more))
    ∙ dots_faults (module_quiet u e line) (behind_at d.first.line false) d.first.name d.others (Colon p.0 ∷ (dotted p.1 ++ Plain Semicolon ∷ more))
    ∙ dots_faults (partition_quiet u e line (dotted_name d)) (behind_at d.first.line false) p.1.first.name p.1.others (Plain Semicolon ∷ more)

module_faults : (b : Behind) (e : Option ℕ) (line : ℕ) (d : Dotted) (p : Option (ℕ × Dotted)) (more : List Terminal)
    → fault_run b (Some start) (module_decl (record { exported = e; line = line; name = d; partition = p }) ++ more)
    ≡ head_faults (Some (record { exported = e; line = line; name = d; partition = p })) ++ fault_run (behind_at d.first.line false) (at (head_of (Some (record { exported = e; line = line; name = d; partition = p }))) (Between AtImports)) more
module_faults b None line d p more = named_module_faults b (head_of None) None line d p more
module_faults b (Some l) line d p more = named_module_faults b (head_of None) (Some l) line d p more

names_kept : (u : UnitOf) (is : List ImportOf) → names (with_parts u is []) ≡ names u
names_kept u is = ap (λ l. map (λ d. d.name) l) (append-nil u.decls)

parts_faults : (b : Behind) (u : UnitOf) {s : Stage} → MayImport s → names u ≡ [] → (is : List ImportTree) (ds : List DeclTree)
    → fault_run b (at u (Between s)) (flat_map import_tree is ++ flat_map decl_tree ds) ≡ import_faults u.kind u.module (length u.imports) is ++ decl_faults u.kind [] ds
parts_faults b u may none is ds =
    let first = imports_faults b u may is (flat_map decl_tree ds) in
    first.2
    ∙ ap (λ f. import_faults u.kind u.module (length u.imports) is ++ f) (
    decls_faults first.1 (with_parts u (map (import_of u.module) is) []) first.0 ds
    ∙ ap (λ n. decl_faults u.kind n ds) (names_kept u (map (import_of u.module) is) ∙ none))

-- what the tokens of a unit add is what its tree breaks
pub unit_faults : (b : Behind) (m : Option ModuleDecl) (is : List ImportTree) (ds : List DeclTree)
    → fault_run b (Some start) (head m ++ (flat_map import_tree is ++ flat_map decl_tree ds)) ≡ faults_of (record { module_is = m; imports = is; decls = ds })
unit_faults b None is ds = parts_faults b (head_of None) from_head refl is ds
unit_faults b (Some m) is ds =
    module_faults b m.exported m.line m.name m.partition (flat_map import_tree is ++ flat_map decl_tree ds)
    ∙ ap (λ f. head_faults (Some m) ++ f) (parts_faults (behind_at m.name.first.line false) (head_of (Some m)) from_imports refl is ds)
    ∙ sym (append_assoc (head_faults (Some m)) (import_faults (head_of (Some m)).kind (head_of (Some m)).module (length (head_of (Some m)).imports) is) (decl_faults (head_of (Some m)).kind [] ds))

-- so trees of the same tokens break the same rules
pub one_faults : (t u : UnitTree) → unit_tree t ≡ unit_tree u → faults_of t ≡ faults_of u
one_faults t u same =
    sym (unit_faults (behind_at 0 false) t.module_is t.imports t.decls) ∙ ap (fault_run (behind_at 0 false) (Some start)) same ∙ unit_faults (behind_at 0 false) u.module_is u.imports u.decls
