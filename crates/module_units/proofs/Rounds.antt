-- Each part of a unit can be ended, and a reader that is given the tokens of a unit ends with that unit.
use Rattle.std.proofs.Common.{◌≡◌, ℕ, Bool, true, false, List, [], ◌∷◌, ◌++◌, map, Option, Some, None, sym, ap, ◌∙◌, refl, subst, append_assoc}
use Rattle.std.proofs.lemmas.List.{append-nil}
use Rattle.std.specs.List.{flat_map}
use Rattle.module_units.specs.Terminals.{Terminal, Name, Quoted, Export, Module, Import, Colon, Plain, Struct, Class, Using, Const, BuiltIn, Semicolon, Dot, LeftParen, RightParen, LeftBrace, RightBrace}
use Rattle.module_units.specs.Grammar.{Base, Native, Named, type_tree, parameters, Ident, ident, Dotted, dots, dotted, export, ModuleDecl, partition, module_decl, Imported, Whole, Part, Header, ImportTree, imported, import_tree, Item, StructItem, ClassItem, AliasItem, VariableItem, FunctionItem, item, DeclTree, Single, Group, decl_tree, UnitTree, head, unit_tree, BeginsUnit}
use Rattle.module_units.specs.Unit.{TypeUse, Decl, ImportOf, UnitOf, dotted_name, item_decl, tree_decls, import_name, import_of, head_of, with_parts, unit_of, declared}
use Rattle.module_units.specs.Machine.{ItemStep, Fails, Goes, Ends, item_step, item_start, named, Stage, AtHead, AtImports, AtDecls, NamePlace, Wants, Has, Context, Alone, Grouped, Place, Between, Exported, InModule, InPartition, AfterImport, InImport, InGroup, Parser, at, lift, step, start, run, context_marked, after_item, with_import}
use Rattle.module_units.proofs.UnitParts.{NamePart, NNone, NHas, NDot, name_tokens, Front, front_tree, UnitPart, PBetween, PExported, PModule, PPartition, PAfterImport, PWhole, PPart, PHeader, PItem, PGroup, PGroupItem, imports_tree, import_begun, whole_part, unit_tokens, group_decls, longer, dotted_longer, flat_map_push, add_decl, tree_add_decl, tree_add_import, same_unit, only, import_with, with_none, item_decl_is}
use Rattle.module_units.proofs.ItemRuns.{item_run, start_run, item_round}
use Rattle.module_units.proofs.ItemParts.{type_of, item_tokens, item_kind, item_name, item_uses, item_completes}

-- some name, to end a part with
some_ident : Ident
some_ident = record { name = []; line = 0 }

name_completes : (n : NamePart) → (rest : List Terminal) × (d : Dotted) × (dotted d ≡ name_tokens n ++ rest)
name_completes NNone = (Name [] 0 ∷ [], only (named [] 0), refl)
name_completes (NHas d) = ([], d, sym (append-nil (dotted d)))
name_completes (NDot d) = (Name [] 0 ∷ [], longer d (named [] 0), dotted_longer d (named [] 0))

-- some unit begins with the part's tokens
abbrev pub Completes : UnitPart → Type 0
Completes p = BeginsUnit (unit_tokens p)

decl_completes : (f : Front) (tokens more : List Terminal) (d : DeclTree) → decl_tree d ≡ tokens ++ more → BeginsUnit (unit_tree (front_tree f) ++ tokens)
decl_completes f tokens more d is =
    (add_decl (front_tree f) d, more, tree_add_decl (front_tree f) d ∙ ap (λ l. unit_tree (front_tree f) ++ l) is ∙ sym (append_assoc (unit_tree (front_tree f)) tokens more))

import_completes : (m : Option ModuleDecl) (is : List ImportTree) (e : Option ℕ) (line : ℕ) (tokens rest : List Terminal) (what : Imported) → imported what ≡ tokens ++ rest → BeginsUnit (import_begun m is e line ++ tokens)
import_completes m is e line tokens rest what is_what = (
  imports_tree m (is ++ import_with e line what ∷ []),
  rest ++ Plain Semicolon ∷ [],
  tree_add_import m is (import_with e line what) ∙ ap (λ l. unit_tree (imports_tree m is) ++ (export e ++ (Import line ∷ l ++ Plain Semicolon ∷ []))) is_what ∙ regroup (unit_tree (imports_tree m is)) (export e) tokens rest (Import line),
)
  where
    regroup : (a b c d : List Terminal) (t : Terminal) → a ++ (b ++ (t ∷ (c ++ d) ++ Plain Semicolon ∷ [])) ≡ ((a ++ (b ++ t ∷ [])) ++ c) ++ (d ++ Plain Semicolon ∷ [])
    regroup a b c d t = simp append_assoc

module_completes : (e : Option ℕ) (line : ℕ) (tokens rest : List Terminal) (d : Dotted) (p : Option (ℕ × Dotted)) → dotted d ++ partition p ≡ tokens ++ rest → BeginsUnit (export e ++ (Module line ∷ tokens))
module_completes e line tokens rest d p is = (
  imports_tree (Some (record { exported = e; line = line; name = d; partition = p })) [],
  rest ++ Plain Semicolon ∷ [],
  append-nil _ ∙ sym (one (export e) (dotted d) (partition p) (Module line)) ∙ ap (λ l. export e ++ (Module line ∷ l) ++ Plain Semicolon ∷ []) is ∙ two (export e) tokens rest (Module line),
)
  where
    one : (a b c : List Terminal) (t : Terminal) → a ++ (t ∷ (b ++ c)) ++ Plain Semicolon ∷ [] ≡ a ++ (t ∷ b ++ (c ++ Plain Semicolon ∷ []))
    one a b c t = simp append_assoc

    two : (a b c : List Terminal) (t : Terminal) → a ++ (t ∷ (b ++ c)) ++ Plain Semicolon ∷ [] ≡ (a ++ (t ∷ b)) ++ (c ++ Plain Semicolon ∷ [])
    two a b c t = simp append_assoc

pub unit_completes : (p : UnitPart) → Completes p
unit_completes (PBetween f) = (front_tree f, [], sym (append-nil _))
unit_completes (PExported f line) = decl_completes f (Export line ∷ []) _ (Single (Some line) (StructItem some_ident)) refl
unit_completes (PModule e line n) =
    let named_by = name_completes n in
    module_completes e line (name_tokens n) named_by.0 named_by.1 None (append-nil _ ∙ named_by.2)
unit_completes (PPartition e line m c n) =
    let named_by = name_completes n in
    module_completes e line (dotted m ++ (Colon c ∷ name_tokens n)) named_by.0 m (Some (c, named_by.1)) (ap (λ l. dotted m ++ (Colon c ∷ l)) named_by.2 ∙ sym (append_assoc (dotted m) (Colon c ∷ name_tokens n) named_by.0))
unit_completes (PAfterImport m is e line) = subst BeginsUnit (append-nil (import_begun m is e line)) (import_completes m is e line [] _ (Header [] 0) refl)
unit_completes (PWhole m is e line d dot) =
    let named_by = name_completes (whole_part d dot) in
    import_completes m is e line (name_tokens (whole_part d dot)) named_by.0 (Whole named_by.1) named_by.2
unit_completes (PPart m is e line c n) =
    let named_by = name_completes n in
    import_completes m is e line (Colon c ∷ name_tokens n) named_by.0 (Part c named_by.1) (ap (λ l. Colon c ∷ l) named_by.2)
unit_completes (PHeader m is e line name l) = import_completes m is e line (Quoted name l ∷ []) [] (Header name l) refl
unit_completes (PItem f e p) =
    let done = item_completes p in
    decl_completes f (export e ++ item_tokens p) done.0 (Single e done.1) (ap (λ l. export e ++ l) done.2 ∙ sym (append_assoc (export e) (item_tokens p) done.0))
unit_completes (PGroup f line items) = decl_completes f (Export line ∷ Plain LeftBrace ∷ flat_map item items) (Plain RightBrace ∷ []) (Group line items) refl
unit_completes (PGroupItem f line items p) =
    let done = item_completes p in
    decl_completes f (Export line ∷ Plain LeftBrace ∷ flat_map item items ++ item_tokens p) (done.0 ++ Plain RightBrace ∷ []) (Group line (items ++ done.1 ∷ []))
    (ap (λ l. Export line ∷ Plain LeftBrace ∷ l ++ Plain RightBrace ∷ []) (flat_map_push item items done.1 ∙ ap (λ l. flat_map item items ++ l) done.2) ∙ regroup (flat_map item items) (item_tokens p) done.0)
  where
    regroup : (a b c : List Terminal) → Export line ∷ Plain LeftBrace ∷ (a ++ (b ++ c)) ++ Plain RightBrace ∷ [] ≡ (Export line ∷ Plain LeftBrace ∷ a ++ b) ++ (c ++ Plain RightBrace ∷ [])
    regroup a b c = simp append_assoc

-- the steps of an item take a unit's reader along
lift_run : (u : UnitOf) (c : Context) (s : ItemStep) (ts more : List Terminal) (kind : _) (i : Ident) (types : List TypeUse) → item_run s ts ≡ Ends kind i types
    → run (lift u c s) (ts ++ more) ≡ run (at (with_parts u [] (declared (context_marked c) kind i types ∷ [])) (after_item c)) more
lift_run u c s [] more kind i types ends = ap (λ x. run (lift u c x) more) ends
lift_run u c Fails (t ∷ ts) more kind i types ends = absurd (cc)
lift_run u c (Goes p) (t ∷ ts) more kind i types ends = lift_run u c (item_step p t) ts more kind i types ends
lift_run u c (Ends k j us) (t ∷ ts) more kind i types ends = absurd (cc)

-- a token that begins an item, wherever one may begin
pub record Starts (t : Terminal) : Type 0 where
  pub between : (u : UnitOf) (s : Stage) → step u (Between s) t ≡ lift u (Alone None) (item_start t)
  pub exported : (u : UnitOf) (s : Stage) (line : ℕ) → step u (Exported s line) t ≡ lift u (Alone (Some line)) (item_start t)
  pub grouped : (u : UnitOf) (line : ℕ) → step u (InGroup line) t ≡ lift u (Grouped line) (item_start t)

three_stages : (P : Stage → Type 0) → P AtHead → P AtImports → P AtDecls → (s : Stage) → P s
three_stages P a b c AtHead = a
three_stages P a b c AtImports = b
three_stages P a b c AtDecls = c

by_stages : (t : Terminal) → ((u : UnitOf) → (s : Stage) → step u (Between s) t ≡ lift u (Alone None) (item_start t)) → ((u : UnitOf) (line : ℕ) → (s : Stage) → step u (Exported s line) t ≡ lift u (Alone (Some line)) (item_start t))
    → ((u : UnitOf) (line : ℕ) → step u (InGroup line) t ≡ lift u (Grouped line) (item_start t)) → Starts t
by_stages t a b c = record { between = a; exported = λ u s line. b u line s; grouped = c }

starts_struct : Starts (Plain Struct)
starts_struct = by_stages (Plain Struct) (λ u. three_stages (λ s. step u (Between s) (Plain Struct) ≡ lift u (Alone None) (item_start (Plain Struct))) refl refl refl)
    (λ u line. three_stages (λ s. step u (Exported s line) (Plain Struct) ≡ lift u (Alone (Some line)) (item_start (Plain Struct))) refl refl refl) (λ u line. refl)

starts_class : Starts (Plain Class)
starts_class = by_stages (Plain Class) (λ u. three_stages (λ s. step u (Between s) (Plain Class) ≡ lift u (Alone None) (item_start (Plain Class))) refl refl refl)
    (λ u line. three_stages (λ s. step u (Exported s line) (Plain Class) ≡ lift u (Alone (Some line)) (item_start (Plain Class))) refl refl refl) (λ u line. refl)

starts_using : Starts (Plain Using)
starts_using = by_stages (Plain Using) (λ u. three_stages (λ s. step u (Between s) (Plain Using) ≡ lift u (Alone None) (item_start (Plain Using))) refl refl refl)
    (λ u line. three_stages (λ s. step u (Exported s line) (Plain Using) ≡ lift u (Alone (Some line)) (item_start (Plain Using))) refl refl refl) (λ u line. refl)

starts_const : Starts (Plain Const)
starts_const = by_stages (Plain Const) (λ u. three_stages (λ s. step u (Between s) (Plain Const) ≡ lift u (Alone None) (item_start (Plain Const))) refl refl refl)
    (λ u line. three_stages (λ s. step u (Exported s line) (Plain Const) ≡ lift u (Alone (Some line)) (item_start (Plain Const))) refl refl refl) (λ u line. refl)

starts_native : Starts (Plain BuiltIn)
starts_native = by_stages (Plain BuiltIn) (λ u. three_stages (λ s. step u (Between s) (Plain BuiltIn) ≡ lift u (Alone None) (item_start (Plain BuiltIn))) refl refl refl)
    (λ u line. three_stages (λ s. step u (Exported s line) (Plain BuiltIn) ≡ lift u (Alone (Some line)) (item_start (Plain BuiltIn))) refl refl refl) (λ u line. refl)

starts_name : (i : Ident) → Starts (ident i)
starts_name i = by_stages (ident i) (λ u. three_stages (λ s. step u (Between s) (ident i) ≡ lift u (Alone None) (item_start (ident i))) refl refl refl)
    (λ u line. three_stages (λ s. step u (Exported s line) (ident i) ≡ lift u (Alone (Some line)) (item_start (ident i))) refl refl refl) (λ u line. refl)

-- an item has a first token, which begins one
abbrev pub Begun : List Terminal → Type 0
Begun ts = (t : Terminal) × (rest : List Terminal) × (ts ≡ t ∷ rest) × Starts t

type_begun : (c : Bool) (b : Base) (n : ℕ) (r : Bool) (more : List Terminal) → Begun (type_tree (type_of c b n r) ++ more)
type_begun true b n r more = (Plain Const, _, refl, starts_const)
type_begun false Native n r more = (Plain BuiltIn, _, refl, starts_native)
type_begun false (Named i) n r more = (ident i, _, refl, starts_name i)

pub item_begun : (is : Item) → Begun (item is)
item_begun (StructItem i) = (Plain Struct, _, refl, starts_struct)
item_begun (ClassItem i) = (Plain Class, _, refl, starts_class)
item_begun (AliasItem i t) = (Plain Using, _, refl, starts_using)
item_begun (VariableItem t i) = rw (← append_assoc (type_tree t) (ident i ∷ []) (Plain Semicolon ∷ [])) at (type_begun t.is_const t.base t.stars t.is_reference (ident i ∷ Plain Semicolon ∷ []))
item_begun (FunctionItem t i ts) =
    rw (← append_assoc (type_tree t) (ident i ∷ Plain LeftParen ∷ parameters ts ++ Plain RightParen ∷ []) (Plain Semicolon ∷ [])) at (type_begun t.is_const t.base t.stars t.is_reference ((ident i ∷ Plain LeftParen ∷ parameters ts ++ Plain RightParen ∷ []) ++ Plain Semicolon ∷ []))

-- an item, from where it begins
item_lifted : (u : UnitOf) (c : Context) (is : Item) (t : Terminal) (rest more : List Terminal) → item is ≡ t ∷ rest
    → run (lift u c (item_start t)) (rest ++ more) ≡ run (at (with_parts u [] (item_decl (context_marked c) is ∷ [])) (after_item c)) more
item_lifted u c is t rest more first =
    lift_run u c (item_start t) rest more (item_kind is) (item_name is) (item_uses is) (sym (ap start_run first) ∙ item_round is)
    ∙ ap (λ d. run (at (with_parts u [] (d ∷ [])) (after_item c)) more) (sym (item_decl_is (context_marked c) is))

item_between : (u : UnitOf) (s : Stage) (is : Item) (more : List Terminal) → run (at u (Between s)) (item is ++ more) ≡ run (at (with_parts u [] (item_decl false is ∷ [])) (Between AtDecls)) more
item_between u s is more =
    let b = item_begun is in
    ap (λ l. run (at u (Between s)) (l ++ more)) b.2 ∙ ap (λ x. run x (b.1 ++ more)) (b.3.between u s) ∙ item_lifted u (Alone None) is b.0 b.1 more b.2

item_exported : (u : UnitOf) (s : Stage) (line : ℕ) (is : Item) (more : List Terminal) → run (at u (Exported s line)) (item is ++ more) ≡ run (at (with_parts u [] (item_decl true is ∷ [])) (Between AtDecls)) more
item_exported u s line is more =
    let b = item_begun is in
    ap (λ l. run (at u (Exported s line)) (l ++ more)) b.2 ∙ ap (λ x. run x (b.1 ++ more)) (b.3.exported u s line) ∙ item_lifted u (Alone (Some line)) is b.0 b.1 more b.2

item_grouped : (u : UnitOf) (line : ℕ) (is : Item) (more : List Terminal) → run (at u (InGroup line)) (item is ++ more) ≡ run (at (with_parts u [] (item_decl true is ∷ [])) (InGroup line)) more
item_grouped u line is more =
    let b = item_begun is in
    ap (λ l. run (at u (InGroup line)) (l ++ more)) b.2 ∙ ap (λ x. run x (b.1 ++ more)) (b.3.grouped u line) ∙ item_lifted u (Grouped line) is b.0 b.1 more b.2

-- declarations so far and more of them
pub with_decls : (u : UnitOf) (a b : List Decl) → with_parts (with_parts u [] a) [] b ≡ with_parts u [] (a ++ b)
with_decls u a b = same_unit u.kind u.module u.partition u.module_line _ _ _ _ (append-nil (u.imports ++ [])) (append_assoc u.decls a b)

pub with_imports : (u : UnitOf) (a b : List ImportOf) → with_parts (with_parts u a []) b [] ≡ with_parts u (a ++ b) []
with_imports u a b = same_unit u.kind u.module u.partition u.module_line _ _ _ _ (append_assoc u.imports a b) (append-nil (u.decls ++ []))

pub with_both : (u : UnitOf) (a : List ImportOf) (b : List Decl) → with_parts (with_parts u a []) [] b ≡ with_parts u a b
with_both u a b = same_unit u.kind u.module u.partition u.module_line _ _ _ _ (append-nil (u.imports ++ a)) (ap (λ l. l ++ b) (append-nil u.decls))

group_run : (u : UnitOf) (line : ℕ) (items : List Item) (more : List Terminal) → run (at u (InGroup line)) (flat_map item items ++ Plain RightBrace ∷ more) ≡ run (at (with_parts u [] (group_decls items)) (Between AtDecls)) more
group_run u line [] more = ap (λ v. run (at v (Between AtDecls)) more) (sym (with_none u))
group_run u line (is ∷ items) more =
    ap (λ l. run (at u (InGroup line)) l) (append_assoc (item is) (flat_map item items) (Plain RightBrace ∷ more))
    ∙ item_grouped u line is (flat_map item items ++ Plain RightBrace ∷ more)
    ∙ group_run (with_parts u [] (item_decl true is ∷ [])) line items more
    ∙ ap (λ v. run (at v (Between AtDecls)) more) (with_decls u (item_decl true is ∷ []) (group_decls items))

export_run : (u : UnitOf) (s : Stage) (line : ℕ) (more : List Terminal) → run (at u (Between s)) (Export line ∷ more) ≡ run (at u (Exported s line)) more
export_run u AtHead line more = refl
export_run u AtImports line more = refl
export_run u AtDecls line more = refl

brace_run : (u : UnitOf) (s : Stage) (line : ℕ) (more : List Terminal) → run (at u (Exported s line)) (Plain LeftBrace ∷ more) ≡ run (at u (InGroup line)) more
brace_run u AtHead line more = refl
brace_run u AtImports line more = refl
brace_run u AtDecls line more = refl

decl_run : (u : UnitOf) (s : Stage) (d : DeclTree) (more : List Terminal) → run (at u (Between s)) (decl_tree d ++ more) ≡ run (at (with_parts u [] (tree_decls d)) (Between AtDecls)) more
decl_run u s (Single None is) more = item_between u s is more
decl_run u s (Single (Some line) is) more = export_run u s line (item is ++ more) ∙ item_exported u s line is more
decl_run u s (Group line items) more =
    export_run u s line (Plain LeftBrace ∷ flat_map item items ++ Plain RightBrace ∷ [] ++ more) ∙ brace_run u s line (flat_map item items ++ Plain RightBrace ∷ [] ++ more) ∙ ap (λ l. run (at u (InGroup line)) l) (append_assoc (flat_map item items) (Plain RightBrace ∷ []) more) ∙ group_run u line items more

-- where a reader stands after some declarations
abbrev pub EndsBetween : Option Parser → UnitOf → Type 0
EndsBetween o u = (s : Stage) × (o ≡ at u (Between s))

decls_run : (u : UnitOf) (s : Stage) (ds : List DeclTree) → EndsBetween (run (at u (Between s)) (flat_map decl_tree ds)) (with_parts u [] (flat_map tree_decls ds))
decls_run u s [] = (s, ap (λ v. at v (Between s)) (sym (with_none u)))
decls_run u s (d ∷ ds) =
    let rest = decls_run (with_parts u [] (tree_decls d)) AtDecls ds in
    (rest.0, decl_run u s d (flat_map decl_tree ds) ∙ rest.1 ∙ ap (λ v. at v (Between rest.0)) (with_decls u (tree_decls d) (flat_map tree_decls ds)))

-- a dotted name, where a place holds it
record Holds (u : UnitOf) (P : NamePlace → Place) : Type 0 where
  dot : (x : List ℕ) → step u (P (Has x)) (Plain Dot) ≡ at u (P (Wants (x ++ 46 ∷ [])))
  name : (x n : List ℕ) (l : ℕ) → step u (P (Wants x)) (Name n l) ≡ at u (P (Has (x ++ n)))

dots_run : {u : UnitOf} {P : NamePlace → Place} → Holds u P → (x : List ℕ) (is : List Ident) (more : List Terminal) → run (at u (P (Has x))) (dots is ++ more) ≡ run (at u (P (Has (x ++ flat_map (λ j. 46 ∷ j.name) is)))) more
dots_run {u} {P} h x [] more = ap (λ y. run (at u (P (Has y))) more) (sym (append-nil x))
dots_run {u} {P} h x (i ∷ is) more =
    ap (λ o. run o (ident i ∷ dots is ++ more)) (h.dot x)
    ∙ ap (λ o. run o (dots is ++ more)) (h.name (x ++ 46 ∷ []) i.name i.line)
    ∙ dots_run h (x ++ 46 ∷ [] ++ i.name) is more
    ∙ ap (λ y. run (at u (P (Has y))) more) (append_assoc (x ++ 46 ∷ []) i.name (flat_map (λ j. 46 ∷ j.name) is) ∙ append_assoc x (46 ∷ []) (i.name ++ flat_map (λ j. 46 ∷ j.name) is))

dotted_run : {u : UnitOf} {P : NamePlace → Place} → Holds u P → (x : List ℕ) (d : Dotted) (more : List Terminal) → run (at u (P (Wants x))) (dotted d ++ more) ≡ run (at u (P (Has (x ++ dotted_name d)))) more
dotted_run {u} {P} h x d more =
    ap (λ o. run o (dots d.others ++ more)) (h.name x d.first.name d.first.line)
    ∙ dots_run h (x ++ d.first.name) d.others more
    ∙ ap (λ y. run (at u (P (Has y))) more) (append_assoc x d.first.name (flat_map (λ j. 46 ∷ j.name) d.others))

import_holds : (u : UnitOf) (e : Option ℕ) (line : ℕ) → Holds u (InImport e line)
import_holds u e line = record { dot = λ x. refl; name = λ x n l. refl }

module_holds : (u : UnitOf) (e : Option ℕ) (line : ℕ) → Holds u (InModule e line)
module_holds u e line = record { dot = λ x. refl; name = λ x n l. refl }

partition_holds : (u : UnitOf) (e : Option ℕ) (line : ℕ) (m : List ℕ) → Holds u (InPartition e line m)
partition_holds u e line m = record { dot = λ x. refl; name = λ x n l. refl }

-- from behind "import"
imported_run : (u : UnitOf) (e : Option ℕ) (line : ℕ) (what : Imported) (more : List Terminal)
    → run (at u (AfterImport e line)) (imported what ++ Plain Semicolon ∷ [] ++ more) ≡ run (at (with_import u e line (import_name u.module what)) (Between AtImports)) more
imported_run u e line (Whole d) more =
    ap (λ l. run (at u (AfterImport e line)) l) (append_assoc (dotted d) (Plain Semicolon ∷ []) more)
    ∙ dots_run (import_holds u e line) d.first.name d.others (Plain Semicolon ∷ more)
imported_run u e line (Part c d) more =
    ap (λ l. run (at u (AfterImport e line)) (Colon c ∷ l)) (append_assoc (dotted d) (Plain Semicolon ∷ []) more)
    ∙ dotted_run (import_holds u e line) (u.module ++ 58 ∷ []) d (Plain Semicolon ∷ more)
imported_run u e line (Header name l) more = refl

-- where an import may come
pub data MayImport : Stage → Type 0 where
  from_head : MayImport AtHead
  from_imports : MayImport AtImports

import_run_of : (u : UnitOf) {s : Stage} → MayImport s → (e : Option ℕ) (line : ℕ) (what : Imported) (more : List Terminal)
    → run (at u (Between s)) (import_tree (import_with e line what) ++ more) ≡ run (at (with_parts u (import_of u.module (import_with e line what) ∷ []) []) (Between AtImports)) more
import_run_of u from_head None line what more = imported_run u None line what more
import_run_of u from_head (Some l) line what more = imported_run u (Some l) line what more
import_run_of u from_imports None line what more = imported_run u None line what more
import_run_of u from_imports (Some l) line what more = imported_run u (Some l) line what more

imports_run : (u : UnitOf) {s : Stage} → MayImport s → (is : List ImportTree) (more : List Terminal) → (s' : Stage) × (run (at u (Between s)) (flat_map import_tree is ++ more) ≡ run (at (with_parts u (map (import_of u.module) is) []) (Between s')) more)
imports_run u {s} may [] more = (s, ap (λ v. run (at v (Between s)) more) (sym (with_none u)))
imports_run u {s} may (i ∷ is) more =
    let rest = imports_run (with_parts u (import_of u.module i ∷ []) []) from_imports is more in (
      rest.0,
      ap (λ l. run (at u (Between s)) l) (append_assoc (import_tree i) (flat_map import_tree is) more)
          ∙ import_run_of u may i.exported i.line i.what (flat_map import_tree is ++ more)
          ∙ rest.1
          ∙ ap (λ v. run (at v (Between rest.0)) more) (with_imports u (import_of u.module i ∷ []) (map (import_of u.module) is)),
    )

-- from behind "module"
named_module_run : (u : UnitOf) (e : Option ℕ) (line : ℕ) (d : Dotted) (p : Option (ℕ × Dotted)) (more : List Terminal)
    → run (at u (InModule e line (Wants []))) (dotted d ++ (partition p ++ Plain Semicolon ∷ []) ++ more) ≡ run (at (head_of (Some (record { exported = e; line = line; name = d; partition = p }))) (Between AtImports)) more
named_module_run u e line d None more =
    ap (λ l. run (at u (InModule e line (Wants []))) l) (append_assoc (dotted d) (Plain Semicolon ∷ []) more)
    ∙ dotted_run (module_holds u e line) [] d (Plain Semicolon ∷ more)
named_module_run u e line d (Some p) more =
    ap (λ l. run (at u (InModule e line (Wants []))) l) (append_assoc (dotted d) (Colon p.0 ∷ dotted p.1 ++ Plain Semicolon ∷ []) more ∙ ap (λ l. dotted d ++ (Colon p.0 ∷ l)) (append_assoc (dotted p.1) (Plain Semicolon ∷ []) more))
    ∙ dotted_run (module_holds u e line) [] d (Colon p.0 ∷ (dotted p.1 ++ Plain Semicolon ∷ more))
    ∙ dotted_run (partition_holds u e line (dotted_name d)) [] p.1 (Plain Semicolon ∷ more)

module_run_of : (e : Option ℕ) (line : ℕ) (d : Dotted) (p : Option (ℕ × Dotted)) (more : List Terminal)
    → run (Some start) (module_decl (record { exported = e; line = line; name = d; partition = p }) ++ more) ≡ run (at (head_of (Some (record { exported = e; line = line; name = d; partition = p }))) (Between AtImports)) more
module_run_of None line d p more = named_module_run (head_of None) None line d p more
module_run_of (Some l) line d p more = named_module_run (head_of None) (Some l) line d p more

parts_run : (u : UnitOf) {s : Stage} → MayImport s → (is : List ImportTree) (ds : List DeclTree) → EndsBetween (run (at u (Between s)) (flat_map import_tree is ++ flat_map decl_tree ds)) (with_parts u (map (import_of u.module) is) (flat_map tree_decls ds))
parts_run u may is ds =
    let first = imports_run u may is (flat_map decl_tree ds) in
    let second = decls_run (with_parts u (map (import_of u.module) is) []) first.0 ds in
    (second.0, first.1 ∙ second.1 ∙ ap (λ v. at v (Between second.0)) (with_both u (map (import_of u.module) is) (flat_map tree_decls ds)))

unit_round_of : (m : Option ModuleDecl) (is : List ImportTree) (ds : List DeclTree) → EndsBetween (run (Some start) (head m ++ (flat_map import_tree is ++ flat_map decl_tree ds))) (unit_of (record { module_is = m; imports = is; decls = ds }))
unit_round_of None is ds = parts_run (head_of None) from_head is ds
unit_round_of (Some m) is ds =
    let rest = parts_run (head_of (Some m)) from_imports is ds in
    (rest.0, module_run_of m.exported m.line m.name m.partition (flat_map import_tree is ++ flat_map decl_tree ds) ∙ rest.1)

-- a reader that is given the tokens of a unit ends with that unit
pub unit_round : (t : UnitTree) → EndsBetween (run (Some start) (unit_tree t)) (unit_of t)
unit_round t = unit_round_of t.module_is t.imports t.decls
