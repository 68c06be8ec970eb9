-- What was read of a unit so far, as a part of its tree.
use Rattle.std.proofs.Common.{◌≡◌, is_some, ℕ, Bool, true, false, List, [], ◌∷◌, ◌++◌, map, Option, Some, None, sym, ap, ◌∙◌, refl, subst, append_assoc}
use Rattle.std.proofs.lemmas.List.{append-nil, map-append}
use Rattle.std.specs.List.{flat_map}
use Rattle.module_units.specs.Terminals.{Terminal, Name, Quoted, Export, Module, Import, Colon, Plain, Semicolon, Dot, LeftBrace, RightBrace}
use Rattle.module_units.specs.Grammar.{Ident, ident, Dotted, dots, dotted, export, ModuleDecl, module_decl, Imported, Whole, Part, Header, ImportTree, imported, import_tree, Item, StructItem, ClassItem, AliasItem, VariableItem, FunctionItem, item, DeclTree, Single, Group, decl_tree, UnitTree, head, unit_tree}
use Rattle.module_units.specs.Unit.{Decl, ImportOf, UnitOf, dotted_name, first_line, item_decl, tree_decls, kind_of, import_name, import_of, headed, head_of, with_parts, unit_of, declared}
use Rattle.module_units.specs.Machine.{ItemStep, Fails, Goes, Ends, item_step, item_start, named, Stage, AtHead, AtImports, AtDecls, NamePlace, Wants, Has, Alone, Grouped, Place, Between, Exported, InModule, InPartition, AfterImport, InImport, AfterHeader, InItem, InGroup, Parser, at, lift, step, with_import}
use Rattle.module_units.proofs.ItemParts.{ItemPart, item_place, item_tokens, item_kind, item_name, item_uses, Kept, item_kept, start_kept}

-- a dotted name so far: nothing yet, some identifiers, or those and a dot
pub data NamePart : Type 0 where
  NNone : NamePart
  NHas : (d : Dotted) → NamePart
  NDot : (d : Dotted) → NamePart

abbrev pub name_tokens : NamePart → List Terminal
name_tokens NNone = []
name_tokens (NHas d) = dotted d
name_tokens (NDot d) = dotted d ++ Plain Dot ∷ []

-- as a reader sees it, behind what stands before the name
abbrev pub name_place : List ℕ → NamePart → NamePlace
name_place before NNone = Wants before
name_place before (NHas d) = Has (before ++ dotted_name d)
name_place before (NDot d) = Wants (before ++ dotted_name d ++ 46 ∷ [])

-- the whole parts so far
pub data Front : Type 0 where
  FHead : Front
  FImports : (m : Option ModuleDecl) → (is : List ImportTree) → Front
  FDecls : (m : Option ModuleDecl) → (is : List ImportTree) → (ds : List DeclTree) → Front

abbrev pub front_tree : Front → UnitTree
front_tree FHead = record { module_is = None; imports = []; decls = [] }
front_tree (FImports m is) = record { module_is = m; imports = is; decls = [] }
front_tree (FDecls m is ds) = record { module_is = m; imports = is; decls = ds }

abbrev pub front_stage : Front → Stage
front_stage FHead = AtHead
front_stage (FImports m is) = AtImports
front_stage (FDecls m is ds) = AtDecls

pub data UnitPart : Type 0 where
  PBetween : (f : Front) → UnitPart
  PExported : (f : Front) → (line : ℕ) → UnitPart
  PModule : (e : Option ℕ) → (line : ℕ) → (n : NamePart) → UnitPart
  PPartition : (e : Option ℕ) → (line : ℕ) → (m : Dotted) → (colon : ℕ) → (n : NamePart) → UnitPart
  PAfterImport : (m : Option ModuleDecl) → (is : List ImportTree) → (e : Option ℕ) → (line : ℕ) → UnitPart
  PWhole : (m : Option ModuleDecl) → (is : List ImportTree) → (e : Option ℕ) → (line : ℕ) → (d : Dotted) → (dot : Bool) → UnitPart
  PPart : (m : Option ModuleDecl) → (is : List ImportTree) → (e : Option ℕ) → (line colon : ℕ) → (n : NamePart) → UnitPart
  PHeader : (m : Option ModuleDecl) → (is : List ImportTree) → (e : Option ℕ) → (line : ℕ) → (name : List ℕ) → (at_line : ℕ) → UnitPart
  PItem : (f : Front) → (e : Option ℕ) → (p : ItemPart) → UnitPart
  PGroup : (f : Front) → (line : ℕ) → (items : List Item) → UnitPart
  PGroupItem : (f : Front) → (line : ℕ) → (items : List Item) → (p : ItemPart) → UnitPart

abbrev pub imports_tree : Option ModuleDecl → List ImportTree → UnitTree
imports_tree m is = record { module_is = m; imports = is; decls = [] }

-- the tokens of the part
abbrev pub import_begun : Option ModuleDecl → List ImportTree → Option ℕ → ℕ → List Terminal
import_begun m is e line = unit_tree (imports_tree m is) ++ (export e ++ Import line ∷ [])

abbrev pub whole_part : Dotted → Bool → NamePart
whole_part d false = NHas d
whole_part d true = NDot d

abbrev pub unit_tokens : UnitPart → List Terminal
unit_tokens (PBetween f) = unit_tree (front_tree f)
unit_tokens (PExported f line) = unit_tree (front_tree f) ++ Export line ∷ []
unit_tokens (PModule e line n) = export e ++ (Module line ∷ name_tokens n)
unit_tokens (PPartition e line m colon n) = export e ++ (Module line ∷ dotted m ++ (Colon colon ∷ name_tokens n))
unit_tokens (PAfterImport m is e line) = import_begun m is e line
unit_tokens (PWhole m is e line d dot) = import_begun m is e line ++ name_tokens (whole_part d dot)
unit_tokens (PPart m is e line colon n) = import_begun m is e line ++ (Colon colon ∷ name_tokens n)
unit_tokens (PHeader m is e line name at_line) = import_begun m is e line ++ (Quoted name at_line ∷ [])
unit_tokens (PItem f e p) = unit_tree (front_tree f) ++ (export e ++ item_tokens p)
unit_tokens (PGroup f line items) = unit_tree (front_tree f) ++ (Export line ∷ Plain LeftBrace ∷ flat_map item items)
unit_tokens (PGroupItem f line items p) = unit_tree (front_tree f) ++ (Export line ∷ Plain LeftBrace ∷ flat_map item items ++ item_tokens p)

-- the unit so far, as a reader has it
abbrev pub group_decls : List Item → List Decl
group_decls items = map (item_decl true) items

abbrev pub unit_so_far : UnitPart → UnitOf
unit_so_far (PBetween f) = unit_of (front_tree f)
unit_so_far (PExported f line) = unit_of (front_tree f)
unit_so_far (PModule e line n) = head_of None
unit_so_far (PPartition e line m colon n) = head_of None
unit_so_far (PAfterImport m is e line) = unit_of (imports_tree m is)
unit_so_far (PWhole m is e line d dot) = unit_of (imports_tree m is)
unit_so_far (PPart m is e line colon n) = unit_of (imports_tree m is)
unit_so_far (PHeader m is e line name at_line) = unit_of (imports_tree m is)
unit_so_far (PItem f e p) = unit_of (front_tree f)
unit_so_far (PGroup f line items) = with_parts (unit_of (front_tree f)) [] (group_decls items)
unit_so_far (PGroupItem f line items p) = with_parts (unit_of (front_tree f)) [] (group_decls items)

abbrev pub unit_place : UnitPart → Place
unit_place (PBetween f) = Between (front_stage f)
unit_place (PExported f line) = Exported (front_stage f) line
unit_place (PModule e line n) = InModule e line (name_place [] n)
unit_place (PPartition e line m colon n) = InPartition e line (dotted_name m) (name_place [] n)
unit_place (PAfterImport m is e line) = AfterImport e line
unit_place (PWhole m is e line d dot) = InImport e line (name_place [] (whole_part d dot))
unit_place (PPart m is e line colon n) = InImport e line (name_place ((head_of m).module ++ 58 ∷ []) n)
unit_place (PHeader m is e line name at_line) = AfterHeader e line name
unit_place (PItem f e p) = InItem (Alone e) (item_place p)
unit_place (PGroup f line items) = InGroup line
unit_place (PGroupItem f line items p) = InItem (Grouped line) (item_place p)

abbrev pub state_of : UnitPart → Parser
state_of p = record { unit = unit_so_far p; place = unit_place p }

-- one token made the part one longer
abbrev pub Grows : List Terminal → Option Parser → Type 0
Grows tokens None = Unit {0}
Grows tokens (Some s) = (q : UnitPart) × (state_of q ≡ s) × (unit_tokens q ≡ tokens)

-- laws of names
dots_push : (is : List Ident) (i : Ident) → dots (is ++ i ∷ []) ≡ dots is ++ (Plain Dot ∷ ident i ∷ [])
dots_push [] i = refl
dots_push (j ∷ is) i = ap (λ l. Plain Dot ∷ ident j ∷ l) (dots_push is i)

abbrev pub longer : Dotted → Ident → Dotted
longer d i = record { first = d.first; others = d.others ++ i ∷ [] }

pub dotted_longer : (d : Dotted) (i : Ident) → dotted (longer d i) ≡ dotted d ++ Plain Dot ∷ [] ++ ident i ∷ []
dotted_longer d i = ap (λ l. ident d.first ∷ l) (dots_push d.others i ∙ sym (append_assoc (dots d.others) (Plain Dot ∷ []) (ident i ∷ [])))

names_push : (is : List Ident) (i : Ident) → flat_map (λ j. 46 ∷ j.name) (is ++ i ∷ []) ≡ flat_map (λ j. 46 ∷ j.name) is ++ (46 ∷ i.name)
names_push [] i = append-nil (46 ∷ i.name)
names_push (j ∷ is) i = ap (λ l. 46 ∷ j.name ++ l) (names_push is i) ∙ sym (append_assoc (46 ∷ j.name) (flat_map (λ k. 46 ∷ k.name) is) (46 ∷ i.name))

pub name_longer : (before : List ℕ) (d : Dotted) (i : Ident) → before ++ dotted_name (longer d i) ≡ before ++ dotted_name d ++ 46 ∷ [] ++ i.name
name_longer before d i =
    ap (λ l. before ++ (d.first.name ++ l)) (names_push d.others i) ∙ sym (simp append_assoc)

-- laws of whole trees
pub flat_map_push : {X Y : Type 0} (f : X → List Y) (xs : List X) (x : X) → flat_map f (xs ++ x ∷ []) ≡ flat_map f xs ++ f x
flat_map_push f [] x = append-nil (f x)
flat_map_push f (y ∷ ys) x = ap (λ l. f y ++ l) (flat_map_push f ys x) ∙ sym (append_assoc (f y) (flat_map f ys) (f x))

abbrev pub add_decl : UnitTree → DeclTree → UnitTree
add_decl t d = record { module_is = t.module_is; imports = t.imports; decls = t.decls ++ d ∷ [] }

three : (a b c d : List Terminal) → a ++ (b ++ (c ++ d)) ≡ a ++ (b ++ c) ++ d
three a b c d = simp append_assoc

pub tree_add_decl : (t : UnitTree) (d : DeclTree) → unit_tree (add_decl t d) ≡ unit_tree t ++ decl_tree d
tree_add_decl t d =
    ap (λ l. head t.module_is ++ (flat_map import_tree t.imports ++ l)) (flat_map_push decl_tree t.decls d)
    ∙ three (head t.module_is) (flat_map import_tree t.imports) (flat_map decl_tree t.decls) (decl_tree d)

-- two units of one head are equal where their lists are
pub same_unit : (kind : _) (m p : List ℕ) (line : ℕ) (is js : List ImportOf) (ds es : List Decl) → is ≡ js → ds ≡ es
    → ◌≡◌ {A = UnitOf} (record { kind = kind; «module» = m; partition = p; module_line = line; imports = is; decls = ds }) (record { kind = kind; «module» = m; partition = p; module_line = line; imports = js; decls = es })
same_unit kind m p line is js ds es a b = λ k. record { kind = kind; «module» = m; partition = p; module_line = line; imports = a k; decls = b k }

pub unit_add_decl : (t : UnitTree) (d : DeclTree) → unit_of (add_decl t d) ≡ with_parts (unit_of t) [] (tree_decls d)
unit_add_decl t d =
    let u : UnitOf = head_of t.module_is in
    same_unit (head_of t.module_is).kind (head_of t.module_is).module (head_of t.module_is).partition (head_of t.module_is).module_line _ _ _ _
    (sym (append-nil ((head_of t.module_is).imports ++ map (import_of (head_of t.module_is).module) t.imports)))
    (ap (λ l. (head_of t.module_is).decls ++ l) (flat_map_push tree_decls t.decls d) ∙ sym (append_assoc (head_of t.module_is).decls (flat_map tree_decls t.decls) (tree_decls d)))

pub tree_add_import : (m : Option ModuleDecl) (is : List ImportTree) (i : ImportTree) → unit_tree (imports_tree m (is ++ i ∷ [])) ≡ unit_tree (imports_tree m is) ++ import_tree i
tree_add_import m is i =
    ap (λ l. head m ++ (l ++ [])) (flat_map_push import_tree is i) ∙ ap (λ l. head m ++ l) (append-nil (flat_map import_tree is ++ import_tree i))
    ∙ sym (append_assoc (head m) (flat_map import_tree is) (import_tree i)) ∙ ap (λ l. head m ++ l ++ import_tree i) (sym (append-nil (flat_map import_tree is)))

pub unit_add_import : (m : Option ModuleDecl) (is : List ImportTree) (i : ImportTree) → unit_of (imports_tree m (is ++ i ∷ [])) ≡ with_parts (unit_of (imports_tree m is)) (import_of (head_of m).module i ∷ []) []
unit_add_import m is i =
    same_unit (head_of m).kind (head_of m).module (head_of m).partition (head_of m).module_line _ _ _ _
    (ap (λ l. (head_of m).imports ++ l) (map-append (import_of (head_of m).module) is (i ∷ [])) ∙ sym (append_assoc (head_of m).imports (map (import_of (head_of m).module) is) (import_of (head_of m).module i ∷ [])))
    (sym (append-nil ((head_of m).decls ++ [])))

-- an item's declaration
pub item_decl_is : (e : Bool) (is : Item) → item_decl e is ≡ declared e (item_kind is) (item_name is) (item_uses is)
item_decl_is e (StructItem i) = refl
item_decl_is e (ClassItem i) = refl
item_decl_is e (AliasItem i t) = refl
item_decl_is e (VariableItem t i) = refl
item_decl_is e (FunctionItem t i ts) = refl

abbrev pub with_decl : Front → DeclTree → Front
with_decl FHead d = FDecls None [] (d ∷ [])
with_decl (FImports m is) d = FDecls m is (d ∷ [])
with_decl (FDecls m is ds) d = FDecls m is (ds ++ d ∷ [])

with_decl_tree : (f : Front) (d : DeclTree) → front_tree (with_decl f d) ≡ add_decl (front_tree f) d
with_decl_tree FHead d = refl
with_decl_tree (FImports m is) d = refl
with_decl_tree (FDecls m is ds) d = refl

with_decl_stage : (f : Front) (d : DeclTree) → front_stage (with_decl f d) ≡ AtDecls
with_decl_stage FHead d = refl
with_decl_stage (FImports m is) d = refl
with_decl_stage (FDecls m is ds) d = refl

-- an item that stands alone
alone_grows : (f : Front) (e : Option ℕ) (tokens : List Terminal) (t : Terminal) (s : ItemStep) → Kept tokens t s → Grows (unit_tree (front_tree f) ++ (export e ++ (tokens ++ t ∷ []))) (lift (unit_of (front_tree f)) (Alone e) s)
alone_grows f e tokens t Fails kept = tt
alone_grows f e tokens t (Goes p) (q, place_is, tokens_are) = (
  PItem f e q,
  ap (λ p. record { unit = unit_of (front_tree f); place = InItem (Alone e) p }) place_is,
  ap (λ l. unit_tree (front_tree f) ++ (export e ++ l)) tokens_are,
)
alone_grows f e tokens t (Ends kind i types) (is, kind_is, name_is, uses_are, tokens_are) =
    let d : DeclTree = Single e is in
    let decl : item_decl (is_some e) is ≡ declared (is_some e) kind i types = item_decl_is (is_some e) is ∙ (λ k. declared (is_some e) (kind_is k) (name_is k) (uses_are k)) in (
      PBetween (with_decl f (Single e is)),
      (λ k. record { unit = unit_of (with_decl_tree f (Single e is) k); place = Between (with_decl_stage f (Single e is) k) })
          ∙ ap (λ u. record { unit = u; place = Between AtDecls }) (unit_add_decl (front_tree f) (Single e is) ∙ ap (λ x. with_parts (unit_of (front_tree f)) [] (x ∷ [])) decl),
      ap unit_tree (with_decl_tree f (Single e is)) ∙ tree_add_decl (front_tree f) (Single e is) ∙ ap (λ l. unit_tree (front_tree f) ++ (export e ++ l)) tokens_are,
    )

unit_add_item : (u : UnitOf) (items : List Item) (is : Item) → with_parts u [] (group_decls (items ++ is ∷ [])) ≡ with_parts (with_parts u [] (group_decls items)) [] (item_decl true is ∷ [])
unit_add_item u items is =
    same_unit u.kind u.module u.partition u.module_line _ _ _ _
    (sym (append-nil (u.imports ++ [])))
    (ap (λ l. u.decls ++ l) (map-append (item_decl true) items (is ∷ [])) ∙ sym (append_assoc u.decls (map (item_decl true) items) (item_decl true is ∷ [])))

grouped_grows : (f : Front) (line : ℕ) (items : List Item) (tokens : List Terminal) (t : Terminal) (s : ItemStep) → Kept tokens t s
    → Grows (unit_tree (front_tree f) ++ (Export line ∷ Plain LeftBrace ∷ flat_map item items ++ (tokens ++ t ∷ []))) (lift (with_parts (unit_of (front_tree f)) [] (group_decls items)) (Grouped line) s)
grouped_grows f line items tokens t Fails kept = tt
grouped_grows f line items tokens t (Goes p) (q, place_is, tokens_are) = (
  PGroupItem f line items q,
  ap (λ p. record { unit = with_parts (unit_of (front_tree f)) [] (group_decls items); place = InItem (Grouped line) p }) place_is,
  ap (λ l. unit_tree (front_tree f) ++ (Export line ∷ Plain LeftBrace ∷ flat_map item items ++ l)) tokens_are,
)
grouped_grows f line items tokens t (Ends kind i types) (is, kind_is, name_is, uses_are, tokens_are) =
    let decl : item_decl true is ≡ declared true kind i types = item_decl_is true is ∙ (λ k. declared true (kind_is k) (name_is k) (uses_are k)) in (
      PGroup f line (items ++ is ∷ []),
      ap (λ u. record { unit = u; place = InGroup line }) (unit_add_item (unit_of (front_tree f)) items is ∙ ap (λ x. with_parts (with_parts (unit_of (front_tree f)) [] (group_decls items)) [] (x ∷ [])) decl),
      ap (λ l. unit_tree (front_tree f) ++ (Export line ∷ Plain LeftBrace ∷ l)) (flat_map_push item items is ∙ ap (λ l. flat_map item items ++ l) tokens_are),
    )

-- regrouping
push : (a b : List Terminal) (t : Terminal) → a ++ (b ++ t ∷ []) ≡ (a ++ b) ++ t ∷ []
push a b t = sym (append_assoc a b (t ∷ []))

push3 : (a b c : List Terminal) (t : Terminal) → a ++ (b ++ (c ++ t ∷ [])) ≡ (a ++ (b ++ c)) ++ t ∷ []
push3 a b c t = sym (simp append_assoc)

pub with_none : (u : UnitOf) → with_parts u [] [] ≡ u
with_none u = same_unit u.kind u.module u.partition u.module_line _ _ _ _ (append-nil u.imports) (append-nil u.decls)

abbrev pub only : Ident → Dotted
only i = record { first = i; others = [] }

only_name : (before : List ℕ) (i : Ident) → before ++ dotted_name (only i) ≡ before ++ i.name
only_name before i = ap (λ l. before ++ l) (append-nil i.name)

abbrev pub import_with : Option ℕ → ℕ → Imported → ImportTree
import_with e line what = record { exported = e; line = line; what = what }

-- an import ends
import_ends : (m : Option ModuleDecl) (is : List ImportTree) (e : Option ℕ) (line : ℕ) (what : Imported) (name : List ℕ) → import_name (head_of m).module what ≡ name
    → Grows ((import_begun m is e line ++ imported what) ++ Plain Semicolon ∷ []) (at (with_import (unit_of (imports_tree m is)) e line name) (Between AtImports))
import_ends m is e line what name name_is = (
  PBetween (FImports m (is ++ import_with e line what ∷ [])),
  ap (λ u. record { unit = u; place = Between AtImports }) (unit_add_import m is (import_with e line what) ∙ ap (λ n. with_import (unit_of (imports_tree m is)) e line n) name_is),
  tree_add_import m is (import_with e line what) ∙ regroup (unit_tree (imports_tree m is)) (export e) (imported what) (Import line),
)
  where
    regroup : (a b c : List Terminal) (t : Terminal) → a ++ (b ++ (t ∷ c ++ Plain Semicolon ∷ [])) ≡ ((a ++ (b ++ t ∷ [])) ++ c) ++ Plain Semicolon ∷ []
    regroup a b c t = sym (simp append_assoc)

exported_grows : (f : Front) (line : ℕ) (t : Terminal) → Grows ((unit_tree (front_tree f) ++ Export line ∷ []) ++ t ∷ []) (lift (unit_of (front_tree f)) (Alone (Some line)) (item_start t))
exported_grows f line t =
    subst (λ l. Grows l (lift (unit_of (front_tree f)) (Alone (Some line)) (item_start t))) (push (unit_tree (front_tree f)) (Export line ∷ []) t) (alone_grows f (Some line) [] t (item_start t) (start_kept t))

group_begins : (f : Front) (line : ℕ) → Grows ((unit_tree (front_tree f) ++ Export line ∷ []) ++ Plain LeftBrace ∷ []) (at (unit_of (front_tree f)) (InGroup line))
group_begins f line = (PGroup f line [], ap (λ u. record { unit = u; place = InGroup line }) (with_none (unit_of (front_tree f))), push (unit_tree (front_tree f)) (Export line ∷ []) (Plain LeftBrace))

group_ends : (f : Front) (line : ℕ) (items : List Item) → Grows ((unit_tree (front_tree f) ++ (Export line ∷ Plain LeftBrace ∷ flat_map item items)) ++ Plain RightBrace ∷ []) (at (with_parts (unit_of (front_tree f)) [] (group_decls items)) (Between AtDecls))
group_ends f line items = (
  PBetween (with_decl f (Group line items)),
  (λ k. record { unit = unit_of (with_decl_tree f (Group line items) k); place = Between (with_decl_stage f (Group line items) k) })
      ∙ ap (λ u. record { unit = u; place = Between AtDecls }) (unit_add_decl (front_tree f) (Group line items)),
  ap unit_tree (with_decl_tree f (Group line items)) ∙ tree_add_decl (front_tree f) (Group line items) ∙ push (unit_tree (front_tree f)) (Export line ∷ Plain LeftBrace ∷ flat_map item items) (Plain RightBrace),
)

group_grows : (f : Front) (line : ℕ) (items : List Item) (t : Terminal) → Grows ((unit_tree (front_tree f) ++ (Export line ∷ Plain LeftBrace ∷ flat_map item items)) ++ t ∷ []) (lift (with_parts (unit_of (front_tree f)) [] (group_decls items)) (Grouped line) (item_start t))
group_grows f line items t =
    subst (λ l. Grows l (lift (with_parts (unit_of (front_tree f)) [] (group_decls items)) (Grouped line) (item_start t))) (push (unit_tree (front_tree f)) (Export line ∷ Plain LeftBrace ∷ flat_map item items) t)
    (grouped_grows f line items [] t (item_start t) (start_kept t))

item_grows : (f : Front) (e : Option ℕ) (p : ItemPart) (t : Terminal) → Grows ((unit_tree (front_tree f) ++ (export e ++ item_tokens p)) ++ t ∷ []) (lift (unit_of (front_tree f)) (Alone e) (item_step (item_place p) t))
item_grows f e p t =
    subst (λ l. Grows l (lift (unit_of (front_tree f)) (Alone e) (item_step (item_place p) t))) (push3 (unit_tree (front_tree f)) (export e) (item_tokens p) t)
    (alone_grows f e (item_tokens p) t (item_step (item_place p) t) (item_kept p t))

group_item_grows : (f : Front) (line : ℕ) (items : List Item) (p : ItemPart) (t : Terminal)
    → Grows ((unit_tree (front_tree f) ++ (Export line ∷ Plain LeftBrace ∷ flat_map item items ++ item_tokens p)) ++ t ∷ []) (lift (with_parts (unit_of (front_tree f)) [] (group_decls items)) (Grouped line) (item_step (item_place p) t))
group_item_grows f line items p t =
    subst (λ l. Grows l (lift (with_parts (unit_of (front_tree f)) [] (group_decls items)) (Grouped line) (item_step (item_place p) t))) (push3 (unit_tree (front_tree f)) (Export line ∷ Plain LeftBrace ∷ flat_map item items) (item_tokens p) t)
    (grouped_grows f line items (item_tokens p) t (item_step (item_place p) t) (item_kept p t))

-- a module declaration ends
module_grows : (m : ModuleDecl) → Grows (module_decl m) (at (head_of (Some m)) (Between AtImports))
module_grows m = (PBetween (FImports (Some m) []), ap (λ u. record { unit = u; place = Between AtImports }) (with_none (head_of (Some m))), append-nil (module_decl m))

module1 : (a b c : List Terminal) (x : Terminal) → a ++ (x ∷ b ++ (c ++ Plain Semicolon ∷ [])) ≡ (a ++ (x ∷ b ++ c)) ++ Plain Semicolon ∷ []
module1 a b c x = sym (simp append_assoc)

-- a name grows by an identifier behind a dot
dot_tokens : (a : List Terminal) (d : Dotted) (i : Ident) → a ++ dotted (longer d i) ≡ (a ++ (dotted d ++ Plain Dot ∷ [])) ++ ident i ∷ []
dot_tokens a d i = ap (λ l. a ++ l) (dotted_longer d i) ∙ push a (dotted d ++ Plain Dot ∷ []) (ident i)

pub unit_grows : (p : UnitPart) (t : Terminal) → Grows (unit_tokens p ++ t ∷ []) (step (unit_so_far p) (unit_place p) t)
unit_grows (PBetween f) (Export line) = (PExported f line, refl, refl)
unit_grows (PBetween FHead) (Module line) = (PModule None line NNone, refl, refl)
unit_grows (PBetween FHead) (Import line) = (PAfterImport None [] None line, refl, refl)
unit_grows (PBetween FHead) t = alone_grows FHead None [] t (item_start t) (start_kept t)
unit_grows (PBetween (FImports m is)) (Import line) = (PAfterImport m is None line, refl, refl)
unit_grows (PBetween (FImports m is)) t = alone_grows (FImports m is) None [] t (item_start t) (start_kept t)
unit_grows (PBetween (FDecls m is ds)) t = alone_grows (FDecls m is ds) None [] t (item_start t) (start_kept t)
unit_grows (PExported FHead line) (Module l) = (PModule (Some line) l NNone, refl, refl)
unit_grows (PExported FHead line) (Import l) = (PAfterImport None [] (Some line) l, refl, refl)
unit_grows (PExported (FImports m is) line) (Import l) = (PAfterImport m is (Some line) l, refl, push (unit_tree (imports_tree m is)) (Export line ∷ []) (Import l))
unit_grows (PExported FHead line) (Plain LeftBrace) = group_begins FHead line
unit_grows (PExported (FImports m is) line) (Plain LeftBrace) = group_begins (FImports m is) line
unit_grows (PExported (FDecls m is ds) line) (Plain LeftBrace) = group_begins (FDecls m is ds) line
unit_grows (PExported FHead line) t = exported_grows FHead line t
unit_grows (PExported (FImports m is) line) t = exported_grows (FImports m is) line t
unit_grows (PExported (FDecls m is ds) line) t = exported_grows (FDecls m is ds) line t
unit_grows (PModule e line NNone) (Name name l) = (PModule e line (NHas (only (named name l))), ap (λ n. record { unit = head_of None; place = InModule e line (Has n) }) (append-nil name), push (export e) (Module line ∷ []) (Name name l))
unit_grows (PModule e line (NHas d)) (Plain Dot) = (PModule e line (NDot d), refl, push (export e) (Module line ∷ dotted d) (Plain Dot))
unit_grows (PModule e line (NHas d)) (Colon l) = (PPartition e line d l NNone, refl, push (export e) (Module line ∷ dotted d) (Colon l))
unit_grows (PModule e line (NHas d)) (Plain Semicolon) =
    subst (λ l. Grows l (at (headed (kind_of (is_some e) false) (dotted_name d) [] (first_line e line)) (Between AtImports))) (push (export e) (Module line ∷ dotted d) (Plain Semicolon))
    (module_grows (record { exported = e; line = line; name = d; partition = None }))
unit_grows (PModule e line (NDot d)) (Name name l) = (
  PModule e line (NHas (longer d (named name l))),
  ap (λ n. record { unit = head_of None; place = InModule e line (Has n) }) (name_longer [] d (named name l)),
  ap (λ l. export e ++ (Module line ∷ l)) (dotted_longer d (named name l)) ∙ push (export e) (Module line ∷ dotted d ++ Plain Dot ∷ []) (Name name l),
)
unit_grows (PPartition e line m c NNone) (Name name l) = (
  PPartition e line m c (NHas (only (named name l))),
  ap (λ n. record { unit = head_of None; place = InPartition e line (dotted_name m) (Has n) }) (append-nil name),
  push3 (export e) (Module line ∷ dotted m) (Colon c ∷ []) (Name name l),
)
unit_grows (PPartition e line m c (NHas d)) (Plain Dot) = (PPartition e line m c (NDot d), refl, push3 (export e) (Module line ∷ dotted m) (Colon c ∷ dotted d) (Plain Dot))
unit_grows (PPartition e line m c (NHas d)) (Plain Semicolon) =
    subst (λ l. Grows l (at (headed (kind_of (is_some e) true) (dotted_name m) (dotted_name d) (first_line e line)) (Between AtImports))) (module1 (export e) (dotted m) (Colon c ∷ dotted d) (Module line))
    (module_grows (record { exported = e; line = line; name = m; partition = Some (c, d) }))
unit_grows (PPartition e line m c (NDot d)) (Name name l) = (
  PPartition e line m c (NHas (longer d (named name l))),
  ap (λ n. record { unit = head_of None; place = InPartition e line (dotted_name m) (Has n) }) (name_longer [] d (named name l)),
  ap (λ l. export e ++ (Module line ∷ dotted m ++ (Colon c ∷ l))) (dotted_longer d (named name l)) ∙ push3 (export e) (Module line ∷ dotted m) (Colon c ∷ dotted d ++ Plain Dot ∷ []) (Name name l),
)
unit_grows (PAfterImport m is e line) (Name name l) = (
  PWhole m is e line (only (named name l)) false,
  ap (λ n. record { unit = unit_of (imports_tree m is); place = InImport e line (Has n) }) (append-nil name),
  refl,
)
unit_grows (PAfterImport m is e line) (Colon l) = (PPart m is e line l NNone, refl, refl)
unit_grows (PAfterImport m is e line) (Quoted name l) = (PHeader m is e line name l, refl, refl)
unit_grows (PWhole m is e line d false) (Plain Dot) = (PWhole m is e line d true, refl, push (import_begun m is e line) (dotted d) (Plain Dot))
unit_grows (PWhole m is e line d false) (Plain Semicolon) = import_ends m is e line (Whole d) (dotted_name d) refl
unit_grows (PWhole m is e line d true) (Name name l) = (
  PWhole m is e line (longer d (named name l)) false,
  ap (λ n. record { unit = unit_of (imports_tree m is); place = InImport e line (Has n) }) (name_longer [] d (named name l)),
  dot_tokens (import_begun m is e line) d (named name l),
)
unit_grows (PPart m is e line c NNone) (Name name l) = (
  PPart m is e line c (NHas (only (named name l))),
  ap (λ n. record { unit = unit_of (imports_tree m is); place = InImport e line (Has n) }) (only_name ((head_of m).module ++ 58 ∷ []) (named name l)),
  push (import_begun m is e line) (Colon c ∷ []) (Name name l),
)
unit_grows (PPart m is e line c (NHas d)) (Plain Dot) = (PPart m is e line c (NDot d), refl, push (import_begun m is e line) (Colon c ∷ dotted d) (Plain Dot))
unit_grows (PPart m is e line c (NHas d)) (Plain Semicolon) = import_ends m is e line (Part c d) ((head_of m).module ++ 58 ∷ [] ++ dotted_name d) refl
unit_grows (PPart m is e line c (NDot d)) (Name name l) = (
  PPart m is e line c (NHas (longer d (named name l))),
  ap (λ n. record { unit = unit_of (imports_tree m is); place = InImport e line (Has n) }) (name_longer ((head_of m).module ++ 58 ∷ []) d (named name l)),
  ap (λ l. import_begun m is e line ++ (Colon c ∷ l)) (dotted_longer d (named name l)) ∙ push (import_begun m is e line) (Colon c ∷ dotted d ++ Plain Dot ∷ []) (Name name l),
)
unit_grows (PHeader m is e line name l) (Plain Semicolon) = import_ends m is e line (Header name l) name refl
unit_grows (PItem f e p) t = item_grows f e p t
unit_grows (PGroup f line items) (Plain RightBrace) = group_ends f line items
unit_grows (PGroup f line items) t = group_grows f line items t
unit_grows (PGroupItem f line items p) t = group_item_grows f line items p t
unit_grows p t = tt
