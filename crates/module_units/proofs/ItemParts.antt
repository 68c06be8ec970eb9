-- What was read of an item so far, as a part of its tree; each token read makes it one longer, and each part can be ended.
use Rattle.std.proofs.Common.{◌≡◌, ℕ, zero, suc, Bool, true, false, List, [], ◌∷◌, ◌++◌, replicate, sym, ap, ◌∙◌, refl, subst, append_assoc}
use Rattle.std.proofs.lemmas.List.{append-nil}
use Rattle.std.specs.List.{flat_map}
use Rattle.module_units.specs.Terminals.{Terminal, Name, Plain, Struct, Class, Using, Const, BuiltIn, Semicolon, Comma, LeftParen, RightParen, Star, Ampersand, Equals}
use Rattle.module_units.specs.Grammar.{Ident, ident, Base, Native, Named, base, TypeTree, type_tree, optional, parameters, Item, StructItem, ClassItem, AliasItem, VariableItem, FunctionItem, item_front, item}
use Rattle.module_units.specs.Unit.{TypeUse, base_uses, type_uses}
use Rattle.module_units.specs.Machine.{TypePlace, Begin, AfterConst, AfterBase, AfterReference, Owner, OfAlias, OfDeclared, OfParameter, ItemPlace, WantsName, WantsAliasName, WantsEquals, InType, AfterName, AfterOpen, WantsEnd, ItemStep, Fails, Goes, Ends, named, after_type, type_step, item_step, item_start}
use Rattle.module_units.specs.declared.parts.DeclKind.{DeclKind}
use Rattle.module_units.specs.declared.parts.DeclKind.TheVariants as kinds

pub data TypePart : Type 0 where
  PBegin : TypePart
  PConst : TypePart
  PBase : (c : Bool) → (b : Base) → (n : ℕ) → TypePart
  PReference : (c : Bool) → (b : Base) → (n : ℕ) → TypePart

abbrev pub type_of : Bool → Base → ℕ → Bool → TypeTree
type_of c b n r = record { is_const = c; base = b; stars = n; is_reference = r }

abbrev pub type_tokens : TypePart → List Terminal
type_tokens PBegin = []
type_tokens PConst = Plain Const ∷ []
type_tokens (PBase c b n) = optional c Const ++ base b ∷ replicate n (Plain Star)
type_tokens (PReference c b n) = type_tree (type_of c b n true)

abbrev pub type_place : TypePart → TypePlace
type_place PBegin = Begin
type_place PConst = AfterConst
type_place (PBase c b n) = AfterBase
type_place (PReference c b n) = AfterReference

abbrev pub part_uses : TypePart → List TypeUse
part_uses PBegin = []
part_uses PConst = []
part_uses (PBase c b n) = base_uses b
part_uses (PReference c b n) = base_uses b

pub data OwnerPart : Type 0 where
  POfAlias : (i : Ident) → OwnerPart
  POfDeclared : OwnerPart
  POfParameter : (gives : TypeTree) → (i : Ident) → (before : List TypeTree) → OwnerPart

abbrev pub with_comma : TypeTree → List Terminal
with_comma t = type_tree t ++ Plain Comma ∷ []

abbrev pub owner_tokens : OwnerPart → List Terminal
owner_tokens (POfAlias i) = Plain Using ∷ ident i ∷ Plain Equals ∷ []
owner_tokens POfDeclared = []
owner_tokens (POfParameter g i before) = type_tree g ++ (ident i ∷ Plain LeftParen ∷ flat_map with_comma before)

abbrev pub owner_of : OwnerPart → Owner
owner_of (POfAlias i) = OfAlias i
owner_of POfDeclared = OfDeclared
owner_of (POfParameter g i before) = OfParameter i

abbrev pub owner_uses : OwnerPart → List TypeUse
owner_uses (POfAlias i) = []
owner_uses POfDeclared = []
owner_uses (POfParameter g i before) = type_uses g ++ flat_map type_uses before

pub data ItemPart : Type 0 where
  PName : (is_class : Bool) → ItemPart
  PAliasName : ItemPart
  PEquals : (i : Ident) → ItemPart
  PType : (o : OwnerPart) → (t : TypePart) → ItemPart
  PAfterName : (t : TypeTree) → (i : Ident) → ItemPart
  PAfterOpen : (t : TypeTree) → (i : Ident) → ItemPart
  PEnd : (is : Item) → ItemPart

abbrev pub item_kind : Item → DeclKind
item_kind (StructItem i) = kinds.Struct
item_kind (ClassItem i) = kinds.Class
item_kind (AliasItem i t) = kinds.Alias
item_kind (VariableItem t i) = kinds.Variable
item_kind (FunctionItem t i ts) = kinds.Function

abbrev pub item_name : Item → Ident
item_name (StructItem i) = i
item_name (ClassItem i) = i
item_name (AliasItem i t) = i
item_name (VariableItem t i) = i
item_name (FunctionItem t i ts) = i

abbrev pub item_uses : Item → List TypeUse
item_uses (StructItem i) = []
item_uses (ClassItem i) = []
item_uses (AliasItem i t) = type_uses t
item_uses (VariableItem t i) = type_uses t
item_uses (FunctionItem t i ts) = type_uses t ++ flat_map type_uses ts

abbrev pub item_tokens : ItemPart → List Terminal
item_tokens (PName false) = Plain Struct ∷ []
item_tokens (PName true) = Plain Class ∷ []
item_tokens PAliasName = Plain Using ∷ []
item_tokens (PEquals i) = Plain Using ∷ ident i ∷ []
item_tokens (PType o t) = owner_tokens o ++ type_tokens t
item_tokens (PAfterName t i) = type_tree t ++ ident i ∷ []
item_tokens (PAfterOpen t i) = type_tree t ++ (ident i ∷ Plain LeftParen ∷ [])
item_tokens (PEnd is) = item_front is

abbrev pub item_place : ItemPart → ItemPlace
item_place (PName false) = WantsName kinds.Struct
item_place (PName true) = WantsName kinds.Class
item_place PAliasName = WantsAliasName
item_place (PEquals i) = WantsEquals i
item_place (PType o t) = InType (owner_of o) (owner_uses o ++ part_uses t) (type_place t)
item_place (PAfterName t i) = AfterName (type_uses t) i
item_place (PAfterOpen t i) = AfterOpen (type_uses t) i
item_place (PEnd is) = WantsEnd (item_kind is) (item_name is) (item_uses is)

-- the token made the part one longer
abbrev pub Kept : List Terminal → Terminal → ItemStep → Type 0
Kept tokens t Fails = Unit {0}
Kept tokens t (Goes s) = (q : ItemPart) × (item_place q ≡ s) × (item_tokens q ≡ tokens ++ t ∷ [])
Kept tokens t (Ends kind i types) = (is : Item) × (item_kind is ≡ kind) × (item_name is ≡ i) × (item_uses is ≡ types) × (item is ≡ tokens ++ t ∷ [])

replicate_push : (n : ℕ) (t : Terminal) → t ∷ replicate n t ≡ replicate n t ++ t ∷ []
replicate_push zero t = refl
replicate_push (suc n) t = ap (λ l. t ∷ l) (replicate_push n t)

comma1 : (a b : List Terminal) (c : Terminal) → a ++ c ∷ b ≡ (a ++ c ∷ []) ++ [] ++ b
comma1 a b c = sym (simp (append_assoc, append-nil))

comma2 : (a f b : List Terminal) (c : Terminal) → a ++ c ∷ (f ++ b) ≡ (a ++ c ∷ []) ++ f ++ b
comma2 a f b c = sym (simp append_assoc)

comma3 : (a f b : List Terminal) (x y c : Terminal) → a ++ (x ∷ y ∷ (f ++ (b ++ c ∷ []))) ≡ (a ++ (x ∷ y ∷ f)) ++ b ++ c ∷ []
comma3 a f b x y c = sym (simp append_assoc)

comma4 : (a f b : List Terminal) (x y c : Terminal) → a ++ (x ∷ y ∷ (f ++ b) ++ c ∷ []) ≡ (a ++ (x ∷ y ∷ f)) ++ b ++ c ∷ []
comma4 a f b x y c = simp append_assoc

-- the types before the last, each with its comma, and the last
parameters_push : (before : List TypeTree) (t : TypeTree) → parameters (before ++ t ∷ []) ≡ flat_map with_comma before ++ type_tree t
parameters_push [] t = refl
parameters_push (u ∷ []) t = comma1 (type_tree u) (type_tree t) (Plain Comma)
parameters_push (u ∷ v ∷ us) t = ap (λ l. type_tree u ++ Plain Comma ∷ l) (parameters_push (v ∷ us) t) ∙ comma2 (type_tree u) (flat_map with_comma (v ∷ us)) (type_tree t) (Plain Comma)

uses_push : (before : List TypeTree) (t : TypeTree) → flat_map type_uses (before ++ t ∷ []) ≡ flat_map type_uses before ++ type_uses t
uses_push [] t = append-nil (type_uses t)
uses_push (u ∷ us) t = ap (λ l. type_uses u ++ l) (uses_push us t) ∙ sym (append_assoc (type_uses u) (flat_map type_uses us) (type_uses t))

commas_push : (before : List TypeTree) (t : TypeTree) → flat_map with_comma (before ++ t ∷ []) ≡ flat_map with_comma before ++ with_comma t
commas_push [] t = append-nil (with_comma t)
commas_push (u ∷ us) t = ap (λ l. with_comma u ++ l) (commas_push us t) ∙ sym (append_assoc (with_comma u) (flat_map with_comma us) (with_comma t))

after_kept : (o : OwnerPart) (tree : TypeTree) (t : Terminal) → Kept (owner_tokens o ++ type_tree tree) t (after_type (owner_of o) (owner_uses o ++ type_uses tree) t)
after_kept (POfAlias i) tree (Plain Semicolon) = (AliasItem i tree, refl, refl, refl, refl)
after_kept POfDeclared tree (Name name line) = (PAfterName tree (named name line), refl, refl)
after_kept (POfParameter g i before) tree (Plain Comma) = (
  PType (POfParameter g i (before ++ tree ∷ [])) PBegin,
  ap (λ l. InType (OfParameter i) l Begin) (append-nil _ ∙ ap (λ l. type_uses g ++ l) (uses_push before tree) ∙ sym (append_assoc (type_uses g) (flat_map type_uses before) (type_uses tree))),
  append-nil _ ∙ ap (λ l. type_tree g ++ (ident i ∷ Plain LeftParen ∷ l)) (commas_push before tree) ∙ comma3 (type_tree g) (flat_map with_comma before) (type_tree tree) (ident i) (Plain LeftParen) (Plain Comma),
)
after_kept (POfParameter g i before) tree (Plain RightParen) = (
  PEnd (FunctionItem g i (before ++ tree ∷ [])),
  ap (λ l. WantsEnd kinds.Function i l) (ap (λ l. type_uses g ++ l) (uses_push before tree) ∙ sym (append_assoc (type_uses g) (flat_map type_uses before) (type_uses tree))),
  ap (λ l. type_tree g ++ (ident i ∷ Plain LeftParen ∷ l ++ Plain RightParen ∷ [])) (parameters_push before tree) ∙ comma4 (type_tree g) (flat_map with_comma before) (type_tree tree) (ident i) (Plain LeftParen) (Plain RightParen),
)
after_kept o tree t = tt

type_kept : (o : OwnerPart) (part : TypePart) (t : Terminal) → Kept (owner_tokens o ++ type_tokens part) t (type_step (owner_of o) (owner_uses o ++ part_uses part) (type_place part) t)
type_kept o PBegin (Plain Const) = (PType o PConst, refl, sym (ap (λ l. l ++ Plain Const ∷ []) (append-nil (owner_tokens o))))
type_kept o PBegin (Plain BuiltIn) = (PType o (PBase false Native 0), refl, sym (ap (λ l. l ++ Plain BuiltIn ∷ []) (append-nil (owner_tokens o))))
type_kept o PBegin (Name name line) = (
  PType o (PBase false (Named (named name line)) 0),
  ap (λ l. InType (owner_of o) (l ++ record { name = name; line = line } ∷ []) AfterBase) (sym (append-nil (owner_uses o))),
  sym (ap (λ l. l ++ Name name line ∷ []) (append-nil (owner_tokens o))),
)
type_kept o PBegin t = tt
type_kept o PConst (Plain BuiltIn) = (PType o (PBase true Native 0), refl, sym (append_assoc (owner_tokens o) (Plain Const ∷ []) (Plain BuiltIn ∷ [])))
type_kept o PConst (Name name line) = (
  PType o (PBase true (Named (named name line)) 0),
  ap (λ l. InType (owner_of o) (l ++ record { name = name; line = line } ∷ []) AfterBase) (sym (append-nil (owner_uses o))),
  sym (append_assoc (owner_tokens o) (Plain Const ∷ []) (Name name line ∷ [])),
)
type_kept o PConst t = tt
type_kept o (PBase c b n) (Plain Star) = (
  PType o (PBase c b (suc n)),
  refl,
  ap (λ l. owner_tokens o ++ (optional c Const ++ base b ∷ l)) (replicate_push n (Plain Star)) ∙ sym (simp append_assoc),
)
type_kept o (PBase c b n) (Plain Ampersand) = (PType o (PReference c b n), refl, sym (simp append_assoc))
type_kept o (PBase c b n) t = rw append-nil at (after_kept o (type_of c b n false) t)
type_kept o (PReference c b n) t = after_kept o (type_of c b n true) t

-- the first parameter's type begins behind the "("
opened_kept : (g : TypeTree) (i : Ident) (t : Terminal) → Kept (type_tree g ++ (ident i ∷ Plain LeftParen ∷ [])) t (type_step (OfParameter i) (type_uses g) Begin t)
opened_kept g i t =
    let uses : type_uses g ++ [] ++ [] ≡ type_uses g = append-nil _ ∙ append-nil _ in
    let tokens : type_tree g ++ (ident i ∷ Plain LeftParen ∷ []) ++ [] ≡ type_tree g ++ (ident i ∷ Plain LeftParen ∷ []) = append-nil _ in
    subst (λ l. Kept l t (type_step (OfParameter i) (type_uses g) Begin t)) tokens
    (subst (λ u. Kept (type_tree g ++ (ident i ∷ Plain LeftParen ∷ []) ++ []) t (type_step (OfParameter i) u Begin t)) uses (type_kept (POfParameter g i []) PBegin t))

pub item_kept : (p : ItemPart) (t : Terminal) → Kept (item_tokens p) t (item_step (item_place p) t)
item_kept (PName false) (Name name line) = (PEnd (StructItem (named name line)), refl, refl)
item_kept (PName true) (Name name line) = (PEnd (ClassItem (named name line)), refl, refl)
item_kept PAliasName (Name name line) = (PEquals (named name line), refl, refl)
item_kept (PEquals i) (Plain Equals) = (PType (POfAlias i) PBegin, refl, refl)
item_kept (PType o part) t = type_kept o part t
item_kept (PAfterName g i) (Plain Semicolon) = (VariableItem g i, refl, refl, refl, refl)
item_kept (PAfterName g i) (Plain LeftParen) = (PAfterOpen g i, refl, sym (simp append_assoc))
item_kept (PAfterOpen g i) (Plain RightParen) = (PEnd (FunctionItem g i []), ap (λ l. WantsEnd kinds.Function i l) (append-nil (type_uses g)), sym (simp append_assoc))
item_kept (PAfterOpen g i) t = opened_kept g i t
item_kept (PEnd is) (Plain Semicolon) = (is, refl, refl, refl, refl)
item_kept p t = tt

pub start_kept : (t : Terminal) → Kept [] t (item_start t)
start_kept (Plain Struct) = (PName false, refl, refl)
start_kept (Plain Class) = (PName true, refl, refl)
start_kept (Plain Using) = (PAliasName, refl, refl)
start_kept t = type_kept POfDeclared PBegin t

-- some name and type, to end a part with
some_ident : Ident
some_ident = record { name = []; line = 0 }

-- each part can be ended
abbrev pub Completes : ItemPart → Type 0
Completes p = (more : List Terminal) × (is : Item) × (item is ≡ item_tokens p ++ more)

owner_completes : (o : OwnerPart) (tree : TypeTree) → (more : List Terminal) × (is : Item) × (item is ≡ owner_tokens o ++ (type_tree tree ++ more))
owner_completes (POfAlias i) tree = (Plain Semicolon ∷ [], AliasItem i tree, refl)
owner_completes POfDeclared tree = (ident some_ident ∷ Plain Semicolon ∷ [], VariableItem tree some_ident, simp append_assoc)
owner_completes (POfParameter g i before) tree = (
  Plain RightParen ∷ Plain Semicolon ∷ [],
  FunctionItem g i (before ++ tree ∷ []),
  ap (λ l. type_tree g ++ (ident i ∷ Plain LeftParen ∷ l ++ Plain RightParen ∷ []) ++ Plain Semicolon ∷ []) (parameters_push before tree) ∙ simp append_assoc,
)

type_completes : (part : TypePart) → (rest : List Terminal) × (tree : TypeTree) × (type_tree tree ≡ type_tokens part ++ rest)
type_completes PBegin = (type_tree (type_of false Native 0 false), type_of false Native 0 false, refl)
type_completes PConst = (Plain BuiltIn ∷ [], type_of true Native 0 false, refl)
type_completes (PBase c b n) = ([], type_of c b n false, simp append_assoc)
type_completes (PReference c b n) = ([], type_of c b n true, sym (append-nil _))

pub item_completes : (p : ItemPart) → Completes p
item_completes (PName false) = (ident some_ident ∷ Plain Semicolon ∷ [], StructItem some_ident, refl)
item_completes (PName true) = (ident some_ident ∷ Plain Semicolon ∷ [], ClassItem some_ident, refl)
item_completes PAliasName = (ident some_ident ∷ Plain Equals ∷ Plain BuiltIn ∷ Plain Semicolon ∷ [], AliasItem some_ident (type_of false Native 0 false), refl)
item_completes (PEquals i) = (Plain Equals ∷ Plain BuiltIn ∷ Plain Semicolon ∷ [], AliasItem i (type_of false Native 0 false), refl)
item_completes (PType o part) =
    let typed = type_completes part in
    let owned = owner_completes o typed.1 in
    (typed.0 ++ owned.0, owned.1, owned.2 ∙ ap (λ l. owner_tokens o ++ (l ++ owned.0)) typed.2 ∙ sym (simp append_assoc))
item_completes (PAfterName g i) = (Plain Semicolon ∷ [], VariableItem g i, refl)
item_completes (PAfterOpen g i) = (Plain RightParen ∷ Plain Semicolon ∷ [], FunctionItem g i [], simp append_assoc)
item_completes (PEnd is) = (Plain Semicolon ∷ [], is, refl)
