-- A reader that is given the tokens of an item ends with that item.
use Rattle.std.proofs.Common.{◌≡◌, ℕ, zero, suc, Bool, true, false, List, [], ◌∷◌, ◌++◌, replicate, sym, ap, ◌∙◌, refl, append_assoc}
use Rattle.std.proofs.lemmas.List.{append-nil}
use Rattle.std.specs.List.{flat_map}
use Rattle.module_units.specs.Terminals.{Terminal, Plain, Semicolon, Comma, LeftParen, RightParen, Star, Ampersand}
use Rattle.module_units.specs.Grammar.{Ident, ident, Base, Native, Named, TypeTree, type_tree, optional, parameters, Item, StructItem, ClassItem, AliasItem, VariableItem, FunctionItem, item}
use Rattle.module_units.specs.Unit.{TypeUse, base_uses, type_uses}
use Rattle.module_units.specs.Machine.{Begin, AfterBase, Owner, OfAlias, OfDeclared, OfParameter, InType, AfterName, AfterOpen, WantsEnd, ItemStep, Fails, Goes, Ends, after_type, type_step, item_step, item_start}
use Rattle.module_units.specs.declared.parts.DeclKind.TheVariants as kinds
use Rattle.module_units.proofs.ItemParts.{item_kind, item_name, item_uses, type_of}

-- reading on: the tokens take a reader from a step to a step
abbrev pub item_run : ItemStep → List Terminal → ItemStep
item_run s [] = s
item_run (Goes place) (t ∷ ts) = item_run (item_step place t) ts
item_run (Ends kind i types) (t ∷ ts) = Fails
item_run Fails (t ∷ ts) = Fails

stars_run : (o : Owner) (types : List TypeUse) (n : ℕ) (more : List Terminal) → item_run (Goes (InType o types AfterBase)) (replicate n (Plain Star) ++ more) ≡ item_run (Goes (InType o types AfterBase)) more
stars_run o types zero more = refl
stars_run o types (suc n) more = stars_run o types n more

-- behind the base of a type: its stars, its reference, and what ends it
base_run : (o : Owner) (types : List TypeUse) (n : ℕ) (r : Bool) (t : Terminal) (more : List Terminal) → type_step o types AfterBase t ≡ after_type o types t
    → item_run (Goes (InType o types AfterBase)) (replicate n (Plain Star) ++ optional r Ampersand ++ t ∷ more) ≡ item_run (after_type o types t) more
base_run o types n false t more ends = rw (append_assoc (replicate n (Plain Star)) [] (t ∷ more)) (stars_run o types n (t ∷ more) ∙ ap (λ s. item_run s more) ends)
base_run o types n true t more ends = rw (append_assoc (replicate n (Plain Star)) (Plain Ampersand ∷ []) (t ∷ more)) (stars_run o types n (Plain Ampersand ∷ t ∷ more))

type_run_of : (o : Owner) (types : List TypeUse) (c : Bool) (b : Base) (n : ℕ) (r : Bool) (t : Terminal) (more : List Terminal) → ((us : List TypeUse) → type_step o us AfterBase t ≡ after_type o us t)
    → item_run (Goes (InType o types Begin)) (type_tree (type_of c b n r) ++ t ∷ more) ≡ item_run (after_type o (types ++ base_uses b) t) more
type_run_of o types false Native n r t more ends = base_run o types n r t more (ends types) ∙ ap (λ us. item_run (after_type o us t) more) (sym (append-nil types))
type_run_of o types true Native n r t more ends = base_run o types n r t more (ends types) ∙ ap (λ us. item_run (after_type o us t) more) (sym (append-nil types))
type_run_of o types false (Named i) n r t more ends = base_run o (types ++ record { name = i.name; line = i.line } ∷ []) n r t more (ends _)
type_run_of o types true (Named i) n r t more ends = base_run o (types ++ record { name = i.name; line = i.line } ∷ []) n r t more (ends _)

-- a type, and what ends it
pub type_run : (o : Owner) (types : List TypeUse) (tree : TypeTree) (t : Terminal) (more : List Terminal) → ((us : List TypeUse) → type_step o us AfterBase t ≡ after_type o us t)
    → item_run (Goes (InType o types Begin)) (type_tree tree ++ t ∷ more) ≡ item_run (after_type o (types ++ type_uses tree) t) more
type_run o types tree t more ends = type_run_of o types tree.is_const tree.base tree.stars tree.is_reference t more ends

-- the parameters, from the first on, and the ")"
pub parameters_run : (i : Ident) (types : List TypeUse) (u : TypeTree) (us : List TypeTree) (more : List Terminal)
    → item_run (Goes (InType (OfParameter i) types Begin)) (parameters (u ∷ us) ++ Plain RightParen ∷ more) ≡ item_run (Goes (WantsEnd kinds.Function i (types ++ flat_map type_uses (u ∷ us)))) more
parameters_run i types u [] more = type_run (OfParameter i) types u (Plain RightParen) more (λ us. refl) ∙ ap (λ l. item_run (Goes (WantsEnd kinds.Function i (types ++ l))) more) (sym (append-nil (type_uses u)))
parameters_run i types u (v ∷ vs) more =
    let grouped : parameters (u ∷ v ∷ vs) ++ Plain RightParen ∷ more ≡ type_tree u ++ Plain Comma ∷ (parameters (v ∷ vs) ++ Plain RightParen ∷ more) = append_assoc (type_tree u) (Plain Comma ∷ parameters (v ∷ vs)) (Plain RightParen ∷ more) in
    ap (λ l. item_run (Goes (InType (OfParameter i) types Begin)) l) grouped
    ∙ type_run (OfParameter i) types u (Plain Comma) (parameters (v ∷ vs) ++ Plain RightParen ∷ more) (λ us. refl)
    ∙ parameters_run i (types ++ type_uses u) v vs more
    ∙ ap (λ l. item_run (Goes (WantsEnd kinds.Function i l)) more) (append_assoc (types) (type_uses u) (flat_map type_uses (v ∷ vs)))

-- the tokens of an item, from its first on
abbrev pub start_run : List Terminal → ItemStep
start_run [] = Fails
start_run (t ∷ ts) = item_run (item_start t) ts

start_type : (c : Bool) (b : Base) (n : ℕ) (r : Bool) (more : List Terminal) → start_run (type_tree (type_of c b n r) ++ more) ≡ item_run (Goes (InType OfDeclared [] Begin)) (type_tree (type_of c b n r) ++ more)
start_type false Native n r more = refl
start_type true Native n r more = refl
start_type false (Named i) n r more = refl
start_type true (Named i) n r more = refl

open_type : (i : Ident) (types : List TypeUse) (c : Bool) (b : Base) (n : ℕ) (r : Bool) (more : List Terminal)
    → item_run (Goes (AfterOpen types i)) (type_tree (type_of c b n r) ++ more) ≡ item_run (Goes (InType (OfParameter i) types Begin)) (type_tree (type_of c b n r) ++ more)
open_type i types false Native n r more = refl
open_type i types true Native n r more = refl
open_type i types false (Named j) n r more = refl
open_type i types true (Named j) n r more = refl

-- from the "(" on
open_run : (i : Ident) (types : List TypeUse) (ts : List TypeTree) (more : List Terminal) → item_run (Goes (AfterOpen types i)) (parameters ts ++ Plain RightParen ∷ more) ≡ item_run (Goes (WantsEnd kinds.Function i (types ++ flat_map type_uses ts))) more
open_run i types [] more = ap (λ l. item_run (Goes (WantsEnd kinds.Function i l)) more) (sym (append-nil types))
open_run i types (u ∷ []) more = open_type i types u.is_const u.base u.stars u.is_reference (Plain RightParen ∷ more) ∙ parameters_run i types u [] more
open_run i types (u ∷ v ∷ vs) more =
    let grouped : parameters (u ∷ v ∷ vs) ++ Plain RightParen ∷ more ≡ type_tree u ++ Plain Comma ∷ (parameters (v ∷ vs) ++ Plain RightParen ∷ more) = append_assoc (type_tree u) (Plain Comma ∷ parameters (v ∷ vs)) (Plain RightParen ∷ more) in
    ap (λ l. item_run (Goes (AfterOpen types i)) l) grouped
    ∙ open_type i types u.is_const u.base u.stars u.is_reference (Plain Comma ∷ (parameters (v ∷ vs) ++ Plain RightParen ∷ more))
    ∙ ap (λ l. item_run (Goes (InType (OfParameter i) types Begin)) l) (sym grouped)
    ∙ parameters_run i types u (v ∷ vs) more

-- a declaration's type and name
named_run : (tree : TypeTree) (i : Ident) (more : List Terminal) → start_run (type_tree tree ++ ident i ∷ more) ≡ item_run (Goes (AfterName (type_uses tree) i)) more
named_run tree i more = start_type tree.is_const tree.base tree.stars tree.is_reference (ident i ∷ more) ∙ type_run OfDeclared [] tree (ident i) more (λ us. refl)

pub item_round : (is : Item) → start_run (item is) ≡ Ends (item_kind is) (item_name is) (item_uses is)
item_round (StructItem i) = refl
item_round (ClassItem i) = refl
item_round (AliasItem i t) = type_run (OfAlias i) [] t (Plain Semicolon) [] (λ us. refl)
item_round (VariableItem t i) = ap start_run (append_assoc (type_tree t) (ident i ∷ []) (Plain Semicolon ∷ [])) ∙ named_run t i (Plain Semicolon ∷ [])
item_round (FunctionItem t i ts) =
    let grouped : item (FunctionItem t i ts) ≡ type_tree t ++ (ident i ∷ Plain LeftParen ∷ (parameters ts ++ Plain RightParen ∷ Plain Semicolon ∷ [])) =
    append_assoc (type_tree t) (ident i ∷ Plain LeftParen ∷ parameters ts ++ Plain RightParen ∷ []) (Plain Semicolon ∷ []) ∙ ap (λ l. type_tree t ++ (ident i ∷ Plain LeftParen ∷ l)) (append_assoc (parameters ts) (Plain RightParen ∷ []) (Plain Semicolon ∷ [])) in
    ap start_run grouped
    ∙ named_run t i (Plain LeftParen ∷ (parameters ts ++ Plain RightParen ∷ Plain Semicolon ∷ []))
    ∙ open_run i (type_uses t) ts (Plain Semicolon ∷ [])
