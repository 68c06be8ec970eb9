-- The grammar of a unit: its trees, one shape for each production, and the tokens that each tree generates.
use Rattle.std.specs.Prelude.{◌≡◌, ℕ, ◌+◌, ◌<◌, ◌≤◌, Bool, true, false, List, [], ◌∷◌, ◌++◌, length, take, replicate, Option, Some, None}
use Rattle.std.specs.List.{flat_map}
pub use Rattle.module_units.specs.declared.terminal.Ident.{Ident}
use Rattle.module_units.specs.Terminals.{Key, Terminal, Name, Quoted, Export, Module, Import, Colon, Plain, Struct, Class, Using, Const, BuiltIn, Semicolon, Dot, Comma, LeftParen, RightParen, LeftBrace, RightBrace, Star, Ampersand, Equals}

-- the terminal of an identifier
abbrev pub ident : Ident → Terminal
ident identifier = Name identifier.name identifier.line

-- dotted = identifier { "." identifier }
pub record Dotted : Type 0 where
  pub first : Ident
  pub others : List Ident

-- { "." identifier }
abbrev pub dots : List Ident → List Terminal
dots identifiers = flat_map (λ identifier. Plain Dot ∷ ident identifier ∷ []) identifiers

-- the terminals of a dotted name
abbrev pub dotted : Dotted → List Terminal
dotted name = ident name.first ∷ dots name.others

-- [ "export" ], at its line
abbrev pub export : Option ℕ → List Terminal
export None = []
export (Some line) = Export line ∷ []

-- mdecl = [ "export" ] "module" dotted [ ":" dotted ] ";"
pub record ModuleDecl : Type 0 where
  pub exported : Option ℕ
  pub line : ℕ
  pub name : Dotted
  pub partition : Option (ℕ × Dotted)

-- [ ":" dotted ]
abbrev pub partition : Option (ℕ × Dotted) → List Terminal
partition None = []
partition (Some part) = Colon part.0 ∷ dotted part.1

-- the terminals of a module declaration
abbrev pub module_decl : ModuleDecl → List Terminal
module_decl declaration = export declaration.exported ++ (Module declaration.line ∷ dotted declaration.name ++ (partition declaration.partition ++ Plain Semicolon ∷ []))

-- import = [ "export" ] "import" ( dotted | ":" dotted | string ) ";"
pub data Imported : Type 0 where
  Whole : (name : Dotted) → Imported
  Part : (colon : ℕ) → (name : Dotted) → Imported
  Header : (name : List ℕ) → (line : ℕ) → Imported

-- an import, exported or not
pub record ImportTree : Type 0 where
  pub exported : Option ℕ
  pub line : ℕ
  pub what : Imported

-- the terminals of what is imported
abbrev pub imported : Imported → List Terminal
imported (Whole name) = dotted name
imported (Part line name) = Colon line ∷ dotted name
imported (Header name line) = Quoted name line ∷ []

-- the terminals of an import
abbrev pub import_tree : ImportTree → List Terminal
import_tree tree = export tree.exported ++ (Import tree.line ∷ imported tree.what ++ Plain Semicolon ∷ [])

-- base = "void" | "bool" | "char" | "int" | "unsigned" | "long" | identifier
pub data Base : Type 0 where
  Native : Base
  Named : (identifier : Ident) → Base

-- type = [ "const" ] base { "*" } [ "&" ]
pub record TypeTree : Type 0 where
  pub is_const : Bool
  pub base : Base
  pub stars : ℕ
  pub is_reference : Bool

-- a terminal that may stand there
abbrev pub optional : Bool → Key → List Terminal
optional false key = []
optional true key = Plain key ∷ []

-- the terminal of a base
abbrev pub base : Base → Terminal
base Native = Plain BuiltIn
base (Named identifier) = ident identifier

-- the terminals of a type
abbrev pub type_tree : TypeTree → List Terminal
type_tree tree = optional tree.is_const Const ++ (base tree.base ∷ replicate tree.stars (Plain Star) ++ optional tree.is_reference Ampersand)

-- [ type { "," type } ]
abbrev pub parameters : List TypeTree → List Terminal
parameters [] = []
parameters (first ∷ []) = type_tree first
parameters (first ∷ next ∷ more) = type_tree first ++ Plain Comma ∷ parameters (next ∷ more)

-- item = ( "struct" | "class" ) identifier ";"
--      | "using" identifier "=" type ";"
--      | type identifier [ "(" [ type { "," type } ] ")" ] ";"
pub data Item : Type 0 where
  StructItem : (name : Ident) → Item
  ClassItem : (name : Ident) → Item
  AliasItem : (name : Ident) → (is : TypeTree) → Item
  VariableItem : (is : TypeTree) → (name : Ident) → Item
  FunctionItem : (gives : TypeTree) → (name : Ident) → (takes : List TypeTree) → Item

-- an item before its ";"
abbrev pub item_front : Item → List Terminal
item_front (StructItem identifier) = Plain Struct ∷ ident identifier ∷ []
item_front (ClassItem identifier) = Plain Class ∷ ident identifier ∷ []
item_front (AliasItem identifier tree) = Plain Using ∷ ident identifier ∷ Plain Equals ∷ type_tree tree
item_front (VariableItem tree identifier) = type_tree tree ++ ident identifier ∷ []
item_front (FunctionItem tree identifier taken) = type_tree tree ++ (ident identifier ∷ Plain LeftParen ∷ parameters taken ++ Plain RightParen ∷ [])

-- the terminals of an item
abbrev pub item : Item → List Terminal
item tree = item_front tree ++ Plain Semicolon ∷ []

-- decl = [ "export" ] item | "export" "{" { item } "}"
pub data DeclTree : Type 0 where
  Single : (exported : Option ℕ) → (is : Item) → DeclTree
  Group : (line : ℕ) → (items : List Item) → DeclTree

-- the terminals of a declaration
abbrev pub decl_tree : DeclTree → List Terminal
decl_tree (Single exported tree) = export exported ++ item tree
decl_tree (Group line items) = Export line ∷ Plain LeftBrace ∷ flat_map item items ++ Plain RightBrace ∷ []

-- unit = [ mdecl ] { import } { decl }
pub record UnitTree : Type 0 where
  pub module_is : Option ModuleDecl
  pub imports : List ImportTree
  pub decls : List DeclTree

-- [ mdecl ]
abbrev pub head : Option ModuleDecl → List Terminal
head None = []
head (Some declaration) = module_decl declaration

-- the terminals of a unit
abbrev pub unit_tree : UnitTree → List Terminal
unit_tree tree = head tree.module_is ++ (flat_map import_tree tree.imports ++ flat_map decl_tree tree.decls)

-- some unit begins with these tokens
abbrev pub BeginsUnit : List Terminal → Type 0
BeginsUnit tokens = (tree : UnitTree) × (more : List Terminal) × (unit_tree tree ≡ tokens ++ more)

-- the token at the place is the first that no unit has after the tokens before it; at their number, it is the end
pub record IsSyntaxFault (tokens : List Terminal) (place : ℕ) : Type 0 where
  pub begins : BeginsUnit (take place tokens)
  pub within : place ≤ length tokens
  pub stuck : place < length tokens → BeginsUnit (take (place + 1) tokens) → ⊥
  pub ended : place ≡ length tokens → (tree : UnitTree) → unit_tree tree ≡ tokens → ⊥
