-- What a unit's tree says: its kind, name, imports and declarations.
use Rattle.std.specs.Prelude.{ℕ, Bool, true, false, List, [], ◌∷◌, ◌++◌, map, Option, Some, None, is_some}
use Rattle.std.specs.List.{flat_map}
use Rattle.header_units.specs.Octets.{dot, colon}
use Rattle.module_units.specs.Grammar.{Ident, Dotted, ModuleDecl, Imported, Whole, Part, Header, ImportTree, Base, Native, Named, TypeTree, Item, StructItem, ClassItem, AliasItem, VariableItem, FunctionItem, DeclTree, Single, Group, UnitTree}
pub use Rattle.module_units.specs.declared.parts.TypeUse.{TypeUse}
pub use Rattle.module_units.specs.declared.parts.Decl.{Decl}
pub use Rattle.module_units.specs.declared.parts.Import.{Import as ImportOf}
pub use Rattle.module_units.specs.declared.unit.Unit.{Unit as UnitOf}
use Rattle.module_units.specs.declared.parts.DeclKind.{DeclKind}
use Rattle.module_units.specs.declared.parts.DeclKind.TheVariants as kinds
use Rattle.module_units.specs.declared.parts.UnitKind.{UnitKind}
use Rattle.module_units.specs.declared.parts.UnitKind.TheVariants.{Interface, Implementation, PartitionInterface, PartitionImplementation, Plain}

-- identifiers joined by '.'
abbrev pub dotted_name : Dotted → List ℕ
dotted_name name = name.first.name ++ flat_map (λ identifier. dot ∷ identifier.name) name.others

-- the line of the first token of what may begin with "export"
abbrev pub first_line : Option ℕ → ℕ → ℕ
first_line None line = line
first_line (Some export) line = export

-- the identifiers among the bases of types
abbrev pub base_uses : Base → List TypeUse
base_uses Native = []
base_uses (Named identifier) = record { name = identifier.name; line = identifier.line } ∷ []

-- the identifiers that a type uses
abbrev pub type_uses : TypeTree → List TypeUse
type_uses tree = base_uses tree.base

-- a declaration
abbrev pub declared : Bool → DeclKind → Ident → List TypeUse → Decl
declared exported kind identifier types = record { exported = exported; kind = kind; name = identifier.name; line = identifier.line; types = types }

-- what an item declares
abbrev pub item_decl : Bool → Item → Decl
item_decl exported (StructItem identifier) = declared exported kinds.Struct identifier []
item_decl exported (ClassItem identifier) = declared exported kinds.Class identifier []
item_decl exported (AliasItem identifier tree) = declared exported kinds.Alias identifier (type_uses tree)
item_decl exported (VariableItem tree identifier) = declared exported kinds.Variable identifier (type_uses tree)
item_decl exported (FunctionItem tree identifier taken) = declared exported kinds.Function identifier (type_uses tree ++ flat_map type_uses taken)

-- the declarations of a tree; all items of a group are exported
abbrev pub tree_decls : DeclTree → List Decl
tree_decls (Single exported item) = item_decl (is_some exported) item ∷ []
tree_decls (Group line items) = map (item_decl true) items

-- the name of a partition, empty where there is none
abbrev pub some_partition : Option (ℕ × Dotted) → List ℕ
some_partition None = []
some_partition (Some part) = dotted_name part.1

-- the kind of a unit of a module, by its "export" and its partition
abbrev pub kind_of : Bool → Bool → UnitKind
kind_of true false = Interface
kind_of true true = PartitionInterface
kind_of false false = Implementation
kind_of false true = PartitionImplementation

-- an implementation unit imports its module's interface
abbrev pub own_imports : UnitKind → List ℕ → ℕ → List ImportOf
own_imports Implementation name line = record { exported = false; name = name; line = line } ∷ []
own_imports kind name line = []

-- the name that is imported, in a unit of this module
abbrev pub import_name : List ℕ → Imported → List ℕ
import_name module_name (Whole name) = dotted_name name
import_name module_name (Part line name) = module_name ++ colon ∷ [] ++ dotted_name name
import_name module_name (Header name line) = name

-- an import, in a unit of this module
abbrev pub import_of : List ℕ → ImportTree → ImportOf
import_of module_name tree = record { exported = is_some tree.exported; name = import_name module_name tree.what; line = first_line tree.exported tree.line }

-- a unit of this kind and these names, before its imports
abbrev pub headed : UnitKind → List ℕ → List ℕ → ℕ → UnitOf
headed kind module_name part line = record { kind = kind; «module» = module_name; partition = part; module_line = line; imports = own_imports kind module_name line; decls = [] }

-- the unit of a module declaration, before its imports
abbrev pub head_of : Option ModuleDecl → UnitOf
head_of None = headed Plain [] [] 1
head_of (Some declaration) = headed (kind_of (is_some declaration.exported) (is_some declaration.partition)) (dotted_name declaration.name) (some_partition declaration.partition) (first_line declaration.exported declaration.line)

-- a unit with imports and declarations more
abbrev pub with_parts : UnitOf → List ImportOf → List Decl → UnitOf
with_parts unit more_imports more_decls = record { kind = unit.kind; «module» = unit.module; partition = unit.partition; module_line = unit.module_line; imports = unit.imports ++ more_imports; decls = unit.decls ++ more_decls }

-- the unit that a tree is
abbrev pub unit_of : UnitTree → UnitOf
unit_of tree = let unit = head_of tree.module_is in with_parts unit (map (import_of unit.module) tree.imports) (flat_map tree_decls tree.decls)
