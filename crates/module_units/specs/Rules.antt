-- The rules on a unit whose tokens are in the grammar: the tokens that break one, in the order of the text.
use Rattle.std.specs.Prelude.{ℕ, ◌+◌, Bool, true, false, not, nat_lt, nat_le, List, [], ◌∷◌, ◌++◌, length, Option, Some, None}
use Rattle.std.specs.List.{flat_map, list_any}
use Rattle.std.specs.Str.{bytes_eq}
use Rattle.module_units.specs.Grammar.{Ident, Dotted, ModuleDecl, Imported, Whole, Part, Header, ImportTree, Item, DeclTree, Single, Group, UnitTree}
use Rattle.module_units.specs.Unit.{dotted_name, head_of, item_decl}
pub use Rattle.module_units.specs.declared.faults.Fault.{Fault}
use Rattle.module_units.specs.declared.parts.UnitKind.{UnitKind}
use Rattle.module_units.specs.declared.parts.UnitKind.TheVariants.{Interface, PartitionInterface, Plain}
use Rattle.header_units.specs.Octets.{colon}
use Rattle.header_units.specs.Names.{name_kind, longest_name}
use Rattle.header_units.specs.declared.name.NameKind.{NameKind}
use Rattle.header_units.specs.declared.name.NameKind.TheVariants as names
use Rattle.module_lexer.specs.declared.reason.SourceReason.{SourceReason}
use Rattle.module_lexer.specs.declared.reason.SourceReason.TheVariants.{ExportOutside, PartitionOutside, BadHeaderName, NameTooLong, TooManyImports, DuplicateName}

-- the most imports of a unit
abbrev pub most_imports : ℕ
most_imports = 1000

-- a fault, where a rule is broken
abbrev pub fault_if : Bool → ℕ → SourceReason → List Fault
fault_if true line reason = record { line = line; reason = reason } ∷ []
fault_if false line reason = []

-- the kinds of unit that may export
abbrev pub can_export : UnitKind → Bool
can_export Interface = true
can_export PartitionInterface = true
can_export kind = false

-- an export that begins no module declaration
abbrev pub export_faults : UnitKind → Option ℕ → List Fault
export_faults kind None = []
export_faults kind (Some line) = fault_if (not (can_export kind)) line ExportOutside

-- a name that is too long
abbrev pub length_faults : ℕ → List ℕ → List Fault
length_faults line name = fault_if (nat_lt longest_name (length name)) line NameTooLong

-- the kind of a header's name
abbrev pub is_header_kind : Option NameKind → Bool
is_header_kind None = false
is_header_kind (Some names.Primary) = false
is_header_kind (Some names.Partition) = false
is_header_kind (Some names.Header) = true

-- a header's name, as names are read
abbrev pub is_header_name : List ℕ → Bool
is_header_name name = is_header_kind (name_kind name)

-- a unit's name: its module's, with its partition behind a colon
abbrev pub whole_name : List ℕ → Option (ℕ × Dotted) → List ℕ
whole_name module_name None = module_name
whole_name module_name (Some part) = module_name ++ colon ∷ [] ++ dotted_name part.1

-- the name of the unit
abbrev pub head_faults : Option ModuleDecl → List Fault
head_faults None = []
head_faults (Some declaration) = length_faults declaration.name.first.line (whole_name (dotted_name declaration.name) declaration.partition)

-- what is imported
abbrev pub what_faults : UnitKind → List ℕ → Imported → List Fault
what_faults kind module_name (Whole imported_name) = length_faults imported_name.first.line (dotted_name imported_name)
what_faults Plain module_name (Part line imported_name) = fault_if true line PartitionOutside
what_faults kind module_name (Part line imported_name) = length_faults line (module_name ++ colon ∷ [] ++ dotted_name imported_name)
what_faults kind module_name (Header name line) = fault_if (not (is_header_name name)) line BadHeaderName

-- the imports, of which before came before
abbrev pub import_faults : UnitKind → List ℕ → ℕ → List ImportTree → List Fault
import_faults kind module_name before [] = []
import_faults kind module_name before (tree ∷ more) = export_faults kind tree.exported ++ fault_if (nat_le most_imports before) tree.line TooManyImports ++ what_faults kind module_name tree.what ++ import_faults kind module_name (before + 1) more

-- the identifier that an item declares
abbrev pub item_name_of : Item → Ident
item_name_of item = record { name = (item_decl false item).name; line = (item_decl false item).line }

-- an item behind declarations of these names
abbrev pub item_faults : List (List ℕ) → Item → List Fault
item_faults earlier item = fault_if (list_any (bytes_eq (item_name_of item).name) earlier) (item_name_of item).line DuplicateName

-- items behind declarations of these names
abbrev pub items_faults : List (List ℕ) → List Item → List Fault
items_faults earlier [] = []
items_faults earlier (item ∷ more) = item_faults earlier item ++ items_faults (earlier ++ (item_name_of item).name ∷ []) more

-- the items of a declaration
abbrev pub tree_items : DeclTree → List Item
tree_items (Single export item) = item ∷ []
tree_items (Group line items) = items

-- the "export" of a declaration
abbrev pub tree_export : DeclTree → Option ℕ
tree_export (Single export item) = export
tree_export (Group line items) = Some line

-- declarations behind those of these names
abbrev pub decl_faults : UnitKind → List (List ℕ) → List DeclTree → List Fault
decl_faults kind earlier [] = []
decl_faults kind earlier (tree ∷ more) = export_faults kind (tree_export tree) ++ items_faults earlier (tree_items tree) ++ decl_faults kind (earlier ++ flat_map (λ item. (item_name_of item).name ∷ []) (tree_items tree)) more

-- all faults of a unit, in the order of the text
abbrev pub faults_of : UnitTree → List Fault
faults_of tree =
    let unit = head_of tree.module_is in
    head_faults tree.module_is ++ import_faults unit.kind unit.module (length unit.imports) tree.imports ++ decl_faults unit.kind [] tree.decls
