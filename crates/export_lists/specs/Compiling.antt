-- What a unit compiles to over the interfaces of its imports: its own interface, or its first fault.
use Rattle.std.specs.Prelude.{◌≡◌, ℕ, Bool, true, false, not, ◌&&◌, ◌||◌, ◌==◌, nat_lt, List, [], ◌∷◌, ◌++◌, length, map, filter, flat_map, if◌then◌else◌, Result, Ok, Err}
use Rattle.std.specs.List.{list_any}
use Rattle.std.specs.Str.{bytes_eq}
use Rattle.module_units.specs.declared.unit.Unit.{Unit as UnitOf}
use Rattle.module_units.specs.declared.parts.Decl.{Decl}
use Rattle.module_units.specs.declared.parts.TypeUse.{TypeUse}
use Rattle.module_units.specs.declared.faults.Fault.{Fault}
use Rattle.module_units.specs.Rules.{fault_if, can_export}
use Rattle.module_units.specs.declared.parts.DeclKind.{DeclKind}
use Rattle.module_units.specs.declared.parts.DeclKind.TheVariants as kinds
use Rattle.module_units.specs.declared.parts.UnitKind.{UnitKind}
use Rattle.module_units.specs.declared.parts.UnitKind.TheVariants.{Interface, Implementation, PartitionInterface, PartitionImplementation, Plain}
use Rattle.module_units.specs.declared.unit.SourceError.{SourceError}
use Rattle.module_units.specs.declared.unit.SourceError.TheVariants as errors
use Rattle.module_lexer.specs.declared.reason.SourceReason.{SourceReason}
use Rattle.module_lexer.specs.declared.reason.SourceReason.TheVariants.{ExportedImplementation, UnknownType, TooManyNames}
use Rattle.export_lists.specs.Entries.{Listed}
use Rattle.export_lists.specs.declared.listed.Own.{Own}
use Rattle.export_lists.specs.declared.listed.Own.TheVariants as taken
use Rattle.export_lists.specs.Lists.{Cmi, Imported, imported, brought, exports, view}

-- the most names of a list of exports, and of a view
abbrev pub most_names : ℕ
most_names = 65536

-- whether it is a header unit: it has a name and no module declaration
abbrev pub is_header : UnitKind → List ℕ → Bool
is_header Plain name = not (length name == 0)
is_header Interface name = false
is_header Implementation name = false
is_header PartitionInterface name = false
is_header PartitionImplementation name = false

-- whether a unit is an interface: a module's, a partition's, or a header unit
abbrev pub is_interface : UnitKind → List ℕ → Bool
is_interface kind name = can_export kind || is_header kind name

-- which of its own declarations a unit exports: a header unit all of them, and another those that are exported
abbrev pub own_exports : UnitKind → List ℕ → Own
own_exports kind name = if is_header kind name then taken.All else taken.Exported

-- the owner of a unit's own declarations: its module, or of one without a module declaration its name
abbrev pub owner_of : UnitKind → List ℕ → List ℕ → List ℕ
owner_of Plain name m = name
owner_of Interface name m = m
owner_of Implementation name m = m
owner_of PartitionInterface name m = m
owner_of PartitionImplementation name m = m

-- whether declarations of the kind are types
abbrev pub is_type : DeclKind → Bool
is_type kinds.Struct = true
is_type kinds.Class = true
is_type kinds.Alias = true
is_type kinds.Variable = false
is_type kinds.Function = false

-- the name, where declarations of the kind are types
abbrev pub type_name : DeclKind → List ℕ → List (List ℕ)
type_name kind name = if is_type kind then name ∷ [] else []

-- the names of the types among entries
abbrev pub types_in : List Listed → List (List ℕ)
types_in entries = flat_map (λ entry. type_name entry.kind entry.name) entries

-- the names of the types among declarations
abbrev pub types_of : List Decl → List (List ℕ)
types_of decls = flat_map (λ decl. type_name decl.kind decl.name) decls

-- whether a name is among these
abbrev pub is_among : List (List ℕ) → List ℕ → Bool
is_among names name = list_any (bytes_eq name) names

-- the lines of the uses of types that are not among these
abbrev pub unknown_in : List (List ℕ) → List TypeUse → List ℕ
unknown_in known uses = map (λ used. used.line) (filter (λ used. not (is_among known used.name)) uses)

-- the lines of the uses of types that are neither among these nor declared before, in the order of the text
abbrev pub unknown_lines : List (List ℕ) → List Decl → List ℕ
unknown_lines known [] = []
unknown_lines known (decl ∷ decls) = unknown_in known decl.types ++ unknown_lines (known ++ type_name decl.kind decl.name) decls

-- whether an import is exported although its unit is no interface
abbrev pub is_bad_export : Imported → Bool
is_bad_export import = import.0.exported && not import.1.interface

-- the lines of such imports
abbrev pub export_lines : List Imported → List ℕ
export_lines imports = map (λ import. import.0.line) (filter is_bad_export imports)

-- whether a list has too many names
abbrev pub is_too_long : List Listed → Bool
is_too_long entries = nat_lt most_names (length entries)

-- the interface of a unit of this name, if it has no fault
abbrev pub interface_of : List ℕ → UnitOf → List Cmi → Cmi
interface_of name unit cmis = record {
  unit = name;
  interface = is_interface unit.kind name;
  exports = exports (own_exports unit.kind name) (owner_of unit.kind name unit.module) unit cmis;
  view = view (owner_of unit.kind name unit.module) unit cmis;
}

-- the interface, or the first of the faults, where there is one
abbrev pub unless_faulty : List Fault → Cmi → Result Cmi Fault
unless_faulty [] cmi = Ok cmi
unless_faulty (fault ∷ faults) cmi = Err fault

-- a fault on each of these lines
abbrev pub faults_on : SourceReason → List ℕ → List Fault
faults_on reason lines = map (λ line. record { line = line; reason = reason }) lines

-- the faults of a unit's imports and declarations: exports of units that are no interfaces, and then unknown types
abbrev pub faults_within : UnitOf → List Cmi → List Fault
faults_within unit cmis =
    faults_on ExportedImplementation (export_lines (imported unit cmis))
    ++ faults_on UnknownType (unknown_lines (types_in (brought unit cmis)) unit.decls)

-- the fault of an interface with too many names
abbrev pub faults_of_lists : Cmi → List Fault
faults_of_lists cmi = fault_if (is_too_long cmi.view || is_too_long cmi.exports) 1 TooManyNames

-- what a unit of this name compiles to: its interface, or its first fault
abbrev pub compiled : List ℕ → UnitOf → List Cmi → Result Cmi Fault
compiled name unit cmis = unless_faulty (faults_within unit cmis ++ faults_of_lists (interface_of name unit cmis)) (interface_of name unit cmis)

-- what it compiles to where its imports and declarations have no fault
abbrev pub whole : List ℕ → UnitOf → List Cmi → Result Cmi Fault
whole name unit cmis = unless_faulty (faults_of_lists (interface_of name unit cmis)) (interface_of name unit cmis)

-- what may be answered where no interface is: the first fault, or want of memory
abbrev pub TellsFault : Result Cmi Fault → SourceError → Type 0
TellsFault made errors.Memory = Unit {0}
TellsFault made (errors.Text line reason) = made ≡ Err (record { line = line; reason = reason })
