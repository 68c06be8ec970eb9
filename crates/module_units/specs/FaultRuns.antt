-- The rules, token by token: what each token adds.
use Rattle.std.specs.Prelude.{ℕ, Bool, true, false, not, nat_le, List, [], ◌∷◌, ◌++◌, length, map, Option, Some, None, if◌then◌else◌}
use Rattle.std.specs.List.{list_any}
use Rattle.std.specs.Str.{bytes_eq}
use Rattle.header_units.specs.Octets.{colon}
use Rattle.module_units.specs.Terminals.{Terminal, Name, Quoted, Export, Module, Import, Colon, Plain, Semicolon}
use Rattle.module_units.specs.Grammar.{Ident}
use Rattle.module_units.specs.Unit.{UnitOf}
use Rattle.module_units.specs.Machine.{ItemStep, Fails, Goes, Ends, item_step, Wants, Has, Place, Between, Exported, InModule, InPartition, AfterImport, InImport, InItem, Parser, step}
pub use Rattle.module_units.specs.declared.faults.Behind.{Behind}
use Rattle.module_units.specs.Rules.{Fault, most_imports, fault_if, export_faults, length_faults, is_header_name}
use Rattle.module_units.specs.declared.parts.UnitKind.{UnitKind}
use Rattle.module_units.specs.declared.parts.UnitKind.TheVariants as kinds
use Rattle.module_lexer.specs.declared.reason.SourceReason.TheVariants.{PartitionOutside, BadHeaderName, TooManyImports, DuplicateName}

-- the line of a terminal, where it has one
abbrev pub line_in : Terminal → ℕ
line_in (Name name line) = line
line_in (Quoted name line) = line
line_in (Export line) = line
line_in (Module line) = line
line_in (Import line) = line
line_in (Colon line) = line
line_in (Plain key) = 0

-- the terminal is ':'
abbrev pub is_colon : Terminal → Bool
is_colon (Colon line) = true
is_colon terminal = false

-- the terminal is ';'
abbrev pub is_semicolon : Terminal → Bool
is_semicolon (Plain Semicolon) = true
is_semicolon terminal = false

-- the line of the token behind "module" or "import", and whether it is a ':'
abbrev pub behind_at : ℕ → Bool → Behind
behind_at line is_colon = record { line = line; is_colon = is_colon }

-- what stands behind the last "module" or "import", with one terminal more
abbrev pub behind : Behind → Place → Terminal → Behind
behind before (AfterImport export line) terminal = behind_at (line_in terminal) (is_colon terminal)
behind before (InModule export line (Wants [])) terminal = behind_at (line_in terminal) false
behind before place terminal = before

-- a ':p' of a plain unit isn't tried
abbrev pub import_length : UnitKind → Behind → List ℕ → List Fault
import_length kinds.Plain before name = if before.is_colon then [] else length_faults before.line name
import_length kind before name = length_faults before.line name

-- the ':' of an import, which a plain unit has none of
abbrev pub colon_faults : UnitKind → ℕ → List Fault
colon_faults kinds.Plain line = fault_if true line PartitionOutside
colon_faults kind line = []

-- a declaration whose name an earlier one has
abbrev pub twice : UnitOf → Ident → List Fault
twice unit identifier = fault_if (list_any (bytes_eq identifier.name) (map (λ decl. decl.name) unit.decls)) identifier.line DuplicateName

-- the identifier of the item that a step ends
abbrev pub ended_ident : ItemStep → Option Ident
ended_ident Fails = None
ended_ident (Goes place) = None
ended_ident (Ends kind identifier types) = Some identifier

-- and none where no item ends
abbrev pub twice_if : UnitOf → Option Ident → List Fault
twice_if unit None = []
twice_if unit (Some identifier) = twice unit identifier

-- the faults of a step that may end an item
abbrev pub ended : UnitOf → ItemStep → List Fault
ended unit answer = twice_if unit (ended_ident answer)

-- one import too many
abbrev pub too_many : UnitOf → ℕ → List Fault
too_many unit line = fault_if (nat_le most_imports (length unit.imports)) line TooManyImports

-- behind an `export`
abbrev pub exported_faults : UnitOf → ℕ → Terminal → List Fault
exported_faults unit export (Module token_line) = []
exported_faults unit export (Import token_line) = export_faults unit.kind (Some export) ++ too_many unit token_line
exported_faults unit export terminal = export_faults unit.kind (Some export)

-- behind an `import`
abbrev pub after_import_faults : UnitKind → Terminal → List Fault
after_import_faults kind (Colon line) = colon_faults kind line
after_import_faults kind (Quoted name line) = fault_if (not (is_header_name name)) line BadHeaderName
after_import_faults kind terminal = []

-- the faults that one terminal adds
abbrev pub fault_step : Behind → UnitOf → Place → Terminal → List Fault
fault_step before unit (Between stage) (Import line) = too_many unit line
fault_step before unit (Exported stage line) terminal = exported_faults unit line terminal
fault_step before unit (InModule export line (Has name)) (Plain Semicolon) = length_faults before.line name
fault_step before unit (InPartition export line module_name (Has name)) (Plain Semicolon) = length_faults before.line (module_name ++ colon ∷ [] ++ name)
fault_step before unit (AfterImport export line) terminal = after_import_faults unit.kind terminal
fault_step before unit (InImport export line (Has name)) (Plain Semicolon) = import_length unit.kind before name
fault_step before unit (InItem context item_place) terminal = ended unit (item_step item_place terminal)
fault_step before unit place terminal = []

-- the faults that the terminals add, one behind the other
abbrev pub fault_run : Behind → Option Parser → List Terminal → List Fault
fault_run before parser [] = []
fault_run before None (terminal ∷ more) = []
fault_run before (Some parser) (terminal ∷ more) = fault_step (behind before parser.place terminal) parser.unit parser.place terminal ++ fault_run (behind before parser.place terminal) (step parser.unit parser.place terminal) more

-- the first fault of these
abbrev pub first_fault : List Fault → Option Fault
first_fault [] = None
first_fault (fault ∷ more) = Some fault

-- the names of a unit's declarations
abbrev pub names_of : UnitOf → List (List ℕ)
names_of unit = map (λ decl. decl.name) unit.decls

-- the first fault of what came before, or else of what comes
abbrev pub or_first : Option Fault → List Fault → Option Fault
or_first None faults = first_fault faults
or_first (Some fault) faults = Some fault

-- the name of the item that a terminal ends
abbrev pub name_ended : Option Ident → List (List ℕ)
name_ended None = []
name_ended (Some identifier) = identifier.name ∷ []

-- a terminal ends an item only where the reader is in one
abbrev pub names_ended : Place → Terminal → List (List ℕ)
names_ended (InItem context item_place) terminal = name_ended (ended_ident (item_step item_place terminal))
names_ended place terminal = []
