-- What a unit exports and sees, over the interfaces of its imports.
use Rattle.std.specs.Prelude.{ℕ, Bool, true, ◌==◌, List, ◌++◌, map, filter, zip, flat_map, [], if◌then◌else◌}
use Rattle.std.specs.List.{before_first}
use Rattle.std.specs.Str.{bytes_eq}
use Rattle.header_units.specs.Octets.{colon}
use Rattle.module_units.specs.declared.unit.Unit.{Unit as UnitOf}
use Rattle.module_units.specs.declared.parts.Decl.{Decl}
use Rattle.module_units.specs.declared.parts.Import.{Import as ImportOf}
use Rattle.export_lists.specs.Entries.{Listed, distinct}
use Rattle.export_lists.specs.declared.listed.Own.{Own}
use Rattle.export_lists.specs.declared.listed.Own.TheVariants as taken
pub use Rattle.export_lists.specs.declared.cmi.Cmi.{Cmi}

-- an import, with the interface of its unit
abbrev pub Imported : Type 0
Imported = ImportOf × Cmi

-- the imports of a unit, each with its interface
abbrev pub imported : UnitOf → List Cmi → List Imported
imported unit cmis = zip unit.imports cmis

-- the module in a unit's name: what stands before a colon
abbrev pub module_in : List ℕ → List ℕ
module_in name = before_first (λ c. c == colon) name

-- whether the import is of a unit of the same module
abbrev pub is_inside : UnitOf → ImportOf → Bool
is_inside unit import = bytes_eq (module_in import.name) unit.module

-- what an import brings: what its unit sees, where that is one of the same module, and else what it exports
abbrev pub brings : UnitOf → Imported → List Listed
brings unit import = if is_inside unit import.0 then import.1.view else import.1.exports

-- what all imports bring, in their order
abbrev pub brought : UnitOf → List Cmi → List Listed
brought unit cmis = flat_map (brings unit) (imported unit cmis)

-- what an import passes on: where it is exported, what its unit exports
abbrev pub passes_on : Imported → List Listed
passes_on import = if import.0.exported then import.1.exports else []

-- a declaration, as an entry of this owner
abbrev pub entry_of : List ℕ → Decl → Listed
entry_of owner decl = record { kind = decl.kind; name = decl.name; owner = owner }

-- whether a list takes a declaration: any, or one that is exported
abbrev pub is_taken : Own → Decl → Bool
is_taken taken.All decl = true
is_taken taken.Exported decl = decl.exported

-- the declarations that are taken, as entries of this owner
abbrev pub own_entries : Own → List ℕ → List Decl → List Listed
own_entries own owner decls = map (entry_of owner) (filter (is_taken own) decls)

-- what a unit exports: its own declarations that are taken, and what its exported imports export
abbrev pub exports : Own → List ℕ → UnitOf → List Cmi → List Listed
exports own owner unit cmis = distinct (own_entries own owner unit.decls ++ flat_map passes_on (imported unit cmis))

-- what a unit sees: all its own declarations, and what its imports bring
abbrev pub view : List ℕ → UnitOf → List Cmi → List Listed
view owner unit cmis = distinct (own_entries taken.All owner unit.decls ++ brought unit cmis)
