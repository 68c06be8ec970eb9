-- Words on acts, and the act that a request is.
use Rattle.std.specs.Prelude.{ℕ, ◌%◌, Bool, true, false, ◌&&◌, ◌==◌, Option, Some, None, is_some}
use Rattle.std.specs.Option.{option_map_or}
use Rattle.mapper_requests.specs.Asked.{Asked}
use Rattle.mapper_requests.specs.Asked as asked
use Rattle.unit_registry.specs.declared.act.Act.{Act}
use Rattle.unit_registry.specs.declared.act.Act.TheVariants.{Open, Hello, Repo, Export, Import, Compiled, Translate, Bad, Pause, Left, Lost, Done}
use Rattle.unit_registry.specs.Projects.{ProjectView, find_unit, find_ident, is_header}

-- whether only the name of an import is wanted: bit 0 of its flags
abbrev pub is_name_only : ℕ → Bool
is_name_only flags = flags % 2 == 1

-- the act that a request is: its names and its ident are replaced by the numbers of their units
abbrev pub act : ProjectView → Asked → Bool → Act
act project (asked.Hello version compiler ident) stored = Hello version (find_ident project ident)
act project asked.Repo stored = Repo
act project (asked.Export name flags) stored = Export (find_unit project name)
act project (asked.Import name flags) stored = Import (find_unit project name) (is_name_only flags)
act project (asked.Compiled name flags) stored = Compiled (find_unit project name) (stored && is_some (find_unit project name))
act project (asked.Translate name flags) stored = Translate (option_map_or (is_header project) (find_unit project name) false)
act project (asked.Bad why) stored = Bad why

-- the connection begins with it
abbrev pub is_open_act : Act → Bool
is_open_act Open = true
is_open_act _ = false

-- all requests of a block were entered
abbrev pub is_pause : Act → Bool
is_pause Pause = true
is_pause _ = false

-- a worker has no further connection
abbrev pub is_done : Act → Bool
is_done Done = true
is_done _ = false

-- the connection goes with it
abbrev pub goes : Act → Bool
goes Left = true
goes Lost = true
goes _ = false

-- the unit that a Hello names, and whether the act is one
abbrev pub hello_of : Act → Option (Option ℕ)
hello_of (Hello version unit) = Some unit
hello_of _ = None

-- whether the unit named is this one
abbrev pub names : Option ℕ → ℕ → Bool
names (Some named) unit = named == unit
names None unit = false

-- whether it asks where the interface of this unit goes
abbrev pub is_export_of : ℕ → Act → Bool
is_export_of unit (Export named) = names named unit
is_export_of unit _ = false

-- whether it reports the interface of this unit as compiled
abbrev pub is_compiled_of : ℕ → Act → Bool
is_compiled_of unit (Compiled named stored) = names named unit
is_compiled_of unit _ = false

-- the unit that an act names
abbrev pub unit_of : Act → Option ℕ
unit_of (Hello version unit) = unit
unit_of (Export unit) = unit
unit_of (Import unit name_only) = unit
unit_of (Compiled unit stored) = unit
unit_of _ = None
