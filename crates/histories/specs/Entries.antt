-- What an entry of a history is.
use Rattle.std.specs.Prelude.{ℕ, Bool, true, false, ◌&&◌, ◌==◌, nat_lt, None, IfSome, if◌then◌else◌, IsTrue}
use Rattle.mapper_requests.specs.Numbers.{IsNumber}
use Rattle.unit_registry.specs.declared.act.Act.{Act}
use Rattle.unit_registry.specs.declared.act.Act.TheVariants.{Hello, Export, Import, Compiled}
use Rattle.unit_registry.specs.Acts.{is_done}
use Rattle.histories.specs.declared.entry.Entry.{Entry}

-- the number that stands for no connection
abbrev pub no_connection : ℕ
no_connection = 4294967295

-- a Done is of no connection, and every other act of one
abbrev pub has_its_connection : Entry → Bool
has_its_connection entry =
    if is_done entry.act then entry.conn == no_connection else nat_lt entry.conn no_connection

-- where an item was handed in, the unit is declared
abbrev pub has_its_unit : Act → Bool
has_its_unit (Compiled None true) = false
has_its_unit _ = true

-- an entry of a history: a Done is of no connection and any other act of one, and an item is of a declared unit
abbrev pub IsEntry : Entry → Type 0
IsEntry entry = IsTrue (has_its_connection entry && has_its_unit entry.act)

-- the version and the unit of an act are numbers
abbrev pub HasNumbers : Act → Type 0
HasNumbers (Hello version unit) = IsNumber version × IfSome unit IsNumber
HasNumbers (Export unit) = IfSome unit IsNumber
HasNumbers (Import unit name_only) = IfSome unit IsNumber
HasNumbers (Compiled unit stored) = IfSome unit IsNumber
HasNumbers act = Unit {0}

-- an entry that a trace can hold: an entry of a history whose version and unit are numbers
pub record IsTraceEntry (entry : Entry) : Type 0 where
  pub is_entry : IsEntry entry
  pub numbers : HasNumbers entry.act
