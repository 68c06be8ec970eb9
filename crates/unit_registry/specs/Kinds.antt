-- The kinds of units, and the names that they may have.
use Rattle.std.specs.Prelude.{ℕ, Bool, true, false, ◌==◌, List, length, Option, Some, None}
use Rattle.header_units.specs.declared.name.NameKind.{NameKind}
use Rattle.header_units.specs.declared.name.NameKind.TheVariants.{Primary, Partition, Header as HeaderName}
use Rattle.header_units.specs.Names.{name_kind}
use Rattle.unit_registry.specs.declared.kind.Kind.{Kind}
use Rattle.unit_registry.specs.declared.kind.Kind.TheVariants.{Module, Header, Plain}

-- whether units of the kind have no name
abbrev pub is_plain_kind : Kind → Bool
is_plain_kind Plain = true
is_plain_kind _ = false

-- whether units of the kind are header units
abbrev pub is_header_kind : Kind → Bool
is_header_kind Header = true
is_header_kind _ = false

-- whether a name, by its kind, is that of a module or of a partition
abbrev pub is_module_name : Option NameKind → Bool
is_module_name (Some Primary) = true
is_module_name (Some Partition) = true
is_module_name (Some HeaderName) = false
is_module_name None = false

-- whether a name, by its kind, is that of a header
abbrev pub is_header_name : Option NameKind → Bool
is_header_name (Some HeaderName) = true
is_header_name (Some Primary) = false
is_header_name (Some Partition) = false
is_header_name None = false

-- whether a unit of the kind may have the name: a module that of a module or a partition, a header unit that of a header,
-- and a plain unit none
abbrev pub fits : Kind → List ℕ → Bool
fits Module name = is_module_name (name_kind name)
fits Header name = is_header_name (name_kind name)
fits Plain name = length name == 0
