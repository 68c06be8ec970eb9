-- What is seen of a name that was read.
use Rattle.std.specs.Prelude.{ℕ, List}
use Rattle.header_units.specs.declared.name.Name.{Name}
use Rattle.header_units.specs.declared.name.NameKind.{NameKind}

-- the octets of a name
abbrev pub octets_of : Name → List ℕ
octets_of name = name.octets.now

-- the kind of a name
abbrev pub kind_of : Name → NameKind
kind_of name = name.kind
