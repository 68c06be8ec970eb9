-- Working definitions of interfaces that are lent.
use Rattle.std.specs.Prelude.{List, map}
use Rattle.std.specs.Borrow.{Bor}
use Rattle.export_lists.specs.Lists.{Cmi}

-- the interfaces that are lent
abbrev pub lent : List (Bor Cmi) → List Cmi
lent cmis = map (λ cmi. cmi.now) cmis
