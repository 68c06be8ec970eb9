use Rattle.std.proofs.Common.{refl}
use Rattle.module_units.specs.Grammar.{unit_tree}
use Rattle.module_units.specs.Unit.{unit_of}
use Rattle.module_units.proofs.Readings.{one_unit}
use Rattle.module_units.proofs.UnitFaults.{one_faults}
use Rattle.module_units.proofs.laws.one_unit.Goals as goal

pub returns : goal.returns
returns c = record {
  unit = λ tree other same. one_unit (unit_tree other) (unit_of tree) (unit_of other) (record { tree = tree; tokens_are = same; unit_is = refl }) (record { tree = other; tokens_are = refl; unit_is = refl });
  faults = one_faults;
}
