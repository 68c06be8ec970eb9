use Rattle.std.proofs.Common.{refl}
use Rattle.module_units.specs.Grammar.{unit_tree}
use Rattle.module_units.specs.Unit.{unit_of}
use Rattle.module_units.proofs.Readings.{one_syntax_fault, unit_no_fault}
use Rattle.module_units.proofs.laws.one_syntax_fault.Goals as goal

pub returns : goal.returns
returns c = record {
  one = one_syntax_fault;
  never_both = λ tree k fault. unit_no_fault (unit_tree tree) (unit_of tree) k (record { tree = tree; tokens_are = refl; unit_is = refl }) fault;
}
