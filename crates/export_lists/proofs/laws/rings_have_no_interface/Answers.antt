use Rattle.export_lists.proofs.Rings.{none_in_ring}
use Rattle.export_lists.proofs.laws.rings_have_no_interface.Goals as goal

pub returns : goal.returns
returns c = none_in_ring
