use Rattle.module_units.proofs.OneReading.{one_reading}
use Rattle.module_units.proofs.laws.one_reading.Goals as goal

pub returns : goal.returns
returns c = one_reading
