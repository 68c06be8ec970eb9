use Rattle.connection_core.proofs.Staying.{served_later}
use Rattle.connection_core.proofs.laws.served_stays.Goals as goal

pub returns : goal.returns
returns c = λ project workers limit history more conn how link served apart. served_later project workers limit history more conn apart how link served
