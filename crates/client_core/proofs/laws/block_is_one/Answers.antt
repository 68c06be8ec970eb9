use Rattle.client_core.proofs.OneBlock.{block_is_one}
use Rattle.client_core.proofs.laws.block_is_one.Goals as goal

pub returns : goal.returns
returns c = block_is_one
