use Rattle.std.proofs.Common.{arith}
use Rattle.registry_tables.proofs.tables.Tables.open_count.Goals as goal

pub overflow_cast-result : goal.overflow_cast-result
overflow_cast-result c = let i = c.self.invariant in omega arith
