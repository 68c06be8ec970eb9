use Rattle.std.proofs.Common.{sym}
use Rattle.connection_core.proofs.Enterings.{refused_so}
use Rattle.connection_core.proofs.entering.enter_block.Goals as goal

pub returns-then-is_refused-clause-entered : goal.returns-then-is_refused-clause-entered
returns-then-is_refused-clause-entered g c = refused_so c.args.conn _ c.args.asked.now _ _ (sym c.if-is_refused.ensures)
