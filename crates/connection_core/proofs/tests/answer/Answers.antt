use Rattle.std.proofs.Common.{ap}
use Rattle.connection_core.specs.Standing.{end_in}
use Rattle.connection_core.proofs.Beside.{answered_for}
use Rattle.connection_core.proofs.tests.answer.Goals as goal

pub returns-clause-goes : goal.returns-clause-goes
returns-clause-goes g c =
    let before = ap end_in c.requires.reading in
    let between = ap end_in c.in-Block.ensures.end in
    answered_for c.args.session.now.conn _ _ _ _ _ (c.in-Block.ensures.entered before).0 (c.in-Block.ensures.serving before) (c.try_replies.ensures.serving between).sound (c.try_replies.ensures.looked between)
