use Rattle.std.proofs.Common.{sym, ◌∙◌}
use Rattle.connection_core.proofs.Lookings.{good_replies}
use Rattle.connection_core.proofs.replying.gather.Goals as goal

pub returns-clause-all : goal.returns-clause-all
returns-clause-all g c = λ none.
    let all = c.look_at_once.ensures.all none in
    let good = sym c.if-is_refused.ensures in
    (all.0, good_replies _ c.args.asked.now c.args.places.now good (c.requires.as_many good) ∙ all.1, all.2)
