use Rattle.std.proofs.Common.{rules}
use Rattle.ruled_history.proofs.Turning.{learns}
use Rattle.ruled_history.proofs.registry.learn.Goals as goal

pub load-requires : goal.load-requires
load-requires g c = (search rules, search rules, learns _ _ _ _ _ _ g.J.Learning.learns (c.requires.learning _))
