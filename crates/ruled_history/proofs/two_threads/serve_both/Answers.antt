use Rattle.ruled_history.proofs.Rounds.{both_served, if_some}
use Rattle.ruled_history.proofs.two_threads.serve_both.Goals as goal

pub returns : goal.returns
returns g c =
    both_served c.requires.0 c.args.registry.now c.args.one c.args.two c.in_ok-one.one c.in_ok-two.two c.join.result c.args.count c.in_ok-one.told.conn c.in_ok-one.told.places.items c.in_ok-two.other.conn c.in_ok-two.other.places.items c.requires.1 (if_some _ _ _ c.in_ok-one.was c.run_both-first.ensures.first) (if_some _ _ _ c.in_ok-two.was c.run_both-first.ensures.second) c.join.ensures.both c.join.ensures.left c.join.ensures.right
