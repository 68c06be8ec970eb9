use Rattle.std.proofs.Common.{rules, ◌<◌, ◌≤◌}
use Rattle.ruled_history.proofs.Seating.{splits}
use Rattle.ruled_history.proofs.registry.cut.Goals as goal

pub split_seat-requires : goal.split_seat-requires
split_seat-requires g c = let some_share : 0 < g.J.Cutting.share = search rules in let less : g.J.Cutting.share < c.args.place.now.me.0.share = search rules in let enough : g.J.Cutting.room ≤ c.args.place.now.me.0.room = search rules in
    (search rules, search rules, splits _ _ _ _ g.J.Cutting.share g.J.Cutting.room _ c.requires.idle.1 c.requires.bare some_share less enough)
