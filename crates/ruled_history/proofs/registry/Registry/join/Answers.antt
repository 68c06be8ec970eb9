use Rattle.std.proofs.Common.{rules, ◌≡◌, ◌+◌, ◌<◌, sym, subst}
use Rattle.ruled_history.specs.declared.board.Stage.TheVariants.{Idle}
use Rattle.ruled_history.specs.declared.board.View.{View}
use Rattle.ruled_history.specs.Views.{joined, Knows, Keeps}
use Rattle.ruled_history.specs.Seats.{one_of}
use Rattle.ruled_history.proofs.Seating.{joins}
use Rattle.ruled_history.proofs.Joining.{keeps_left, keeps_right}
use Rattle.ruled_history.proofs.registry.Registry.join.Goals as goal

pub join_seat-requires : goal.join_seat-requires
join_seat-requires g c =
    let v = c.learn.new.place.me.0 in
    let w = c.learn-2.new.place.me.0 in
    let idle : v.stage ≡ Idle = search rules in
    let idle' : w.stage ≡ Idle = search rules in
    let share : 0 < v.share = search rules in
    let next : w.first ≡ v.first + v.share = search rules in
    (search rules, search rules, search rules, search rules, joins _ _ _ _ _ _ _ idle idle' share next)

pub returns-clause-left : goal.returns-clause-left
returns-clause-left g c =
    let key = c.self.inside.board.table.shared.key.opening.value.ledger in
    let v : View = c.learn.new.place.me.0 in
    let w : View = c.learn-2.new.place.me.0 in
    let joint : c.learn-3.new.place.me.0 ≡ joined v w = search rules in
    let kept : Keeps v (joined v w) = keeps_left key v w c.learn.ensures.learns c.learn-2.ensures.learns (subst (Knows key) joint c.learn-3.ensures.learns) in
    let whole : one_of c.into_badge.result.views ≡ joined v w = search rules in
    let known : v ≡ c.args.left.knows = search rules in
    subst (λ (x : View × View). Keeps x.0 x.1) (λ i. (known i, sym whole i)) kept

pub returns-clause-right : goal.returns-clause-right
returns-clause-right g c =
    let key = c.self.inside.board.table.shared.key.opening.value.ledger in
    let v : View = c.learn.new.place.me.0 in
    let w : View = c.learn-2.new.place.me.0 in
    let joint : c.learn-3.new.place.me.0 ≡ joined v w = search rules in
    let kept : Keeps w (joined v w) = keeps_right key v w c.learn.ensures.learns c.learn-2.ensures.learns (subst (Knows key) joint c.learn-3.ensures.learns) in
    let whole : one_of c.into_badge.result.views ≡ joined v w = search rules in
    let known : w ≡ c.args.right.knows = search rules in
    subst (λ (x : View × View). Keeps x.0 x.1) (λ i. (known i, sym whole i)) kept
