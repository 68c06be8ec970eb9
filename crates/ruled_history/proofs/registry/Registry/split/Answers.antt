use Rattle.std.proofs.Common.{rules, ◌≡◌, sym, subst}
use Rattle.ruled_history.specs.declared.board.View.{View}
use Rattle.ruled_history.specs.Seats.{one_of}
use Rattle.ruled_history.specs.Views.{rest_of, cut_off, Knows, IsBare}
use Rattle.ruled_history.proofs.Seating.{bare_rest, bare_cut}
use Rattle.ruled_history.proofs.registry.Registry.split.Goals as goal

pub returns-clause-bare : goal.returns-clause-bare
returns-clause-bare g c =
    let key = c.self.inside.board.table.shared.key.opening.value.ledger in
    let v : View = c.learn.new.place.me.0 in
    let knows : Knows key v = c.learn.ensures.learns in
    let known : v ≡ c.args.seat.knows = search rules in
    let first : one_of c.into_badge.result.views ≡ rest_of c.args.share c.args.room v = search rules in
    let second : one_of c.into_badge-2.result.views ≡ cut_off c.args.share c.args.room v = search rules in
    (subst IsBare (sym first) (bare_rest key c.args.share c.args.room v knows (search rules)), subst IsBare (sym second) (bare_cut c.args.share c.args.room v))
