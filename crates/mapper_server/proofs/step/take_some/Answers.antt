use Rattle.std.proofs.Common.{refl, sym, ap, subst, ◌∙◌}
use Rattle.registry_core.specs.Desks.{DeskState}
use Rattle.connection_core.specs.Asking.{entered_by}
use Rattle.connection_core.specs.Entering.{stash_behind}
use Rattle.connection_core.specs.Sessions.{lines_of}
use Rattle.mapper_server.specs.Steps.{Continues}
use Rattle.mapper_server.proofs.Stepping.{going_block, serving_all, serving_block, serving_ended}
use Rattle.mapper_server.proofs.Rests.{none_left, fewer_left}
use Rattle.mapper_server.proofs.Leaving.{continues_same, continues_took, at_desk_took}
use Rattle.mapper_server.proofs.step.take_some.Goals as goal

pub returns-in-All-clause-steps : goal.returns-in-All-clause-steps
returns-in-All-clause-steps g c = λ now.
    let going = c.requires.going.going in
    record {
      step = λ start s. subst (λ rest. Rattle.mapper_server.specs.Steps.Serving c.args.project.now c.take.new.self (g.D.Desk.tells c.take.new.desk) rest start now) (sym (none_left c.args.piece.now.end c.args.room.now c.requires.within))
          (serving_all c.args.project.now c.args.session.now c.take.new.self (g.D.Desk.tells c.args.desk.now) (g.D.Desk.tells c.take.new.desk) c.rest.result.now _ start now c.in-All.ensures.took (c.in-All.ensures.entered going) refl c.requires.reading c.in-All.ensures.end c.in-All.ensures.conn
          (subst (λ rest. Rattle.mapper_server.specs.Steps.Serving c.args.project.now c.args.session.now (g.D.Desk.tells c.args.desk.now) rest start now) (sym c.rest.ensures) s));
    }

pub returns-in-All-clause-continues : goal.returns-in-All-clause-continues
returns-in-All-clause-continues g c =
    subst (λ (d : DeskState g.row.D-Held.Denot). Continues c.args.session.now.conn (g.D.Desk.tells c.args.desk.now) d) (sym (c.in-All.ensures.entered c.requires.going.going)) (continues_same c.args.session.now.conn (g.D.Desk.tells c.args.desk.now))

pub returns-in-Block-clause-steps : goal.returns-in-Block-clause-steps
returns-in-Block-clause-steps g c = λ now.
    let going = c.requires.going.going in
    record {
      step = λ start s.
          serving_block c.args.project.now c.args.session.now c.take.new.self (g.D.Desk.tells c.args.desk.now) (g.D.Desk.tells c.take.new.desk) c.rest.result.now _ c.in-Block.used start now c.in-Block.ensures.took (c.in-Block.ensures.entered going).0 c.requires.going.no_item
          (fewer_left c.args.piece.now.at c.in-Block.used c.args.piece.now.end c.args.room.now ∙ ap (Rattle.std.proofs.Common.drop c.in-Block.used) (sym c.rest.ensures))
          c.requires.reading c.in-Block.ensures.end c.in-Block.ensures.conn
          (subst (λ rest. Rattle.mapper_server.specs.Steps.Serving c.args.project.now c.args.session.now (g.D.Desk.tells c.args.desk.now) rest start now) (sym c.rest.ensures) s);
    }

pub returns-in-Block-clause-going : goal.returns-in-Block-clause-going
returns-in-Block-clause-going g c =
    let going = c.requires.going.going in
    let entered = c.in-Block.ensures.entered going in
    going_block c.args.project.now c.args.session.now c.take.new.self (g.D.Desk.tells c.args.desk.now) (g.D.Desk.tells c.take.new.desk) c.rest.result.now c.in-Block.used c.in-Block.ensures.took entered.0 c.in-Block.ensures.end c.in-Block.ensures.conn
    (entered.1 ∙ ap (λ kept. stash_behind kept (entered_by (lines_of c.take.new.self))) c.requires.going.no_item) (c.in-Block.ensures.bound going) c.requires.going

pub returns-in-Ended-clause-steps : goal.returns-in-Ended-clause-steps
returns-in-Ended-clause-steps g c = λ now.
    let going = c.requires.going.going in
    record {
      step = λ start s.
          serving_ended c.args.project.now c.in-Ended.how c.args.session.now c.take.new.self c.take.new.self.conn (g.D.Desk.tells c.args.desk.now) (g.D.Desk.tells c.take.new.desk) c.rest.result.now start now (c.in-Ended.ensures.end.1 going)
          (at_desk_took c.in-Ended.how c.args.project.now c.args.session.now c.take.new.self (g.D.Desk.tells c.args.desk.now) (g.D.Desk.tells c.take.new.desk) c.requires.at_desk (c.in-Ended.ensures.serving going) (c.in-Ended.ensures.entered going)).project_is
          (c.in-Ended.ensures.serving going).sound c.requires.going.no_item c.requires.reading c.in-Ended.ensures.conn c.in-Ended.ensures.took (c.in-Ended.ensures.entered going)
          (subst (λ rest. Rattle.mapper_server.specs.Steps.Serving c.args.project.now c.args.session.now (g.D.Desk.tells c.args.desk.now) rest start now) (sym c.rest.ensures) s);
    }

pub returns-in-Ended-clause-at_desk : goal.returns-in-Ended-clause-at_desk
returns-in-Ended-clause-at_desk g c =
    let going = c.requires.going.going in
    at_desk_took c.in-Ended.how c.args.project.now c.args.session.now c.take.new.self (g.D.Desk.tells c.args.desk.now) (g.D.Desk.tells c.take.new.desk) c.requires.at_desk (c.in-Ended.ensures.serving going) (c.in-Ended.ensures.entered going)

pub returns-in-Ended-clause-continues : goal.returns-in-Ended-clause-continues
returns-in-Ended-clause-continues g c =
    let going = c.requires.going.going in
    continues_took c.in-Ended.how c.args.session.now c.take.new.self (g.D.Desk.tells c.args.desk.now) (g.D.Desk.tells c.take.new.desk) (c.in-Ended.ensures.entered going)
