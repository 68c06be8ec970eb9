use Rattle.std.proofs.Common.{refl, sym, subst, ◌∙◌, arith}
use Rattle.mm_outside.specs.Told.{Told}
use Rattle.mm_outside.proofs.ToldLemmas.{Told-same, Told-then}
use Rattle.mapper_server.specs.declared.step.Step.TheVariants as steps
use Rattle.mapper_server.specs.Steps.{AtDesk, Continues, EndsSo, Serving, TurnIn}
use Rattle.mapper_server.proofs.Causing.{causes_then}
use Rattle.mapper_server.proofs.Leaving.{continues_further, continues_same}
use Rattle.mapper_server.proofs.Beginning.{going_anew, reads_anew, serving_anew}
use Rattle.mapper_server.proofs.Rests.{none_left}
use Rattle.mapper_server.proofs.connection.serve_in.Goals as goal

pub returns-in-Ended-clause-ends : goal.returns-in-Ended-clause-ends
returns-in-Ended-clause-ends g c =
    subst (λ conn. Told (EndsSo c.args.project.now conn c.in-Ended.how (g.D.Desk.tells c.serve_on.new.desk)) (g.L.Link.octets c.args.link.now) (g.L.Link.octets c.serve_on.new.link)) (c.in-Ended.ensures.conn ∙ c.loop.invariant.conn)
    (Told-then (λ a b d serving turn. turn.step a serving) c.loop.invariant.serving c.in-Ended.ensures.steps)

pub returns-in-Ended-clause-causes : goal.returns-in-Ended-clause-causes
returns-in-Ended-clause-causes g c = causes_then (steps.Ended c.in-Ended.how) _ _ _ _ _ _ c.loop.invariant.read_faults c.loop.invariant.write_faults c.in-Ended.ensures.causes

pub returns-in-Ended-clause-continues : goal.returns-in-Ended-clause-continues
returns-in-Ended-clause-continues g c =
    continues_further c.args.session.now.conn (g.D.Desk.tells c.args.desk.now) (g.D.Desk.tells c.loop.desk) (g.D.Desk.tells c.serve_on.new.desk) c.loop.invariant.continues
    (subst (λ conn. Continues conn (g.D.Desk.tells c.loop.desk) (g.D.Desk.tells c.serve_on.new.desk)) c.loop.invariant.conn c.in-Ended.ensures.continues)

pub loop-init : goal.loop-init
loop-init g c = record {
  at_desk = record { project_is = c.requires.project; loose = c.requires.loose; serving = c.requires.opened.serving };
  going = going_anew c.args.project.now c.args.session.now c.requires.session (g.D.Desk.tells c.args.desk.now) c.requires.opened;
  turn = subst (λ at. TurnIn at c.args.session.now (g.D.Desk.holds c.args.desk.now)) (sym (reads_anew c.args.project.now c.args.session.now c.requires.session)) c.requires.turn;
  continues = continues_same c.args.session.now.conn (g.D.Desk.tells c.args.desk.now);
  conn = refl;
  serving = Told-same (λ x. subst (λ rest. Serving c.args.project.now c.args.session.now (g.D.Desk.tells c.args.desk.now) rest x x) (sym (none_left 0 c.args.room.now (omega arith))) (serving_anew c.args.project.now c.args.session.now c.requires.session (g.D.Desk.tells c.args.desk.now) x c.requires.opened));
  room = c.requires.room;
  order = omega arith;
  within = omega arith;
  read_faults = refl;
  write_faults = refl;
}

pub loop-preserved : goal.loop-preserved
loop-preserved g c =
    let inv = c.loop.invariant in
    let turn = c.in-Waits.ensures in
    record {
      at_desk = subst (λ conn. AtDesk c.args.project.now conn (g.D.Desk.tells c.serve_on.new.desk)) (sym turn.conn) turn.at_desk;
      going = turn.going;
      turn = turn.turn;
      continues = continues_further c.args.session.now.conn (g.D.Desk.tells c.args.desk.now) (g.D.Desk.tells c.loop.desk) (g.D.Desk.tells c.serve_on.new.desk) inv.continues
          (subst (λ conn. Continues conn (g.D.Desk.tells c.loop.desk) (g.D.Desk.tells c.serve_on.new.desk)) inv.conn turn.continues);
      conn = turn.conn ∙ inv.conn;
      serving = Told-then (λ a b d serving step. step.step a serving) inv.serving turn.steps;
      room = omega (arith, turn.room, inv.room);
      order = turn.order;
      within = turn.within;
      read_faults = turn.causes.0 ∙ inv.read_faults;
      write_faults = turn.causes.1 ∙ inv.write_faults;
    }
