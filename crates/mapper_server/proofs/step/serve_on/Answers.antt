use Rattle.std.proofs.Common.{refl, sym, ap, subst, ◌∙◌, arith}
use Rattle.mm_outside.proofs.ToldLemmas.{Told-same, Told-then}
use Rattle.mapper_server.specs.declared.step.Step.TheVariants as steps
use Rattle.mapper_server.specs.Steps.{AtDesk, Continues, as_step}
use Rattle.mapper_server.proofs.Causing.{causes_then}
use Rattle.mapper_server.proofs.Leaving.{continues_further, continues_same}
use Rattle.mapper_server.proofs.step.serve_on.Goals as goal

pub returns-in-Waits-clause-steps : goal.returns-in-Waits-clause-steps
returns-in-Waits-clause-steps g c =
    Told-then (λ a b d first second. record { step = λ start s. second.step start (first.step start s) }) c.loop-place.invariant.steps c.in-Waits.ensures.steps

pub returns-in-Waits-clause-at_desk : goal.returns-in-Waits-clause-at_desk
returns-in-Waits-clause-at_desk g c = subst (λ conn. AtDesk c.args.project.now conn (g.D.Desk.tells c.advance.new.desk)) c.loop-place.invariant.conn c.in-Waits.ensures.at_desk

pub returns-in-Waits-clause-continues : goal.returns-in-Waits-clause-continues
returns-in-Waits-clause-continues g c =
    continues_further c.args.session.now.conn (g.D.Desk.tells c.args.desk.now) (g.D.Desk.tells c.loop-place.desk) (g.D.Desk.tells c.advance.new.desk) c.loop-place.invariant.continues
    (subst (λ conn. Continues conn (g.D.Desk.tells c.loop-place.desk) (g.D.Desk.tells c.advance.new.desk)) c.loop-place.invariant.conn c.in-Waits.ensures.continues)

pub returns-in-Waits-clause-waits : goal.returns-in-Waits-clause-waits
returns-in-Waits-clause-waits g c = λ place same. c.in-Waits.ensures.waits place (ap as_step same)

pub returns-in-Waits-clause-causes : goal.returns-in-Waits-clause-causes
returns-in-Waits-clause-causes g c = causes_then (steps.Waits c.in-Waits.place) _ _ _ _ _ _ c.loop-place.invariant.read_faults c.loop-place.invariant.write_faults c.in-Waits.ensures.causes

pub returns-in-Ended-clause-steps : goal.returns-in-Ended-clause-steps
returns-in-Ended-clause-steps g c =
    Told-then (λ a b d first second. record { step = λ start s. second.step start (first.step start s) }) c.loop-place.invariant.steps c.in-Ended.ensures.steps

pub returns-in-Ended-clause-at_desk : goal.returns-in-Ended-clause-at_desk
returns-in-Ended-clause-at_desk g c = subst (λ conn. AtDesk c.args.project.now conn (g.D.Desk.tells c.advance.new.desk)) c.loop-place.invariant.conn c.in-Ended.ensures.at_desk

pub returns-in-Ended-clause-continues : goal.returns-in-Ended-clause-continues
returns-in-Ended-clause-continues g c =
    continues_further c.args.session.now.conn (g.D.Desk.tells c.args.desk.now) (g.D.Desk.tells c.loop-place.desk) (g.D.Desk.tells c.advance.new.desk) c.loop-place.invariant.continues
    (subst (λ conn. Continues conn (g.D.Desk.tells c.loop-place.desk) (g.D.Desk.tells c.advance.new.desk)) c.loop-place.invariant.conn c.in-Ended.ensures.continues)

pub returns-in-Ended-clause-causes : goal.returns-in-Ended-clause-causes
returns-in-Ended-clause-causes g c = causes_then (steps.Ended c.in-Ended.how) _ _ _ _ _ _ c.loop-place.invariant.read_faults c.loop-place.invariant.write_faults c.in-Ended.ensures.causes

pub loop-place-init : goal.loop-place-init
loop-place-init g c = record {
  at_desk = c.requires.at_desk;
  going = c.requires.going;
  turn = c.requires.turn;
  continues = continues_same c.args.session.now.conn (g.D.Desk.tells c.args.desk.now);
  conn = refl;
  steps = Told-same (λ x. record { step = λ start s. s });
  room = refl;
  some = c.requires.room;
  order = c.requires.order;
  within = c.requires.within;
  read_faults = refl;
  write_faults = refl;
}

pub loop-place-preserved : goal.loop-place-preserved
loop-place-preserved g c =
    let inv = c.loop-place.invariant in
    let turn = c.in-GoesOn.ensures in
    record {
      at_desk = subst (λ conn. AtDesk c.args.project.now conn (g.D.Desk.tells c.advance.new.desk)) (sym turn.conn) turn.at_desk;
      going = turn.going;
      turn = turn.turn;
      continues = continues_further c.args.session.now.conn (g.D.Desk.tells c.args.desk.now) (g.D.Desk.tells c.loop-place.desk) (g.D.Desk.tells c.advance.new.desk) inv.continues
          (subst (λ conn. Continues conn (g.D.Desk.tells c.loop-place.desk) (g.D.Desk.tells c.advance.new.desk)) inv.conn turn.continues);
      conn = turn.conn ∙ inv.conn;
      steps = Told-then (λ a b d first second. record { step = λ start s. second.step start (first.step start s) }) inv.steps turn.steps;
      room = turn.room ∙ inv.room;
      some = omega (arith, turn.room, inv.some);
      order = turn.order;
      within = turn.within;
      read_faults = turn.causes.0 ∙ inv.read_faults;
      write_faults = turn.causes.1 ∙ inv.write_faults;
    }
