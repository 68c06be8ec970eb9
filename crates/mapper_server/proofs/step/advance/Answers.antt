use Rattle.std.proofs.Common.{subst}
use Rattle.mm_outside.proofs.ToldLemmas.{Told-then}
use Rattle.mapper_server.specs.Steps.{Continues, rest_of}
use Rattle.mapper_server.proofs.Causing.{causes_then}
use Rattle.mapper_server.proofs.Leaving.{continues_further}
use Rattle.mapper_server.proofs.step.advance.Goals as goal

pub returns-in-GoesOn-clause-steps : goal.returns-in-GoesOn-clause-steps
returns-in-GoesOn-clause-steps g c =
    Told-then (λ a b d first second. record { step = λ start s. second.step start (first.step start s) }) (c.in-GoesOn.ensures.steps (rest_of c.args.piece.now.at c.args.piece.now.end c.args.room.now)) c.take_more.ensures.steps

pub returns-in-GoesOn-clause-continues : goal.returns-in-GoesOn-clause-continues
returns-in-GoesOn-clause-continues g c =
    continues_further c.args.session.now.conn (g.D.Desk.tells c.args.desk.now) (g.D.Desk.tells c.reply.new.desk) (g.D.Desk.tells c.take_more.new.desk) c.in-GoesOn.ensures.continues
    (subst (λ conn. Continues conn (g.D.Desk.tells c.reply.new.desk) (g.D.Desk.tells c.take_more.new.desk)) c.in-GoesOn.ensures.conn c.take_more.ensures.continues)

pub returns-in-GoesOn-clause-causes : goal.returns-in-GoesOn-clause-causes
returns-in-GoesOn-clause-causes g c = causes_then c.take_more.result _ _ _ _ _ _ c.in-GoesOn.ensures.causes.0 c.in-GoesOn.ensures.causes.1 c.take_more.ensures.causes
