use Rattle.std.proofs.Common.{refl, sym, subst}
use Rattle.mm_outside.proofs.ToldLemmas.{Told-map}
use Rattle.mapper_server.specs.Steps.{Serving, rest_of}
use Rattle.mapper_server.proofs.Stepping.{serving_fills, serving_input_ends}
use Rattle.mapper_server.proofs.Causing.{ends_not_full, input_causes}
use Rattle.mapper_server.proofs.Leaving.{continues_same}
use Rattle.mapper_server.proofs.step.take_more.Goals as goal

pub returns-in-Some-clause-steps : goal.returns-in-Some-clause-steps
returns-in-Some-clause-steps g c =
    Told-map (λ a b fills. record { step = λ start s. serving_input_ends c.args.project.now c.in-Some.how c.args.session.now c.fill.new.session.conn (g.D.Desk.tells c.args.desk.now) (rest_of c.args.piece.now.at c.args.piece.now.end c.args.room.now) start a b c.in-Some.ensures.conn c.requires.going.few c.requires.reading c.in-Some.ensures.ends fills s }) c.in-Some.ensures.fills

pub returns-in-Some-clause-full : goal.returns-in-Some-clause-full
returns-in-Some-clause-full g c = ends_not_full c.args.project.now _ c.args.session.now c.requires.going _ c.in-Some.how c.in-Some.ensures.ends

pub returns-in-Some-clause-causes : goal.returns-in-Some-clause-causes
returns-in-Some-clause-causes g c = input_causes c.args.project.now _ c.args.session.now c.requires.going c.in-Some.how _ _ _ _ c.in-Some.ensures.ends c.in-Some.ensures.read_fault c.in-Some.ensures.read_kept c.in-Some.ensures.write_kept

pub returns-in-None-clause-steps : goal.returns-in-None-clause-steps
returns-in-None-clause-steps g c =
    Told-map (λ a b fills. record {
      step = λ start s. (c.take_some.ensures.steps b).step start
          (subst (λ session. Serving c.args.project.now session (g.D.Desk.tells c.args.desk.now) (rest_of c.fill.new.piece.at c.fill.new.piece.end c.fill.new.room) start b) (sym (c.in-None.ensures.same refl))
          (serving_fills c.args.project.now c.args.session.now (g.D.Desk.tells c.args.desk.now) (rest_of c.args.piece.now.at c.args.piece.now.end c.args.room.now) fills.0 _ start a b fills.1 fills.2 s));
    }) c.in-None.ensures.fills

pub returns-in-Some-clause-continues : goal.returns-in-Some-clause-continues
returns-in-Some-clause-continues g c = continues_same c.args.session.now.conn (g.D.Desk.tells c.args.desk.now)
