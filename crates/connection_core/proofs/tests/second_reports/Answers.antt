use Rattle.std.proofs.Common.{refl, sym, subst, ◌∙◌, arith}
use Rattle.connection_core.specs.Entering.{Fits, IsServing}
use Rattle.connection_core.proofs.Beside.{serving_beside}
use Rattle.connection_core.proofs.tests.second_reports.Goals as goal

pub answer-requires : goal.answer-requires
answer-requires g c = record {
  anew = c.requires.anew;
  reading = c.requires.reading;
  fits = subst (λ s. Fits (g.D.Desk.fits (g.D.Desk.tells c.opens.new.desk).held) s) (sym c.requires.none) tt;
  project = c.requires.project ∙ sym c.if-not-opens.ensures.project;
  serving = subst (λ n. IsServing n (g.D.Desk.tells c.opens.new.desk)) (sym c.requires.conn) (c.if-not-opens.ensures.serving refl);
  room = c.if-not-opens.ensures.metered ∙ c.requires.room;
}

pub returns-clause-serving : goal.returns-clause-serving
returns-clause-serving g c =
    let serving = c.if-not-opens.ensures.beside 0 refl (λ is. absurd (omega (arith, is))) c.requires.serving in
    serving_beside _ _ _ c.in-Some.ensures.goes serving.sound c.answer.ensures.serving.sound 0 serving (λ is. absurd (omega (arith, is, c.requires.conn)))

pub returns-clause-project : goal.returns-clause-project
returns-clause-project g c = c.requires.project ∙ sym c.if-not-opens.ensures.project ∙ sym c.in-Some.ensures.goes.stays.project
