use Rattle.std.proofs.Common.{refl, sym, subst, ◌∙◌, arith}
use Rattle.connection_core.specs.Entering.{Fits, IsServing}
use Rattle.connection_core.proofs.tests.waits_for_report.Goals as goal

pub opens-requires : goal.opens-requires
opens-requires g c = record {
  worker = omega (arith, c.requires.opened, c.requires.dones, c.requires.share);
  room = c.requires.room;
}

pub answer-requires : goal.answer-requires
answer-requires g c = record {
  anew = c.requires.anew;
  reading = c.requires.reading;
  fits = subst (λ s. Fits (g.D.Desk.fits (g.D.Desk.tells c.opens.new.desk).held) s) (sym c.requires.none) tt;
  project = c.requires.project ∙ sym c.if-not-opens.ensures.project;
  serving = subst (λ n. IsServing n (g.D.Desk.tells c.opens.new.desk)) (sym c.requires.conn) (c.if-not-opens.ensures.serving refl);
  room = c.if-not-opens.ensures.metered ∙ c.requires.room;
}

pub second_reports-requires : goal.second_reports-requires
second_reports-requires g c = record {
  anew = c.requires.second_anew;
  reading = c.requires.second_reading;
  none = c.requires.second_none;
  conn = c.requires.second_conn;
  worker = omega (arith, c.in-Some.ensures.opened, c.in-Some.ensures.dones, c.in-Some.ensures.goes.stays.share, c.if-not-opens.ensures.opened refl, c.if-not-opens.ensures.dones, c.if-not-opens.ensures.share, c.requires.opened, c.requires.dones, c.requires.share);
  room = c.in-Some.ensures.goes.stays.metered ∙ c.if-not-opens.ensures.metered ∙ c.requires.room;
  project = c.requires.project ∙ sym c.if-not-opens.ensures.project ∙ sym c.in-Some.ensures.goes.stays.project;
  serving = subst (λ n. IsServing n (g.D.Desk.tells c.answer.new.desk)) c.requires.conn c.answer.ensures.serving;
}

pub try_replies-turn-requires : goal.try_replies-turn-requires
try_replies-turn-requires g c = record {
  project = c.in-Some-second_reports.ensures.project;
  serving = λ going. subst (λ n. IsServing n (g.D.Desk.tells c.second_reports.new.desk)) (sym (c.answer.ensures.conn ∙ c.requires.conn)) c.in-Some-second_reports.ensures.serving;
}
