use Rattle.std.proofs.Common.{[], sym, ap, subst, ◌∙◌}
use Rattle.connection_core.specs.Sessions.{StandsAfter}
use Rattle.connection_core.specs.Entering.{Fits}
use Rattle.connection_core.proofs.tests.session_reports.Goals as goal

pub reports_with_item-requires : goal.reports_with_item-requires
reports_with_item-requires g c = record {
  anew = subst (λ s. StandsAfter s c.args.project.now []) (sym c.stash.ensures) (c.in_ok-session.ensures.stands c.args.project.now);
  reading = ap (λ s. s.reader.stage) c.stash.ensures ∙ c.in_ok-session.ensures.reading;
  fits = subst (λ s. Fits (g.D.Desk.fits (g.D.Desk.tells c.args.desk.now).held) s.stash) (sym c.stash.ensures) c.requires.fits;
  conn = ap (λ s. s.conn) c.stash.ensures ∙ c.in_ok-session.ensures.conn;
  worker = c.requires.worker;
  room = c.requires.room;
  project = c.requires.project;
  unit = c.requires.unit;
}
