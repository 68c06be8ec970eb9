use Rattle.std.proofs.Common.{◌<◌, refl, sym, subst, ◌∙◌}
use Rattle.unit_registry.specs.Projects.{unit_count}
use Rattle.connection_core.specs.Entering.{Fits, IsServing}
use Rattle.connection_core.proofs.tests.reports_with_item.Goals as goal

pub answer-requires : goal.answer-requires
answer-requires g c = record {
  anew = c.requires.anew;
  reading = c.requires.reading;
  fits = subst (λ h. Fits (g.D.Desk.fits h) c.args.session.now.stash) (sym c.if-not-opens.ensures.held) c.requires.fits;
  project = c.requires.project ∙ sym c.if-not-opens.ensures.project;
  serving = subst (λ n. IsServing n (g.D.Desk.tells c.opens.new.desk)) (sym c.requires.conn) (c.if-not-opens.ensures.serving refl);
  room = c.if-not-opens.ensures.metered ∙ c.requires.room;
}

pub has_item-kept-requires : goal.has_item-kept-requires
has_item-kept-requires g c = subst (λ p. 0 < unit_count p) (c.requires.project ∙ sym c.if-not-opens.ensures.project ∙ sym c.in-Some.ensures.goes.stays.project) c.requires.unit
