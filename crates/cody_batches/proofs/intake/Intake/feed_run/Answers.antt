use Rattle.std.proofs.Common.{◌++◌, sym, ap, subst, ◌∙◌}
use Rattle.cody_batches.specs.Feeding.{Standing, StandsAfter}
use Rattle.cody_batches.proofs.Runs.{over_run, within_run}
use Rattle.cody_batches.proofs.intake.Intake.feed_run.Goals as goal

pub returns-then-self : goal.returns-then-self
returns-then-self c = λ fed h. over_run c.args.octets.now c.args.self.now fed (sym (ap (λ s. s.over) c.self.view_is) ∙ c.if-self.true) h

pub returns : goal.returns
returns c = λ fed h.
    subst (λ (s : Standing). StandsAfter s (fed ++ c.args.octets.now)) (sym c.keep_run.ensures)
    (within_run c.args.octets.now c.args.self.now fed c.requires (sym (ap (λ s. s.over) c.self.view_is) ∙ c.if-self.false) h)
