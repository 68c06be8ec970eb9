use Rattle.std.proofs.Common.{refl, sym, ◌∙◌}
use Rattle.std.proofs.lemmas.Bool.{cond-true}
use Rattle.unit_registry.specs.declared.act.Act.TheVariants.{Repo}
use Rattle.ruled_history.proofs.Worked.{entered}
use Rattle.ruled_history.proofs.two_threads.asks_once.Goals as goal

pub returns-in-Ok : goal.returns-in-Ok
returns-in-Ok g c ok = (
  c.in-Ok.place,
  c.push.ensures.items ∙ cond-true _ _ _ (sym c.is_ok.ensures.value ∙ ok),
  entered (g.D.Desk.tells c.args.desk.now) (g.D.Desk.tells c.ask.new.self) c.args.conn Repo c.in-Ok.place refl c.requires.has_open c.in-Ok.ensures.sound c.in-Ok.ensures.asked,
)
