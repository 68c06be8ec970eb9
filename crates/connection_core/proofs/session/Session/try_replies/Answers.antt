use Rattle.std.proofs.Common.{sym, ap, ◌∙◌, refl}
use Rattle.connection_core.proofs.Enterings.{serving_looks}
use Rattle.connection_core.proofs.Sessioning.{none_of, waiting_due, sent_same}
use Rattle.connection_core.proofs.session.Session.try_replies.Goals as goal

pub returns-in-Some-clause-serving : goal.returns-in-Some-clause-serving
returns-in-Some-clause-serving g c = λ going. serving_looks c.args.self.now.conn _ _ (c.requires.serving going) c.gather.ensures.sound c.gather.ensures.looked

pub returns-in-Ok-clause-serving : goal.returns-in-Ok-clause-serving
returns-in-Ok-clause-serving g c = λ going. serving_looks c.args.self.now.conn _ _ (c.requires.serving going) c.gather.ensures.sound c.gather.ensures.looked

pub returns-in-Err-clause-serving : goal.returns-in-Err-clause-serving
returns-in-Err-clause-serving g c = λ going. serving_looks c.args.self.now.conn _ _ (c.requires.serving going) c.gather.ensures.sound c.gather.ensures.looked

pub returns-in-Ok-clause-replies : goal.returns-in-Ok-clause-replies
returns-in-Ok-clause-replies g c = λ going.
    let all = c.gather.ensures.all (none_of _ c.in_default.not-Some) in
    let at = sym (ap (λ s. s.reader.stage) c.self.view_is) ∙ sym c.stage.ensures ∙ c.in-Waiting.is in (
      _,
      waiting_due c.args.self.now _ c.asked.result.now c.deref.result.now all.0 at (c.asked.ensures.asked ∙ ap (λ s. s.reader.asked) c.self.view_is) (c.deref.ensures.value ∙ ap (λ s. s.places) c.self.view_is) all.1,
      sent_same _ c.args.project.now _ _ _ _ all.0 _ _ (c.requires.project ∙ sym c.gather.ensures.looked.stays.project) c.deref-2.ensures.value all.2 c.clear.ensures.items c.in-Ok.ensures.octets,
    )

pub returns-in-Err-clause-replies : goal.returns-in-Err-clause-replies
returns-in-Err-clause-replies g c = λ going.
    let all = c.gather.ensures.all (none_of _ c.in_default.not-Some) in
    let at = sym (ap (λ s. s.reader.stage) c.self.view_is) ∙ sym c.stage.ensures ∙ c.in-Waiting.is in (
      refl,
      (
        _,
        _,
        waiting_due c.args.self.now _ c.asked.result.now c.deref.result.now all.0 at (c.asked.ensures.asked ∙ ap (λ s. s.reader.asked) c.self.view_is) (c.deref.ensures.value ∙ ap (λ s. s.places) c.self.view_is) all.1,
        sent_same _ c.args.project.now _ _ _ _ all.0 _ _ (c.requires.project ∙ sym c.gather.ensures.looked.stays.project) c.deref-2.ensures.value all.2 c.clear.ensures.items c.in-Err.ensures.octets,
      ),
    )
