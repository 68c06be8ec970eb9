use Rattle.std.proofs.Common.{refl, sym, subst, ◌∙◌}
use Rattle.mm_outside.specs.Told.{Told}
use Rattle.mm_outside.proofs.ToldLemmas.{Told-map, Told-same}
use Rattle.mapper_server.specs.declared.step.Step.TheVariants as steps
use Rattle.mapper_server.specs.Steps.{EndsSo, IsGoing, Serving, Steps}
use Rattle.mapper_server.proofs.Standings.{looks_enter}
use Rattle.mapper_server.proofs.Stepping.{serving_later, serving_fed, serving_fault, going_later, going_fed}
use Rattle.mapper_server.proofs.step.reply.Goals as goal

pub returns-in-Fed-clause-steps : goal.returns-in-Fed-clause-steps
returns-in-Fed-clause-steps g c = λ rest.
    let going = c.requires.going.going in
    let replies = c.in-Fed.ensures.replies going in
    let looked = c.in-Fed.ensures.looked going in
    let looks = looks_enter c.args.session.now.conn _ _ c.requires.at_desk.serving (c.in-Fed.ensures.serving going).sound looked in
    Told-map (λ a b sends. record { step = λ start s. serving_fed c.args.project.now c.args.session.now c.try_replies.new.self (g.D.Desk.tells c.args.desk.now) (g.D.Desk.tells c.try_replies.new.desk) rest replies.0 start a b (looked.stays.project ∙ c.requires.at_desk.project_is) looks (λ fed h. c.in-Fed.ensures.stands fed h refl) c.in-Fed.ensures.end c.in-Fed.ensures.conn replies.1 sends s }) replies.2

pub returns-in-Fed-clause-going : goal.returns-in-Fed-clause-going
returns-in-Fed-clause-going g c =
    let going = c.requires.going.going in
    let looks = looks_enter c.args.session.now.conn _ _ c.requires.at_desk.serving (c.in-Fed.ensures.serving going).sound (c.in-Fed.ensures.looked going) in
    going_fed c.args.project.now _ c.args.session.now c.try_replies.new.self (λ fed h. c.in-Fed.ensures.stands fed h refl) c.in-Fed.ensures.end c.in-Fed.ensures.conn c.in-Fed.ensures.stash c.in-Fed.ensures.count
    (going_later c.args.project.now c.args.session.now (g.D.Desk.tells c.args.desk.now) (g.D.Desk.tells c.try_replies.new.desk) looks c.requires.going)

pub returns-in-Waiting-clause-steps : goal.returns-in-Waiting-clause-steps
returns-in-Waiting-clause-steps g c = λ rest.
    let going = c.requires.going.going in
    let looks = looks_enter c.args.session.now.conn _ _ c.requires.at_desk.serving (c.in-Waiting.ensures.serving going).sound (c.in-Waiting.ensures.looked going) in
    let same = c.in-Waiting.ensures.waits c.in-Waiting.place refl in
    subst (λ link. Told (Steps c.args.project.now (steps.Waits c.in-Waiting.place) c.args.session.now c.try_replies.new.self (g.D.Desk.tells c.args.desk.now) (g.D.Desk.tells c.try_replies.new.desk) rest rest) (g.L.Link.octets c.args.link.now) (g.L.Link.octets link)) (sym same.1)
    (Told-same (λ x. record {
      step = λ start s. subst (λ new. Serving c.args.project.now new (g.D.Desk.tells c.try_replies.new.desk) rest start x) (sym same.0)
          (serving_later c.args.project.now c.args.session.now (g.D.Desk.tells c.args.desk.now) (g.D.Desk.tells c.try_replies.new.desk) rest start x looks s);
    }))

pub returns-in-Waiting-clause-going : goal.returns-in-Waiting-clause-going
returns-in-Waiting-clause-going g c =
    let going = c.requires.going.going in
    let looks = looks_enter c.args.session.now.conn _ _ c.requires.at_desk.serving (c.in-Waiting.ensures.serving going).sound (c.in-Waiting.ensures.looked going) in
    let same = c.in-Waiting.ensures.waits c.in-Waiting.place refl in
    subst (λ new. IsGoing c.args.project.now (g.D.Desk.tells c.try_replies.new.desk).seen.entries new) (sym same.0)
    (going_later c.args.project.now c.args.session.now (g.D.Desk.tells c.args.desk.now) (g.D.Desk.tells c.try_replies.new.desk) looks c.requires.going)

pub returns-in-Ended-clause-steps : goal.returns-in-Ended-clause-steps
returns-in-Ended-clause-steps g c = λ rest.
    let going = c.requires.going.going in
    let looked = c.in-Ended.ensures.looked going in
    let looks = looks_enter c.args.session.now.conn _ _ c.requires.at_desk.serving (c.in-Ended.ensures.serving going).sound looked in
    let replies = c.in-Ended.ensures.replies going in
    Told-map (λ a b sends. record {
      step = λ start s. subst (λ end. EndsSo c.args.project.now c.try_replies.new.self.conn end (g.D.Desk.tells c.try_replies.new.desk) start b) (sym replies.0)
          (serving_fault c.args.project.now c.args.session.now c.try_replies.new.self.conn (g.D.Desk.tells c.args.desk.now) (g.D.Desk.tells c.try_replies.new.desk) rest replies.1.1 replies.1.0 start a b (looked.stays.project ∙ c.requires.at_desk.project_is) looks c.in-Ended.ensures.conn c.requires.going.few replies.1.2 sends s);
    }) replies.1.3
