use Rattle.std.proofs.Common.{false, refl, sym, subst, ◌∙◌, arith}
use Rattle.mm_outside.specs.Told.{Told}
use Rattle.mm_outside.proofs.ToldLemmas.{Told-same, Told-then}
use Rattle.registry_core.specs.Alone.{told_alone}
use Rattle.mapper_server.specs.Steps.{Continues, EndsSo, Serving, TurnIn}
use Rattle.mapper_server.specs.Serving.{HasOpened, IsAnew}
use Rattle.mapper_server.proofs.Beginning.{going_anew, reads_anew, serving_anew}
use Rattle.mapper_server.proofs.Rests.{none_left}
use Rattle.mapper_server.proofs.Soloist.{opened_first, waits_for_none}
use Rattle.mapper_server.proofs.single.serve.Goals as goal

pub serve_on-requires-clause-at_desk : goal.serve_on-requires-clause-at_desk
serve_on-requires-clause-at_desk g c =
    let opened = subst (λ conn. HasOpened conn (told_alone g.S.Shelf.kept g.S.Shelf.held c.args.desk.now)) (sym c.requires.anew.conn_is) (opened_first c.args.project.now (told_alone g.S.Shelf.kept g.S.Shelf.held c.args.desk.now) c.requires.opened) in
    record { project_is = c.requires.opened.project_is; loose = refl; serving = opened.serving }

pub serve_on-requires-clause-going : goal.serve_on-requires-clause-going
serve_on-requires-clause-going g c =
    let anew = subst (λ conn. IsAnew c.args.project.now conn c.args.session.now) (sym c.requires.anew.conn_is) c.requires.anew in
    let opened = subst (λ conn. HasOpened conn (told_alone g.S.Shelf.kept g.S.Shelf.held c.args.desk.now)) (sym c.requires.anew.conn_is) (opened_first c.args.project.now (told_alone g.S.Shelf.kept g.S.Shelf.held c.args.desk.now) c.requires.opened) in
    going_anew c.args.project.now c.args.session.now anew (told_alone g.S.Shelf.kept g.S.Shelf.held c.args.desk.now) opened

pub serve_on-requires-clause-turn : goal.serve_on-requires-clause-turn
serve_on-requires-clause-turn g c =
    let anew = subst (λ conn. IsAnew c.args.project.now conn c.args.session.now) (sym c.requires.anew.conn_is) c.requires.anew in
    subst (λ at. TurnIn at c.args.session.now false) (sym (reads_anew c.args.project.now c.args.session.now anew)) refl

pub unreachable-requires : goal.unreachable-requires
unreachable-requires g c =
    let missing = c.in-Waits.ensures.waits c.in-Waits.place refl in
    waits_for_none c.args.project.now c.serve_on.new.session (told_alone g.S.Shelf.kept g.S.Shelf.held c.args.desk.now) (told_alone g.S.Shelf.kept g.S.Shelf.held c.serve_on.new.desk) c.in-Waits.place c.requires.opened (record { places = refl }) (record { places = refl })
    (subst (λ conn. Continues conn (told_alone g.S.Shelf.kept g.S.Shelf.held c.args.desk.now) (told_alone g.S.Shelf.kept g.S.Shelf.held c.serve_on.new.desk)) c.requires.anew.conn_is c.in-Waits.ensures.continues)
    c.in-Waits.ensures.at_desk.serving.sound (c.in-Waits.ensures.conn ∙ c.requires.anew.conn_is) missing.0 c.in-Waits.ensures.going missing.1

pub returns-clause-ends : goal.returns-clause-ends
returns-clause-ends g c =
    let anew = subst (λ conn. IsAnew c.args.project.now conn c.args.session.now) (sym c.requires.anew.conn_is) c.requires.anew in
    let opened = subst (λ conn. HasOpened conn (told_alone g.S.Shelf.kept g.S.Shelf.held c.args.desk.now)) (sym c.requires.anew.conn_is) (opened_first c.args.project.now (told_alone g.S.Shelf.kept g.S.Shelf.held c.args.desk.now) c.requires.opened) in
    subst (λ conn. Told (EndsSo c.args.project.now conn c.in-Ended.how (told_alone g.S.Shelf.kept g.S.Shelf.held c.serve_on.new.desk)) (g.L.Link.octets c.args.link.now) (g.L.Link.octets c.serve_on.new.link)) (c.in-Ended.ensures.conn ∙ c.requires.anew.conn_is)
    (Told-then (λ a b d serving turn. turn.step a serving)
    (Told-same (λ x. subst (λ rest. Serving c.args.project.now c.args.session.now (told_alone g.S.Shelf.kept g.S.Shelf.held c.args.desk.now) rest x x) (sym (none_left 0 c.args.room.now (omega arith))) (serving_anew c.args.project.now c.args.session.now anew (told_alone g.S.Shelf.kept g.S.Shelf.held c.args.desk.now) x opened)))
    c.in-Ended.ensures.steps)

pub returns-clause-continues : goal.returns-clause-continues
returns-clause-continues g c =
    subst (λ conn. Continues conn (told_alone g.S.Shelf.kept g.S.Shelf.held c.args.desk.now) (told_alone g.S.Shelf.kept g.S.Shelf.held c.serve_on.new.desk)) c.requires.anew.conn_is c.in-Ended.ensures.continues
