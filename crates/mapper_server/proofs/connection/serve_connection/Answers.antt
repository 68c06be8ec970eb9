use Rattle.std.proofs.Common.{subst}
use Rattle.mm_outside.specs.Told.{Told}
use Rattle.mm_outside.proofs.ToldLemmas.{Told-map}
use Rattle.mapper_server.specs.Steps.{Continues, EndsSo}
use Rattle.mapper_server.proofs.Leaving.{fills_up, goes_last, leaves_closed, leaves_served, served_dones, served_for, served_opened, went_full}
use Rattle.mapper_server.proofs.connection.serve_connection.Goals as goal

pub returns-clause-served : goal.returns-clause-served
returns-clause-served g c =
    let at = subst (λ conn. Rattle.mapper_server.specs.Steps.AtDesk c.args.project.now conn (g.D.Desk.tells c.serve_in-how.new.desk)) c.requires.session.conn_is c.serve_in-how.ensures.at_desk in
    Told-map (λ a b ends. leaves_served c.args.conn (g.D.Desk.tells c.serve_in-how.new.desk) (g.D.Desk.tells c.leave.new.self) c.leaving.result c.leave.ensures.left.0 c.leave.ensures.left.1 c.args.project.now c.serve_in-how.result a b
    at.serving.sound c.leave.ensures.sound at.project_is at.serving.own c.leaving.ensures ends)
    (subst (λ conn. Told (EndsSo c.args.project.now conn c.serve_in-how.result (g.D.Desk.tells c.serve_in-how.new.desk)) (g.L.Link.octets c.args.link.now) (g.L.Link.octets c.serve_in-how.new.link)) c.requires.session.conn_is c.serve_in-how.ensures.ends)

pub returns-clause-full : goal.returns-clause-full
returns-clause-full g c = fills_up (g.D.Desk.tells c.serve_in-how.new.desk).seen _ c.serve_in-how.result c.serve_in-how.ensures.at_desk.serving.sound.ledger c.leave.ensures.left.1.stays.limit c.serve_in-how.ensures.full

pub returns-clause-desk : goal.returns-clause-desk
returns-clause-desk g c =
    served_for c.args.conn (g.D.Desk.tells c.args.desk.now) (g.D.Desk.tells c.serve_in-how.new.desk) (g.D.Desk.tells c.leave.new.self) c.leaving.result c.leave.ensures.left.0
    (subst (λ conn. Continues conn (g.D.Desk.tells c.args.desk.now) (g.D.Desk.tells c.serve_in-how.new.desk)) c.requires.session.conn_is c.serve_in-how.ensures.continues) c.leave.ensures.left.1

pub returns-clause-gone : goal.returns-clause-gone
returns-clause-gone g c = leaves_closed c.args.conn (g.D.Desk.tells c.serve_in-how.new.desk) (g.D.Desk.tells c.leave.new.self) c.leaving.result c.leave.ensures.left.0 c.leave.ensures.left.1 c.leave.ensures.sound

pub returns-clause-opened : goal.returns-clause-opened
returns-clause-opened g c =
    served_opened c.args.conn (g.D.Desk.tells c.args.desk.now) (g.D.Desk.tells c.serve_in-how.new.desk) (g.D.Desk.tells c.leave.new.self) c.leaving.result c.leave.ensures.left.0
    (subst (λ conn. Continues conn (g.D.Desk.tells c.args.desk.now) (g.D.Desk.tells c.serve_in-how.new.desk)) c.requires.session.conn_is c.serve_in-how.ensures.continues) c.leave.ensures.left.1

pub returns-clause-dones : goal.returns-clause-dones
returns-clause-dones g c =
    served_dones c.args.conn (g.D.Desk.tells c.args.desk.now) (g.D.Desk.tells c.serve_in-how.new.desk) (g.D.Desk.tells c.leave.new.self) c.leaving.result c.leave.ensures.left.0
    (subst (λ conn. Continues conn (g.D.Desk.tells c.args.desk.now) (g.D.Desk.tells c.serve_in-how.new.desk)) c.requires.session.conn_is c.serve_in-how.ensures.continues) c.leave.ensures.left.1

pub returns-clause-was_full : goal.returns-clause-was_full
returns-clause-was_full g c = went_full (g.D.Desk.tells c.serve_in-how.new.desk) (g.D.Desk.tells c.leave.new.self) _ c.leave.ensures.left.0 c.serve_in-how.result c.leave.ensures.left.1 c.serve_in-how.ensures.full

pub returns-clause-last : goal.returns-clause-last
returns-clause-last g c = goes_last c.args.conn (g.D.Desk.tells c.serve_in-how.new.desk) (g.D.Desk.tells c.leave.new.self) c.leaving.result c.leave.ensures.left.0 c.serve_in-how.result c.leave.ensures.left.1 c.leaving.ensures
