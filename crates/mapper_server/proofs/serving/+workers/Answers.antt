use denote.Param.Send.{sendable}
use Rattle.std.proofs.Common.{vec_len, ap, arith}
use Rattle.std.proofs.Crossing.{crosses}
use Rattle.unit_registry.proofs.Sent.{project_sync}
use Rattle.connection_core.proofs.session.Session.TheSendSync as sessions
use Rattle.ruled_history.proofs.Sent.{marks_registry_sync}
use Rattle.ruled_history.proofs.bell.Bell.TheSendSync as bells
use Rattle.ruled_history.proofs.registry.Seat.TheSendSync as seats
use Rattle.ruled_history.specs.Seats.{Sitting}
use Rattle.mapper_server.specs.Headline.{GivesNoMore}
use Rattle.mapper_server.proofs.Gathering.{last_may, more_work, rest_may}
use Rattle.mapper_server.proofs.Halls.{each_length}
use Rattle.mapper_server.proofs.serving.+workers.Goals as goal

pub work_beside-join-all-requires-send-F : goal.work_beside-join-all-requires-send-F
work_beside-join-all-requires-send-F g t c κs within =
    let runtime = c.requires.sync in
    let hall = c.requires.send.0 in
    let registry = marks_registry_sync in
    let bell = bells.the_sync in
    let seat = seats.the_send in
    let project = project_sync in
    let session = sessions.the_send in
    search (sendable, crosses) depth 60

pub work_beside-join-all-requires-after_bounds : goal.work_beside-join-all-requires-after_bounds
work_beside-join-all-requires-after_bounds g t c κs within =
    let rest = rest_may g.H.Hall.counts c.args.registry.now c.args.project.now c.args.seat (vec_len c.args.sessions) c.args.halls.items c.args.hall c.requires.ready c.split-rest.result.0 c.split-rest.ensures.first c.split-rest.ensures.bare.0 (let some = c.requires.some in let long = c.args.halls.ok.0 in omega (arith, some, long)) in
    let last = last_may g.H.Hall.counts c.args.registry.now c.args.project.now c.args.seat (vec_len c.args.sessions) c.args.halls.items c.args.hall c.requires.ready c.split-rest.result.1 c.split-rest.ensures.second c.split-rest.ensures.bare.1 in
    let less = c.decreases in
    ((omega (arith, less), (λ a h. h, (λ a h. h, (λ a h. h, ((c.requires.sync, c.requires.send.0, c.requires.send.1), (rest, (c.requires.send.0, c.requires.send.1, c.requires.sync))))))), last)

pub work_beside-push_reserved-requires : goal.work_beside-push_reserved-requires
work_beside-push_reserved-requires g t c =
    let all = c.join-all.result.0 in
    let same = each_length (GivesNoMore g.H.Hall.links g.H.Hall.faults) c.args.halls.items all.halls.items c.join-all.ensures.first.1.0.used_up in
    omega (arith, same, all.halls.ok.0, c.args.halls.ok.0, c.join-all.ensures.first.1.1, c.requires.room)

pub work_beside-returns-clause-work : goal.work_beside-returns-clause-work
work_beside-returns-clause-work g t c =
    more_work g.H.Hall.links g.H.Hall.faults g.H.Hall.counts g.H.Link.Link.octets g.H.Link.Link.read_faults g.H.Link.Link.write_faults c.args.registry.now.opening.ledger c.join-all.result.0.seat.knows c.join-all.result.1.seat.knows c.join.result.knows
    c.args.halls.items c.join-all.result.0.halls.items c.args.hall c.join-all.result.1.hall c.join-all.result.0.status c.join-all.result.1.status c.push_reserved.new.self.items c.less_of.result c.push_reserved.ensures.items c.less_of.ensures
    c.join.ensures.left c.join.ensures.right (ap (λ (s : Sitting). s.knows.connections) c.join.ensures.both) c.join.ensures.knows.ledger c.join-all.ensures.first.1.0 c.join-all.ensures.second.1
