use denote.Param.Send.{sendable}
use Rattle.std.proofs.Crossing.{crosses, sync}
use Rattle.unit_registry.proofs.Sent.{project_sync}
use Rattle.ruled_history.proofs.Sent.{marks_registry_sync}
use Rattle.ruled_history.proofs.bell.Bell.TheSendSync as bells
use Rattle.ruled_history.proofs.registry.Seat.TheSendSync as seats
use Rattle.mapper_server.proofs.turn_tests.serves_both.Goals as goal

pub join-requires-send-F : goal.join-requires-send-F
join-requires-send-F g c κs within =
    let runtime = c.type_bounds.sync-R in
    let registry = marks_registry_sync in
    let project = project_sync in
    let bell = bells.the_sync in
    let seat = seats.the_send in
    search (sendable, crosses, sync) depth 40
