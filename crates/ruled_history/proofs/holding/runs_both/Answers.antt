use denote.Param.Send.{sendable}
use Rattle.std.proofs.Crossing.{crosses, sync}
use Rattle.ruled_history.proofs.Sent.{marks_registry_sync}
use Rattle.ruled_history.proofs.bell.Bell.TheSendSync as bells
use Rattle.ruled_history.proofs.registry.Seat.TheSendSync as seats
use Rattle.ruled_history.proofs.holding.runs_both.Goals as goal

pub join-waited-requires-send-F : goal.join-waited-requires-send-F
join-waited-requires-send-F g c κs within =
    let runtime = c.type_bounds.sync-R in
    let registry = marks_registry_sync in
    let bell = bells.the_sync in
    let seat = seats.the_send in
    search (sendable, crosses, sync) depth 40
