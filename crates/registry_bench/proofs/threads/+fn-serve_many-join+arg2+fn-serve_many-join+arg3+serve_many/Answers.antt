use denote.Param.Send.{sendable}
use Rattle.std.proofs.Crossing.{crosses, sync}
use Rattle.ruled_history.proofs.Sent.{marks_registry_sync}
use Rattle.ruled_history.proofs.bell.Bell.TheSendSync as bells
use Rattle.ruled_history.proofs.registry.Seat.TheSendSync as seats
use Rattle.registry_bench.proofs.threads.+fn-serve_many-join+arg2+fn-serve_many-join+arg3+serve_many.Goals as goal

pub join-left-requires-send-F : goal.join-left-requires-send-F
join-left-requires-send-F g t c κs within =
    let runtime = c.requires.sync in
    let registry = marks_registry_sync in
    let bell = bells.the_sync in
    let seat = seats.the_send in
    search (sendable, crosses, sync) depth 40
