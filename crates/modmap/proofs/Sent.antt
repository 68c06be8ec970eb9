-- What may go to another thread.
use denote.RattleType.{RattleType}
use denote.Param.Send.{IsSend, sendable}
use Rattle.std.proofs.Crossing.{crosses}
use Rattle.modmap.specs.contracts.sockets.hall.SocketHall as hall
use Rattle.modmap.specs.contracts.sockets.link.SocketLink as link

-- a link may go to another thread
pub link_send : IsSend link.the_row
link_send = search (sendable, crosses) depth 60 fits 5000

-- a hall may where its runtime value may
pub hall_send : (R : RattleType) → IsSend R → IsSend (hall.the_row R)
hall_send R s = search (sendable, crosses) depth 60 fits 5000
