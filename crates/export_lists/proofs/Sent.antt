-- What may go to another thread.
use denote.Param.Send.{IsSend, sendable}
use Rattle.std.proofs.Crossing.{crosses}
use Rattle.export_lists.specs.contracts.cmi.Cmi as cmi

-- an interface
pub cmi_send : IsSend cmi.the_row
cmi_send = search (sendable, crosses) depth 60 fits 5000
