-- What may go to another thread.
use denote.Param.Send.{IsSend, sendable}
use Rattle.std.proofs.Crossing.{crosses}
use Rattle.mm_outside.specs.contracts.mem_link.MemLink as link
use Rattle.mm_outside.specs.contracts.mem_hall.MemHall as hall
use Rattle.mm_outside.specs.contracts.mem_sink.MemSink as sink
use Rattle.mm_outside.specs.contracts.mem_files.MemFiles as files

-- a link in memory
pub mem_link_send : IsSend link.the_row
mem_link_send = search (sendable, crosses) depth 60 fits 5000

-- a hall in memory
pub mem_hall_send : IsSend hall.the_row
mem_hall_send = search (sendable, crosses) depth 60 fits 5000

-- a sink in memory
pub mem_sink_send : IsSend sink.the_row
mem_sink_send = search (sendable, crosses) depth 60 fits 5000

-- files in memory
pub mem_files_send : IsSend files.the_row
mem_files_send = search (sendable, crosses) depth 60 fits 5000
