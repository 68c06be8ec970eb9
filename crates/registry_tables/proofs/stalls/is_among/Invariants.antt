use Rattle.std.proofs.Common.{◌≡◌, false, take}
use Rattle.registry_tables.specs.Stalled.{is_waiting_in}
use Rattle.registry_tables.proofs.stalls.is_among.Given as goal

abbrev pub invariant-loop-waiter : goal.invariant-loop-waiter
invariant-loop-waiter l = is_waiting_in l.tables (take l.waiter-index l.waiting) l.conn ≡ false
