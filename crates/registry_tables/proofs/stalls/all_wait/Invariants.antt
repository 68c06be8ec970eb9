use Rattle.std.proofs.Common.{◌≡◌, true, take}
use Rattle.std.specs.List.{list_all}
use Rattle.registry_tables.specs.Stalled.{is_waiting_in}
use Rattle.registry_tables.proofs.stalls.all_wait.Given as goal

abbrev pub invariant-loop-conn : goal.invariant-loop-conn
invariant-loop-conn l = list_all (is_waiting_in l.tables l.imports.waiting) (take l.conn-index l.conn-items) ≡ true
