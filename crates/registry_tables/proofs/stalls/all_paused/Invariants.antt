use Rattle.std.proofs.Common.{◌≡◌, true, take}
use Rattle.std.specs.List.{list_all}
use Rattle.histories.specs.Answered.{is_paused}
use Rattle.registry_tables.proofs.stalls.all_paused.Given as goal

abbrev pub invariant-loop-conn : goal.invariant-loop-conn
invariant-loop-conn l = list_all (is_paused l.tables.answered) (take l.conn-index l.conn-items) ≡ true
