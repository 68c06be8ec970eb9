use Rattle.std.proofs.Common.{◌≡◌, false, take}
use Rattle.std.specs.List.{list_any}
use Rattle.mapper_commands.specs.ListRuns.{has_failed}
use Rattle.mapper_commands.proofs.list.is_good.Given as goal

abbrev pub invariant-loop-unit : goal.invariant-loop-unit
invariant-loop-unit l = list_any has_failed (take l.unit l.listing) ≡ false
