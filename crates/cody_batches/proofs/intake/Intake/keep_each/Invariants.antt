use Rattle.std.proofs.Common.{◌≡◌, take}
use Rattle.std.specs.List.{fold}
use Rattle.cody_batches.specs.Working.{kept}
use Rattle.cody_batches.proofs.intake.Intake.keep_each.Given as goal

abbrev pub invariant-loop-octet : goal.invariant-loop-octet
invariant-loop-octet l = l.self ≡ fold kept l.fn.self (take l.octet-index l.octets)
