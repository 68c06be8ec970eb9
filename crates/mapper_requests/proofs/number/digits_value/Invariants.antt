use Rattle.std.proofs.Common.{◌≡◌, take}
use Rattle.mapper_requests.specs.Numbers.{digits_value}
use Rattle.mapper_requests.proofs.number.digits_value.Given as goal

abbrev pub invariant-loop-digit : goal.invariant-loop-digit
invariant-loop-digit l = l.value ≡ digits_value (take l.digit-index l.digits)
