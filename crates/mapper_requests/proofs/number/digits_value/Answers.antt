use Rattle.std.proofs.Common.{◌<◌, ◌^◌, take, arith}
use Rattle.std.proofs.lemmas.List.{length-take}
use Rattle.mapper_requests.specs.Numbers.{digits_value}
use Rattle.mapper_requests.proofs.Digits.{value-take_small}
use Rattle.mapper_requests.proofs.number.digits_value.Goals as goal

pub overflow_mul-value : goal.overflow_mul-value
overflow_mul-value c =
    let digits = c.args.digits.now in
    let k = c.loop-digit.digit-index in
    let small : digits_value (take k digits) < 10 ^ 10 = value-take_small digits k (omega (arith, length-take k digits, c.requires.few)) c.requires.each in
    omega (arith, small, c.loop-digit.invariant)

pub overflow_add-value : goal.overflow_add-value
overflow_add-value c =
    let digits = c.args.digits.now in
    let k = c.loop-digit.digit-index in
    let small : digits_value (take k digits) < 10 ^ 10 = value-take_small digits k (omega (arith, length-take k digits, c.requires.few)) c.requires.each in
    omega (arith, small, c.loop-digit.invariant, c.from.ensures)
