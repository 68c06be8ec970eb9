use Rattle.std.proofs.Common.{rules}
use Rattle.std.specs.Prelude.{IfSome}
use Rattle.mapper_requests.specs.Numbers.{IsNumber}
use Rattle.trace_text.proofs.Spelled.{read_is}
use Rattle.trace_text.proofs.words.number_in.Goals as goal

pub returns : goal.returns
returns c =
    let small : IfSome c.read_decimal.result IsNumber = search rules in
    read_is c.args.word.now c.read_decimal.result small c.read_decimal.ensures.number c.read_decimal.ensures.none
