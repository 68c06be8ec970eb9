use Rattle.std.proofs.Common.{rules, ◌≡◌, sym, ◌∙◌, decimal}
use Rattle.mapper_requests.proofs.Digits.{no_decimal, own_decimal}
use Rattle.mapper_requests.proofs.number.read_decimal.Goals as goal

pub returns-in_default-clause-none : goal.returns-in_default-clause-none
returns-in_default-clause-none c = λ none. no_decimal c.args.word.now (sym c.read_number.ensures ∙ c.in_default.is)

pub returns-else-eq-clause-none : goal.returns-else-eq-clause-none
returns-else-eq-clause-none c = λ none number small spelled. let digits : c.args.word.now ≡ decimal c.in-Some.number = own_decimal c.args.word.now c.in-Some.number number (sym c.read_number.ensures ∙ c.in-Some.is) small spelled in search rules
