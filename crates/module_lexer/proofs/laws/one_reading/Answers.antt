use Rattle.module_lexer.proofs.OneCut.{one_tokens, no_fault, one_fault}
use Rattle.module_lexer.proofs.laws.one_reading.Goals as goal

pub returns : goal.returns
returns c = record {
  tokens = one_tokens;
  never_both = no_fault;
  line = λ text line another reason other h g. (one_fault text line another reason other h g).0;
  reason = λ text line another reason other h g. (one_fault text line another reason other h g).1;
}
